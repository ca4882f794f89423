use Rattle.std.proofs.Common.{ap, subst}
use Rattle.term_value.specs.Made.{IsMadeOf}
use Rattle.term_value.specs.Seen.{Seen, SList}
use Rattle.term_value.proofs.made.cons.Goals as goal

pub returns-clause-kept : goal.returns-clause-kept
returns-clause-kept g c = let P : Seen g.row.R.Denot → Type 0 = λ s. IsMadeOf s c.list_within.result in subst P (ap SList c.in_ok-list.ensures) c.list_within.ensures.kept
