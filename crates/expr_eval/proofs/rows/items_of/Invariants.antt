use Rattle.std.proofs.Common.{◌≡◌}
use Rattle.term_value.specs.Seen.{weights_of}
use Rattle.term_value.specs.Terms.{row_of}
use Rattle.term_value.proofs.RowLemmas.{onto}
use Rattle.expr_eval.proofs.rows.items_of.Given as goal

abbrev pub invariant-loop-item : goal.invariant-loop-item
invariant-loop-item g l = onto l.items.items (row_of l.left) ≡ row_of l.list

abbrev pub decreases-loop-item : goal.decreases-loop-item
decreases-loop-item g l = weights_of (row_of l.left)
