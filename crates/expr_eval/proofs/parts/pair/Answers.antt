use Rattle.std.proofs.Common.{List, ap}
use Rattle.term_value.specs.Bounds.{within}
use Rattle.term_value.specs.Seen.{meanings}
use Rattle.term_value.specs.Terms.{row}
use Rattle.term_value.specs.Value.{VTuple}
use Rattle.term_value.specs.declared.term.Term.{Term}
use Rattle.expr_eval.specs.Ranges.{pair_of}
use Rattle.expr_eval.proofs.Evaluations.{evaluated}
use Rattle.expr_eval.proofs.parts.pair.Goals as goal

pub returns-in-Ok-clause-is : goal.returns-in-Ok-clause-is
returns-in-Ok-clause-is g c = λ shown.
    evaluated shown c.tuple_answer.result (within (VTuple (meanings shown (row c.in-Ok.items.items)))) (within (pair_of (shown c.args.front) (shown c.args.back)))
    (ap (λ (ts : List (Term g.row.R.Denot)). within (VTuple (meanings shown (row ts)))) c.in-Ok.ensures) (c.tuple_answer.ensures.is shown)
