use Rattle.std.proofs.Common.{◌-◌, ◌^◌, ap, sym, ◌∙◌}
use Rattle.term_value.specs.BuiltIns.{digits_number, positive}
use Rattle.term_value.specs.Operators.{arithmetic_result}
use Rattle.term_value.specs.Primitives.{bounded_result}
use Rattle.expr_eval.proofs.DecimalText.{at_most_some, positive_is}
use Rattle.expr_eval.proofs.Operations.{due}
use Rattle.expr_eval.proofs.digits.positive.Goals as goal

pub returns-in-Some-clause-is : goal.returns-in-Some-clause-is
returns-in-Some-clause-is g c = λ shown.
    let o = digits_number c.args.digits.now in
    let w = at_most_some (2 ^ 128 - 1) o c.in-Some.number (sym c.in-Some.is ∙ c.digits_number.ensures) in
    due shown c.number_term.result (arithmetic_result c.positive_value.result) (bounded_result (positive o))
    (ap arithmetic_result (c.positive_value.ensures w.0 w.1.1) ∙ positive_is o w.0 w.1.0) (c.number_term.ensures.is shown)
