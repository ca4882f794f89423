use Rattle.std.proofs.Common.{◌-◌, ◌^◌, ap, sym, ◌∙◌}
use Rattle.term_value.specs.BuiltIns.{digits_number, negative}
use Rattle.term_value.specs.Operators.{arithmetic_result}
use Rattle.term_value.specs.Primitives.{bounded_result}
use Rattle.expr_eval.proofs.DecimalText.{at_most_some, negative_is}
use Rattle.expr_eval.proofs.Operations.{due}
use Rattle.expr_eval.proofs.digits.negative.Goals as goal

pub returns-in-Some-clause-is : goal.returns-in-Some-clause-is
returns-in-Some-clause-is g c = λ shown.
    let o = digits_number c.args.digits.now in
    let w = at_most_some (2 ^ 128 - 1) o c.in-Some.number (sym c.in-Some.is ∙ c.digits_number.ensures) in
    due shown c.number_term.result (arithmetic_result c.negative_value.result) (bounded_result (negative o))
    (ap arithmetic_result (c.negative_value.ensures w.0 w.1.1) ∙ negative_is o w.0 w.1.0) (c.number_term.ensures.is shown)
