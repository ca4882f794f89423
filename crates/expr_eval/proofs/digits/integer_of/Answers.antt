use Rattle.std.proofs.Common.{ap, sym}
use Rattle.term_value.specs.BuiltIns.{digits_number, positive, integer_of}
use Rattle.term_value.specs.Primitives.{bounded_result}
use Rattle.expr_eval.proofs.DecimalText.{unsigned_is}
use Rattle.expr_eval.proofs.Operations.{due}
use Rattle.expr_eval.proofs.digits.integer_of.Goals as goal

pub returns-else-first-eq45-clause-is : goal.returns-else-first-eq45-clause-is
returns-else-first-eq45-clause-is g c = λ shown.
    let text = c.args.text.now in
    due shown c.positive-else-first-eq45.result (bounded_result (positive (digits_number text))) (bounded_result (integer_of text))
    (ap bounded_result (sym (unsigned_is text c.in-Some.rest.now c.in-Some.first.now c.in-Some.ensures.cases.0 c.if-first-eq43.false c.if-first-eq45.false)))
    (c.positive-else-first-eq45.ensures.is shown)
