use Rattle.std.proofs.Common.{ap, ◌∙◌, List, ℕ, arith}
use Rattle.term_value.specs.BuiltIns.{integer_of, binary_to_integer}
use Rattle.term_value.specs.Primitives.{bounded_result}
use Rattle.term_value.specs.Value.{VBits}
use Rattle.expr_eval.proofs.DecimalText.{integer_is}
use Rattle.expr_eval.proofs.Evaluations.{evaluated}
use Rattle.expr_eval.proofs.GuardCalls.{computed_evaluated}
use Rattle.expr_eval.proofs.digits.integer_in.Goals as goal

pub returns-in-Ok-clause-is : goal.returns-in-Ok-clause-is
returns-in-Ok-clause-is g c = λ shown.
    let read = bounded_result (integer_of c.deref.result.now) in
    evaluated shown c.integer_of.result read (bounded_result (binary_to_integer (VBits c.args.bits)))
    (ap (λ (t : List ℕ). bounded_result (integer_of t)) (c.deref.ensures.value ∙ c.in-Ok.ensures) ∙ integer_is c.args.bits (omega arith))
    (computed_evaluated shown c.integer_of.result read (c.integer_of.ensures.is shown))
