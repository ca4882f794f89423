use Rattle.std.proofs.Common.{ap, sym, ◌∙◌, arith, rules, SFits}
use Rattle.std.specs.Int.{w128}
use Rattle.std.proofs.lemmas.Int.{ints, to_z-of_z}
use Rattle.term_value.specs.Operators.{arithmetic_result, integer_or_badarith}
use Rattle.term_value.specs.Primitives.{bounded_result}
use Rattle.term_value.specs.Terms.{value_of}
use Rattle.term_value.specs.Value.{Value}
use Rattle.expr_eval.specs.Truths.{exact_of}
use Rattle.expr_eval.proofs.Operations.{due, number_within}
use Rattle.expr_eval.proofs.operators.signed.Goals as goal

pub returns-in-Int-clause-is : goal.returns-in-Int-clause-is
returns-in-Int-clause-is g c = λ shown.
    let fits : SFits w128 c.in-Int.number = first_of (search rules, omega (arith, ints)) in
    let value = simp to_z-of_z at c.prefixed_number.ensures in
    due shown c.number_term.result (arithmetic_result c.prefixed_number.result) (bounded_result (integer_or_badarith (exact_of c.args.op) (value_of shown c.args.value.now)))
    (ap arithmetic_result value ∙ sym (number_within (exact_of c.args.op c.in-Int.number)) ∙ ap (λ (v : Value). bounded_result (integer_or_badarith (exact_of c.args.op) v)) (sym (ap (value_of shown) c.in-Int.is)))
    (c.number_term.ensures.is shown)
