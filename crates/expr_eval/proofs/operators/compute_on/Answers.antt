use Rattle.std.proofs.Common.{ap, sym, ◌∙◌, arith, rules, SFits}
use Rattle.std.specs.Int.{w128}
use Rattle.std.proofs.lemmas.Int.{ints, to_z-of_z}
use Rattle.term_value.specs.Operators.{computed, arithmetic_result}
use Rattle.term_value.specs.Primitives.{bounded_result}
use Rattle.term_value.specs.Terms.{value_of}
use Rattle.term_value.specs.Value.{Value, VInt}
use Rattle.expr_eval.proofs.Operations.{due, arithmetic_is}
use Rattle.expr_eval.proofs.operators.compute_on.Goals as goal

pub returns-in-Int-clause-is : goal.returns-in-Int-clause-is
returns-in-Int-clause-is g c = λ shown.
    let left : SFits w128 c.args.left = c.ranges.left in
    let right : SFits w128 c.in-Int.number = first_of (search rules, omega (arith, ints)) in
    let value = simp to_z-of_z at c.arithmetic_value.ensures in
    due shown c.number_term.result (arithmetic_result c.arithmetic_value.result) (bounded_result (computed c.args.op (VInt c.args.left) (value_of shown c.args.right.now)))
    (ap arithmetic_result value ∙ arithmetic_is c.args.op c.args.left c.in-Int.number ∙ ap (λ (v : Value). bounded_result (computed c.args.op (VInt c.args.left) v)) (sym (ap (value_of shown) c.in-Int.is)))
    (c.number_term.ensures.is shown)
