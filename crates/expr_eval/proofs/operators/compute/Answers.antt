use Rattle.std.proofs.Common.{ap, sym, ◌∙◌, arith, rules, SFits, to_z, of_z}
use Rattle.std.specs.Int.{w128}
use Rattle.std.proofs.lemmas.Int.{ints, to_z-of_z}
use Rattle.term_value.specs.Operators.{computed}
use Rattle.term_value.specs.Primitives.{bounded_result}
use Rattle.term_value.specs.Terms.{value_of}
use Rattle.term_value.specs.Value.{Value, VInt}
use Rattle.expr_eval.proofs.Operations.{due}
use Rattle.expr_eval.proofs.operators.compute.Goals as goal

pub returns-in-Int-clause-is : goal.returns-in-Int-clause-is
returns-in-Int-clause-is g c = λ shown.
    let fits : SFits w128 c.in-Int.number = first_of (search rules, omega (arith, ints)) in
    let same = to_z-of_z w128 c.in-Int.number fits in
    due shown c.compute_on.result (bounded_result (computed c.args.op (VInt (to_z w128 (of_z w128 c.in-Int.number))) (value_of shown c.args.right.now))) (bounded_result (computed c.args.op (value_of shown c.args.left.now) (value_of shown c.args.right.now)))
    (ap (λ (v : Value). bounded_result (computed c.args.op v (value_of shown c.args.right.now))) (ap VInt same ∙ sym (ap (value_of shown) c.in-Int.is))) (c.compute_on.ensures.is shown)
