use Rattle.std.proofs.Common.{◌≡◌, ap, length, arith, rules}
use Rattle.term_value.specs.BuiltIns.{native, native_2}
use Rattle.term_value.specs.Primitives.{bounded_result}
use Rattle.term_value.specs.Seen.{meanings}
use Rattle.term_value.specs.Terms.{value_of, row}
use Rattle.expr_eval.specs.Answers.{setting}
use Rattle.expr_eval.proofs.ArgumentNumbers.{of_two_is}
use Rattle.expr_eval.proofs.BodyCalls.{of_more_is}
use Rattle.expr_eval.proofs.Evaluations.{evaluated, refused}
use Rattle.expr_eval.proofs.Joining.{stands}
use Rattle.expr_eval.proofs.bodies.body_built_in.Goals as goal

pub returns-in-empty-clause-moved : goal.returns-in-empty-clause-moved
returns-in-empty-clause-moved g c = stands (g.S.Store.shown c.args.store.now) c.bad_argument.result c.args.steps.now.moved (first_of (omega arith, search rules))

pub returns-in-len2-clause-is : goal.returns-in-len2-clause-is
returns-in-len2-clause-is g c = λ names pid.
    let shown = g.S.Store.shown c.args.store.now in
    let s = setting names pid in
    let two : length c.args.args.now ≡ 2 = omega arith in
    evaluated shown c.of_pair.result (bounded_result (native_2 s c.args.which (value_of shown c.first-item.result) (value_of shown c.second-item.result))) (bounded_result (native s c.args.which (meanings shown (row c.args.args.now))))
    (ap bounded_result (of_two_is shown s c.args.which c.args.args.now c.first-item.result c.second-item.result two c.first-item.is c.second-item.is)) (c.of_pair.ensures.is names pid)

pub returns-in-len2-clause-moved : goal.returns-in-len2-clause-moved
returns-in-len2-clause-moved g c = stands (g.S.Store.shown c.args.store.now) c.of_pair.result c.args.steps.now.moved (first_of (omega arith, search rules))

pub returns-in_default-clause-is : goal.returns-in_default-clause-is
returns-in_default-clause-is g c = λ names pid.
    let shown = g.S.Store.shown c.args.store.now in
    let s = setting names pid in
    refused shown c.bad_argument-in_default.result (native s c.args.which (meanings shown (row c.args.args.now))) c.bad_argument-in_default.ensures
    (of_more_is shown s c.args.which c.args.args.now (omega arith) c.requires.body)

pub returns-in_default-clause-moved : goal.returns-in_default-clause-moved
returns-in_default-clause-moved g c = stands (g.S.Store.shown c.args.store.now) c.bad_argument-in_default.result c.args.steps.now.moved (first_of (omega arith, search rules))
