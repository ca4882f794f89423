use Rattle.std.proofs.Common.{◌≡◌, ap, length, arith}
use Rattle.term_value.specs.BuiltIns.{native, native_2}
use Rattle.term_value.specs.Primitives.{bounded_result}
use Rattle.term_value.specs.Seen.{meanings}
use Rattle.term_value.specs.Terms.{value_of, row}
use Rattle.expr_eval.specs.Answers.{setting}
use Rattle.expr_eval.proofs.ArgumentNumbers.{of_two_is, of_many_is}
use Rattle.expr_eval.proofs.Evaluations.{evaluated, refused}
use Rattle.expr_eval.proofs.guards.guard_built_in.Goals as goal

pub returns-in-len2-clause-is : goal.returns-in-len2-clause-is
returns-in-len2-clause-is g c =
    let shown = g.S.Store.shown c.args.store.now in
    let s = setting c.args.caller.now.names.now c.args.caller.now.pid in
    let two : length c.args.args.now ≡ 2 = omega arith in
    evaluated shown c.of_two.result (bounded_result (native_2 s c.args.which (value_of shown c.first-item.result) (value_of shown c.second-item.result))) (bounded_result (native s c.args.which (meanings shown (row c.args.args.now))))
    (ap bounded_result (of_two_is shown s c.args.which c.args.args.now c.first-item.result c.second-item.result two c.first-item.is c.second-item.is)) c.of_two.ensures.is

pub returns-in_default-clause-is : goal.returns-in_default-clause-is
returns-in_default-clause-is g c =
    let shown = g.S.Store.shown c.args.store.now in
    let s = setting c.args.caller.now.names.now c.args.caller.now.pid in
    refused shown c.bad_argument.result (native s c.args.which (meanings shown (row c.args.args.now))) c.bad_argument.ensures
    (of_many_is shown s c.args.which c.args.args.now (omega arith))
