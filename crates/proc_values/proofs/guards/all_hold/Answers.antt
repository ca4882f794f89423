use Rattle.std.proofs.Common.{ap, sym, ◌∙◌}
use Rattle.bit_store.specs.Stores.{AnyAtom}
use Rattle.term_value.specs.Guards as v
use Rattle.term_value.specs.Guards.{all_hold, result_of}
use Rattle.term_value.specs.PutIn.{put_in, puts_in}
use Rattle.code_tree.specs.Reading.{tree_of, trees_of}
use Rattle.expr_eval.specs.Answers.{setting}
use Rattle.proc_values.specs.Binds.{term_in}
use Rattle.proc_values.specs.Verdicts.{verdict}
use Rattle.proc_values.proofs.Evaluated.{test_is}
use Rattle.proc_values.proofs.Known.{bound_there, keeps_then, still_agrees, still_bound}
use Rattle.proc_values.proofs.Quiet.{part_quiet}
use Rattle.proc_values.proofs.guards.all_hold.Goals as goal

pub result_of-requires : goal.result_of-requires
result_of-requires g c = still_bound g.S.Store.shown g.S.Store.has AnyAtom c.args.storage.now.store c.loop-test.storage.store c.loop-test.invariant.keeps c.args.bindings.now c.requires

pub returns-in-Fails-clause-is : goal.returns-in-Fails-clause-is
returns-in-Fails-clause-is g c = λ bs a.
    let s = setting c.args.caller.now.names.now c.args.caller.now.pid in
    let shown = g.S.Store.shown in
    let has = g.S.Store.has in
    let held = term_in c.args.bindings.now in
    let start = c.args.storage.now.store in
    let old = c.loop-test.storage.store in
    let due = result_of s (put_in bs (tree_of c.test-item.result)) in
    let agrees = still_agrees shown has start old c.loop-test.invariant.keeps held bs (bound_there (has start) c.args.bindings.now c.requires) a in
    test_is s bs c.args.tests.now c.loop-test.test-index c.test-item.result c.loop-test-test.true c.test-item.is v.Fails (all_hold s (puts_in bs (trees_of c.args.tests.now)))
    (sym (ap verdict c.in-Fails.is) ∙ c.in_ok-verdict_of.ensures (shown c.result_of.new.storage.store) due (c.result_of.ensures.is bs agrees)) (c.loop-test.invariant.rest bs a)

pub returns-in-AtLimit-clause-is : goal.returns-in-AtLimit-clause-is
returns-in-AtLimit-clause-is g c = λ bs a.
    let s = setting c.args.caller.now.names.now c.args.caller.now.pid in
    let shown = g.S.Store.shown in
    let has = g.S.Store.has in
    let held = term_in c.args.bindings.now in
    let start = c.args.storage.now.store in
    let old = c.loop-test.storage.store in
    let due = result_of s (put_in bs (tree_of c.test-item.result)) in
    let agrees = still_agrees shown has start old c.loop-test.invariant.keeps held bs (bound_there (has start) c.args.bindings.now c.requires) a in
    test_is s bs c.args.tests.now c.loop-test.test-index c.test-item.result c.loop-test-test.true c.test-item.is v.AtLimit (all_hold s (puts_in bs (trees_of c.args.tests.now)))
    (sym (ap verdict c.in-AtLimit.is) ∙ c.in_ok-verdict_of.ensures (shown c.result_of.new.storage.store) due (c.result_of.ensures.is bs agrees)) (c.loop-test.invariant.rest bs a)

pub loop-test-preserved : goal.loop-test-preserved
loop-test-preserved g c =
    let s = setting c.args.caller.now.names.now c.args.caller.now.pid in
    let shown = g.S.Store.shown in
    let has = g.S.Store.has in
    let held = term_in c.args.bindings.now in
    let start = c.args.storage.now.store in
    let old = c.loop-test.storage.store in
    record {
      keeps = keeps_then shown has start old c.result_of.new.storage.store c.loop-test.invariant.keeps c.result_of.ensures.keeps;
      quiet = λ m. c.result_of.ensures.quiet (part_quiet c.args.tests.now c.loop-test.test-index c.test-item.result c.loop-test-test.true c.test-item.is m) ∙ c.loop-test.invariant.quiet m;
      rest = λ bs a.
          let due = result_of s (put_in bs (tree_of c.test-item.result)) in
          let agrees = still_agrees shown has start old c.loop-test.invariant.keeps held bs (bound_there (has start) c.args.bindings.now c.requires) a in
          test_is s bs c.args.tests.now c.loop-test.test-index c.test-item.result c.loop-test-test.true c.test-item.is v.Holds (all_hold s (puts_in bs (trees_of c.args.tests.now)))
          (sym (ap verdict c.in-Holds.is) ∙ c.in_ok-verdict_of.ensures (shown c.result_of.new.storage.store) due (c.result_of.ensures.is bs agrees)) (c.loop-test.invariant.rest bs a);
    }

pub returns-in_err-verdict_of-clause-quiet : goal.returns-in_err-verdict_of-clause-quiet
returns-in_err-verdict_of-clause-quiet g c = λ m. c.result_of.ensures.quiet (part_quiet c.args.tests.now c.loop-test.test-index c.test-item.result c.loop-test-test.true c.test-item.is m) ∙ c.loop-test.invariant.quiet m

pub returns-in-Fails-clause-quiet : goal.returns-in-Fails-clause-quiet
returns-in-Fails-clause-quiet g c = λ m. c.result_of.ensures.quiet (part_quiet c.args.tests.now c.loop-test.test-index c.test-item.result c.loop-test-test.true c.test-item.is m) ∙ c.loop-test.invariant.quiet m

pub returns-in-AtLimit-clause-quiet : goal.returns-in-AtLimit-clause-quiet
returns-in-AtLimit-clause-quiet g c = λ m. c.result_of.ensures.quiet (part_quiet c.args.tests.now c.loop-test.test-index c.test-item.result c.loop-test-test.true c.test-item.is m) ∙ c.loop-test.invariant.quiet m
