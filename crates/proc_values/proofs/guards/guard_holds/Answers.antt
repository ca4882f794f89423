use Rattle.std.proofs.Common.{List, ap, sym, subst, ◌∙◌}
use Rattle.bit_store.specs.Stores.{AnyAtom}
use Rattle.term_value.specs.Guards as v
use Rattle.term_value.specs.Guards.{all_hold, guard_holds}
use Rattle.term_value.specs.PutIn.{puts_in, in_guard}
use Rattle.code_tree.specs.Reading.{trees_of, guard_of}
use Rattle.code_tree.specs.declared.tree.Tree.{Tree}
use Rattle.expr_eval.specs.Answers.{setting}
use Rattle.proc_values.specs.Binds.{term_in}
use Rattle.proc_values.specs.MadeBits.{MakeNoBits}
use Rattle.proc_values.specs.Verdicts.{verdict}
use Rattle.proc_values.proofs.Evaluated.{tests_are}
use Rattle.proc_values.proofs.Known.{bound_there, keeps_then, still_agrees, still_bound}
use Rattle.proc_values.proofs.Quiet.{tests_quiet}
use Rattle.proc_values.proofs.guards.guard_holds.Goals as goal

pub all_hold-requires : goal.all_hold-requires
all_hold-requires g c = still_bound g.S.Store.shown g.S.Store.has AnyAtom c.args.storage.now.store c.loop-tests.storage.store c.loop-tests.invariant.keeps c.args.bindings.now c.requires

pub returns-in-Holds-clause-is : goal.returns-in-Holds-clause-is
returns-in-Holds-clause-is g c = λ bs a.
    let s = setting c.args.caller.now.names.now c.args.caller.now.pid in
    let has = g.S.Store.has in
    let start = c.args.storage.now.store in
    let old = c.loop-tests.storage.store in
    let agrees = still_agrees g.S.Store.shown has start old c.loop-tests.invariant.keeps (term_in c.args.bindings.now) bs (bound_there (has start) c.args.bindings.now c.requires) a in
    tests_are s bs c.args.guard.now c.loop-tests.tests-index c.tests-item.result c.loop-tests-test.true c.tests-item.is v.Holds (guard_holds s (in_guard bs (guard_of c.args.guard.now)))
    (sym (ap verdict c.in-Holds.is) ∙ c.in_ok-all_hold.ensures.is bs agrees ∙ ap (λ (ts : List Tree). all_hold s (puts_in bs (trees_of ts))) c.items.ensures) (c.loop-tests.invariant.rest bs a)

pub returns-in-AtLimit-clause-is : goal.returns-in-AtLimit-clause-is
returns-in-AtLimit-clause-is g c = λ bs a.
    let s = setting c.args.caller.now.names.now c.args.caller.now.pid in
    let has = g.S.Store.has in
    let start = c.args.storage.now.store in
    let old = c.loop-tests.storage.store in
    let agrees = still_agrees g.S.Store.shown has start old c.loop-tests.invariant.keeps (term_in c.args.bindings.now) bs (bound_there (has start) c.args.bindings.now c.requires) a in
    tests_are s bs c.args.guard.now c.loop-tests.tests-index c.tests-item.result c.loop-tests-test.true c.tests-item.is v.AtLimit (guard_holds s (in_guard bs (guard_of c.args.guard.now)))
    (sym (ap verdict c.in-AtLimit.is) ∙ c.in_ok-all_hold.ensures.is bs agrees ∙ ap (λ (ts : List Tree). all_hold s (puts_in bs (trees_of ts))) c.items.ensures) (c.loop-tests.invariant.rest bs a)

pub loop-tests-preserved : goal.loop-tests-preserved
loop-tests-preserved g c =
    let s = setting c.args.caller.now.names.now c.args.caller.now.pid in
    let has = g.S.Store.has in
    let start = c.args.storage.now.store in
    let old = c.loop-tests.storage.store in
    record {
      keeps = keeps_then g.S.Store.shown has start old c.all_hold.new.storage.store c.loop-tests.invariant.keeps c.all_hold.ensures.keeps;
      quiet = λ m.
          c.all_hold.ensures.quiet (subst (λ (ts : List Tree). MakeNoBits (trees_of ts)) (sym c.items.ensures) (tests_quiet c.args.guard.now c.loop-tests.tests-index c.tests-item.result c.loop-tests-test.true c.tests-item.is m))
          ∙ c.loop-tests.invariant.quiet m;
      rest = λ bs a.
          let agrees = still_agrees g.S.Store.shown has start old c.loop-tests.invariant.keeps (term_in c.args.bindings.now) bs (bound_there (has start) c.args.bindings.now c.requires) a in
          tests_are s bs c.args.guard.now c.loop-tests.tests-index c.tests-item.result c.loop-tests-test.true c.tests-item.is v.Fails (guard_holds s (in_guard bs (guard_of c.args.guard.now)))
          (sym (ap verdict c.in-Fails.is) ∙ c.in_ok-all_hold.ensures.is bs agrees ∙ ap (λ (ts : List Tree). all_hold s (puts_in bs (trees_of ts))) c.items.ensures) (c.loop-tests.invariant.rest bs a);
    }

pub returns-in_err-all_hold-clause-quiet : goal.returns-in_err-all_hold-clause-quiet
returns-in_err-all_hold-clause-quiet g c = λ m.
    c.all_hold.ensures.quiet (subst (λ (ts : List Tree). MakeNoBits (trees_of ts)) (sym c.items.ensures) (tests_quiet c.args.guard.now c.loop-tests.tests-index c.tests-item.result c.loop-tests-test.true c.tests-item.is m))
    ∙ c.loop-tests.invariant.quiet m

pub returns-in-Holds-clause-quiet : goal.returns-in-Holds-clause-quiet
returns-in-Holds-clause-quiet g c = λ m.
    c.all_hold.ensures.quiet (subst (λ (ts : List Tree). MakeNoBits (trees_of ts)) (sym c.items.ensures) (tests_quiet c.args.guard.now c.loop-tests.tests-index c.tests-item.result c.loop-tests-test.true c.tests-item.is m))
    ∙ c.loop-tests.invariant.quiet m

pub returns-in-AtLimit-clause-quiet : goal.returns-in-AtLimit-clause-quiet
returns-in-AtLimit-clause-quiet g c = λ m.
    c.all_hold.ensures.quiet (subst (λ (ts : List Tree). MakeNoBits (trees_of ts)) (sym c.items.ensures) (tests_quiet c.args.guard.now c.loop-tests.tests-index c.tests-item.result c.loop-tests-test.true c.tests-item.is m))
    ∙ c.loop-tests.invariant.quiet m
