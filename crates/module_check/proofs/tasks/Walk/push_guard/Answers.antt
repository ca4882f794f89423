use Rattle.std.proofs.Common.{arith, [], ap}
use Rattle.erl_syntax.specs.Scopes.{in_guard}
use Rattle.module_check.specs.Spots.{each, same_in, tests_in}
use Rattle.module_check.proofs.Tasked.{adds_same, means_grown, means_guard, far_start, far_on, far_end}
use Rattle.module_check.proofs.tasks.Walk.push_guard.Goals as goal

pub loop-tests-init : goal.loop-tests-init
loop-tests-init c = λ s m. far_start (tests_in (in_guard s)) [] c.items-alternatives.result.now c.args.self.now

pub loop-tests-preserved : goal.loop-tests-preserved
loop-tests-preserved c = λ s m.
    let h = c.loop-tests.invariant s m in
    far_on (tests_in (in_guard s)) [] c.items-alternatives.result.now c.args.self.now c.loop-tests.self c.push_same.new.self c.loop-tests.tests-index c.tests-item.result (omega arith) c.tests-item.is h
    (adds_same _ _ _ _ (ap (λ zs. each (same_in (in_guard s)) [] zs) c.items.ensures) (c.in_ok-push_same.ensures (in_guard s) (means_guard _ _ s (means_grown _ _ _ _ h.adds.grown m))))

pub returns : goal.returns
returns c = λ s m. adds_same _ _ _ _ (ap (λ zs. each (tests_in (in_guard s)) [] zs) c.items-alternatives.ensures) (far_end (tests_in (in_guard s)) [] c.items-alternatives.result.now c.args.self.now c.loop-tests.self c.loop-tests.tests-index (omega arith) (c.loop-tests.invariant s m))
