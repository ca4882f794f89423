use Rattle.std.proofs.Common.{arith, sym, refl, subst, List}
use Rattle.module_check.specs.declared.trees.Node.{Node}
use Rattle.module_check.specs.declared.tasks.Walk.{Walk}
use Rattle.module_check.specs.Tasks.{Fits}
use Rattle.module_check.proofs.Calling.{none_at_all}
use Rattle.module_check.proofs.Placed.{start, step, finish, reached_cut}
use Rattle.module_check.proofs.Sizes.{falls}
use Rattle.module_check.proofs.places.places.Goals as goal

pub loop-task-init : goal.loop-task-init
loop-task-init c = start c.args.function.now (record { alloc = c.args.alloc; nodes = c.new.result; tasks = c.new-2.result }) c.push_clauses.new.self c.new-found.result.items c.new-2.ensures.items c.new-found.ensures.items c.in_ok-push_clauses.ensures

pub loop-task-preserved : goal.loop-task-preserved
loop-task-preserved c =
    let w : Walk = record c.loop-task.walk { tasks = c.pop.new.self; nodes = c.truncate.new.self } in
    let l = reached_cut c.args.function.now c.loop-task.walk.nodes.items c.truncate.new.self.items c.loop-task.walk.tasks.items c.pop.new.self.items c.in-Some.task c.loop-task.found.items c.in-Some.ensures.items c.truncate.ensures.items c.loop-task.invariant in
    step c.args.function.now w c.push_inside.new.self c.loop-task.walk.tasks.items c.pop.new.self.items c.in-Some.task c.loop-task.found.items c.add.new.found.items c.own_place.result c.in-Some.ensures.items refl (λ d f. c.own_place.ensures d (let P : List Node → Type 0 = λ ns. Fits ns c.in-Some.task d in subst P (sym c.deref.ensures.value) f)) c.in_ok-add.ensures c.in_ok-push_inside.ensures l

pub loop-task-smaller : goal.loop-task-smaller
loop-task-smaller c =
    let w : Walk = record c.loop-task.walk { tasks = c.pop.new.self; nodes = c.truncate.new.self } in
    let l = reached_cut c.args.function.now c.loop-task.walk.nodes.items c.truncate.new.self.items c.loop-task.walk.tasks.items c.pop.new.self.items c.in-Some.task c.loop-task.found.items c.in-Some.ensures.items c.truncate.ensures.items c.loop-task.invariant in
    falls w c.push_inside.new.self c.loop-task.walk.tasks.items c.pop.new.self.items c.in-Some.task l.walked.looks c.in-Some.ensures.items refl c.in_ok-push_inside.ensures l.walked.fit

pub returns : goal.returns
returns c = finish c.args.function.now _ _ c.loop-task.found.items (none_at_all c.loop-task.walk.tasks.items (omega (arith, c.in_default.ensures.cases.0, c.loop-task.walk.tasks.ok.0))) c.loop-task.invariant
