use Rattle.module_check.proofs.Calling.{none_at_all}
use Rattle.std.proofs.Common.{arith, sym, refl, List}
use Rattle.std.proofs.Common.{subst}
use Rattle.module_check.specs.declared.trees.Node.{Node}
use Rattle.module_check.specs.Tasks.{Fits}
use Rattle.module_check.specs.declared.tasks.Walk.{Walk}
use Rattle.module_check.proofs.Walking.{start, step, finish, looked_cut}
use Rattle.module_check.proofs.Sizes.{falls}
use Rattle.module_check.proofs.walk.inner_fault.Goals as goal

pub loop-task-init : goal.loop-task-init
loop-task-init c = start c.args.tree.now c.args.function.now (record { alloc = c.args.alloc; nodes = c.new.result; tasks = c.new-2.result }) c.push_clauses.new.self c.new-2.ensures.items c.in_ok-push_clauses.ensures

pub loop-task-preserved : goal.loop-task-preserved
loop-task-preserved c =
    let w : Walk = record c.loop-task.walk { tasks = c.pop.new.self; nodes = c.truncate.new.self } in
    let l = looked_cut c.args.tree.now c.args.function.now c.loop-task.walk.nodes.items c.truncate.new.self.items c.loop-task.walk.tasks.items c.pop.new.self.items c.in-Some.task c.loop-task.best c.in-Some.ensures.items c.truncate.ensures.items c.loop-task.invariant in
    step c.args.tree.now c.args.function.now w c.push_inside.new.self c.loop-task.walk.tasks.items c.pop.new.self.items c.in-Some.task c.loop-task.best c.own_fault.result c.first_of-best.result c.in-Some.ensures.items refl (λ d f. c.own_fault.ensures d (let P : List Node → Type 0 = λ ns. Fits ns c.in-Some.task d in subst P (sym c.deref.ensures.value) f)) c.first_of-best.ensures c.in_ok-push_inside.ensures l

pub loop-task-smaller : goal.loop-task-smaller
loop-task-smaller c =
    let w : Walk = record c.loop-task.walk { tasks = c.pop.new.self; nodes = c.truncate.new.self } in
    let l = looked_cut c.args.tree.now c.args.function.now c.loop-task.walk.nodes.items c.truncate.new.self.items c.loop-task.walk.tasks.items c.pop.new.self.items c.in-Some.task c.loop-task.best c.in-Some.ensures.items c.truncate.ensures.items c.loop-task.invariant in
    falls w c.push_inside.new.self c.loop-task.walk.tasks.items c.pop.new.self.items c.in-Some.task l.walked.looks c.in-Some.ensures.items refl c.in_ok-push_inside.ensures l.walked.fit

pub returns : goal.returns
returns c = finish c.args.tree.now c.args.function.now _ _ c.loop-task.best (none_at_all c.loop-task.walk.tasks.items (omega (arith, c.in_default.ensures.cases.0, c.loop-task.walk.tasks.ok.0))) c.loop-task.invariant
