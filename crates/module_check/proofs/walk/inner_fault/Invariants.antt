use Rattle.module_check.proofs.Sizes.{left_over}
use Rattle.module_check.proofs.Walking.{Looked}
use Rattle.module_check.proofs.walk.inner_fault.Given as goal

abbrev pub invariant-loop-task : goal.invariant-loop-task
invariant-loop-task l = Looked l.tree l.fn.function l.walk.nodes.items l.walk.tasks.items l.best

abbrev pub decreases-loop-task : goal.decreases-loop-task
decreases-loop-task l = left_over l.walk.tasks.items
