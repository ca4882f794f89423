use Rattle.module_check.proofs.Sizes.{left_over}
use Rattle.module_check.proofs.Placed.{Reached}
use Rattle.module_check.proofs.places.places.Given as goal

abbrev pub invariant-loop-task : goal.invariant-loop-task
invariant-loop-task l = Reached l.fn.function l.walk.nodes.items l.walk.tasks.items l.found.items

abbrev pub decreases-loop-task : goal.decreases-loop-task
decreases-loop-task l = left_over l.walk.tasks.items
