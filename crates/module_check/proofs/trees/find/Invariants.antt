use Rattle.module_check.proofs.Searched.{Leads}
use Rattle.module_check.proofs.trees.find.Given as goal

abbrev pub invariant-loop-node : goal.invariant-loop-node
invariant-loop-node l = Leads l.nodes l.last l.rest l.name

abbrev pub decreases-loop-node : goal.decreases-loop-node
decreases-loop-node l = l.rest
