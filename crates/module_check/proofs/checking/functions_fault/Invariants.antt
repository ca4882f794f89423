use Rattle.module_check.specs.Order.{IsLeast, Below}
use Rattle.module_check.specs.Faults.{FunctionFault}
use Rattle.module_check.proofs.checking.functions_fault.Given as goal

abbrev pub invariant-loop-index : goal.invariant-loop-index
invariant-loop-index l = IsLeast (Below (FunctionFault l.tree) l.index) l.best
