use Rattle.std.proofs.Common.{take}
use Rattle.module_check.specs.Order.{IsLeast, Some_of}
use Rattle.module_check.specs.Faults.{DiffersFault}
use Rattle.module_check.proofs.forms.differs_fault.Given as goal

abbrev pub invariant-loop-clause : goal.invariant-loop-clause
invariant-loop-clause l = IsLeast (Some_of (DiffersFault l.function) (take l.clause-index l.clauses)) l.best
