use Rattle.std.proofs.Common.{take}
use Rattle.module_check.specs.Order.{IsLeast, Some_of}
use Rattle.module_check.specs.Faults.{ExportFault}
use Rattle.module_check.proofs.forms.exports_fault.Given as goal

abbrev pub invariant-loop-export : goal.invariant-loop-export
invariant-loop-export l = IsLeast (Some_of (ExportFault l.tree) (take l.export-index l.exports)) l.best
