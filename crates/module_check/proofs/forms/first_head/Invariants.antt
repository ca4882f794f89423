use Rattle.std.proofs.Common.{take}
use Rattle.module_check.specs.Order.{IsLeast, Some_of}
use Rattle.module_check.specs.Faults.{HeadFault}
use Rattle.module_check.proofs.forms.first_head.Given as goal

abbrev pub invariant-loop-head : goal.invariant-loop-head
invariant-loop-head l = IsLeast (Some_of HeadFault (take l.head-index l.heads)) l.best
