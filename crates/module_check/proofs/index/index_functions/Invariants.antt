use Rattle.std.proofs.Common.{take}
use Rattle.module_check.specs.Index.{Lists}
use Rattle.module_check.proofs.index.index_functions.Given as goal

abbrev pub invariant-loop-place : goal.invariant-loop-place
invariant-loop-place l = Lists (take l.place l.functions) l.index
