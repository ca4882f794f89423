use Rattle.std.proofs.Common.{take}
use Rattle.erl_syntax.specs.Checking.{AreNumbered}
use Rattle.module_check.proofs.numbers.vars.Given as goal

abbrev pub invariant-loop-function : goal.invariant-loop-function
invariant-loop-function l = AreNumbered (take l.function-index l.functions) l.vars.items
