use Rattle.std.proofs.Common.{◌≡◌, take}
use Rattle.module_check.specs.Numbers.{binders_in}
use Rattle.module_check.proofs.numbers.binders_of.Given as goal

abbrev pub invariant-loop-occurrence : goal.invariant-loop-occurrence
invariant-loop-occurrence l = l.binders.items ≡ binders_in (take l.occurrence-index l.occurrences)
