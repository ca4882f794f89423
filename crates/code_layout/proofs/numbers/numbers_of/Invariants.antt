use Rattle.std.proofs.Common.{◌≤◌, length, drop}
use Rattle.code_layout.specs.Lookups.{NumbersOf}
use Rattle.code_layout.proofs.numbers.numbers_of.Given as goal

abbrev pub invariant-loop-left : goal.invariant-loop-left
invariant-loop-left l = (l.left ≤ length l.uses) × NumbersOf (drop l.left l.uses) l.numbers

abbrev pub decreases-loop-left : goal.decreases-loop-left
decreases-loop-left l = l.left
