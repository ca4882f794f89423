use Rattle.std.proofs.Common.{◌≤◌, length, drop}
use Rattle.code_layout.specs.Lookups.{ExportsOf}
use Rattle.code_layout.proofs.names.exports_of.Given as goal

abbrev pub invariant-loop-left : goal.invariant-loop-left
invariant-loop-left l = (l.left ≤ length l.names) × ExportsOf (drop l.left l.names) l.exports

abbrev pub decreases-loop-left : goal.decreases-loop-left
decreases-loop-left l = l.left
