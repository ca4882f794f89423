use Rattle.std.proofs.Common.{◌≤◌, length}
use Rattle.code_layout.proofs.Found.{PlacesFrom}
use Rattle.code_layout.proofs.names.places_of.Given as goal

abbrev pub invariant-loop-left : goal.invariant-loop-left
invariant-loop-left l = (l.left ≤ length l.functions) × PlacesFrom l.functions l.left l.places

abbrev pub decreases-loop-left : goal.decreases-loop-left
decreases-loop-left l = l.left
