use Rattle.std.proofs.Common.{All}
use Rattle.off_heap.specs.Cells.{Valid}
use Rattle.storage_tests.proofs.sweep_tests.chosen.Given as goal

abbrev pub invariant-loop-place : goal.invariant-loop-place
invariant-loop-place l = All (Valid l.heap.cells) l.live.items
