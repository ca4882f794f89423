use Rattle.std.proofs.Common.{All}
use Rattle.off_heap.specs.Cells.{Valid}
use Rattle.storage_tests.proofs.given.made_by.Given as goal

abbrev pub invariant-loop-row : goal.invariant-loop-row
invariant-loop-row l = All (Valid l.heap.cells) l.made.items
