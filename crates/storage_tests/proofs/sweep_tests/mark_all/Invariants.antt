use Rattle.std.proofs.Common.{All, take}
use Rattle.bit_store.specs.Stores.{Keeps}
use Rattle.off_heap.specs.Cells.{Valid, shown, HasMark}
use Rattle.storage_tests.proofs.sweep_tests.mark_all.Given as goal

abbrev pub invariant-loop-of : goal.invariant-loop-of
invariant-loop-of l = record {
  keeps : Keeps shown Valid l.initial.heap.cells l.heap.cells;
  marked : All (HasMark l.heap.cells) (take l.of-index l.live);
}
