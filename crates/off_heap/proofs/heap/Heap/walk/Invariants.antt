use Rattle.std.proofs.Common.{◌≡◌, ◌+◌, ◌≤◌, ◌-◌}
use Rattle.off_heap.specs.Cells.{count_of}
use Rattle.off_heap.specs.Walks.{Walking}
use Rattle.off_heap.proofs.heap.Heap.walk.Given as goal

abbrev pub invariant-loop-i : goal.invariant-loop-i
invariant-loop-i l = record {
  state : Walking l.leaves l.initial.self-inside.cells.slots l.self-inside.cells.slots l.head l.at l.count (l.total - l.i);
  total : count_of l.self-inside.cells.slots ≡ l.count + (l.total - l.i);
  bounded : l.count ≤ l.i;
  swept : l.self-inside.swept ≡ l.initial.self-inside.swept;
}
