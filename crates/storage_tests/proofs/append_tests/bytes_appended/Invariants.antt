use Rattle.off_heap.specs.Cells.{Valid}
use Rattle.storage_tests.proofs.append_tests.bytes_appended.Given as goal

abbrev pub invariant-loop-append : goal.invariant-loop-append
invariant-loop-append l = Valid l.heap.cells l.last
