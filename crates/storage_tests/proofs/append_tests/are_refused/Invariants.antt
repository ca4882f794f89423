use Rattle.std.proofs.Common.{All}
use Rattle.off_heap.specs.Cells.{Valid}
use Rattle.storage_tests.proofs.append_tests.are_refused.Given as goal

abbrev pub invariant-loop-call : goal.invariant-loop-call
invariant-loop-call l = All (Valid l.heap.cells) l.made
