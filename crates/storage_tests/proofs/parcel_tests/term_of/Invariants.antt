use Rattle.std.proofs.Common.{All}
use Rattle.storage_tests.specs.Packable.{IsPackable}
use Rattle.storage_tests.proofs.parcel_tests.term_of.Given as goal

abbrev pub invariant-loop-item : goal.invariant-loop-item
invariant-loop-item l = All (IsPackable l.heap.cells) l.stack.items
