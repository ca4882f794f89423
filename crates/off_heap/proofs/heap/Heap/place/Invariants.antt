use Rattle.std.proofs.Common.{◌≡◌, ◌+◌, ◌≤◌, length, vec_len, vec_capacity}
use Rattle.off_heap.proofs.Adopted.{IsPlacing}
use Rattle.off_heap.proofs.heap.Heap.place.Given as goal

abbrev pub invariant-loop-bits : goal.invariant-loop-bits
invariant-loop-bits l = record {
  placing : IsPlacing l.initial.self l.self l.initial.pieces.items l.pieces.items l.places.items;
  room : vec_len l.initial.pieces ≤ vec_capacity l.places;
  capacity : vec_capacity l.initial.pieces ≤ vec_capacity l.pieces;
}

abbrev pub decreases-loop-bits : goal.decreases-loop-bits
decreases-loop-bits l = vec_len l.pieces
