use Rattle.std.proofs.Common.{◌≡◌, ◌+◌, ◌-◌, ◌≤◌, ◌++◌, ℕ, Bool, List, length, take, drop, vec_len, vec_capacity}
use Rattle.off_heap.specs.Cells.{Contents}
use Rattle.off_heap.specs.Adopting.{InFront}
use Rattle.off_heap.proofs.Adopted.{TakenBack}
use Rattle.off_heap.proofs.heap.Heap.take_back.Given as goal

abbrev pub invariant-loop-i : goal.invariant-loop-i
invariant-loop-i l = record {
  taken : (first : Contents) (parts : List (List Bool)) → length parts ≡ l.count → InFront first parts l.initial.self → TakenBack first parts l.i l.self l.initial.pieces.items l.pieces.items;
  room : vec_len l.pieces + (l.count - l.i) ≤ vec_capacity l.pieces;
  capacity : vec_capacity l.initial.pieces ≤ vec_capacity l.pieces;
}
