use Rattle.std.proofs.Common.{◌≡◌, ◌++◌, length, take}
use Rattle.bits_value.specs.Ledger.{ticked}
use Rattle.bit_store.specs.Pieces.{pieces_bits}
use Rattle.off_heap.specs.Cells.{shown}
use Rattle.off_heap.specs.Writing.{with_room}
use Rattle.off_heap.proofs.heap.Heap.write_pieces.Given as goal

abbrev pub invariant-loop-piece : goal.invariant-loop-piece
invariant-loop-piece l = record {
  bits : l.room.bits ≡ l.initial.room.bits ++ pieces_bits (shown (with_room l.self.cells l.own l.initial.room)) (take l.piece-index l.pieces);
  size : l.room.size ≡ l.initial.room.size;
  ticks : l.steps.moved ≡ ticked l.initial.steps.moved (length (pieces_bits (shown (with_room l.self.cells l.own l.initial.room)) (take l.piece-index l.pieces)));
}
