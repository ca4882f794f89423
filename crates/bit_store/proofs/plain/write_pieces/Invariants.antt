use Rattle.std.proofs.Common.{◌≡◌, ◌+◌, ◌++◌, length, take}
use Rattle.bits_value.specs.Bits.{all_bits}
use Rattle.bit_store.specs.Pieces.{pieces_bits}
use Rattle.bit_store.specs.Stores.{itself}
use Rattle.bit_store.proofs.plain.write_pieces.Given as goal

abbrev pub invariant-loop-piece : goal.invariant-loop-piece
invariant-loop-piece l = (l.end ≡ l.at + length (pieces_bits itself (take l.piece-index l.pieces)))
    × (take l.end (all_bits l.target) ≡ take l.at (all_bits l.initial.target) ++ pieces_bits itself (take l.piece-index l.pieces))
