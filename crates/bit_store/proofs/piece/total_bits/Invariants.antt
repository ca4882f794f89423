use Rattle.std.proofs.Common.{◌≡◌, ◌≤◌, List, Bool, All, length, take}
use Rattle.bits_value.specs.declared.TheConstants.{MAX_BITS}
use Rattle.bit_store.specs.Pieces.{pieces_bits, IsInside}
use Rattle.bit_store.proofs.piece.total_bits.Given as goal

abbrev pub invariant-loop-piece : goal.invariant-loop-piece
invariant-loop-piece g l = (l.total ≤ MAX_BITS) × ((shown : _ → List Bool) → All (IsInside shown) l.pieces → l.total ≡ length (pieces_bits shown (take l.piece-index l.pieces)))
