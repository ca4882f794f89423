use Rattle.std.proofs.Common.{◌≡◌, ◌-◌, ◌≤◌, All, length, take}
use Rattle.bit_store.specs.Pieces.{pieces_bits, IsInside, HasPiece}
use Rattle.proc_values.proofs.literals.numbers.Given as goal

abbrev pub invariant-loop-at : goal.invariant-loop-at
invariant-loop-at g l = record {
  inside : l.at ≤ length l.bits;
  are : pieces_bits (g.S.Store.shown l.store) l.pieces.items ≡ take l.at l.bits;
  insides : All (IsInside (g.S.Store.shown l.store)) l.pieces.items;
  valid : All (HasPiece (g.S.Store.has l.store)) l.pieces.items;
}

abbrev pub decreases-loop-at : goal.decreases-loop-at
decreases-loop-at g l = length l.bits - l.at
