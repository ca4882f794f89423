use Rattle.std.proofs.Common.{◌≡◌, ◌+◌, ◌≤◌, ◌++◌, Bool, List, All, length}
use Rattle.bits_value.specs.declared.TheConstants.{MAX_BITS}
use Rattle.bit_store.specs.Pieces.{pieces_bits, IsInside, HasPiece}
use Rattle.term_value.specs.Encode.{built_on}
use Rattle.bits_build.specs.Parts.{HasPart, parts_filled}
use Rattle.bits_build.proofs.construction.pieces_of.Given as goal

abbrev pub invariant-loop-part : goal.invariant-loop-part
invariant-loop-part g l = record {
  left : All (HasPart (g.S.Store.has l.store)) l.left;
  short : l.total ≤ MAX_BITS;
  size : l.total ≡ l.before + length (pieces_bits (g.S.Store.shown l.store) l.pieces.items);
  inside : All (IsInside (g.S.Store.shown l.store)) l.pieces.items;
  valid : All (HasPiece (g.S.Store.has l.store)) l.pieces.items;
  rest : (front : List Bool) → length front ≡ l.before → built_on (parts_filled (g.S.Store.shown l.store) l.left) (front ++ pieces_bits (g.S.Store.shown l.store) l.pieces.items)
      ≡ built_on (parts_filled (g.S.Store.shown l.store) l.parts) front;
}

abbrev pub decreases-loop-part : goal.decreases-loop-part
decreases-loop-part g l = length l.left
