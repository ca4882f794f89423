-- Pieces written one after another into a room that is out of its cell.
use Rattle.std.proofs.Common.{◌≡◌, ℕ, ◌+◌, ◌*◌, ◌≤◌, ◌<◌, Bool, List, [], ◌∷◌, ◌++◌, length, set, take, drop, Option, Some, None, IsSome, All, refl, ap, sym, subst, ◌∙◌, arith, get_or}
use Rattle.std.specs.List.{flat_map}
use Rattle.std.proofs.lemmas.List.{length-append}
use Rattle.std.proofs.lemmas.List.Elements.{All-head, All-tail}
use Rattle.bits_value.specs.Bits.{bit_list, all_bits}
use Rattle.bits_value.specs.Ledger.{ticked}
use Rattle.bit_store.specs.Pieces.{piece_bits, pieces_bits, HasPiece, IsInside}
use Rattle.bit_store.specs.Stores.{Keeps}
use Rattle.bit_store.specs.declared.piece.Piece.{Piece}
use Rattle.bit_store.specs.declared.piece.Piece.TheVariants.{Number, Character, Bytes, Part as PartPiece}
use Rattle.bit_store.proofs.Lengths.{length-part, part-part, item_has, fits_next, more_bits, joined_next}
use Rattle.write_room.specs.Rooms.{Seen}
use Rattle.off_heap.specs.declared.cell.Cell.{Cell}
use Rattle.off_heap.specs.declared.cell.Storage.TheVariants.{Room}
use Rattle.off_heap.specs.declared.reference.BitRef.{BitRef}
use Rattle.off_heap.specs.declared.reference.BitRef.TheVariants.{Small, Part}
use Rattle.off_heap.specs.Cells.{cell_at, bits_in, IsPart, Valid, shown, OnlyCell}
use Rattle.off_heap.specs.Writing.{fill, filled, with_room, IsThere, IsOwn, IsOther}
use Rattle.off_heap.proofs.Slots.{here, elsewhere, the_cell}
use Rattle.off_heap.proofs.Kept.{keeps_one}

-- ---- a room that is out of its cell
pub filled_at : (cells : List (Option Cell)) (own : ℕ) (c : Cell) (s : Seen) → cell_at cells own ≡ Some c → cell_at (filled cells own s) own ≡ Some (record c { storage = Room s })
filled_at cells own c s at = ap (λ (slot : Option Cell). cell_at (set cells own (fill slot s)) own) at ∙ here cells own c (record c { storage = Room s }) at

pub filled_bits : (cells : List (Option Cell)) (own : ℕ) (s : Seen) → IsSome (cell_at cells own) → bits_in (cell_at (filled cells own s) own) ≡ s.bits
filled_bits cells own s some = let (c, at) = the_cell (cell_at cells own) some in ap bits_in (filled_at cells own c s at)

pub filled_others : (cells : List (Option Cell)) (own : ℕ) (s : Seen) → OnlyCell own cells (filled cells own s)
filled_others cells own s = λ m other. elsewhere cells own m (fill (cell_at cells own) s) other

filled_keeps : (cells : List (Option Cell)) (own : ℕ) (s t : Seen) (extra : List Bool) → IsSome (cell_at cells own) → t.bits ≡ s.bits ++ extra → Keeps shown Valid (filled cells own s) (filled cells own t)
filled_keeps cells own s t extra some e =
    let (c, at) = the_cell (cell_at cells own) some in
    keeps_one (filled cells own s) (filled cells own t) own
    (λ m other. filled_others cells own t m other ∙ sym (filled_others cells own s m other))
    (rw (filled_at cells own c s at, filled_at cells own c t at) (record { there = λ h. refl; extra = extra; bits = e }))

keeps_itself : (cells : List (Option Cell)) → Keeps shown Valid cells cells
keeps_itself cells of h = (h, refl)

-- as the room goes on, each reference shows what it showed
pub room_keeps : (cells : List (Option Cell)) (own : Option ℕ) (s t : Seen) (extra : List Bool) → IsThere cells own → t.bits ≡ s.bits ++ extra → Keeps shown Valid (with_room cells own s) (with_room cells own t)
room_keeps cells None s t extra there e = keeps_itself cells
room_keeps cells (Some own) s t extra there e = filled_keeps cells own s t extra there e

-- ---- a piece's reference, to the room's own cell or to another
pub own_part : (cells : List (Option Cell)) (own : Option ℕ) (s : Seen) (of : BitRef) (start off n : ℕ) → IsThere cells own → IsOwn own of start → Valid (with_room cells own s) of →
    off + n ≤ length (shown (with_room cells own s) of) → (start + off + n ≤ length s.bits) × (take n (drop (start + off) s.bits) ≡ take n (drop off (shown (with_room cells own s) of)))
own_part cells own s (Small bits) start off n there is valid inside = absurd is
own_part cells None s (Part m from len) start off n there is valid inside = absurd (none is.0)
  where
    none : {k : ℕ} → None ≡ Some k → ⊥
    none e = cc
own_part cells (Some own) s (Part m from len) start off n there is valid inside =
    let e : own ≡ m = cc in
    let b : bits_in (cell_at (filled cells own s) m) ≡ s.bits = subst (λ k. bits_in (cell_at (filled cells own s) k) ≡ s.bits) e (filled_bits cells own s there) in
    let i : from + len ≤ length s.bits = rw b at valid.inside in
    let l : length (take len (drop from s.bits)) ≡ len = length-part s.bits from len i in
    let k : off + n ≤ length (take len (drop from s.bits)) = rw b at inside in
    let f = is.1 in (
      omega arith,
      rw (b, is.1) (part-part s.bits from len off n (omega arith)),
    )

other_slot : (cells : List (Option Cell)) (own : Option ℕ) (s : Seen) (m : ℕ) → (own ≡ Some m → ⊥) → cell_at (with_room cells own s) m ≡ cell_at cells m
other_slot cells None s m other = refl
other_slot cells (Some own) s m other = filled_others cells own s m (λ e. other (ap Some (sym e)))

pub other_part : (cells : List (Option Cell)) (own : Option ℕ) (s : Seen) (of : BitRef) → IsOther own of → Valid (with_room cells own s) of → Valid cells of × (shown cells of ≡ shown (with_room cells own s) of)
other_part cells own s (Small bits) other valid = (valid, refl)
other_part cells own s (Part m from len) other valid =
    let e = other_slot cells own s m other in
    (subst (λ slot. IsPart slot from len) e valid, ap (λ (slot : Option Cell). take len (drop from (bits_in slot))) (sym e))

-- ---- pieces, as their references keep what they show
pub piece_kept : (old new : List (Option Cell)) (p : Piece BitRef) → Keeps shown Valid old new → HasPiece (Valid old) p → IsInside (shown old) p →
    HasPiece (Valid new) p × IsInside (shown new) p × (piece_bits (shown new) p ≡ piece_bits (shown old) p)
piece_kept old new (Number value bits endian) k has inside = (tt, tt, refl)
piece_kept old new (Character bytes) k has inside = (tt, tt, refl)
piece_kept old new (Bytes text) k has inside = (tt, tt, refl)
piece_kept old new (PartPiece of off bits) k has inside =
    let h = k of has in
    (h.0, rw h.1 inside, ap (λ (w : List Bool). take bits (drop off w)) h.1)

pub pieces_kept : (old new : List (Option Cell)) (ps : List (Piece BitRef)) → Keeps shown Valid old new → All (HasPiece (Valid old)) ps → All (IsInside (shown old)) ps →
    pieces_bits (shown new) ps ≡ pieces_bits (shown old) ps
pieces_kept old new [] k has inside = refl
pieces_kept old new (p ∷ ps) k has inside =
    let one : piece_bits (shown new) p ≡ piece_bits (shown old) p = (piece_kept old new p k (All-head (HasPiece (Valid old)) p ps has) (All-head (IsInside (shown old)) p ps inside)).2 in
    let rest : pieces_bits (shown new) ps ≡ pieces_bits (shown old) ps = pieces_kept old new ps k (All-tail (HasPiece (Valid old)) p ps has) (All-tail (IsInside (shown old)) p ps inside) in
    ap (λ (w : List Bool). w ++ flat_map (piece_bits (shown new)) ps) one ∙ ap (λ (w : List Bool). piece_bits (shown old) p ++ w) rest

-- ---- the ledger
pub ticks_more : (first before now m n k : ℕ) → before ≡ ticked first m → now ≡ ticked before n → k ≡ m + n → now ≡ ticked first k
ticks_more first before now m n k a b e = omega arith

-- all bits of bytes, read from their front
pub whole-bits : (bytes : List ℕ) (bits : List Bool) → bits ≡ bit_list bytes 0 (8 * length bytes) → bits ≡ all_bits bytes
unfolding all_bits
whole-bits bytes bits e = e

-- ---- one piece of several, as the room stands when its turn comes
module _ (cells : List (Option Cell)) (own : Option ℕ) (s t : Seen) (ps : List (Piece BitRef)) (i : ℕ) (p : Piece BitRef) (h : i < length ps) (is : p ≡ get_or ps i p)
    (there : IsThere cells own) (has : All (HasPiece (Valid (with_room cells own s))) ps) (inside : All (IsInside (shown (with_room cells own s))) ps)
    (bits : t.bits ≡ s.bits ++ pieces_bits (shown (with_room cells own s)) (take i ps)) where
  pub turn_kept : HasPiece (Valid (with_room cells own t)) p × IsInside (shown (with_room cells own t)) p × (piece_bits (shown (with_room cells own t)) p ≡ piece_bits (shown (with_room cells own s)) p)
  turn_kept =
      piece_kept (with_room cells own s) (with_room cells own t) p (room_keeps cells own s t (pieces_bits (shown (with_room cells own s)) (take i ps)) there bits)
      (item_has ps i p h is (HasPiece (Valid (with_room cells own s))) has) (item_has ps i p h is (IsInside (shown (with_room cells own s))) inside)

  pub turn_fits : length t.bits + length (piece_bits (shown (with_room cells own t)) p) ≤ length s.bits + length (pieces_bits (shown (with_room cells own s)) ps)
  turn_fits =
      let same : length (piece_bits (shown (with_room cells own t)) p) ≡ length (piece_bits (shown (with_room cells own s)) p) = ap length turn_kept.2 in
      let so_far : length t.bits ≡ length s.bits + length (pieces_bits (shown (with_room cells own s)) (take i ps)) = ap length bits ∙ length-append s.bits (pieces_bits (shown (with_room cells own s)) (take i ps)) in
      let next = fits_next ps i p h is (piece_bits (shown (with_room cells own s))) in
      omega (arith, same, so_far, next)

  pub turn_bits : (u : Seen) → u.bits ≡ t.bits ++ piece_bits (shown (with_room cells own t)) p → u.bits ≡ s.bits ++ pieces_bits (shown (with_room cells own s)) (take (i + 1) ps)
  turn_bits u e =
      e ∙ ap (λ (w : List Bool). w ++ piece_bits (shown (with_room cells own t)) p) bits
      ∙ ap (λ (w : List Bool). (s.bits ++ pieces_bits (shown (with_room cells own s)) (take i ps)) ++ w) turn_kept.2
      ∙ joined_next ps i p h is (piece_bits (shown (with_room cells own s))) s.bits

  pub turn_ticks : (first before now : ℕ) → before ≡ ticked first (length (pieces_bits (shown (with_room cells own s)) (take i ps))) → now ≡ ticked before (length (piece_bits (shown (with_room cells own t)) p)) →
      now ≡ ticked first (length (pieces_bits (shown (with_room cells own s)) (take (i + 1) ps)))
  turn_ticks first before now a b =
      let same : length (piece_bits (shown (with_room cells own t)) p) ≡ length (piece_bits (shown (with_room cells own s)) p) = ap length turn_kept.2 in
      let more = more_bits ps i p h is (piece_bits (shown (with_room cells own s))) in
      ticks_more first before now (length (pieces_bits (shown (with_room cells own s)) (take i ps))) (length (piece_bits (shown (with_room cells own t)) p)) (length (pieces_bits (shown (with_room cells own s)) (take (i + 1) ps))) a b (omega (arith, same, more))
