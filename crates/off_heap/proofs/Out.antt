-- A room that was taken out of its cell, took bits, and was put back.
use Rattle.std.proofs.Common.{◌≡◌, ℕ, ◌+◌, ◌*◌, ◌≤◌, ◌<◌, Bool, List, [], ◌++◌, length, set, Option, Some, None, IsSome, IsSomeAnd, is_some, All, refl, ap, sym, subst, ◌∙◌, inl, inr, arith, get_or}
use Rattle.std.proofs.lemmas.Bool.{cases_eq, cases_lt}
use Rattle.std.proofs.lemmas.List.{append-nil, set-set, set-get_or}
use Rattle.bits_value.specs.Ledger.{ticked}
use Rattle.bits_value.specs.declared.TheConstants.{MAX_BITS}
use Rattle.bit_store.specs.Pieces.{pieces_bits, HasPiece, IsInside}
use Rattle.bit_store.specs.Stores.{Keeps, RoseBy}
use Rattle.bit_store.specs.declared.piece.Piece.{Piece}
use Rattle.write_room.specs.Rooms.{Seen, spare_of, grown_bytes, HasTaken, CauseOf, IsTight, Takes}
use Rattle.write_room.specs.declared.RoomFault.{RoomFault}
use Rattle.write_room.specs.declared.RoomFault.TheVariants.{TooLong, NoMemory}
use Rattle.write_room.proofs.Takes.{tight_all}
use Rattle.off_heap.specs.declared.cell.Cell.{Cell}
use Rattle.off_heap.specs.declared.reference.BitRef.{BitRef}
use Rattle.off_heap.specs.Cells.{cell_at, bits_in, room_in, Valid, shown, IsRoom, IsLatest}
use Rattle.off_heap.specs.Writing.{holding, fill, filled, HasExtended}
use Rattle.off_heap.proofs.Slots.{here, the_cell}
use Rattle.off_heap.proofs.Written.{filled_at, filled_bits, filled_others, room_keeps, piece_kept, pieces_kept}

-- the cells, where one cell's room was taken out and another cell stands for it
pub refilled : (cells : List (Option Cell)) (n : ℕ) (c d : Cell) (room : Seen) → cell_at cells n ≡ Some c → c ≡ holding d room → cells ≡ filled (set cells n (Some d)) n room
refilled cells n c d room at e =
    let now : cell_at (set cells n (Some d)) n ≡ Some d = here cells n c d at in
    let same : cells ≡ set cells n (Some c) = sym (ap (set cells n) (sym at) ∙ set-get_or cells n None) in
    same ∙ ap (λ (x : Cell). set cells n (Some x)) e ∙ sym (ap (λ (slot : Option Cell). set (set cells n (Some d)) n (fill slot room)) now ∙ set-set cells n (Some d) (Some (holding d room)))

pub some-filled : (cells : List (Option Cell)) (own : ℕ) (s : Seen) → IsSome (cell_at cells own) → (m : ℕ) → is_some (cell_at (filled cells own s) m) ≡ is_some (cell_at cells m)
some-filled cells own s some m =
    let (c, at) = the_cell (cell_at cells own) some in
    elim (cases_eq m own) [
      | inl same ↦ rw (same, filled_at cells own c s at, at) refl
      | inr other ↦ ap is_some (filled_others cells own s m other)
    ]

room_is : (slot : Option Cell) → IsSomeAnd slot (λ c. IsRoom c.storage) → IsSome slot
room_is None h = absurd h
room_is (Some c) h = refl

pub cause_is_spare : (room : Seen) (count : ℕ) (fault : RoomFault) → length room.bits + count ≤ MAX_BITS → CauseOf room count fault → spare_of room < count
cause_is_spare room count TooLong short h = absurd (omega arith)
cause_is_spare room count NoMemory short h = h

-- ---- a room that made space and then took bits
module _ (s r t : Seen) (first mid now count : ℕ) (short : length s.bits + count ≤ MAX_BITS) (size : t.size ≡ r.size) (ticks : now ≡ ticked mid count)
    (in_place : count ≤ spare_of s → r.size ≡ s.size) (still_there : count ≤ spare_of s → mid ≡ first)
    (grown : spare_of s < count → r.size ≡ 8 * grown_bytes (length s.bits + count)) (copied : spare_of s < count → mid ≡ ticked first (length s.bits)) where
  pub taken_by : HasTaken s t first now count
  taken_by = record {
    short = short;
    in_place = λ g. size ∙ in_place g;
    ticks_in_place = λ g. ticks ∙ ap (λ (m : ℕ). ticked m count) (still_there g);
    grown = λ g. size ∙ grown g;
    ticks_grown = λ g. (let e = copied g in omega arith);
  }

pub tight_on : (s t : Seen) (first now : ℕ) (added : List Bool) → t.bits ≡ s.bits ++ added → HasTaken s t first now (length added) → IsTight s → IsTight t
tight_on s t first now added e h k = tight_all s t first now (Takes.and_then s t t first now now added e h (Takes.none t now)) k

pub taken_rose : (s t : Seen) (first now count n : ℕ) → HasTaken s t first now count → n ≡ length s.bits + count → RoseBy n first now
taken_rose s t first now count n h e = elim (cases_lt (spare_of s) count) [
  | inl g ↦ (length s.bits + count, (omega arith, h.ticks_grown g))
  | inr g ↦ (count, (omega arith, h.ticks_in_place g))
]

-- ---- the heap while a room is out
module _ (cells hole : List (Option Cell)) (own : ℕ) (s : Seen) (back : cells ≡ filled hole own s) (there : IsSome (cell_at hole own)) where
  pub out_bits : bits_in (cell_at cells own) ≡ s.bits
  out_bits = ap (λ (c : List (Option Cell)). bits_in (cell_at c own)) back ∙ filled_bits hole own s there

  pub out_room : room_in (cell_at cells own) ≡ s
  out_room = let (c, at) = the_cell (cell_at hole own) there in ap (λ (k : List (Option Cell)). room_in (cell_at k own)) back ∙ ap room_in (filled_at hole own c s at)

  pub in_room : (t : Seen) → room_in (cell_at (filled hole own t) own) ≡ t
  in_room t = let (c, at) = the_cell (cell_at hole own) there in ap room_in (filled_at hole own c t at)

  pub out_keeps : (t : Seen) (added : List Bool) → t.bits ≡ s.bits ++ added → Keeps shown Valid cells (filled hole own t)
  out_keeps t added e = subst (λ (k : List (Option Cell)). Keeps shown Valid k (filled hole own t)) (sym back) (room_keeps hole (Some own) s t added there e)

  pub out_extended : (t : Seen) (added : List Bool) → t.bits ≡ s.bits ++ added → HasExtended cells (filled hole own t) own added
  out_extended t added e =
      let (c, at) = the_cell (cell_at hole own) there in
      let before : cell_at cells own ≡ Some (holding c s) = ap (λ (k : List (Option Cell)). cell_at k own) back ∙ filled_at hole own c s at in
      record {
        bits = filled_bits hole own t there ∙ e ∙ ap (λ (w : List Bool). w ++ added) (sym out_bits);
        cell = rw (before, filled_at hole own c t at) (tt, refl);
        others = λ m other. filled_others hole own t m other ∙ sym (ap (λ (k : List (Option Cell)). cell_at k m) back ∙ filled_others hole own s m other);
        numbers = λ m. some-filled hole own t there m ∙ sym (ap (λ (k : List (Option Cell)). is_some (cell_at k m)) back ∙ some-filled hole own s there m);
      }

  -- pieces, as the room stands with the space that it made
  module _ (r : Seen) (same : r.bits ≡ s.bits) (ps : List (Piece BitRef)) (has : All (HasPiece (Valid cells)) ps) (inside : All (IsInside (shown cells)) ps) where
    kept : Keeps shown Valid cells (filled hole own r)
    kept = out_keeps r [] (same ∙ sym (append-nil s.bits))

    pub ready_valid : All (HasPiece (Valid (filled hole own r))) ps
    ready_valid = λ i p h. (piece_kept cells (filled hole own r) (get_or ps i p) kept (has i p h) (inside i p h)).0

    pub ready_inside : All (IsInside (shown (filled hole own r))) ps
    ready_inside = λ i p h. (piece_kept cells (filled hole own r) (get_or ps i p) kept (has i p h) (inside i p h)).1

    pub ready_bits : pieces_bits (shown (filled hole own r)) ps ≡ pieces_bits (shown cells) ps
    ready_bits = pieces_kept cells (filled hole own r) ps kept has inside

    pub ready_added : (t : Seen) → t.bits ≡ r.bits ++ pieces_bits (shown (filled hole own r)) ps → t.bits ≡ s.bits ++ pieces_bits (shown cells) ps
    ready_added t e = e ∙ ap (λ (w : List Bool). w ++ pieces_bits (shown (filled hole own r)) ps) same ∙ ap (λ (w : List Bool). s.bits ++ w) ready_bits

-- ---- the reference that names all of a room
pub extended_latest : (old new : List (Option Cell)) (own : ℕ) (added : List Bool) (off len : ℕ) → HasExtended old new own added → IsSomeAnd (cell_at old own) (λ c. IsLatest c off len) →
    IsSomeAnd (cell_at new own) (λ c. IsLatest c 0 (length (bits_in (cell_at new own))))
extended_latest old new own added off len h latest = by_slots (cell_at old own) (cell_at new own) off len h.cell latest
  where
    by_slots : (a b : Option Cell) (off len : ℕ) → IsSomeAnd a (λ before. IsSomeAnd b (λ after. IsRoom after.storage × (after.noted ≡ before.noted))) → IsSomeAnd a (λ c. IsLatest c off len) → IsSomeAnd b (λ c. IsLatest c 0 (length (bits_in b)))
    by_slots None b off len h l = absurd h
    by_slots (Some a) None off len h l = absurd h
    by_slots (Some a) (Some b) off len h l = record { room = h.0; free = h.1 ∙ l.free; start = refl; whole = refl }

-- ---- all of it together: taken out, space made, written and put back
module _ (cells hole : List (Option Cell)) (own : ℕ) (s r t : Seen) (first mid now count : ℕ) (ps : List (Piece BitRef)) (back : cells ≡ filled hole own s) (there : IsSome (cell_at hole own))
    (has : All (HasPiece (Valid cells)) ps) (inside : All (IsInside (shown cells)) ps) (is : count ≡ length (pieces_bits (shown cells) ps)) (same : r.bits ≡ s.bits)
    (bits : t.bits ≡ r.bits ++ pieces_bits (shown (filled hole own r)) ps) (size : t.size ≡ r.size) (ticks : now ≡ ticked mid (length (pieces_bits (shown (filled hole own r)) ps)))
    (short : length s.bits + count ≤ MAX_BITS) (in_place : count ≤ spare_of s → r.size ≡ s.size) (still_there : count ≤ spare_of s → mid ≡ first)
    (grown : spare_of s < count → r.size ≡ 8 * grown_bytes (length s.bits + count)) (copied : spare_of s < count → mid ≡ ticked first (length s.bits)) where
  whole_bits : t.bits ≡ s.bits ++ pieces_bits (shown cells) ps
  whole_bits = ready_added cells hole own s back there r same ps has inside t bits

  whole_taken : HasTaken s t first now count
  whole_taken =
      let e : length (pieces_bits (shown (filled hole own r)) ps) ≡ count = ap length (ready_bits cells hole own s back there r same ps has inside) ∙ sym is in
      taken_by s r t first mid now count short size (ticks ∙ ap (ticked mid) e) in_place still_there grown copied

  pub whole_tight : IsTight s → IsTight t
  whole_tight k = tight_on s t first now (pieces_bits (shown cells) ps) whole_bits (subst (HasTaken s t first now) is whole_taken) k

  pub whole_keeps : Keeps shown Valid cells (filled hole own t)
  whole_keeps = out_keeps cells hole own s back there t (pieces_bits (shown cells) ps) whole_bits

  pub whole_extended : HasExtended cells (filled hole own t) own (pieces_bits (shown cells) ps)
  whole_extended = out_extended cells hole own s back there t (pieces_bits (shown cells) ps) whole_bits

  pub whole_room : HasTaken (room_in (cell_at cells own)) (room_in (cell_at (filled hole own t) own)) first now count
  whole_room = rw (out_room cells hole own s back there, in_room cells hole own s back there t) whole_taken
