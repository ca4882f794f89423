-- What appends to one accumulator move.
use Rattle.std.proofs.Common.{◌≡◌, ℕ, ◌+◌, ◌-◌, ◌*◌, ◌/◌, ◌<◌, ◌≤◌, List, [], ◌∷◌, ◌++◌, length, drop, take, max, sum, Option, Some, None, IsSomeAnd, refl, ap, sym, subst, ◌∙◌, inl, inr, arith}
use Rattle.std.proofs.lemmas.Bool.{cases_lt}
use Rattle.std.proofs.lemmas.List.Sums.{sum_by_push}
use Rattle.bits_value.specs.Ledger.{ticked}
use Rattle.write_room.specs.Rooms.{Seen, HasTaken, IsTight, spare_of, grown_bytes}
use Rattle.off_heap.specs.declared.cell.Cell.{Cell}
use Rattle.off_heap.specs.declared.cell.Storage.{Storage}
use Rattle.off_heap.specs.declared.cell.Storage.TheVariants.{Room, Still}
use Rattle.off_heap.specs.declared.reference.BitRef.{BitRef}
use Rattle.off_heap.specs.declared.reference.BitRef.TheVariants.{Small, Part}
use Rattle.off_heap.specs.Cells.{Contents, cell_at, bits_in, stored_bits, shown, Latest, IsLatest, IsRoom, room_of, room_in, room_under}
use Rattle.off_heap.specs.Accumulators.{IsAppend, Accumulates, AccumulatorsMoveFew}
use Rattle.off_heap.proofs.Kept.{latest_whole}

-- a latest reference shows all bits of its room
room_long : (slot : Option Cell) (off len : ℕ) → IsSomeAnd slot (λ c. IsLatest c off len) → length (room_in slot).bits ≡ length (bits_in slot)
room_long None off len h = absurd h
room_long (Some c) off len h = storage_long c.storage h.room
  where
    storage_long : (s : Storage) → IsRoom s → length (room_of s).bits ≡ length (stored_bits s)
    storage_long (Room room) h = refl
    storage_long (Still bits) h = absurd h

latest_long : (cells : List (Option Cell)) (of : BitRef) → Latest cells of → length (room_under cells of).bits ≡ length (shown cells of)
latest_long cells (Small bits) h = absurd h
latest_long cells (Part n off len) h = let w = latest_whole (cell_at cells n) off len h in room_long (cell_at cells n) off len h ∙ ap length (sym w.shows)

-- a room that an accumulator has after appends that moved so many bits
record IsPaid (room : Seen) (used moved : ℕ) : Type 0 where
  long : length room.bits ≡ used
  tight : IsTight room
  few : moved ≤ room.size + used

paid_first : (room : Seen) (used before later : ℕ) → length room.bits ≡ used → room.size ≡ 8 * grown_bytes used → later ≡ ticked before used → IsPaid room used (later - before)
paid_first room used before later l s t = record { long = l; tight = omega arith; few = omega arith }

paid_next : (old new : Seen) (used moved before later count : ℕ) → IsPaid old used moved → HasTaken old new before later count → length new.bits ≡ used + count → IsPaid new (used + count) (moved + (later - before))
paid_next old new used moved before later count p h l =
    let o = p.long in
    let t = p.tight in
    let f = p.few in
    elim (cases_lt (spare_of old) count) [
      | inl g ↦ (let s = h.grown g in let k = h.ticks_grown g in record { long = l; tight = omega arith; few = omega arith })
      | inr g ↦ (let s = h.in_place g in let k = h.ticks_in_place g in record { long = l; tight = omega arith; few = omega arith })
    ]

accumulated : (start : ℕ) (counts : List ℕ) (new : Contents) (made : BitRef) (moved : ℕ) → Accumulates start counts new made moved → IsPaid (room_under new.cells made) (start + sum counts) moved × (length (shown new.cells made) ≡ start + sum counts)
accumulated start _ _ _ _ (Accumulates.first old new to made before later count a new_room s) =
    let l = a.long in
    let one : sum (count ∷ []) ≡ count = omega (arith, sum_by_push (λ (n : ℕ). n) [] count) in
    let used : length (shown new.cells made) ≡ start + sum (count ∷ []) = omega arith in (
      paid_first (room_under new.cells made) (start + sum (count ∷ [])) before later (latest_long new.cells made a.latest ∙ used)
          (a.new_size new_room ∙ ap (λ (n : ℕ). 8 * grown_bytes n) used) (a.moved_to_new new_room ∙ ap (ticked before) used),
      used,
    )
accumulated start _ _ _ _ (Accumulates.next counts left old new to made moved before later count before_it latest same a) =
    let p = accumulated start counts left to moved before_it in
    let total = sum_by_push (λ (n : ℕ). n) counts count in
    let old_long : length (shown old.cells to) ≡ start + sum counts = sym (latest_long old.cells to latest) ∙ ap (λ (room : Seen). length room.bits) same ∙ p.0.long in
    let l = a.long in
    let used : length (shown new.cells made) ≡ (start + sum counts) + count = omega arith in
    let e : (start + sum counts) + count ≡ start + sum (counts ++ count ∷ []) = omega arith in (
      subst (λ (n : ℕ). IsPaid (room_under new.cells made) n (moved + (later - before))) e
          (paid_next (room_under old.cells to) (room_under new.cells made) (start + sum counts) moved before later count
          (subst (λ (room : Seen). IsPaid room (start + sum counts) moved) (sym same) p.0) (a.moved_in_place latest) (latest_long new.cells made a.latest ∙ used)),
      used ∙ e,
    )

pub accumulators_move_few : AccumulatorsMoveFew
accumulators_move_few start counts new made moved h =
    let p = (accumulated start counts new made moved h).0 in
    let l = p.long in
    let t = p.tight in
    let f = p.few in
    omega arith
