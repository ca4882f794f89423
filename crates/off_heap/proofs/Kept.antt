-- What an edit of one cell keeps.
use Rattle.std.proofs.Common.{◌≡◌, ℕ, ◌+◌, ◌≤◌, Bool, List, [], ◌++◌, length, set, take, drop, Option, Some, None, IsSome, IsSomeAnd, is_some, true, refl, ap, sym, subst, ◌∙◌, inl, inr, arith}
use Rattle.std.proofs.lemmas.Bool.{cases_eq}
use Rattle.std.proofs.lemmas.List.{take-append-le, drop-append-le, length-drop, length-append, append-nil, take_all}
use Rattle.bit_store.specs.Stores.{Keeps}
use Rattle.bit_store.proofs.Lengths.{length-part, part-part}
use Rattle.off_heap.specs.declared.cell.Cell.{Cell}
use Rattle.off_heap.specs.declared.reference.BitRef.TheVariants.{Small, Part}
use Rattle.off_heap.specs.Cells.{cell_at, bits_in, stored_bits, IsPart, Valid, shown, IsLatest, OnlyCell}
use Rattle.off_heap.proofs.Slots.{here, elsewhere}

-- the bits of one slot stand at the front of another's
pub record GoesOn (old new : Option Cell) : Type 0 where
  pub there : IsSome old → IsSome new
  pub extra : List Bool
  pub bits : bits_in new ≡ bits_in old ++ extra

cut_kept : (bits extra : List Bool) (off len : ℕ) → off + len ≤ length bits → take len (drop off (bits ++ extra)) ≡ take len (drop off bits)
cut_kept bits extra off len h =
    let d = length-drop off bits in
    let inside : len ≤ length (drop off bits) = omega arith in
    let before : off ≤ length bits = omega arith in
    rw (drop-append-le off bits extra before) (take-append-le len (drop off bits) extra inside)

part_kept : (old new : Option Cell) (off len : ℕ) → GoesOn old new → IsPart old off len → IsPart new off len × (take len (drop off (bits_in new)) ≡ take len (drop off (bits_in old)))
part_kept old new off len on part =
    let l = length-append (bits_in old) on.extra in
    let m : length (bits_in new) ≡ length (bits_in old ++ on.extra) = ap length on.bits in
    let inside = part.inside in (
      record { there = on.there part.there; inside = omega arith; short = part.short },
      rw on.bits (cut_kept (bits_in old) on.extra off len part.inside),
    )

pub keeps_all : (old new : List (Option Cell)) → ((n : ℕ) → GoesOn (cell_at old n) (cell_at new n)) → Keeps shown Valid old new
keeps_all old new on (Small bits) h = (h, refl)
keeps_all old new on (Part n off len) h = part_kept (cell_at old n) (cell_at new n) off len (on n) h

pub goes_on_same : (old new : Option Cell) → new ≡ old → GoesOn old new
goes_on_same old new e = record { there = λ h. rw e h; extra = []; bits = ap bits_in e ∙ sym (append-nil (bits_in old)) }

pub goes_on_new : (old new : Option Cell) → old ≡ None → GoesOn old new
goes_on_new old new e = record { there = λ h. absurd (absent old e h); extra = bits_in new; bits = sym (ap (λ (slot : Option Cell). bits_in slot ++ bits_in new) e) }
  where
    absent : (slot : Option Cell) → slot ≡ None → IsSome slot → ⊥
    absent None e h = let f : is_some {T = Cell} None ≡ true = h in cc
    absent (Some c) e h = cc

pub keeps_one : (old new : List (Option Cell)) (n : ℕ) → OnlyCell n old new → GoesOn (cell_at old n) (cell_at new n) → Keeps shown Valid old new
keeps_one old new n others on = keeps_all old new (λ m. elim (cases_eq m n) [
  | inl same ↦ subst (λ k. GoesOn (cell_at old k) (cell_at new k)) (sym same) on
  | inr other ↦ goes_on_same (cell_at old m) (cell_at new m) (others m other)
])

-- a cell came under a vacant number
pub keeps_new : (old new : List (Option Cell)) (n : ℕ) → OnlyCell n old new → cell_at old n ≡ None → Keeps shown Valid old new
keeps_new old new n others vacant = keeps_one old new n others (goes_on_new (cell_at old n) (cell_at new n) vacant)

-- a write over a cell whose bits go on
pub keeps_set : (cells : List (Option Cell)) (n : ℕ) (c d : Cell) (extra : List Bool) → cell_at cells n ≡ Some c → stored_bits d.storage ≡ stored_bits c.storage ++ extra → Keeps shown Valid cells (set cells n (Some d))
keeps_set cells n c d extra at e =
    keeps_one cells (set cells n (Some d)) n (λ m other. elsewhere cells n m (Some d) other)
    (rw (at, here cells n c d at) (record { there = λ h. refl; extra = extra; bits = e }))

-- ---- parts of parts
pub part-inside : (slot : Option Cell) (off len o n : ℕ) → IsPart slot off len → o + n ≤ length (take len (drop off (bits_in slot))) → IsPart slot (off + o) n × (take n (drop (off + o) (bits_in slot)) ≡ take n (drop o (take len (drop off (bits_in slot)))))
part-inside slot off len o n part h =
    let l : length (take len (drop off (bits_in slot))) ≡ len = length-part (bits_in slot) off len part.inside in
    let i = part.inside in
    let s = part.short in
    let k : o + n ≤ len = omega arith in (
      record { there = part.there; inside = omega arith; short = omega arith },
      part-part (bits_in slot) off len o n k,
    )

-- ---- the latest result
pub record Whole (slot : Option Cell) (off len : ℕ) : Type 0 where
  pub shows : take len (drop off (bits_in slot)) ≡ bits_in slot
  pub start : off ≡ 0
  pub size : len ≡ length (bits_in slot)

pub latest_whole : (slot : Option Cell) (off len : ℕ) → IsSomeAnd slot (λ c. IsLatest c off len) → Whole slot off len
latest_whole None off len h = absurd h
latest_whole (Some c) off len h = record {
  shows = rw (h.start, h.whole) (take_all (length (stored_bits c.storage)) (stored_bits c.storage) (omega arith));
  start = h.start;
  size = h.whole;
}
