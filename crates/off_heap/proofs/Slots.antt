-- One slot of a list of cells, and what is written over it.
use Rattle.std.proofs.Common.{◌≡◌, ◌≢◌, ℕ, ◌<◌, List, length, set, Option, Some, None, IsSome, is_some, cond, true, ap, sym, ◌∙◌, refl, inl, inr, arith}
use Rattle.std.proofs.lemmas.Bool.{cases_eq, cases_lt}
use Rattle.std.proofs.lemmas.List.{get_or-set_other, get_or-set_same, get_or_past}
use Rattle.std.proofs.lemmas.List.Sums.{sum_by-set}
use Rattle.off_heap.specs.declared.cell.Cell.{Cell}
use Rattle.off_heap.specs.Cells.{cell_at, count_of}

none-some : {c : Cell} → None ≡ Some c → ⊥
none-some e = cc

pub none-is_some : is_some {T = Cell} None ≡ true → ⊥
none-is_some e = cc

pub within : (cells : List (Option Cell)) (n : ℕ) (c : Cell) → cell_at cells n ≡ Some c → n < length cells
within cells n c at = elim (cases_lt n (length cells)) [
  | inl inside ↦ inside
  | inr past ↦ absurd (none-some (sym (get_or_past cells n None past) ∙ at))
]

pub here : (cells : List (Option Cell)) (n : ℕ) (c d : Cell) → cell_at cells n ≡ Some c → cell_at (set cells n (Some d)) n ≡ Some d
here cells n c d at = get_or-set_same cells n (Some d) None (within cells n c at)

pub elsewhere : (cells : List (Option Cell)) (n m : ℕ) (slot : Option Cell) → m ≢ n → cell_at (set cells n slot) m ≡ cell_at cells m
elsewhere cells n m slot other = get_or-set_other cells n m slot None other

pub the_cell : (slot : Option Cell) → IsSome slot → (c : Cell) × (slot ≡ Some c)
the_cell None h = cc
the_cell (Some c) h = (c, refl)

abbrev count_one : Option Cell → ℕ
count_one slot = cond (is_some slot) 1 0

-- a write over a cell leaves as many cells
pub count-set : (cells : List (Option Cell)) (n : ℕ) (c d : Cell) → cell_at cells n ≡ Some c → count_of (set cells n (Some d)) ≡ count_of cells
count-set cells n c d at =
    let s = sum_by-set count_one cells n (Some d) None (within cells n c at) in
    let now : count_one (cell_at cells n) ≡ count_one (Some c) = ap count_one at in
    omega (arith, s, now)

pub some-set : (cells : List (Option Cell)) (n m : ℕ) (c d : Cell) → cell_at cells n ≡ Some c → is_some (cell_at (set cells n (Some d)) m) ≡ is_some (cell_at cells m)
some-set cells n m c d at = elim (cases_eq m n) [
  | inl same ↦ rw (same, here cells n c d at, at) refl
  | inr other ↦ ap is_some (elsewhere cells n m (Some d) other)
]
