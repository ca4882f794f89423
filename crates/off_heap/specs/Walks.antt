-- Walks along the list of cells (this project's own). No public clause speaks of them.
use Rattle.std.specs.Prelude.{◌≡◌, ℕ, ◌<◌, ◌^◌, Bool, true, false, List, ◌⊎◌, length, Option, Some, None, IsSome}
use Rattle.off_heap.specs.declared.cell.Cell.{Cell}
use Rattle.off_heap.specs.declared.sweeping.Leaves.{Leaves}
use Rattle.off_heap.specs.declared.sweeping.Leaves.TheVariants.{All, Marked, Nothing}
use Rattle.off_heap.specs.Cells.{cell_at, HasNoMark}
use Rattle.off_heap.specs.Lists.{Linked, In, Distinct}

-- whether a walk leaves the cell
abbrev pub is_left : Leaves → Cell → Bool
is_left All cell = true
is_left Marked cell = cell.marked
is_left Nothing cell = false

-- the cell stays without its mark, or is given up
abbrev pub WalkedCell : Leaves → Option Cell → Option Cell → Type 0
WalkedCell leaves None new = new ≡ None
WalkedCell leaves (Some cell) new = (is_left leaves cell ≡ true → HasNoMark cell new) × (is_left leaves cell ≡ false → new ≡ None)

-- halfway: the cells from `head` on were left, and those from `at` on are still to be looked at
pub record Walking (leaves : Leaves) (first cells : List (Option Cell)) (head at kept_count rest_count : ℕ) : Type 0 where
  pub kept : List ℕ
  pub rest : List ℕ
  pub kept_counted : length kept ≡ kept_count
  pub rest_counted : length rest ≡ rest_count
  pub kept_linked : Linked cells head kept
  pub rest_linked : Linked cells at rest
  pub kept_distinct : Distinct kept
  pub rest_distinct : Distinct rest
  pub apart : (n : ℕ) → In n kept → In n rest → ⊥
  pub all : (n : ℕ) → IsSome (cell_at cells n) → In n kept ⊎ In n rest
  pub small : (n : ℕ) → In n kept ⊎ In n rest → n < 2 ^ 31
  pub untouched : (n : ℕ) → In n rest → cell_at cells n ≡ cell_at first n
  pub walked : (n : ℕ) → (In n rest → ⊥) → WalkedCell leaves (cell_at first n) (cell_at cells n)
