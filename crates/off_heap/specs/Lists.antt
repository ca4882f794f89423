-- The list of a heap's cells, which numbers inside them link (this project's own). No public clause speaks of it.
use Rattle.std.specs.Prelude.{◌≡◌, ℕ, ◌≤◌, ◌<◌, ◌^◌, List, [], ◌∷◌, ◌⊎◌, length, Option, IsSome, IsSomeAnd}
use Rattle.off_heap.specs.declared.cell.Cell.{Cell}
use Rattle.off_heap.specs.Cells.{cell_at, count_of, AllTight}

-- past the last cell of the list
abbrev pub end_of_list : ℕ
end_of_list = 4_294_967_295

-- these numbers follow one another from `head` on, and the last is followed by nothing
abbrev pub Linked : List (Option Cell) → ℕ → List ℕ → Type 0
Linked cells head [] = head ≡ end_of_list
Linked cells head (n ∷ ns) = (head ≡ n) × IsSomeAnd (cell_at cells n) (λ cell. Linked cells cell.next ns)

abbrev pub In : ℕ → List ℕ → Type 0
In n [] = ⊥
In n (m ∷ ms) = (n ≡ m) ⊎ In n ms

abbrev pub Distinct : List ℕ → Type 0
Distinct [] = Unit {0}
Distinct (n ∷ ns) = (In n ns → ⊥) × Distinct ns

-- the list from `head` on has exactly the cells, each once
pub record Chained (cells : List (Option Cell)) (head count : ℕ) : Type 0 where
  pub numbers : List ℕ
  pub counted : length numbers ≡ count
  pub linked : Linked cells head numbers
  pub distinct : Distinct numbers
  pub all : (n : ℕ) → IsSome (cell_at cells n) → In n numbers
  pub small : (n : ℕ) → In n numbers → n < 2 ^ 31

-- what holds of every heap
pub record IsSound (cells : List (Option Cell)) (head count : ℕ) : Type 0 where
  pub chained : Chained cells head count
  pub tight : AllTight cells
  pub total : count_of cells ≡ count
  pub few : count ≤ 2 ^ 31
