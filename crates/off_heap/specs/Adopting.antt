-- Cells that are put in front of a heap's list for a parcel's pieces, and terms made of its nodes (this project's own). No public
-- clause speaks of them.
use Rattle.std.specs.Prelude.{◌≡◌, ℕ, ◌+◌, Bool, List, [], ◌∷◌, length, map, reverse, All, Option, None, IsSomeAnd}
use Rattle.bit_store.specs.Stores.{AnyAtom}
use Rattle.term_value.specs.Terms.{value_of, IsOver}
use Rattle.term_value.specs.Value.{Value}
use Rattle.term_value.specs.declared.term.Term.{Term}
use Rattle.off_heap.specs.declared.cell.Cell.{Cell}
use Rattle.off_heap.specs.declared.cell.Storage.TheVariants.{Still}
use Rattle.off_heap.specs.declared.parcel.Node.{Node}
use Rattle.off_heap.specs.declared.reference.BitRef.{BitRef}
use Rattle.off_heap.specs.Cells.{Contents, IsSame, cell_at, count_of, Valid, shown, OnlyCell}
use Rattle.off_heap.specs.Parcels.{node_value, values_left, pieces_left}

-- a still cell of these bits
abbrev pub IsStillOf : Option Cell → List Bool → Type 0
IsStillOf slot bits = IsSomeAnd slot (λ cell. cell.storage ≡ Still bits)

-- a still cell of these bits came in front of the list
pub record IsAdded (old new : Contents) (bits : List Bool) : Type 0 where
  pub vacant : cell_at old.cells new.head ≡ None
  pub here : IsSomeAnd (cell_at new.cells new.head) (λ cell. (cell.storage ≡ Still bits) × (cell.next ≡ old.head))
  pub others : OnlyCell new.head old.cells new.cells
  pub more : count_of new.cells ≡ count_of old.cells + 1
  pub swept : new.swept ≡ old.swept

-- still cells of these parts stand in front of the old list, the first in front
pub data InFront : Contents → List (List Bool) → Contents → Type 0 where
  none : (old new : Contents) → IsSame old new → InFront old [] new
  one : (old mid new : Contents) (bits : List Bool) (parts : List (List Bool)) → InFront old parts mid → IsAdded mid new bits → InFront old (bits ∷ parts) new

-- what the places show, the last first
abbrev pub queue : List (Option Cell) → List BitRef → List (List Bool)
queue cells places = map (shown cells) (reverse places)

pub record HasPlaced (old new : Contents) (places : List BitRef) (parts : List (List Bool)) : Type 0 where
  pub front : InFront old parts new
  pub valid : All (Valid new.cells) places
  pub shows : queue new.cells places ≡ parts
  pub cells : count_of new.cells ≡ count_of old.cells + length parts

abbrev pub values_of : List (Option Cell) → List (Term BitRef) → List Value
values_of cells terms = map (value_of (shown cells)) terms

-- the term of a node, made of the last places and the last terms
pub record HasMade (cells : List (Option Cell)) (node : Node) (places : List BitRef) (stack : List (Term BitRef)) (places_left : List BitRef) (stack_left : List (Term BitRef)) (term : Term BitRef) : Type 0 where
  pub valid : All (Valid cells) places_left
  pub queued : queue cells places_left ≡ pieces_left node (queue cells places)
  pub known : All (IsOver (Valid cells) AnyAtom) stack_left
  pub values : values_of cells stack_left ≡ values_left node (values_of cells stack)
  pub over : IsOver (Valid cells) AnyAtom term
  pub value : value_of (shown cells) term ≡ node_value node (queue cells places) (values_of cells stack)
