-- Rooms that are out of their cells while they are written (this project's own). No public clause speaks of them.
use Rattle.std.specs.Prelude.{◌≡◌, ℕ, Bool, List, ◌++◌, Option, Some, None, IsSome, IsSomeAnd, slice_set}
use Rattle.write_room.specs.Rooms.{Seen}
use Rattle.off_heap.specs.declared.cell.Cell.{Cell}
use Rattle.off_heap.specs.declared.cell.Storage.TheVariants.{Room}
use Rattle.off_heap.specs.declared.reference.BitRef.{BitRef}
use Rattle.off_heap.specs.declared.reference.BitRef.TheVariants.{Small, Part}
use Rattle.off_heap.specs.Cells.{cell_at, bits_in, IsRoom, OnlyCell, SameNumbers}

abbrev pub holding : Cell → Seen → Cell
holding cell room = record cell { storage = Room room }

-- a cell with this room
abbrev pub fill : Option Cell → Seen → Option Cell
fill None room = None
fill (Some cell) room = Some (holding cell room)

-- the cells, where this number's cell has its room again
abbrev pub filled : List (Option Cell) → ℕ → Seen → List (Option Cell)
filled cells own room = slice_set cells own (fill (cell_at cells own) room)

-- the same for a room that is out of its cell, and for one that has none
abbrev pub with_room : List (Option Cell) → Option ℕ → Seen → List (Option Cell)
with_room cells None room = cells
with_room cells (Some own) room = filled cells own room

abbrev pub IsThere : List (Option Cell) → Option ℕ → Type 0
IsThere cells None = Unit {0}
IsThere cells (Some own) = IsSome (cell_at cells own)

-- a reference is to the room's own cell, and begins here in it
abbrev pub IsOwn : Option ℕ → BitRef → ℕ → Type 0
IsOwn own (Small bits) start = ⊥
IsOwn own (Part n off len) start = (own ≡ Some n) × (start ≡ off)

abbrev pub IsOther : Option ℕ → BitRef → Type 0
IsOther own (Small bits) = Unit {0}
IsOther own (Part n off len) = own ≡ Some n → ⊥

-- a cell's room took these bits; every other cell is as it was, and no cell came or went
pub record HasExtended (old new : List (Option Cell)) (own : ℕ) (added : List Bool) : Type 0 where
  pub bits : bits_in (cell_at new own) ≡ bits_in (cell_at old own) ++ added
  pub cell : IsSomeAnd (cell_at old own) (λ before. IsSomeAnd (cell_at new own) (λ after. IsRoom after.storage × (after.noted ≡ before.noted)))
  pub others : OnlyCell own old new
  pub numbers : SameNumbers old new
