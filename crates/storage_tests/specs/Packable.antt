-- Terms of a heap that can go in a parcel.
use Rattle.std.specs.Prelude.{List, Option}
use Rattle.bit_store.specs.Stores.{AnyAtom}
use Rattle.term_value.specs.Terms.{value_of, IsOver}
use Rattle.term_value.specs.declared.term.Term.{Term}
use Rattle.off_heap.specs.declared.cell.Cell.{Cell}
use Rattle.off_heap.specs.declared.reference.BitRef.{BitRef}
use Rattle.off_heap.specs.Cells.{Valid, shown}
use Rattle.off_heap.specs.Parcels.{IsBounded}

-- its references are valid, and its value is within the bounds
abbrev pub IsPackable : List (Option Cell) → Term BitRef → Type 0
IsPackable cells term = IsOver (Valid cells) AnyAtom term × IsBounded (value_of (shown cells) term)
