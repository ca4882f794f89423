-- The heap of a process: cells under numbers, and references to parts of their written bits (Erlang Efficiency Guide,
-- "Constructing and Matching Binaries": binary objects, sub binaries, match contexts and appends in place; what is small, and
-- that cells have numbers, is this project's own).
use Rattle.std.specs.Prelude.{◌≡◌, ◌≢◌, ℕ, ◌+◌, ◌≤◌, ◌<◌, Bool, true, false, List, [], length, take, drop, Option, Some, None, is_some, IsSome, IsSomeAnd, count_by, slice_index_or}
use Rattle.bits_value.specs.declared.TheConstants.{MAX_BITS}
use Rattle.bit_store.specs.declared.store.StoreFault.{StoreFault}
use Rattle.bit_store.specs.declared.store.StoreFault.TheVariants.{TooLong, NoMemory}
use Rattle.write_room.specs.Rooms.{Seen, spare_of, IsTight}
use Rattle.off_heap.specs.declared.cell.Cell.{Cell}
use Rattle.off_heap.specs.declared.cell.Storage.{Storage}
use Rattle.off_heap.specs.declared.cell.Storage.TheVariants.{Room, Still}
use Rattle.off_heap.specs.declared.reference.BitRef.{BitRef}
use Rattle.off_heap.specs.declared.reference.BitRef.TheVariants.{Small, Part}

pub record Contents : Type 0 where
  -- what is under each number
  pub cells : List (Option Cell)
  -- the number of the first cell in the list
  pub head : ℕ
  -- how many cells the last sweep left
  pub swept : ℕ

-- the cell of this number
abbrev pub cell_at : List (Option Cell) → ℕ → Option Cell
cell_at cells n = slice_index_or cells n None

abbrev pub count_of : List (Option Cell) → ℕ
count_of cells = count_by is_some cells

-- the written bits of what a cell's bytes lie in
abbrev pub stored_bits : Storage → List Bool
stored_bits (Room room) = room.bits
stored_bits (Still bits) = bits

-- the written bits of this number's cell
abbrev pub bits_in : Option Cell → List Bool
bits_in None = []
bits_in (Some cell) = stored_bits cell.storage

-- `len` bits from `off` on lie within a cell's written bits
pub record IsPart (slot : Option Cell) (off len : ℕ) : Type 0 where
  pub there : IsSome slot
  pub inside : off + len ≤ length (bits_in slot)
  pub short : off + len ≤ MAX_BITS

-- a small reference, or a part within the written bits of a cell that is there
abbrev pub Valid : List (Option Cell) → BitRef → Type 0
Valid cells (Small bits) = length bits ≤ 512
Valid cells (Part n off len) = IsPart (cell_at cells n) off len

-- the bits of a reference
abbrev pub shown : List (Option Cell) → BitRef → List Bool
shown cells (Small bits) = bits
shown cells (Part n off len) = take len (drop off (bits_in (cell_at cells n)))

abbrev pub IsSmall : BitRef → Type 0
IsSmall (Small bits) = Unit {0}
IsSmall (Part n off len) = ⊥

-- ---- rooms
abbrev pub IsRoom : Storage → Type 0
IsRoom (Room room) = Unit {0}
IsRoom (Still bits) = ⊥

-- the bits and the size of a cell's room; what is no room has no size
abbrev pub room_of : Storage → Seen
room_of (Room room) = room
room_of (Still bits) = record { bits = bits; size = 0 }

abbrev pub room_in : Option Cell → Seen
room_in None = record { bits = []; size = 0 }
room_in (Some cell) = room_of cell.storage

-- the room that a reference names
abbrev pub room_under : List (Option Cell) → BitRef → Seen
room_under cells (Small bits) = record { bits = bits; size = 0 }
room_under cells (Part n off len) = room_in (cell_at cells n)

-- a room has no more than twice the bits that are written, and the least room
abbrev pub IsTightIn : Option Cell → Type 0
IsTightIn slot = IsTight (room_in slot)

abbrev pub AllTight : List (Option Cell) → Type 0
AllTight cells = (n : ℕ) → IsTightIn (cell_at cells n)

-- a part is the last result of a room: it has all written bits, and no context was made on the room
pub record IsLatest (cell : Cell) (off len : ℕ) : Type 0 where
  pub room : IsRoom cell.storage
  pub free : cell.noted ≡ false
  pub start : off ≡ 0
  pub whole : len ≡ length (stored_bits cell.storage)

-- the reference is the latest result of a room
abbrev pub Latest : List (Option Cell) → BitRef → Type 0
Latest cells (Small bits) = ⊥
Latest cells (Part n off len) = IsSomeAnd (cell_at cells n) (λ cell. IsLatest cell off len)

-- no reference to the cell of this one is the latest
abbrev pub NoLatest : List (Option Cell) → BitRef → Type 0
NoLatest cells (Small bits) = Unit {0}
NoLatest cells (Part n off len) = (start more : ℕ) → Latest cells (Part n start more) → ⊥

-- the second reference is to the cell of the first, and is the latest result of its room
abbrev pub Grows : List (Option Cell) → BitRef → BitRef → Type 0
Grows cells (Part n off len) (Part m start more) = (m ≡ n) × Latest cells (Part m start more)
Grows cells (Part n off len) (Small bits) = ⊥
Grows cells (Small bits) other = ⊥

-- ---- what calls change
-- the same cells under the same numbers, in the same list
pub record IsSame (old new : Contents) : Type 0 where
  pub cells : (n : ℕ) → cell_at new.cells n ≡ cell_at old.cells n
  pub count : count_of new.cells ≡ count_of old.cells
  pub head : new.head ≡ old.head
  pub swept : new.swept ≡ old.swept

-- every other cell is as it was
abbrev pub OnlyCell : ℕ → List (Option Cell) → List (Option Cell) → Type 0
OnlyCell n old new = (m : ℕ) → m ≢ n → cell_at new m ≡ cell_at old m

-- there are cells under the same numbers
abbrev pub SameNumbers : List (Option Cell) → List (Option Cell) → Type 0
SameNumbers old new = (n : ℕ) → is_some (cell_at new n) ≡ is_some (cell_at old n)

-- the result names the cell and the offset of the reference that was appended to; no cell came, and no other changed
abbrev pub InPlace : List (Option Cell) → List (Option Cell) → BitRef → BitRef → Type 0
InPlace old new (Part n off len) (Part m start more) = (m ≡ n) × (start ≡ off) × OnlyCell n old new × SameNumbers old new
InPlace old new _ _ = ⊥

-- the result begins a cell that wasn't there, and every other cell is as it was
abbrev pub InNewCell : List (Option Cell) → List (Option Cell) → BitRef → Type 0
InNewCell old new (Small bits) = ⊥
InNewCell old new (Part n off len) = (cell_at old n ≡ None) × (off ≡ 0) × OnlyCell n old new

-- why no bits were added to a room: for want of memory only where they are more than the spare ones
abbrev pub RefusesIn : Seen → ℕ → StoreFault → Type 0
RefusesIn room count TooLong = MAX_BITS < length room.bits + count
RefusesIn room count NoMemory = spare_of room < count

-- ---- marks
-- the same cell without a mark
abbrev pub HasNoMark : Cell → Option Cell → Type 0
HasNoMark cell new = IsSomeAnd new (λ other. (other.storage ≡ cell.storage) × (other.noted ≡ cell.noted) × (other.marked ≡ false))

-- each cell stays, without a mark
abbrev pub ClearedCell : Option Cell → Option Cell → Type 0
ClearedCell None new = new ≡ None
ClearedCell (Some cell) new = HasNoMark cell new

-- a marked cell stays, without its mark, and any other is given up
abbrev pub SweptCell : Option Cell → Option Cell → Type 0
SweptCell None new = new ≡ None
SweptCell (Some cell) new = (cell.marked ≡ true → HasNoMark cell new) × (cell.marked ≡ false → new ≡ None)

abbrev pub with_mark : Option Cell → Option Cell
with_mark None = None
with_mark (Some cell) = Some (record cell { marked = true })

-- the cell that a reference names has its mark, and all else is as it was
abbrev pub Marks : List (Option Cell) → List (Option Cell) → BitRef → Type 0
Marks old new (Small bits) = new ≡ old
Marks old new (Part n off len) = (cell_at new n ≡ with_mark (cell_at old n)) × OnlyCell n old new

-- a small reference, or one to a marked cell
abbrev pub HasMark : List (Option Cell) → BitRef → Type 0
HasMark cells (Small bits) = Unit {0}
HasMark cells (Part n off len) = IsSomeAnd (cell_at cells n) (λ cell. cell.marked ≡ true)

-- each reference to a marked cell that was valid is valid, and shows what it showed
abbrev pub KeepsMarked : List (Option Cell) → List (Option Cell) → Type 0
KeepsMarked old new = (of : BitRef) → Valid old of → HasMark old of → Valid new of × (shown new of ≡ shown old of)
