-- Rooms: written bits with spare room behind them (Erlang Efficiency Guide, "Constructing and Matching Binaries": a binary
-- object has room to grow, so that later bits are appended in place; how large a room is, is this project's own).
use Rattle.std.specs.Prelude.{◌≡◌, ℕ, ◌+◌, ◌-◌, ◌*◌, ◌/◌, ◌≤◌, ◌<◌, ◌++◌, Bool, List, length, max}
use Rattle.bits_value.specs.declared.TheConstants.{MAX_BITS}
use Rattle.bits_value.specs.Ledger.{ticked}
use Rattle.write_room.specs.declared.RoomFault.{RoomFault}
use Rattle.write_room.specs.declared.RoomFault.TheVariants.{TooLong, NoMemory}

pub record Seen : Type 0 where
  -- the written bits
  pub bits : List Bool
  -- all the bits of its bytes, written and spare
  pub size : ℕ

-- how many bytes hold so many bits
abbrev pub bytes_for : ℕ → ℕ
bytes_for bits = (bits + 7) / 8

-- the bytes of a room that is made, or grows, for so many bits
abbrev pub grown_bytes : ℕ → ℕ
grown_bytes bits = max (2 * bytes_for bits) 256

abbrev pub spare_of : Seen → ℕ
spare_of room = room.size - length room.bits

-- A room took so many bits more, and the ledger stood at `before` and stands at `later`: within the spare bits it kept its
-- place, and else it grew, so that the bits that were there were copied too.
pub record HasTaken (old new : Seen) (before later count : ℕ) : Type 0 where
  pub short : length old.bits + count ≤ MAX_BITS
  pub in_place : count ≤ spare_of old → new.size ≡ old.size
  pub ticks_in_place : count ≤ spare_of old → later ≡ ticked before count
  pub grown : spare_of old < count → new.size ≡ 8 * grown_bytes (length old.bits + count)
  pub ticks_grown : spare_of old < count → later ≡ ticked before (length old.bits + count)

-- what each refusal says of a room that was to take so many bits more
abbrev pub CauseOf : Seen → ℕ → RoomFault → Type 0
CauseOf room count TooLong = MAX_BITS < length room.bits + count
CauseOf room count NoMemory = spare_of room < count

-- a room has no more than twice the bits that are written, and the least room
abbrev pub IsTight : Seen → Type 0
IsTight room = room.size ≤ 2 * length room.bits + 4_096

-- a room took bits again and again, from a ledger at `before` to one at `later`
pub data Takes : Seen → ℕ → Seen → ℕ → Type 0 where
  none : (room : Seen) (before : ℕ) → Takes room before room before
  and_then : (old mid new : Seen) (before between later : ℕ) (added : List Bool) → mid.bits ≡ old.bits ++ added →
      HasTaken old mid before between (length added) → Takes mid between new later → Takes old before new later
