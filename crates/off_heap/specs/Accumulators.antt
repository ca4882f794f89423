-- What appends to one accumulator move (Erlang Efficiency Guide, "Constructing and Matching Binaries": appending to a binary; how
-- large rooms are is this project's own).
use Rattle.std.specs.Prelude.{◌≡◌, ℕ, ◌+◌, ◌-◌, ◌*◌, ◌≤◌, List, [], ◌∷◌, ◌++◌, length, sum}
use Rattle.bits_value.specs.Ledger.{ticked}
use Rattle.write_room.specs.Rooms.{HasTaken, grown_bytes}
use Rattle.off_heap.specs.declared.reference.BitRef.{BitRef}
use Rattle.off_heap.specs.Cells.{Contents, shown, Latest, room_under}

-- What `append` says of so many bits that it added to `to`, as the ledger went from `before` to `later`: each field is a clause of
-- it, but for the first, which is the length of what its clause `shows` says.
pub record IsAppend (old new : Contents) (to made : BitRef) (before later count : ℕ) : Type 0 where
  pub long : length (shown new.cells made) ≡ length (shown old.cells to) + count
  pub latest : Latest new.cells made
  pub moved_in_place : Latest old.cells to → HasTaken (room_under old.cells to) (room_under new.cells made) before later count
  pub new_size : (Latest old.cells to → ⊥) → (room_under new.cells made).size ≡ 8 * grown_bytes (length (shown new.cells made))
  pub moved_to_new : (Latest old.cells to → ⊥) → later ≡ ticked before (length (shown new.cells made))

-- Appends of so many bits each, one after another, from a reference of `start` bits on: the first makes a new room, and each other is to
-- the result of the one before, which still is the latest of that room. Other calls may come between. They moved so many bits.
pub data Accumulates (start : ℕ) : List ℕ → Contents → BitRef → ℕ → Type 0 where
  first : (old new : Contents) (to made : BitRef) (before later count : ℕ) → IsAppend old new to made before later count →
      (Latest old.cells to → ⊥) → length (shown old.cells to) ≡ start → Accumulates start (count ∷ []) new made (later - before)
  next : (counts : List ℕ) (left old new : Contents) (to made : BitRef) (moved before later count : ℕ) → Accumulates start counts left to moved →
      Latest old.cells to → room_under old.cells to ≡ room_under left.cells to → IsAppend old new to made before later count →
      Accumulates start (counts ++ count ∷ []) new made (moved + (later - before))

-- They move at most three times the bits that are there in the end, and 4,096.
abbrev pub AccumulatorsMoveFew : Type 0
AccumulatorsMoveFew = (start : ℕ) (counts : List ℕ) (new : Contents) (made : BitRef) (moved : ℕ) → Accumulates start counts new made moved → moved ≤ 3 * (start + sum counts) + 4_096
