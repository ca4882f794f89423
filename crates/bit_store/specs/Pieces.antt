-- The bits of the pieces of which a new bitstring is made (this project's own).
use Rattle.std.specs.Prelude.{ℕ, ◌+◌, ◌≤◌, Bool, List, take, drop, length, Option, Some, None, cond, nat_le}
use Rattle.std.specs.List.{flat_map}
use Rattle.bits_value.specs.Bits.{all_bits}
use Rattle.bits_value.specs.Number.{spell}
use Rattle.bits_value.specs.declared.TheConstants.{MAX_BITS}
use Rattle.bit_store.specs.declared.piece.Piece.{Piece}
use Rattle.bit_store.specs.declared.piece.Piece.TheVariants.{Number, Character, Bytes, Part}

-- where a reference shows these bits
abbrev pub piece_bits : {R : Type 0} → (R → List Bool) → Piece R → List Bool
piece_bits shown (Number value bits endian) = spell bits value endian
piece_bits shown (Character bytes) = all_bits bytes.items
piece_bits shown (Bytes text) = all_bits text
piece_bits shown (Part of off bits) = take bits (drop off (shown of))

-- in their order
abbrev pub pieces_bits : {R : Type 0} → (R → List Bool) → List (Piece R) → List Bool
pieces_bits shown pieces = flat_map (piece_bits shown) pieces

-- a part lies in what its reference shows
abbrev pub IsInside : {R : Type 0} → (R → List Bool) → Piece R → Type 0
IsInside shown (Part of off bits) = off + bits ≤ length (shown of)
IsInside shown _ = Unit {0}

-- its reference is there
abbrev pub HasPiece : {R : Type 0} → (R → Type 0) → Piece R → Type 0
HasPiece has (Part of off bits) = has of
HasPiece has _ = Unit {0}

-- a number of bits that a bitstring may have
abbrev pub bits_within : ℕ → Option ℕ
bits_within n = cond (nat_le n MAX_BITS) (Some n) None
