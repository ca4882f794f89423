-- What a bit expression is built of, and how it is refused (Erlang Reference Manual, "Bit Syntax Expressions").
use Rattle.std.specs.Prelude.{◌≡◌, ℕ, ◌+◌, ◌<◌, ◌≤◌, ◌++◌, Bool, List, [], ◌∷◌, map, All, Option, Some, None, option_map, length}
use Rattle.bits_value.specs.declared.TheConstants.{MAX_BITS}
use Rattle.erl_syntax.specs.Atoms.{a_badarg}
use Rattle.bit_store.specs.declared.store.StoreFault.{StoreFault}
use Rattle.bit_store.specs.declared.store.StoreFault.TheVariants as s
use Rattle.bit_store.specs.declared.piece.Piece.{Piece}
use Rattle.bit_store.specs.Pieces.{piece_bits, pieces_bits, IsInside, HasPiece}
use Rattle.erl_syntax.specs.declared.typing.Kind.{Kind}
use Rattle.erl_syntax.specs.declared.typing.Kind.TheVariants as k
use Rattle.erl_syntax.specs.declared.typing.SizeUse.{SizeUse}
use Rattle.erl_syntax.specs.declared.typing.SizeUse.TheVariants as z
use Rattle.term_value.specs.Extent.{InUnits, extent}
use Rattle.term_value.specs.Value.{VBits}
use Rattle.term_value.specs.Terms.{value_of, seen}
use Rattle.term_value.specs.Seen.{Seen, SBits}
use Rattle.term_value.specs.Encode.{Encoded, Bits, Fails, badarg, encoded, encoded_as, encoded_part, and_bits, Filled, built_on}
use Rattle.term_value.specs.Result.{Result, Gives, Stops, Limit, raise}
use Rattle.bits_build.specs.declared.part.Part.{Part}
use Rattle.bits_build.specs.declared.segment.Segment.{Segment}
use Rattle.bits_build.specs.declared.fault.BuildFault.{BuildFault}
use Rattle.bits_build.specs.declared.fault.BuildFault.TheVariants as f

-- the reference is there, where it is a bitstring
abbrev pub HasBits : {R : Type 0} → (R → Type 0) → Seen R → Type 0
HasBits has (SBits reference) = has reference
HasBits has _ = Unit {0}

-- a part whose value's reference is there
abbrev pub HasPart : {R : Type 0} → (R → Type 0) → Part R → Type 0
HasPart has p = HasBits has (seen p.value)

-- the part's value and its size, where references show these bits
abbrev pub part_filled : {R : Type 0} → (R → List Bool) → Part R → Filled
part_filled shown p = record { typed = p.typed; value = value_of shown p.value; size = option_map (value_of shown) p.size }

abbrev pub parts_filled : {R : Type 0} → (R → List Bool) → List (Part R) → List Filled
parts_filled shown ps = map (part_filled shown) ps

-- the bits of the part
abbrev pub part_encoded : {R : Type 0} → (R → List Bool) → Part R → Encoded
part_encoded shown p = encoded p.typed (value_of shown p.value) (option_map (value_of shown) p.size)

-- the same, of a part that is to be a bitstring
abbrev pub bits_encoded : {R : Type 0} → (R → List Bool) → Part R → Encoded
bits_encoded shown p = encoded_as k.Bitstring p.typed.endian (value_of shown p.value) (extent p.typed.size p.typed.unit (option_map (value_of shown) p.size))

-- a piece of those bits, with their number
pub record IsSegment {R : Type 0} (shown : R → List Bool) (has : R → Type 0) (bits : Encoded) (segment : Segment R) : Type 0 where
  pub is : bits ≡ Bits (piece_bits shown segment.piece)
  pub size : segment.bits ≡ length (piece_bits shown segment.piece)
  pub inside : IsInside shown segment.piece
  pub valid : HasPiece has segment.piece

-- pieces of the bits behind the first `before`, whatever these are, of a bitstring that is built of the parts with those in front
pub record ArePieces {R : Type 0} (shown : R → List Bool) (has : R → Type 0) (before : ℕ) (parts : List (Part R)) (pieces : List (Piece R)) : Type 0 where
  pub short : before + length (pieces_bits shown pieces) ≤ MAX_BITS
  pub are : (front : List Bool) → length front ≡ before → built_on (parts_filled shown parts) front ≡ Gives (VBits (front ++ pieces_bits shown pieces))
  pub inside : All (IsInside shown) pieces
  pub valid : All (HasPiece has) pieces

-- what is built of a bitstring without a size and then the parts
abbrev pub built_from : {R : Type 0} → (R → List Bool) → R → ℕ → List (Part R) → Result
built_from shown of unit parts = and_bits (encoded_part (InUnits unit) (shown of)) (built_on (parts_filled shown parts)) []

-- why the segment has no bits
abbrev pub IsCause : Encoded → BuildFault → Type 0
IsCause bits f.BadArg = bits ≡ badarg
IsCause bits f.Limit = bits ≡ Fails Limit
IsCause bits f.NoMemory = Unit {0}

-- why there is no bitstring
abbrev pub IsRefusal : Result → BuildFault → Type 0
IsRefusal r f.BadArg = r ≡ Stops (raise a_badarg)
IsRefusal r f.Limit = r ≡ Stops Limit
IsRefusal r f.NoMemory = Unit {0}

abbrev pub open_as : {R : Type 0} → Kind → SizeUse → Seen R → Option R
open_as k.Binary z.Whole (SBits reference) = Some reference
open_as k.Bitstring z.Whole (SBits reference) = Some reference
open_as _ _ _ = None

-- the reference of a bitstring that stands without a size
abbrev pub open_bits : {R : Type 0} → Part R → Option R
open_bits p = open_as p.typed.kind p.typed.size (seen p.value)

-- the same, of the only part
abbrev pub alone : {R : Type 0} → List (Part R) → Option R
alone (p ∷ []) = open_bits p
alone _ = None

abbrev pub fault_of : StoreFault → BuildFault
fault_of s.TooLong = f.Limit
fault_of s.NoMemory = f.NoMemory
