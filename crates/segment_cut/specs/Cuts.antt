-- What is cut off the front of bits, as the code tells it (this project's own; the definition is that of a segment in a pattern,
-- Erlang Reference Manual, "Bit Syntax Expressions").
use Rattle.std.specs.Prelude.{◌≡◌, ℕ, ℤ, pos, ◌+◌, ◌≤◌, Bool, List, take, drop, length, Option, Some, None}
use Rattle.bits_value.specs.Number.{bounded}
use Rattle.bits_value.specs.declared.UtfKind.{UtfKind}
use Rattle.bits_value.specs.declared.Endian.{Endian}
use Rattle.term_value.specs.Value.{Value, VInt, VBits}
use Rattle.term_value.specs.Characters.{spelling, character_of}
use Rattle.term_value.specs.Decode as d
use Rattle.segment_cut.specs.declared.value.CutOff.{CutOff}
use Rattle.segment_cut.specs.declared.value.CutValue.{CutValue}
use Rattle.segment_cut.specs.declared.value.CutValue.TheVariants.{Number, LongNumber, Part}
use Rattle.segment_cut.specs.declared.characters.Character.{Character}

-- an integer, or that it is outside the bound
abbrev pub IsNumber : {R : Type 0} → ℤ → CutValue R → Type 0
IsNumber n (Number m) = (n ≡ m) × (bounded n ≡ Some m)
IsNumber n LongNumber = bounded n ≡ None
IsNumber n (Part of) = ⊥

-- the segment's value: a number within the bound, one outside, or a reference that is there and shows the bits
abbrev pub IsValue : {R : Type 0} → (R → List Bool) → (R → Type 0) → Value → CutValue R → Type 0
IsValue shown has v (Number n) = (v ≡ VInt n) × (bounded n ≡ Some n)
IsValue shown has v LongNumber = (n : ℤ) × (v ≡ VInt n) × (bounded n ≡ None)
IsValue shown has v (Part of) = (v ≡ VBits (shown of)) × has of

-- the value and the bits behind it, which are those of `all` from a bit on
pub record IsCutOff {R : Type 0} (shown : R → List Bool) (has : R → Type 0) (all : List Bool) (cut : Option d.CutOff) (off : CutOff R) : Type 0 where
  pub value : Value
  pub is : cut ≡ d.cut_off value (drop off.next all)
  pub same : IsValue shown has value off.value
  pub inside : off.next ≤ length all

-- a bitstring of the `bits` bits of `all` from `at` on, and where they end
pub record IsPartOff {R : Type 0} (shown : R → List Bool) (has : R → Type 0) (all : List Bool) (at bits : ℕ) (off : CutOff R) : Type 0 where
  pub next : off.next ≡ at + bits
  pub same : IsValue shown has (VBits (take bits (drop at all))) off.value

-- what is cut off, or that nothing is
abbrev pub IsCut : {R : Type 0} → (R → List Bool) → (R → Type 0) → List Bool → Option d.CutOff → Option (CutOff R) → Type 0
IsCut shown has all cut None = cut ≡ None
IsCut shown has all cut (Some off) = IsCutOff shown has all cut off

-- the character that is cut off, and the bits behind it, or that none is
abbrev pub IsSpelledCut : {R : Type 0} → List Bool → Option d.CutOff → Option (CutOff R) → Type 0
IsSpelledCut all cut None = cut ≡ None
IsSpelledCut all cut (Some off) = (n : ℤ) × (cut ≡ d.cut_off (VInt n) (drop off.next all)) × IsNumber n off.value × (off.next ≤ length all)

-- the character whose spelling stands in front of the bits from `at` on, and where that ends
pub record IsCharacterAt (utf : UtfKind) (endian : Endian) (bits : List Bool) (at : ℕ) (found : Character) : Type 0 where
  pub is : character_of utf endian (drop at bits) ≡ Some found.number
  pub next : drop (length (spelling utf endian found.number)) (drop at bits) ≡ drop found.next bits
  pub within : bounded (pos found.number) ≡ Some (pos found.number)
  pub inside : found.next ≤ length bits
