-- Segments of fixed sizes, and the values that they keep (Erlang Reference Manual, "Bit Syntax Expressions").
use Rattle.std.specs.Prelude.{◌≡◌, ℕ, suc, ℤ, pos, Bool, true, List, [], ◌∷◌, length, take, Option, Some, None, IsTrue}
use Rattle.bits_value.specs.Number.{residue, InBits}
use Rattle.bits_value.specs.Parts.{sign_value}
use Rattle.bits_value.specs.Utf.{is_character}
use Rattle.bits_value.specs.declared.Sign.{Sign}
use Rattle.erl_syntax.specs.declared.typing.Kind.{Kind}
use Rattle.erl_syntax.specs.declared.typing.Kind.TheVariants as k
use Rattle.term_value.specs.Bounds.{is_within}
use Rattle.term_value.specs.Encode.{Filled}
use Rattle.term_value.specs.Extent.{Extent, Exactly, Spelled, extent}
use Rattle.term_value.specs.Tree.{Bound, Variable, Val, Trees, and, end, Segments, no_segment, segment}
use Rattle.term_value.specs.Value.{Value, VInt, VBits}

-- how many bits a segment has
abbrev pub extent_of : Filled → Extent
extent_of f = extent f.typed.size f.typed.unit f.size

-- a number or a part with so many bits, or a character
abbrev pub IsFixedAs : Kind → Extent → Type 0
IsFixedAs k.Int (Exactly n) = Unit {0}
IsFixedAs k.Binary (Exactly n) = Unit {0}
IsFixedAs k.Bitstring (Exactly n) = Unit {0}
IsFixedAs (k.Utf utf) Spelled = Unit {0}
IsFixedAs kind e = ⊥

-- a segment that is neither the whole of a value nor the rest of the bits
abbrev pub IsFixed : Filled → Type 0
IsFixed f = IsFixedAs f.typed.kind (extent_of f)

-- ---- The values that segments keep

-- the number of `n` bits that differs from it by a multiple of `2 ^ n`: from 0 to 2^n - 1, or from -2^(n-1) to 2^(n-1) - 1
abbrev pub reduced : Sign → ℕ → ℤ → ℤ
reduced sign n v = sign_value sign n (residue n v)

-- the integer's lowest bits, or the first bits of a part; a character as it is
abbrev pub kept_as : Kind → Sign → Extent → Value → Value
kept_as k.Int sign (Exactly n) (VInt v) = VInt (reduced sign n v)
kept_as k.Binary sign (Exactly n) (VBits bits) = VBits (take n bits)
kept_as k.Bitstring sign (Exactly n) (VBits bits) = VBits (take n bits)
kept_as kind sign e v = v

abbrev pub kept : Filled → Value
kept f = kept_as f.typed.kind f.typed.sign (extent_of f) f.value

-- the value is one that is kept as it is
abbrev pub IsInRangeAs : Kind → Sign → Extent → Value → Type 0
IsInRangeAs k.Int sign (Exactly n) (VInt v) = InBits sign n v
IsInRangeAs k.Binary sign (Exactly n) (VBits bits) = length bits ≡ n
IsInRangeAs k.Bitstring sign (Exactly n) (VBits bits) = length bits ≡ n
IsInRangeAs (k.Utf utf) sign Spelled (VInt (pos c)) = IsTrue (is_character c)
IsInRangeAs kind sign e v = ⊥

abbrev pub IsInRange : Filled → Type 0
IsInRange f = IsInRangeAs f.typed.kind f.typed.sign (extent_of f) f.value

-- what the segment keeps is within the bounds of values: no variable is bound to an integer outside
abbrev pub KeepsWithin : Filled → Type 0
KeepsWithin f = is_within (kept f) ≡ true

-- the value is within the bounds of values
abbrev pub IsWithin : Filled → Type 0
IsWithin f = is_within f.value ≡ true

-- ---- The pattern of the same segments

-- a size as it is written, if it is
abbrev pub size_part : Option Value → Trees
size_part None = end
size_part (Some v) = and (Val v) end

-- the variables have the numbers from `x` on
abbrev pub pattern_of : ℕ → List Filled → Segments
pattern_of x [] = no_segment
pattern_of x (f ∷ fs) = segment f.typed (Variable x) (size_part f.size) (pattern_of (suc x) fs)

abbrev pub bindings_of : (Filled → Value) → ℕ → List Filled → List Bound
bindings_of value x [] = []
bindings_of value x (f ∷ fs) = record { variable = x; value = value f } ∷ bindings_of value (suc x) fs
