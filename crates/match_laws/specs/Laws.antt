-- Matching what was built (this project's own).
use Rattle.std.specs.Prelude.{◌≡◌, ℕ, Bool, List, [], All}
use Rattle.term_value.specs.Encode.{Filled, built}
use Rattle.term_value.specs.Match.{Yes, matched}
use Rattle.term_value.specs.Result.{Gives}
use Rattle.term_value.specs.Setting.{Setting}
use Rattle.term_value.specs.Tree.{PBits}
use Rattle.term_value.specs.Value.{VBits}
use Rattle.match_laws.specs.Fixed.{IsFixed, IsInRange, KeepsWithin, IsWithin, kept, pattern_of, bindings_of}

-- What was built of segments of fixed sizes is matched by a pattern of the same segments, with new variables: it binds them to the
-- values that the segments keep, integers modulo their bits and parts to their first bits, and no bit remains.
abbrev pub BuiltIsRead : Type 0
BuiltIsRead = (s : Setting) (x : ℕ) (fs : List Filled) (bits : List Bool) → All IsFixed fs → All KeepsWithin fs → built fs ≡ Gives (VBits bits)
    → matched s (PBits (pattern_of x fs)) (VBits bits) [] ≡ Yes (bindings_of kept x fs)

-- a value in the segment's range is kept as it is, in a segment of fixed size
abbrev pub InRangeIsKept : Type 0
InRangeIsKept = (f : Filled) → IsInRange f → IsFixed f × (kept f ≡ f.value)

-- what was built of values in their segments' ranges gives them back
abbrev pub BuiltReadsBack : Type 0
BuiltReadsBack = (s : Setting) (x : ℕ) (fs : List Filled) (bits : List Bool) → All IsInRange fs → All IsWithin fs → built fs ≡ Gives (VBits bits)
    → matched s (PBits (pattern_of x fs)) (VBits bits) [] ≡ Yes (bindings_of (λ f. f.value) x fs)
