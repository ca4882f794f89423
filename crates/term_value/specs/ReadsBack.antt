-- Characters read back (this project's own).
use Rattle.std.specs.Prelude.{◌≡◌, ℕ, pos, Bool, List, [], ◌∷◌, ◌++◌, IsTrue, None}
use Rattle.bits_value.specs.Utf.{is_character}
use Rattle.bits_value.specs.declared.UtfKind.{UtfKind}
use Rattle.erl_syntax.specs.declared.typing.Typed.{Typed}
use Rattle.erl_syntax.specs.declared.typing.Kind.TheVariants.{Utf}
use Rattle.erl_syntax.specs.declared.typing.SizeUse.TheVariants.{NoSize}
use Rattle.term_value.specs.Value.{VInt}
use Rattle.term_value.specs.Setting.{Setting}
use Rattle.term_value.specs.Characters.{spelling}
use Rattle.term_value.specs.Encode.{Bits, encoded}
use Rattle.term_value.specs.Decode.{Cut, taken}
use Rattle.term_value.specs.Tree.{Variable, end}

-- A character is encoded as its spelling, and read back from it into a variable, whatever bits follow: for every type of segment of
-- that kind.
abbrev pub CharacterReadsBack : Type 0
CharacterReadsBack = (s : Setting) (typed : Typed) (utf : UtfKind) (c x : ℕ) (rest : List Bool) → typed.kind ≡ Utf utf → typed.size ≡ NoSize → IsTrue (is_character c)
    → (encoded typed (VInt (pos c)) None ≡ Bits (spelling utf typed.endian c))
    × (taken s typed (Variable x) end [] (spelling utf typed.endian c ++ rest) ≡ Cut (record { variable = x; value = VInt (pos c) } ∷ []) rest)
