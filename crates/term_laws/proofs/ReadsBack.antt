-- An encoded integer decodes to itself.
use Rattle.std.proofs.Common.{◌≡◌, ℕ, ℤ, ◌≤◌, Bool, true, List, [], ◌∷◌, ◌++◌, length, take, drop, Option, Some, None, refl, arith, ap, ◌∙◌}
use Rattle.std.proofs.lemmas.List.{length-append}
use Rattle.std.specs.Prelude.{nat_le, is_some}
use Rattle.bits_value.specs.Number.{spell, InBits, bounded}
use Rattle.bits_value.specs.declared.Endian.{Endian}
use Rattle.bits_value.proofs.Spellings.{length-spell, number-spell-rest, spell-rest}
use Rattle.erl_syntax.specs.declared.typing.Typed.{Typed}
use Rattle.term_value.specs.Value.{Value, VInt}
use Rattle.term_value.specs.Extent.{Exactly, extent}
use Rattle.term_value.specs.Bounds.{bit_bound}
use Rattle.term_value.specs.Setting.{Setting}
use Rattle.erl_syntax.specs.declared.typing.Kind.TheVariants.{Int}
use Rattle.term_value.specs.Encode.{Bits, encoded, encoded_as, encoded_integer, integer_bits}
use Rattle.term_value.specs.Decode.{Cut, reach, cut_off, cut_as, cut_where, cut, bound_to, taken_where, wanted, taken_by, taken}
use Rattle.term_value.specs.Tree.{Variable}
use Rattle.term_laws.specs.Laws.{size_part, IntegerReadsBack}

le_true : (m n : ℕ) → m ≤ n → nat_le m n ≡ true
le_true m n h = grind (arith, h)

long : (n : ℕ) (v : ℤ) (endian : Endian) (rest : List Bool) → n ≤ length (spell n v endian ++ rest)
long n v endian rest = omega (arith, length-append (spell n v endian) rest, length-spell n v endian)

encodes : (typed : Typed) (size : Option Value) (n : ℕ) (v : ℤ) → typed.kind ≡ Int → extent typed.size typed.unit size ≡ Exactly n → n ≤ bit_bound →
    encoded typed (VInt v) size ≡ Bits (spell n v typed.endian)
encodes typed size n v kind long_as h =
    ap (λ k. encoded_as k typed.endian (VInt v) (extent typed.size typed.unit size)) kind
    ∙ ap (λ e. encoded_integer e v typed.endian) long_as
    ∙ ap (λ b. integer_bits b n v typed.endian) (le_true n bit_bound h)

cuts : (typed : Typed) (n : ℕ) (v : ℤ) (rest : List Bool) → typed.kind ≡ Int → InBits typed.sign n v → cut typed (Exactly n) (spell n v typed.endian ++ rest) ≡ cut_off (VInt v) rest
cuts typed n v rest kind h =
    let bits : List Bool = spell n v typed.endian ++ rest in
    ap (λ k. cut_where (nat_le n (length bits)) (cut_as k typed.sign typed.endian (take n bits) (drop n bits))) kind
    ∙ ap (λ t. cut_where t (cut_as Int typed.sign typed.endian (take n bits) (drop n bits))) (le_true n (length bits) (long n v typed.endian rest))
    ∙ ap (λ z. cut_off (VInt z) (drop n bits)) (number-spell-rest typed.sign typed.endian n v rest h)
    ∙ ap (cut_off (VInt v)) (spell-rest typed.endian n v rest)

reaches : (s : Setting) (typed : Typed) (size : Option Value) → reach s typed [] (size_part size) ≡ Some (extent typed.size typed.unit size)
reaches s typed None = refl
reaches s typed (Some v) = refl

decodes : (s : Setting) (typed : Typed) (size : Option Value) (n : ℕ) (v : ℤ) (x : ℕ) (rest : List Bool) → typed.kind ≡ Int → extent typed.size typed.unit size ≡ Exactly n → InBits typed.sign n v → bounded v ≡ Some v →
    taken s typed (Variable x) (size_part size) [] (spell n v typed.endian ++ rest) ≡ Cut (record { variable = x; value = VInt v } ∷ []) rest
decodes s typed size n v x rest kind long_as h fits =
    let bits : List Bool = spell n v typed.endian ++ rest in
    ap (taken_by s typed (Variable x) [] bits) (reaches s typed size ∙ ap Some long_as)
    ∙ ap (wanted s (Variable x) []) (cuts typed n v rest kind h)
    ∙ ap (λ o. taken_where (is_some o) (Some (bound_to x (VInt v) [])) rest) fits

pub integer_reads_back : IntegerReadsBack
integer_reads_back s typed size n v x rest kind long_as short within fits = (encodes typed size n v kind long_as short, decodes s typed size n v x rest kind long_as within fits)
