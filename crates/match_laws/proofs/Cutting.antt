-- What a segment keeps of its value is cut off the front of its bits.
use Rattle.std.proofs.Common.{◌≡◌, ℕ, ℤ, pos, negsuc, ◌≤◌, Bool, true, false, List, [], ◌∷◌, ◌++◌, length, take, drop, Option, Some, None, refl, ap, sym, ◌∙◌, arith}
use Rattle.std.specs.Prelude.{nat_le, IsTrue}
use Rattle.std.proofs.lemmas.List.{length-append, length-take, take_at, drop_at}
use Rattle.std.proofs.Math.Nat.{mod-eq_of_lt}
use Rattle.bits_value.specs.Number.{natural, with_sign, number, big_bits, residue, spell, InBits}
use Rattle.bits_value.specs.Parts.{sign_value}
use Rattle.bits_value.specs.Utf.{is_character}
use Rattle.bits_value.specs.declared.Sign.{Sign}
use Rattle.bits_value.specs.declared.Endian.{Endian}
use Rattle.bits_value.specs.declared.UtfKind.{UtfKind}
use Rattle.bits_value.proofs.BitLists.{length-big_bits, natural-big_bits}
use Rattle.bits_value.proofs.Residues.{residue-lt}
use Rattle.bits_value.proofs.Spellings.{greatest_first-spell, length-spell}
use Rattle.bits_value.proofs.Values.{with_sign-value}
use Rattle.erl_syntax.specs.declared.typing.Typed.{Typed}
use Rattle.erl_syntax.specs.declared.typing.Kind.{Kind}
use Rattle.erl_syntax.specs.declared.typing.Kind.TheVariants as k
use Rattle.erl_syntax.specs.declared.typing.SizeUse.TheVariants.{NoSize}
use Rattle.term_value.proofs.Spellings.{character_reads_back}
use Rattle.term_value.specs.Bounds.{bit_bound}
use Rattle.term_value.specs.Characters.{spelling}
use Rattle.term_value.specs.Decode.{Taken, CutOff, Cut, cut_off, cut_as, cut_bits, cut_where, cut, spelled_cut, bound_to, is_bindable, met, taken_where, wanted}
use Rattle.term_value.specs.Encode.{Encoded, Bits, encoded_as, integer_bits, first_bits, where_fits}
use Rattle.term_value.specs.Extent.{Extent, Exactly, InUnits, Spelled, BadSize}
use Rattle.term_value.specs.Setting.{Setting}
use Rattle.term_value.specs.Tree.{Variable}
use Rattle.term_value.specs.Value.{Value, VInt, VAtom, VBits}
use Rattle.match_laws.specs.Fixed.{IsFixedAs, kept_as, reduced}

le_true : (m n : ℕ) → m ≤ n → nat_le m n ≡ true
le_true m n h = grind (arith, h)

true_le : (m n : ℕ) → nat_le m n ≡ true → m ≤ n
true_le m n e = grind (arith, e)

-- ---- what was encoded
integer_is : (t : Bool) (n : ℕ) (v : ℤ) (endian : Endian) (b : List Bool) → integer_bits t n v endian ≡ Bits b → spell n v endian ≡ b
integer_is true n v endian b e = cc e
integer_is false n v endian b e = cc e

fits_is : (t : Bool) (w b : List Bool) → where_fits t w ≡ Bits b → (t ≡ true) × (w ≡ b)
fits_is true w b e = (refl, cc e)
fits_is false w b e = cc e

first_is : (t : Bool) (n : ℕ) (w b : List Bool) → first_bits t n w ≡ Bits b → (n ≤ length w) × (take n w ≡ b)
first_is true n w b e = let both = fits_is (nat_le n (length w)) (take n w) b e in (true_le n (length w) both.0, both.1)
first_is false n w b e = cc e

-- ---- what is cut off bits that are long enough
exactly_cut : (typed : Typed) (kind : Kind) (n : ℕ) (b rest : List Bool) → typed.kind ≡ kind → length b ≡ n → cut typed (Exactly n) (b ++ rest) ≡ cut_as kind typed.sign typed.endian b rest
exactly_cut typed kind n b rest ke le =
    let bits : List Bool = b ++ rest in
    let long : n ≤ length bits = omega (arith, length-append b rest) in
    ap (λ t. cut_where t (cut_bits typed (take n bits) (drop n bits))) (le_true n (length bits) long)
    ∙ ap (λ (u : Kind). cut_as u typed.sign typed.endian (take n bits) (drop n bits)) ke
    ∙ ap (λ (w : List Bool). cut_as kind typed.sign typed.endian w (drop n bits)) (take_at b rest n le)
    ∙ ap (λ (w : List Bool). cut_as kind typed.sign typed.endian b w) (drop_at b rest n le)

-- the number of an integer's lowest bits
pub number_is : (s : Sign) (e : Endian) (n : ℕ) (v : ℤ) → number (spell n v e) s e ≡ reduced s n v
number_is s e n v =
    let bits : List Bool = big_bits n (residue n v) in
    ap (with_sign s) (greatest_first-spell n v e) ∙ with_sign-value s bits ∙ ap (λ m. sign_value s m (natural bits)) (length-big_bits n (residue n v))
    ∙ ap (sign_value s n) (natural-big_bits n (residue n v) ∙ mod-eq_of_lt (residue-lt n v))

integer_cut : (typed : Typed) (n : ℕ) (v : ℤ) (b rest : List Bool) → typed.kind ≡ k.Int → spell n v typed.endian ≡ b → cut typed (Exactly n) (b ++ rest) ≡ cut_off (VInt (reduced typed.sign n v)) rest
integer_cut typed n v b rest ke be =
    exactly_cut typed k.Int n b rest ke (ap length (sym be) ∙ length-spell n v typed.endian)
    ∙ ap (λ (w : List Bool). cut_off (VInt (number w typed.sign typed.endian)) rest) (sym be)
    ∙ ap (λ z. cut_off (VInt z) rest) (number_is typed.sign typed.endian n v)

length_first : (n : ℕ) (w b : List Bool) → n ≤ length w → take n w ≡ b → length b ≡ n
length_first n w b h e = ap length (sym e) ∙ omega (arith, length-take n w)

-- ---- characters
abbrev first_value : Taken → Value
first_value (Cut (b ∷ bs) rest) = b.value
first_value taken = VAtom 0

where_cut : (t : Bool) (x : ℕ) (v w : Value) (rest later : List Bool) → taken_where t (Some (bound_to x w [])) later ≡ Cut (record { variable = x; value = v } ∷ []) rest → (w ≡ v) × (later ≡ rest)
where_cut true x v w rest later e = (ap first_value e, cc e)
where_cut false x v w rest later e = cc e

wanted_cut : (s : Setting) (x : ℕ) (v : Value) (rest : List Bool) (o : Option CutOff) → wanted s (Variable x) [] o ≡ Cut (record { variable = x; value = v } ∷ []) rest → o ≡ cut_off v rest
wanted_cut s x v rest None e = cc e
wanted_cut s x v rest (Some f) e =
    let both = where_cut (is_bindable (Variable x) f.value) x v f.value rest f.rest e in
    ap (λ (w : Value). cut_off w f.rest) both.0 ∙ ap (λ (w : List Bool). cut_off v w) both.1

no_names : Setting
no_names = record { names = λ atom. []; pid = 0 }

character_is : (typed : Typed) (utf : UtfKind) (c : ℕ) (rest : List Bool) → typed.kind ≡ k.Utf utf → IsTrue (is_character c) → cut typed Spelled (spelling utf typed.endian c ++ rest) ≡ cut_off (VInt (pos c)) rest
character_is typed utf c rest ke is =
    let bits : List Bool = spelling utf typed.endian c ++ rest in
    let plain : Typed = record { kind = k.Utf utf; sign = typed.sign; endian = typed.endian; size = NoSize; unit = typed.unit } in
    ap (λ (u : Kind). spelled_cut u typed.endian bits) ke
    ∙ wanted_cut no_names 0 (VInt (pos c)) rest (spelled_cut (k.Utf utf) typed.endian bits) (character_reads_back no_names plain utf c 0 rest refl refl is).1

-- ---- every kind
pub cuts : (typed : Typed) (kind : Kind) (e : Extent) (v : Value) (b rest : List Bool) → typed.kind ≡ kind → IsFixedAs kind e → encoded_as kind typed.endian v e ≡ Bits b
    → cut typed e (b ++ rest) ≡ cut_off (kept_as kind typed.sign e v) rest
cuts typed k.Int (Exactly n) (VInt v) b rest ke h e = integer_cut typed n v b rest ke (integer_is (nat_le n bit_bound) n v typed.endian b e)
cuts typed k.Int (Exactly n) _ b rest ke h e = cc e
cuts typed k.Int _ v b rest ke h e = absurd h
cuts typed k.Binary (Exactly n) (VBits w) b rest ke h e =
    let both = first_is (nat_le n bit_bound) n w b e in
    exactly_cut typed k.Binary n b rest ke (length_first n w b both.0 both.1) ∙ ap (λ (u : List Bool). cut_off (VBits u) rest) (sym both.1)
cuts typed k.Binary (Exactly n) _ b rest ke h e = cc e
cuts typed k.Binary _ v b rest ke h e = absurd h
cuts typed k.Bitstring (Exactly n) (VBits w) b rest ke h e =
    let both = first_is (nat_le n bit_bound) n w b e in
    exactly_cut typed k.Bitstring n b rest ke (length_first n w b both.0 both.1) ∙ ap (λ (u : List Bool). cut_off (VBits u) rest) (sym both.1)
cuts typed k.Bitstring (Exactly n) _ b rest ke h e = cc e
cuts typed k.Bitstring _ v b rest ke h e = absurd h
cuts typed (k.Utf utf) Spelled (VInt (pos c)) b rest ke h e =
    let both = fits_is (is_character c) (spelling utf typed.endian c) b e in
    ap (λ (w : List Bool). cut typed Spelled (w ++ rest)) (sym both.1) ∙ character_is typed utf c rest ke both.0
cuts typed (k.Utf utf) Spelled _ b rest ke h e = cc e
cuts typed (k.Utf utf) _ v b rest ke h e = absurd h
