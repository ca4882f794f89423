-- The character whose spelling stands in front of bits.
use Rattle.std.proofs.Common.{◌≡◌, ℕ, ◌+◌, ◌*◌, ◌≤◌, Bool, true, false, IsTrue, List, [], ◌∷◌, ◌++◌, length, take, drop, Option, Some, None, pos, refl, ap, sym, subst, ◌∙◌, arith}
use Rattle.std.specs.Prelude.{cond, ◌&&◌, is_some}
use Rattle.std.specs.List.{find, starts_with}
use Rattle.std.specs.Ordering.{is_eq, bool_cmp}
use Rattle.std.specs.Bool.{Decides}
use Rattle.std.proofs.lemmas.Slice.Eq.{slice_eq-Decides}
use Rattle.std.proofs.lemmas.List.{take-append-drop, length-drop, drop-drop, length-take}
use Rattle.bits_value.specs.Number.{bounded}
use Rattle.bits_value.specs.Utf.{is_character, utf_bytes, Begins}
use Rattle.bits_value.specs.declared.UtfKind.{UtfKind}
use Rattle.bits_value.specs.declared.Endian.{Endian}
use Rattle.bits_value.specs.declared.Sign.TheVariants.{Unsigned}
use Rattle.bits_value.proofs.Written.{length-all_bits}
use Rattle.bits_value.proofs.Values.{bounded-pos}
use Rattle.utf_segments.proofs.Candidates.{character-lt}
use Rattle.erl_syntax.specs.declared.typing.Typed.{Typed}
use Rattle.erl_syntax.specs.declared.typing.Kind.TheVariants.{Utf}
use Rattle.erl_syntax.specs.declared.typing.SizeUse.TheVariants.{NoSize}
use Rattle.term_value.specs.Characters.{spelling, candidates, is_in_front, character_of}
use Rattle.term_value.specs.Setting.{Setting}
use Rattle.term_value.specs.Tree.{Bound, Variable}
use Rattle.term_value.specs.Value.{Value, VInt, VBits}
use Rattle.term_value.specs.Decode.{Cut, character_cut, taken_where, wanted}
use Rattle.term_value.proofs.Spellings.{character_reads_back}
use Rattle.segment_cut.specs.declared.characters.Character.{Character}
use Rattle.term_value.specs.Extent.{Spelled}
use Rattle.term_value.specs.Decode as d
use Rattle.segment_cut.specs.declared.value.CutOff.{CutOff}
use Rattle.segment_cut.specs.declared.value.CutValue.TheVariants.{Number}
use Rattle.segment_cut.specs.Cuts.{IsNumber, IsSpelledCut, IsCharacterAt}

abbrev same : Bool → Bool → Bool
same b d = is_eq (bool_cmp b d)

bits_decide : (b d : Bool) → Decides (same b d) (b ≡ d)
bits_decide true true = (λ e. refl, λ e. refl)
bits_decide true false = (λ e. cc e, λ e. cc e)
bits_decide false true = (λ e. cc e, λ e. cc e)
bits_decide false false = (λ e. refl, λ e. refl)

begins_is : (front bits : List Bool) → starts_with same bits front ≡ true → Begins front bits
begins_is front bits e = sym ((slice_eq-Decides bits_decide front (take (length front) bits) _ refl).0 e)

and_parts : (a b : Bool) → (a && b) ≡ true → (a ≡ true) × (b ≡ true)
and_parts true b e = (refl, e)
and_parts false b e = cc e

-- none that is tried stands in front
none_found : (p : ℕ → Bool) (xs : List ℕ) → ((x : ℕ) → p x ≡ true → ⊥) → find p xs ≡ None
none_found p [] h = refl
none_found p (x ∷ xs) h = passed (p x) refl (none_found p xs h)
  where
    passed : (b : Bool) → p x ≡ b → find p xs ≡ None → cond b (Some x) (find p xs) ≡ None
    passed true e later = absurd (h x e)
    passed false e later = later

module _ (utf : UtfKind) (endian : Endian) (bits : List Bool) where
  pub no_character : ((c : ℕ) → IsTrue (is_character c) → Begins (spelling utf endian c) bits → ⊥) → character_of utf endian bits ≡ None
  no_character h = none_found (is_in_front utf endian bits) (candidates utf endian bits)
      (λ c e. let both = and_parts (is_character c) (starts_with same bits (spelling utf endian c)) e in h c both.0 (begins_is (spelling utf endian c) bits both.1))

-- ---- A character in front

-- some segment of a character, and something that is looked up
typed : UtfKind → Endian → Typed
typed utf endian = record { kind = Utf utf; sign = Unsigned; endian = endian; size = NoSize; unit = 1 }

setting : Setting
setting = record { names = λ atom. []; pid = 0 }

module _ (utf : UtfKind) (endian : Endian) (c : ℕ) where
  abbrev binding : ℕ → List Bound
  binding d = record { variable = 0; value = VInt (pos d) } ∷ []

  same_binding : (d : ℕ) (rest other : List Bool) → Cut (binding d) other ≡ Cut (binding c) rest → binding d ≡ binding c
  same_binding d rest other e = cc e

  abbrev first_value : List Bound → Value
  first_value (b ∷ bs) = b.value
  first_value [] = VBits []

  same_number : (d : ℕ) → VInt (pos d) ≡ VInt (pos c) → d ≡ c
  same_number d e = cc e

  -- a variable that got this character, from bits at which this one was found
  read : (bits rest : List Bool) (d : ℕ) (b : Bool) → taken_where b (Some (binding d)) (drop (length (spelling utf endian d)) bits) ≡ Cut (binding c) rest → d ≡ c
  read bits rest d true e = same_number d (ap first_value (same_binding d rest (drop (length (spelling utf endian d)) bits) e))
  read bits rest d false e = cc e

  of_read : (bits rest : List Bool) (o : Option ℕ) → wanted setting (Variable 0) [] (character_cut utf endian bits o) ≡ Cut (binding c) rest → o ≡ Some c
  of_read bits rest (Some d) e = ap Some (read bits rest d (is_some (bounded (pos d))) e)
  of_read bits rest None e = cc e

  pub character_in_front : (bits : List Bool) → IsTrue (is_character c) → Begins (spelling utf endian c) bits → character_of utf endian bits ≡ Some c
  unfolding typed setting
  character_in_front bits is front =
      let rest : List Bool = drop (length (spelling utf endian c)) bits in
      let all : spelling utf endian c ++ rest ≡ bits = ap (λ l. l ++ rest) (sym front) ∙ take-append-drop (length (spelling utf endian c)) bits in
      ap (character_of utf endian) (sym all)
      ∙ of_read (spelling utf endian c ++ rest) rest (character_of utf endian (spelling utf endian c ++ rest))
      ((character_reads_back setting (typed utf endian) utf c 0 rest refl refl is).1)

-- a character that was read, and the bits behind its spelling
module _ (utf : UtfKind) (endian : Endian) (bits : List Bool) (at c bytes : ℕ) (is : IsTrue (is_character c)) (many : bytes ≡ length (utf_bytes utf endian c))
    (front : Begins (spelling utf endian c) (drop at bits)) (inside : at ≤ length bits) where
  long : length (spelling utf endian c) ≡ 8 * bytes
  long = length-all_bits (utf_bytes utf endian c) ∙ ap (λ n. 8 * n) (sym many)

  pub ends_inside : at + 8 * bytes ≤ length bits
  ends_inside = omega (arith, inside, long, length-drop at bits, ap length front, length-take (length (spelling utf endian c)) (drop at bits))

  pub character_is : (found : Character) → found.number ≡ c → found.next ≡ at + 8 * bytes → IsCharacterAt utf endian bits at found
  character_is found number next = record {
    is = character_in_front utf endian c (drop at bits) is front ∙ ap Some (sym number);
    next = ap (λ d. drop (length (spelling utf endian d)) (drop at bits)) number ∙ ap (λ n. drop n (drop at bits)) long ∙ drop-drop (8 * bytes) at bits ∙ ap (λ n. drop n bits) (sym next);
    within = ap (λ d. bounded (pos d)) number ∙ bounded-pos c (omega (arith, character-lt c is)) ∙ ap (λ d. Some (pos d)) (sym number);
    inside = omega (arith, next, ends_inside);
  }

-- ---- As a segment

module _ (typed : Typed) (utf : UtfKind) (kind : typed.kind ≡ Utf utf) (bits : List Bool) (at : ℕ) where
  by_kind : d.cut typed Spelled (drop at bits) ≡ character_cut utf typed.endian (drop at bits) (character_of utf typed.endian (drop at bits))
  by_kind = ap (λ k. d.spelled_cut k typed.endian (drop at bits)) kind

  pub none_cut : character_of utf typed.endian (drop at bits) ≡ None → d.cut typed Spelled (drop at bits) ≡ None
  none_cut e = by_kind ∙ ap (character_cut utf typed.endian (drop at bits)) e

  pub one_cut : {R : Type 0} (found : Character) (off : CutOff R) → IsCharacterAt utf typed.endian bits at found
      → off.value ≡ Number (pos found.number) → off.next ≡ found.next → IsSpelledCut bits (d.cut typed Spelled (drop at bits)) (Some off)
  one_cut {R} found off is value next = (
    pos found.number,
    by_kind ∙ ap (character_cut utf typed.endian (drop at bits)) is.is
        ∙ ap (d.cut_off (VInt (pos found.number))) (is.next ∙ ap (λ n. drop n bits) (sym next)),
    subst (IsNumber (pos found.number)) (sym value) (refl, is.within),
    omega (arith, next, is.inside),
  )
