-- Values in their segments' ranges are kept.
use Rattle.std.proofs.Common.{◌≡◌, ℕ, suc, pos, true, List, [], ◌∷◌, length, take, refl, arith, ap, sym, subst, ◌∙◌}
use Rattle.std.specs.Prelude.{All, slice_index_or}
use Rattle.std.proofs.lemmas.List.Elements.{All-tail}
use Rattle.std.proofs.lemmas.List.{take_all}
use Rattle.bits_value.specs.Number.{number, spell}
use Rattle.bits_value.specs.declared.Endian.TheVariants.{Big}
use Rattle.bits_value.specs.declared.Sign.{Sign}
use Rattle.bits_value.proofs.Spellings.{number-spell}
use Rattle.erl_syntax.specs.declared.typing.Kind.{Kind}
use Rattle.erl_syntax.specs.declared.typing.Kind.TheVariants as k
use Rattle.term_value.specs.Bounds.{is_within}
use Rattle.term_value.specs.Encode.{Filled}
use Rattle.term_value.specs.Extent.{Extent, Exactly, Spelled}
use Rattle.term_value.specs.Match.{Yes}
use Rattle.term_value.specs.Tree.{Bound}
use Rattle.term_value.specs.Value.{Value, VInt, VBits}
use Rattle.match_laws.specs.Fixed.{IsFixedAs, IsInRangeAs, IsFixed, IsInRange, KeepsWithin, IsWithin, kept_as, kept, extent_of, bindings_of}
use Rattle.match_laws.specs.Laws.{InRangeIsKept, BuiltReadsBack}
use Rattle.match_laws.proofs.Cutting.{number_is}
use Rattle.match_laws.proofs.Reading.{built_is_read, first_of}

kept_is : (kind : Kind) (sign : Sign) (e : Extent) (v : Value) → IsInRangeAs kind sign e v → IsFixedAs kind e × (kept_as kind sign e v ≡ v)
kept_is k.Int sign (Exactly n) (VInt v) h = (tt, ap VInt (sym (number_is sign Big n v) ∙ number-spell sign Big n v h))
kept_is k.Binary sign (Exactly n) (VBits bits) h = (tt, ap VBits (take_all n bits (omega arith)))
kept_is k.Bitstring sign (Exactly n) (VBits bits) h = (tt, ap VBits (take_all n bits (omega arith)))
kept_is (k.Utf utf) sign Spelled (VInt (pos c)) h = (tt, refl)
kept_is _ sign e v h = absurd h

pub in_range_is_kept : InRangeIsKept
in_range_is_kept f h = kept_is f.typed.kind f.typed.sign (extent_of f) f.value h

abbrev own : Filled → Value
own f = f.value

same_bindings : (x : ℕ) (fs : List Filled) → All IsInRange fs → bindings_of kept x fs ≡ bindings_of own x fs
same_bindings x [] h = refl
same_bindings x (f ∷ fs) h =
    let first : Value → Bound = λ v. record { variable = x; value = v } in
    ap (λ (v : Value). first v ∷ bindings_of kept (suc x) fs) (in_range_is_kept f (first_of IsInRange f fs h)).1
    ∙ ap (λ (l : List Bound). first f.value ∷ l) (same_bindings (suc x) fs (All-tail IsInRange f fs h))

pub built_reads_back : BuiltReadsBack
built_reads_back s x fs bits range within e =
    let fixed : All IsFixed fs = λ i d h. (in_range_is_kept (slice_index_or fs i d) (range i d h)).0 in
    let keeps : All KeepsWithin fs = λ i d h. ap is_within (in_range_is_kept (slice_index_or fs i d) (range i d h)).1 ∙ within i d h in
    built_is_read s x fs bits fixed keeps e ∙ ap Yes (same_bindings x fs range)
