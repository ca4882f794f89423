-- What was built of segments of fixed sizes is read by a pattern of the same segments.
use Rattle.std.proofs.Common.{◌≡◌, ℕ, suc, ◌+◌, ◌<◌, ◌≤◌, Bool, true, false, cond, nat_eq, List, [], ◌∷◌, ◌++◌, length, Option, Some, None, refl, ap, sym, ◌∙◌, arith, append_assoc, add-one}
use Rattle.std.specs.Prelude.{All, nat_le}
use Rattle.std.proofs.lemmas.Bool.{ne_eqb}
use Rattle.std.proofs.lemmas.List.{append-nil}
use Rattle.std.proofs.lemmas.List.Elements.{All-tail}
use Rattle.bits_value.specs.Number.{InBits}
use Rattle.erl_syntax.specs.declared.typing.Typed.{Typed}
use Rattle.term_value.specs.Bounds.{bit_bound, is_within}
use Rattle.term_value.specs.Decode.{Taken, Cut, CutOff, cut_off, cut, reach, bound_to, is_bindable, taken_where, wanted, taken_by, taken}
use Rattle.term_value.specs.Encode.{Encoded, Bits, Fails, Filled, encoded, and_bits, joint_within, built_on, built}
use Rattle.term_value.specs.Extent.{extent}
use Rattle.term_value.specs.Match.{Matched, then_take, all_taken, whole}
use Rattle.term_value.specs.PutIn.{value_in, target_or_variable}
use Rattle.term_value.specs.Result.{Result, Gives}
use Rattle.term_value.specs.Setting.{Setting}
use Rattle.term_value.specs.Tree.{Bound, Target, Variable}
use Rattle.term_value.specs.Value.{Value, VInt, VAtom, VPid, VTuple, VList, VBits}
use Rattle.match_laws.specs.Fixed.{IsFixed, KeepsWithin, IsWithin, IsInRange, extent_of, kept, size_part, pattern_of, bindings_of}
use Rattle.match_laws.specs.Laws.{BuiltIsRead}
use Rattle.match_laws.proofs.Cutting.{cuts}

-- ---- one segment
reaches : (s : Setting) (typed : Typed) (bs : List Bound) (size : Option Value) → reach s typed bs (size_part size) ≡ Some (extent typed.size typed.unit size)
reaches s typed bs None = refl
reaches s typed bs (Some v) = refl

bindable : (x : ℕ) (v : Value) → is_within v ≡ true → is_bindable (Variable x) v ≡ true
bindable x (VInt n) h = h
bindable x (VAtom a) h = refl
bindable x (VPid p) h = refl
bindable x (VTuple vs) h = refl
bindable x (VList vs) h = refl
bindable x (VBits bits) h = refl

reads : (s : Setting) (f : Filled) (b rest : List Bool) (x : ℕ) (bs : List Bound) → IsFixed f → KeepsWithin f → encoded f.typed f.value f.size ≡ Bits b → value_in bs x ≡ None
    → taken s f.typed (Variable x) (size_part f.size) bs (b ++ rest) ≡ Cut (bound_to x (kept f) bs) rest
reads s f b rest x bs fixed within e new =
    let bits : List Bool = b ++ rest in
    let last : Option Value → Target = λ o. target_or_variable o x in
    ap (λ (o : Option Value). taken_by s f.typed (last o) bs bits (reach s f.typed bs (size_part f.size))) new
    ∙ ap (taken_by s f.typed (Variable x) bs bits) (reaches s f.typed bs f.size)
    ∙ ap (wanted s (Variable x) bs) (cuts f.typed f.typed.kind (extent_of f) f.value b rest refl fixed e)
    ∙ ap (λ t. taken_where t (Some (bound_to x (kept f) bs)) rest) (bindable x (kept f) within)

-- ---- new variables
abbrev IsNew : List Bound → ℕ → Type 0
IsNew bs x = (y : ℕ) → x ≤ y → value_in bs y ≡ None

found_case : (t : Bool) (v : Value) (o : Option Value) → cond t (Some v) o ≡ None → (t ≡ false) × (o ≡ None)
found_case true v o e = cc e
found_case false v o e = (refl, e)

still_none : (bs : List Bound) (x y : ℕ) (v : Value) → x < y → value_in bs y ≡ None → value_in (bound_to x v bs) y ≡ None
still_none [] x y v h e = let ne : x ≡ y → ⊥ = λ q. absurd (omega arith) in ap (λ t. cond t (Some v) None) (ne_eqb x y ne)
still_none (b ∷ bs) x y v h e =
    let both = found_case (nat_eq b.variable y) b.value (value_in bs y) e in
    ap (λ t. cond t (Some b.value) (value_in (bound_to x v bs) y)) both.0 ∙ still_none bs x y v h both.1

-- ---- all segments
joint_gives : (t : Bool) (later : List Bool → Result) (w : List Bool) (r : Value) → joint_within t later w ≡ Gives r → later w ≡ Gives r
joint_gives true later w r e = e
joint_gives false later w r e = cc e

and_bits_gives : (c : Encoded) (later : List Bool → Result) (before : List Bool) (r : Value) → and_bits c later before ≡ Gives r → (b : List Bool) × (c ≡ Bits b) × (later (before ++ b) ≡ Gives r)
and_bits_gives (Bits b) later before r e = (b, refl, joint_gives (nat_le (length (before ++ b)) bit_bound) later (before ++ b) r e)
and_bits_gives (Fails stop) later before r e = cc e

pub first_of : (P : Filled → Type 0) (f : Filled) (fs : List Filled) → All P (f ∷ fs) → P f
first_of P f fs h = h 0 f (omega arith)

module _ (s : Setting) where
  -- what is built of the segments, whatever was built before, is read by their pattern
  abbrev IsRead : List Filled → List Bool → Type 0
  IsRead fs rest = (x : ℕ) (bs : List Bound) → IsNew bs x → all_taken s (pattern_of x fs) bs rest ≡ Cut (bs ++ bindings_of kept x fs) []

  read_first : (f : Filled) (fs : List Filled) (b rest : List Bool) → IsFixed f → KeepsWithin f → encoded f.typed f.value f.size ≡ Bits b → IsRead fs rest → IsRead (f ∷ fs) (b ++ rest)
  read_first f fs b rest fixed within e later x bs new =
      let one : Bound = record { variable = x; value = kept f } in
      ap (λ (t : Taken). then_take t (all_taken s (pattern_of (suc x) fs))) (reads s f b rest x bs fixed within e (new x (omega arith)))
      ∙ later (suc x) (bound_to x (kept f) bs) (λ y h. still_none bs x y (kept f) (omega arith) (new y (omega arith)))
      ∙ ap (λ (l : List Bound). Cut l []) (append_assoc bs (one ∷ []) (bindings_of kept (suc x) fs))

  all_read : (fs : List Filled) (before all : List Bool) → All IsFixed fs → All KeepsWithin fs → built_on fs before ≡ Gives (VBits all) → (rest : List Bool) × (all ≡ before ++ rest) × IsRead fs rest
  all_read [] before all fixed within e = ([], cc (e, append-nil before), λ x bs new. ap (λ (l : List Bound). Cut l []) (sym (append-nil bs)))
  all_read (f ∷ fs) before all fixed within e =
      let step = and_bits_gives (encoded f.typed f.value f.size) (built_on fs) before (VBits all) e in
      let later = all_read fs (before ++ step.0) all (All-tail IsFixed f fs fixed) (All-tail KeepsWithin f fs within) step.2 in (
        step.0 ++ later.0,
        later.1 ∙ append_assoc before step.0 later.0,
        read_first f fs step.0 later.0 (first_of IsFixed f fs fixed) (first_of KeepsWithin f fs within) step.1 later.2,
      )

pub built_is_read : BuiltIsRead
built_is_read s x fs bits fixed within e =
    let read = all_read s fs [] bits fixed within e in
    ap (λ (w : List Bool). whole (all_taken s (pattern_of x fs) [] w)) read.1 ∙ ap whole (read.2 x [] (λ y h. refl))
