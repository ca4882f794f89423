-- What is wanted of a value that was cut off.
use Rattle.std.proofs.Common.{◌≡◌, ℕ, ℤ, Bool, true, false, cond, List, Option, Some, None, refl, ap, sym, subst, ◌∙◌}
use Rattle.std.specs.Prelude.{is_some, option_map, drop}
use Rattle.std.specs.Ordering.{is_eq, int_cmp, bool_cmp}
use Rattle.std.specs.Cmp.Lexicographic.{slice_cmp}
use Rattle.std.specs.Cmp.{ranked_equal, int_ranks}
use Rattle.bits_value.specs.Number.{bounded}
use Rattle.erl_syntax.specs.declared.typing.Typed.{Typed}
use Rattle.segment_cut.specs.Cuts.{IsValue, IsCutOff}
use Rattle.segment_cut.specs.declared.value.CutOff.{CutOff}
use Rattle.segment_cut.specs.declared.value.CutValue.{CutValue}
use Rattle.segment_cut.specs.declared.value.CutValue.TheVariants.{Number, LongNumber, Part}
use Rattle.term_value.specs.Decode as d
use Rattle.term_value.specs.Extent as ext
use Rattle.term_value.specs.Order.{same}
use Rattle.term_value.specs.PutIn.{in_target, target_or_variable, value_in}
use Rattle.term_value.specs.Seen.{Seen, meaning}
use Rattle.term_value.specs.Setting.{Setting}
use Rattle.term_value.specs.Terms.{seen, value_of}
use Rattle.term_value.specs.Tree as t
use Rattle.term_value.specs.Value.{Value, Values, VInt, VAtom, VPid, VTuple, VList, VBits}
use Rattle.term_value.specs.declared.term.Term.{Term}
use Rattle.pattern_compile.specs.Meaning.{typed_of, target_of, sizes_of, wants, size_form}
use Rattle.pattern_compile.specs.declared.operation.Operation.{Operation}
use Rattle.pattern_compile.specs.declared.pattern.SizeForm.{SizeForm}
use Rattle.pattern_compile.specs.declared.pattern.Target.{Target}
use Rattle.match_context.specs.declared.found.Found.{Found}
use Rattle.match_context.specs.Places.{IsFound, IsValueOf, HasCut, bound_value, bound_found}

two : (m n : ℤ) → bounded m ≡ Some m → bounded n ≡ None → m ≡ n → ⊥
two m n within past e = cc

unequal : (m n : ℤ) (b : Bool) → is_eq (int_cmp m n) ≡ b → bounded m ≡ Some m → bounded n ≡ None → b ≡ false
unequal m n true e within past = absurd (two m n within past ((ranked_equal m n (int_cmp m n) (int_ranks m n)).0 e))
unequal m n false e within past = refl

module _ {R : Type 0} (shown : R → List Bool) (v : Value) (names : ℕ → List ℕ) where
  -- ---- A number

  pub number_same : (m n : ℤ) → IsValueOf shown v (Number n) → is_eq (int_cmp m n) ≡ same names (VInt m) v
  number_same m n is = ap (same names (VInt m)) (sym is.0)

  pub long_same : (m : ℤ) → bounded m ≡ Some m → IsValueOf shown v LongNumber → false ≡ same names (VInt m) v
  long_same m within is = sym (unequal m is.0 (is_eq (int_cmp m is.0)) refl within is.2) ∙ ap (same names (VInt m)) (sym is.1)

  pub part_number : (m : ℤ) (of : R) → IsValueOf shown v (Part of) → false ≡ same names (VInt m) v
  part_number m of is = ap (same names (VInt m)) (sym is)

  -- ---- Bits

  pub part_same : (bits : List Bool) (of : R) → IsValueOf shown v (Part of) → is_eq (slice_cmp bool_cmp bits (shown of)) ≡ same names (VBits bits) v
  part_same bits of is = ap (same names (VBits bits)) (sym is)

  pub number_part : (bits : List Bool) (n : ℤ) → IsValueOf shown v (Number n) → false ≡ same names (VBits bits) v
  number_part bits n is = ap (same names (VBits bits)) (sym is.0)

  pub long_part : (bits : List Bool) → IsValueOf shown v LongNumber → false ≡ same names (VBits bits) v
  long_part bits is = ap (same names (VBits bits)) (sym is.1)

  -- ---- Another term

  none_same : (w : Value) → ((n : ℤ) → same names w (VInt n) ≡ false) → ((bits : List Bool) → same names w (VBits bits) ≡ false) → (value : CutValue R) → IsValueOf shown v value → false ≡ same names w v
  none_same w number bits (Number n) is = sym (number n) ∙ ap (same names w) (sym is.0)
  none_same w number bits LongNumber is = sym (number is.0) ∙ ap (same names w) (sym is.1)
  none_same w number bits (Part of) is = sym (bits (shown of)) ∙ ap (same names w) (sym is)

  pub atom_same : (a : ℕ) (value : CutValue R) → IsValueOf shown v value → false ≡ same names (VAtom a) v
  atom_same a value is = none_same (VAtom a) (λ n. refl) (λ bits. refl) value is

  pub pid_same : (p : ℕ) (value : CutValue R) → IsValueOf shown v value → false ≡ same names (VPid p) v
  pid_same p value is = none_same (VPid p) (λ n. refl) (λ bits. refl) value is

  pub tuple_same : (vs : Values) (value : CutValue R) → IsValueOf shown v value → false ≡ same names (VTuple vs) v
  tuple_same vs value is = none_same (VTuple vs) (λ n. refl) (λ bits. refl) value is

  pub list_same : (vs : Values) (value : CutValue R) → IsValueOf shown v value → false ≡ same names (VList vs) v
  list_same vs value is = none_same (VList vs) (λ n. refl) (λ bits. refl) value is

-- ---- What a variable or a literal wants

module _ {R : Type 0} (shown : R → List Bool) (s : Setting) (bs : List t.Bound) (v : Value) where
  pub literal_met : (n : ℤ) (b : Bool) → b ≡ same s.names (VInt n) v → cond b (Some bs) None ≡ d.met s (t.Equal (VInt n)) v bs
  literal_met n b e = ap (λ c. cond c (Some bs) None) e

  pub variable_met : (x : ℕ) (held : Option (Seen R)) (term : Term R) (b : Bool) → held ≡ Some (seen term) → value_in bs x ≡ option_map (meaning shown) held → b ≡ same s.names (value_of shown term) v
      → cond b (Some bs) None ≡ d.met s (target_or_variable (value_in bs x) x) v bs
  variable_met x held term b h a e = ap (λ c. cond c (Some bs) None) e ∙ ap (λ o. d.met s (target_or_variable o x) v bs) (sym (a ∙ ap (option_map (meaning shown)) h))

pub none_known : {R : Type 0} (held : Option (Seen R)) → held ≡ None → is_some held ≡ true → ⊥
none_known None h k = cc
none_known (Some seen) h k = cc

pub not_known : {R : Type 0} (held : Option (Seen R)) → is_some held ≡ false → held ≡ None
not_known None h = refl
not_known (Some seen) h = cc

-- ---- What is found

same_taken : (s : Setting) (target : t.Target) (v : Value) (bs : List t.Bound) (rest : List Bool) (w : Value) → target ≡ t.Equal w → d.taken_where true (d.met s target v bs) rest ≡ d.wanted s target bs (d.cut_off v rest)
same_taken s target v bs rest w e = subst (λ g. d.taken_where true (d.met s g v bs) rest ≡ d.wanted s g bs (d.cut_off v rest)) (sym e) refl

module _ {R : Type 0} (shown : R → List Bool) (s : Setting) (bs : List t.Bound) (v : Value) (rest : List Bool) where
  -- a variable that isn't bound
  bound_number : (x : ℕ) (n : ℤ) → IsValueOf shown v (Number n) → d.wanted s (t.Variable x) bs (d.cut_off v rest) ≡ d.Cut (d.bound_to x (VInt n) bs) rest
  bound_number x n is = ap (λ u. d.wanted s (t.Variable x) bs (d.cut_off u rest)) is.0 ∙ ap (λ o. d.taken_where (is_some o) (Some (d.bound_to x (VInt n) bs)) rest) is.1

  bound_long : (x : ℕ) → IsValueOf shown v LongNumber → d.wanted s (t.Variable x) bs (d.cut_off v rest) ≡ d.CutLimit
  bound_long x is = ap (λ u. d.wanted s (t.Variable x) bs (d.cut_off u rest)) is.1 ∙ ap (λ o. d.taken_where (is_some o) (Some (d.bound_to x (VInt is.0) bs)) rest) is.2

  bound_part : (x : ℕ) (of : R) → IsValueOf shown v (Part of) → d.wanted s (t.Variable x) bs (d.cut_off v rest) ≡ d.Cut (d.bound_to x (VBits (shown of)) bs) rest
  bound_part x of is = ap (λ u. d.wanted s (t.Variable x) bs (d.cut_off u rest)) is

module _ {R : Type 0} (shown : R → List Bool) (s : Setting) (bs : List t.Bound) (v : Value) (all : List Bool) where
  free_found : (x : ℕ) (value : CutValue R) (next : ℕ) → IsValueOf shown v value → IsFound shown bs all (d.wanted s (t.Variable x) bs (d.cut_off v (drop next all))) (bound_value x value next)
  free_found x (Number n) next is = bound_number shown s bs v (drop next all) x n is
  free_found x LongNumber next is = bound_long shown s bs v (drop next all) x is
  free_found x (Part of) next is = bound_part shown s bs v (drop next all) x of is

  pub variable_found : (x : ℕ) (held : Option (Seen R)) (off : CutOff R) → is_some held ≡ false → value_in bs x ≡ option_map (meaning shown) held → IsValueOf shown v off.value
      → IsFound shown bs all (d.wanted s (target_or_variable (value_in bs x) x) bs (d.cut_off v (drop off.next all))) (bound_found x off)
  variable_found x held off k a is =
      subst (λ o. IsFound shown bs all (d.wanted s (target_or_variable o x) bs (d.cut_off v (drop off.next all))) (bound_found x off))
      (sym (a ∙ ap (option_map (meaning shown)) (not_known held k))) (free_found x off.value off.next is)

-- ---- What was cut off

module _ {R : Type 0} (shown : R → List Bool) (has : R → Type 0) where
  value_of_cut : (v : Value) (value : CutValue R) → IsValue shown has v value → IsValueOf shown v value
  value_of_cut v (Number n) is = is
  value_of_cut v LongNumber is = is
  value_of_cut v (Part of) is = is.0

  has_cut : (v : Value) (value : CutValue R) → IsValue shown has v value → HasCut has value
  has_cut v (Number n) is = tt
  has_cut v LongNumber is = tt
  has_cut v (Part of) is = is.1

  pub off_has : (all : List Bool) (cut : Option d.CutOff) (off : CutOff R) → IsCutOff shown has all cut off → HasCut has off.value
  off_has all cut off is = has_cut is.value off.value is.same

  module _ (s : Setting) (trees : ℕ → t.Tree) (bs : List t.Bound) (all : List Bool) (at : ℕ) (op : Operation) (typed : Typed) (size : Option SizeForm) (target : Target) (te : typed ≡ typed_of op) (se : size ≡ size_form op) where
    by_parts : (g : Target) → g ≡ wants op → d.taken s typed (target_of g) (sizes_of trees size) bs (drop at all) ≡ d.taken s (typed_of op) (target_of (wants op)) (sizes_of trees (size_form op)) bs (drop at all)
    by_parts g ge =
        ap (λ x. d.taken s x (target_of g) (sizes_of trees size) bs (drop at all)) te
        ∙ ap (λ x. d.taken s (typed_of op) (target_of x) (sizes_of trees size) bs (drop at all)) ge
        ∙ ap (λ x. d.taken s (typed_of op) (target_of (wants op)) (sizes_of trees x) bs (drop at all)) se

    module _ (extent : ext.Extent) (reached : d.reach s typed bs (sizes_of trees size) ≡ Some extent) where
      pub off_found : (off : CutOff R) → IsCutOff shown has all (d.cut typed extent (drop at all)) off → (ge : target ≡ wants op) → (found : Found R)
          → ((v : Value) → IsValueOf shown v off.value → IsFound shown bs all (d.wanted s (in_target bs (target_of target)) bs (d.cut_off v (drop off.next all))) found)
          → IsFound shown bs all (d.taken s (typed_of op) (target_of (wants op)) (sizes_of trees (size_form op)) bs (drop at all)) found
      off_found off is ge found h =
          subst (λ (due : d.Taken). IsFound shown bs all due found)
          (ap (d.wanted s (in_target bs (target_of target)) bs) (sym is.is) ∙ ap (d.taken_by s typed (in_target bs (target_of target)) bs (drop at all)) (sym reached) ∙ by_parts target ge)
          (h is.value (value_of_cut is.value off.value is.same))

      pub none_found : d.cut typed extent (drop at all) ≡ None → d.taken s (typed_of op) (target_of (wants op)) (sizes_of trees (size_form op)) bs (drop at all) ≡ d.NoCut
      none_found e =
          sym (by_parts (wants op) refl)
          ∙ ap (d.taken_by s typed (in_target bs (target_of (wants op))) bs (drop at all)) reached
          ∙ ap (d.wanted s (in_target bs (target_of (wants op))) bs) e
