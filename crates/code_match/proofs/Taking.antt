-- Segments taken off the front, one by one.
use Rattle.std.proofs.Common.{◌≡◌, ℕ, ℤ, ◌+◌, ◌<◌, ◌≤◌, Bool, true, List, length, drop, get_or, Option, Some, None, refl, ap, sym, subst, ◌∙◌}
use Rattle.std.specs.Prelude.{is_some, option_map}
use Rattle.std.proofs.lemmas.List.{at_drop_more, drop_all}
use Rattle.bits_value.specs.Number.{bounded}
use Rattle.bits_build.specs.Extents.{IsExtent}
use Rattle.bits_build.specs.declared.extent.Extent.{Extent}
use Rattle.bits_build.specs.declared.extent.Extent.TheVariants as x
use Rattle.bit_store.specs.Stores.{itself}
use Rattle.segment_cut.specs.Cuts.{IsCutOff, IsValue}
use Rattle.segment_cut.specs.declared.value.CutOff.{CutOff}
use Rattle.segment_cut.specs.declared.value.CutValue.TheVariants.{Number, LongNumber, Part}
use Rattle.term_value.specs.Decode as d
use Rattle.term_value.specs.Extent as ext
use Rattle.term_value.specs.Match.{Matched, Yes, No, MatchLimit, match_where, then_take, all_taken}
use Rattle.term_value.specs.Guards.{result_of}
use Rattle.term_value.specs.PutIn.{in_target, put_in}
use Rattle.term_value.specs.Result.{Result, Gives, Stops, Raise, Limit}
use Rattle.term_value.specs.Setting.{Setting}
use Rattle.term_value.specs.Tree.{Bound, Target, Anything, Variable, Equal}
use Rattle.term_value.specs.Value.{Value, VInt, VBits}
use Rattle.erl_syntax.specs.declared.typing.Typed.{Typed}
use Rattle.code_tree.specs.PlainTerms.{IsShort}
use Rattle.code_tree.specs.Reading.{SegmentRead, segment_of, segments_of, size, target_of, tree_of}
use Rattle.code_tree.specs.declared.pattern.Segment.{Segment}
use Rattle.code_tree.specs.declared.pattern.Target as code
use Rattle.code_tree.specs.declared.tree.Tree.{Tree}
use Rattle.code_tree.proofs.Equations.{segment_of-Plain, segment_of-Sized}
use Rattle.code_match.specs.Places.{IsReach, HasShort}

module _ (s : Setting) (xs : List Segment) (i : ℕ) (p : Segment) (l : i < length xs) (here : p ≡ get_or xs i p) where
  next_taken : (bs : List Bound) (bits : List Bool) → all_taken s (segments_of (drop i xs)) bs bits
      ≡ then_take (d.taken s (segment_of p).typed (segment_of p).target (size (segment_of p).size) bs bits) (all_taken s (segments_of (drop (i + 1) xs)))
  next_taken bs bits = at_drop_more (λ ys. all_taken s (segments_of ys) bs bits) xs i p l
      ∙ ap (λ q. then_take (d.taken s (segment_of q).typed (segment_of q).target (size (segment_of q).size) bs bits) (all_taken s (segments_of (drop (i + 1) xs)))) (sym here)

  -- what the next segment comes to, and those behind it
  pub taken_is : (taken due : d.Taken) (bs : List Bound) (bits : List Bool) → taken ≡ d.taken s (segment_of p).typed (segment_of p).target (size (segment_of p).size) bs bits
      → all_taken s (segments_of (drop i xs)) bs bits ≡ due → then_take taken (all_taken s (segments_of (drop (i + 1) xs))) ≡ due
  taken_is taken due bs bits e inv = ap (λ t. then_take t (all_taken s (segments_of (drop (i + 1) xs)))) e ∙ sym (next_taken bs bits) ∙ inv

-- behind the last segment
pub none_left : (s : Setting) (xs : List Segment) (i : ℕ) (bs : List Bound) (bits : List Bool) (due : d.Taken) → length xs ≤ i → all_taken s (segments_of (drop i xs)) bs bits ≡ due → d.Cut bs bits ≡ due
none_left s xs i bs bits due l inv = ap (λ ys. all_taken s (segments_of ys) bs bits) (sym (drop_all i xs l)) ∙ inv

-- ---- One segment

bindable_number : (t : Target) (n : ℤ) → bounded n ≡ Some n → d.is_bindable t (VInt n) ≡ true
bindable_number Anything n e = refl
bindable_number (Variable x) n e = ap is_some e
bindable_number (Equal w) n e = refl

bindable_bits : (t : Target) (bits : List Bool) → d.is_bindable t (VBits bits) ≡ true
bindable_bits Anything bits = refl
bindable_bits (Variable x) bits = refl
bindable_bits (Equal w) bits = refl

module _ (s : Setting) (t : Target) (bs : List Bound) (bits : List Bool) (cut : Option d.CutOff) (off : CutOff (List Bool)) (is : IsCutOff itself IsShort bits cut off) where
  of_value : (v : Value) → is.value ≡ v → d.wanted s t bs (d.cut_off v (drop off.next bits)) ≡ d.wanted s t bs cut
  of_value v e = ap (λ w. d.wanted s t bs (d.cut_off w (drop off.next bits))) (sym e) ∙ ap (d.wanted s t bs) (sym is.is)

  pub number_wanted : (n : ℤ) → off.value ≡ Number n → d.taken_where true (d.met s t (VInt n) bs) (drop off.next bits) ≡ d.wanted s t bs cut
  number_wanted n e =
      let v : IsValue itself IsShort is.value (Number n) = subst (IsValue itself IsShort is.value) e is.same in
      ap (λ b. d.taken_where b (d.met s t (VInt n) bs) (drop off.next bits)) (sym (bindable_number t n v.1)) ∙ of_value (VInt n) v.0

  pub part_wanted : (of : List Bool) → off.value ≡ Part of → d.taken_where true (d.met s t (VBits of) bs) (drop off.next bits) ≡ d.wanted s t bs cut
  part_wanted of e =
      let v : IsValue itself IsShort is.value (Part of) = subst (IsValue itself IsShort is.value) e is.same in
      ap (λ b. d.taken_where b (d.met s t (VBits of) bs) (drop off.next bits)) (sym (bindable_bits t of)) ∙ of_value (VBits of) v.0

  pub long_wanted : (place : d.Taken) → off.value ≡ LongNumber → ((n : ℤ) → bounded n ≡ None → place ≡ d.wanted s t bs (d.cut_off (VInt n) (drop off.next bits))) → place ≡ d.wanted s t bs cut
  long_wanted place e h =
      let v : IsValue itself IsShort is.value LongNumber = subst (IsValue itself IsShort is.value) e is.same in
      h v.0 v.2 ∙ of_value (VInt v.0) v.1

pub is_short : (v : Value) (off : CutOff (List Bool)) → IsValue itself IsShort v off.value → HasShort off.value
is_short v off is = elim off.value as (λ w. IsValue itself IsShort v w → HasShort w) [ Number n ↦ λ h. tt | LongNumber ↦ λ h. tt | Part of ↦ λ h. h.1 ] is

-- ---- The same as a match

abbrev of_match : Matched → List Bool → d.Taken
of_match (Yes bs) rest = d.Cut bs rest
of_match No rest = d.NoCut
of_match MatchLimit rest = d.CutLimit

of_found : (o : Option (List Bound)) (rest : List Bool) → of_match (match_where o) rest ≡ d.taken_where true o rest
of_found (Some bs) rest = refl
of_found None rest = refl

pub yes_place : (o : Option (List Bound)) (bs : List Bound) (rest : List Bool) → Yes bs ≡ match_where o → d.Cut bs rest ≡ d.taken_where true o rest
yes_place o bs rest e = ap (λ m. of_match m rest) e ∙ of_found o rest

pub no_place : (o : Option (List Bound)) (rest : List Bool) → No ≡ match_where o → d.NoCut ≡ d.taken_where true o rest
no_place o rest e = ap (λ m. of_match m rest) e ∙ of_found o rest

pub limit_place : (o : Option (List Bound)) (rest : List Bool) → MatchLimit ≡ match_where o → d.CutLimit ≡ d.taken_where true o rest
limit_place o rest e = ap (λ m. of_match m rest) e ∙ of_found o rest

-- ---- How many bits

module _ (typed : Typed) (due : Result) where
  pub reach_gives : (v : Value) (found : Extent) → Gives v ≡ due → IsExtent (ext.extent typed.size typed.unit (Some v)) found → IsReach (d.reach_by typed due) (Some found)
  reach_gives v found e is = subst (λ r. IsReach (d.reach_by typed r) (Some found)) e (ext.extent typed.size typed.unit (Some v), refl, is)

  pub reach_raised : (reason : Value) → Stops (Raise reason) ≡ due → IsReach (d.reach_by typed due) (Some x.BadSize)
  reach_raised reason e = subst (λ r. IsReach (d.reach_by typed r) (Some x.BadSize)) e (ext.BadSize, refl, refl)

  pub reach_limit : Stops Limit ≡ due → IsReach (d.reach_by typed due) None
  reach_limit e = ap (d.reach_by typed) (sym e)

module _ (s : Setting) (typed : Typed) (bs : List Bound) (written : Option Tree) where
  pub plain_reach : (found : Extent) → written ≡ None → IsExtent (ext.extent typed.size typed.unit None) found → IsReach (d.reach s typed bs (size (option_map tree_of written))) (Some found)
  plain_reach found e is = subst (λ (w : Option Tree). IsReach (d.reach s typed bs (size (option_map tree_of w))) (Some found)) (sym e) (ext.extent typed.size typed.unit None, refl, is)

  pub sized_reach : (u : Tree) (found : Option Extent) → written ≡ Some u → IsReach (d.reach_by typed (result_of s (put_in bs (tree_of u)))) found → IsReach (d.reach s typed bs (size (option_map tree_of written))) found
  sized_reach u found e is = subst (λ (w : Option Tree). IsReach (d.reach s typed bs (size (option_map tree_of w))) found) (sym e) is

-- ---- A segment, by its parts

segment_parts : (typed : Typed) (target : code.Target) (written : Option Tree) → segment_of (record { typed = typed; target = target; size = written }) ≡ record { typed = typed; target = target_of target; size = option_map tree_of written }
segment_parts typed target None = segment_of-Plain typed target
segment_parts typed target (Some u) = segment_of-Sized typed target u

module _ (s : Setting) (k : Segment) (bs : List Bound) (bits : List Bool) where
  of_parts : d.taken s k.typed (target_of k.target) (size (option_map tree_of k.size)) bs bits ≡ d.taken s (segment_of k).typed (segment_of k).target (size (segment_of k).size) bs bits
  of_parts = ap (λ (r : SegmentRead). d.taken s r.typed r.target (size r.size) bs bits) (sym (segment_parts k.typed k.target k.size))

  pub unreached : d.reach s k.typed bs (size (option_map tree_of k.size)) ≡ None → d.CutLimit ≡ d.taken s (segment_of k).typed (segment_of k).target (size (segment_of k).size) bs bits
  unreached e = ap (d.taken_by s k.typed (in_target bs (target_of k.target)) bs bits) (sym e) ∙ of_parts

  pub wanted_taken : (extent : ext.Extent) (place : d.Taken) → d.reach s k.typed bs (size (option_map tree_of k.size)) ≡ Some extent → place ≡ d.wanted s (in_target bs (target_of k.target)) bs (d.cut k.typed extent bits)
      → place ≡ d.taken s (segment_of k).typed (segment_of k).target (size (segment_of k).size) bs bits
  wanted_taken extent place e is = is ∙ ap (d.taken_by s k.typed (in_target bs (target_of k.target)) bs bits) (sym e) ∙ of_parts

  pub none_taken : (extent : ext.Extent) → d.reach s k.typed bs (size (option_map tree_of k.size)) ≡ Some extent → d.cut k.typed extent bits ≡ None
      → d.NoCut ≡ d.taken s (segment_of k).typed (segment_of k).target (size (segment_of k).size) bs bits
  none_taken extent e is = wanted_taken extent d.NoCut e (ap (d.wanted s (in_target bs (target_of k.target)) bs) (sym is))
