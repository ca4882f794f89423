-- Bytes of binaries as integers, one after the other.
use Rattle.std.proofs.Common.{◌≡◌, ℕ, zero, suc, pos, ◌+◌, ◌-◌, ◌*◌, ◌/◌, ◌%◌, ◌^◌, ◌<◌, ◌≤◌, Bool, true, false, cond, ◌&&◌, List, [], ◌∷◌, ◌++◌, length, map, take, drop, drop-drop, refl, ap, sym, subst, ◌∙◌, append_assoc, arith}
use Rattle.std.proofs.lemmas.Bool.Decides.{nat_tests}
use Rattle.std.proofs.lemmas.List.{length-take-le, length-drop}
use Rattle.bits_value.specs.Number.{natural}
use Rattle.bits_value.proofs.BitLists.{natural-lt}
use Rattle.term_value.specs.Bounds.{within, is_short, is_small, item_bound, value_or_limit}
use Rattle.term_value.specs.BuiltIns.{badarg, binary_to_list, bytes_of, integers, is_whole}
use Rattle.term_value.specs.Primitives.{bounded_result}
use Rattle.term_value.specs.Result.{Gives, Stops, Limit}
use Rattle.term_value.specs.Seen.{meanings, AreKnown}
use Rattle.term_value.specs.Terms.{row}
use Rattle.term_value.specs.Value.{Value, Values, VInt, VList, VBits, more, count}
use Rattle.term_value.specs.declared.term.Term.{Term}
use Rattle.term_value.specs.declared.term.Term.TheVariants.{Int}

abbrev pub int_terms : {R : Type 0} → List ℕ → List (Term R)
int_terms ns = map (λ n. Int (pos n)) ns

-- one more byte of the bits
pub byte_more : (bits : List Bool) (n i : ℕ) → i < n → bytes_of (n - i) (drop (8 * i) bits) ≡ natural (take 8 (drop (8 * i) bits)) ∷ bytes_of (n - (i + 1)) (drop (8 * (i + 1)) bits)
byte_more bits n i h =
    let a : n - i ≡ suc (n - (i + 1)) = omega arith in
    let b : 8 * i + 8 ≡ 8 * (i + 1) = omega arith in
    ap (λ m. bytes_of m (drop (8 * i) bits)) a
    ∙ ap (λ l. natural (take 8 (drop (8 * i) bits)) ∷ bytes_of (n - (i + 1)) l) (drop-drop 8 (8 * i) bits ∙ ap (λ k. drop k bits) b)

-- items that are pushed behind others
pub pushed : {X : Type 0} (old new : List X) (x : X) (left rest all : List X) → new ≡ old ++ x ∷ [] → left ≡ x ∷ rest → old ++ left ≡ all → new ++ rest ≡ all
pushed old new x left rest all n l h = ap (λ xs. xs ++ rest) n ∙ append_assoc old (x ∷ []) rest ∙ ap (λ xs. old ++ xs) (sym l) ∙ h

pub byte_fits : (bits : List Bool) (off : ℕ) → off + 8 ≤ length bits → natural (take 8 (drop off bits)) < 2 ^ 8
byte_fits bits off h =
    let size : length (take 8 (drop off bits)) ≡ 8 = length-take-le 8 (drop off bits) (omega (arith, length-drop off bits)) in
    let below : natural (take 8 (drop off bits)) < 2 ^ length (take 8 (drop off bits)) = natural-lt (take 8 (drop off bits)) in
    let P : ℕ → Type 0 = λ k. natural (take 8 (drop off bits)) < 2 ^ k in subst P size below

-- ---- lists of integers
pub count_integers : (ns : List ℕ) → count (integers ns) ≡ length ns
count_integers [] = refl
count_integers (n ∷ ns) = omega (arith, count_integers ns)

pub length-bytes_of : (n : ℕ) (bits : List Bool) → length (bytes_of n bits) ≡ n
length-bytes_of zero bits = refl
length-bytes_of (suc n) bits = omega (arith, length-bytes_of n (drop 8 bits))

too_long : (b : Bool) (v : Value) → b ≡ false → Stops Limit ≡ value_or_limit b v
too_long true v e = cc
too_long false v e = refl

short_first : (a b : Bool) → a ≡ false → (a && b) ≡ false
short_first true b e = cc
short_first false b e = refl

past_items : (vs : Values) → item_bound < count vs → Stops Limit ≡ within (VList vs)
past_items vs h =
    let long : is_short vs ≡ false = grind (arith, nat_tests) in
    too_long (is_short vs && is_small (VList vs)) (VList vs) (short_first (is_short vs) (is_small (VList vs)) long)

whole_list : (bits : List Bool) (b : Bool) → b ≡ true → within (VList (integers (bytes_of (length bits / 8) bits))) ≡ bounded_result (cond b (Gives (VList (integers (bytes_of (length bits / 8) bits)))) badarg)
whole_list bits true e = refl
whole_list bits false e = cc

whole : (bits : List Bool) → length bits % 8 ≡ 0 → is_whole bits ≡ true
whole bits h = grind (arith, nat_tests)

pub list_is : (bits : List Bool) → length bits % 8 ≡ 0 → within (VList (integers (bytes_of (length bits / 8) bits))) ≡ bounded_result (binary_to_list (VBits bits))
list_is bits h = whole_list bits (is_whole bits) (whole bits h)

pub long_list : (bits : List Bool) → length bits % 8 ≡ 0 → item_bound < length bits / 8 → Stops Limit ≡ bounded_result (binary_to_list (VBits bits))
long_list bits w h =
    past_items (integers (bytes_of (length bits / 8) bits)) (omega (arith, count_integers (bytes_of (length bits / 8) bits), length-bytes_of (length bits / 8) bits)) ∙ list_is bits w

module _ {R : Type 0} where
  pub int_values : (shown : R → List Bool) (ns : List ℕ) → meanings shown (row (int_terms ns)) ≡ integers ns
  int_values shown [] = refl
  int_values shown (n ∷ ns) = ap (more (VInt (pos n))) (int_values shown ns)

  pub ints_known : (has : R → Type 0) (knows : ℕ → Type 0) (ns : List ℕ) → AreKnown has knows (row (int_terms ns))
  ints_known has knows [] = tt
  ints_known has knows (n ∷ ns) = (tt, ints_known has knows ns)
