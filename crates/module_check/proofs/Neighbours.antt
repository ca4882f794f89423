-- Whether two variables stand at one place, by those that are neighbours.
use Rattle.std.proofs.Common.{◌≡◌, ℕ, ◌+◌, ◌<◌, Bool, true, false, List, length, get_or, refl, sym, ◌∙◌, ap, subst, inl, inr, arith}
use Rattle.std.specs.Bool.{MatchBool}
use Rattle.std.specs.List.{IsAllAdjacentAnswer, AllAdjacentBelow}
use Rattle.std.specs.List.Sorted.{IsStrictlySortedBy}
use Rattle.std.specs.declared.cmp.Ordering.{Ordering}
use Rattle.std.specs.declared.cmp.Ordering.TheVariants.{Less, Equal, Greater}
use Rattle.std.specs.Ordering.{is_lt}
use Rattle.std.specs.Cmp.{IsTotalOrder}
use Rattle.std.proofs.lemmas.Bool.Decides.{leb_tells}
use Rattle.std.proofs.lemmas.Cmp.{on_total, tied_itself}
use Rattle.std.proofs.lemmas.List.{get_or_default}
use Rattle.std.proofs.lemmas.Map.Keys.{Less-from_sorted, sorted_from_all_adjacent}
use Rattle.module_check.specs.declared.places.Position.{Position}
use Rattle.module_check.specs.declared.places.Occurrence.{Occurrence}
use Rattle.module_check.specs.Numbers.{position_cmp, occurrence_cmp}
use Rattle.module_check.specs.Places.{Apart}
use Rattle.module_check.proofs.Ordered.{position_total}
use Rattle.module_check.proofs.Numbered.{apart_less}

abbrev pub at_cmp : Occurrence → Occurrence → Ordering
at_cmp a b = position_cmp a.at b.at

abbrev pub is_left : Occurrence → Occurrence → Bool
is_left a b = is_lt (at_cmp a b)

less_is : (o : Ordering) → true ≡ is_lt o → o ≡ Less
less_is Less h = refl
less_is Equal h = cc
less_is Greater h = cc

not_less : (o : Ordering) → false ≡ is_lt o → o ≡ Less → ⊥
not_less Less h e = cc
not_less Equal h e = cc
not_less Greater h e = cc

-- where one place comes before another, they differ
differ : (a b : Occurrence) → at_cmp a b ≡ Less → a.at ≡ b.at → ⊥
differ a b l e =
    let P : Position → Type 0 = λ z. position_cmp a.at z ≡ Less in
    let t : Equal ≡ Less = sym (tied_itself position_total a.at) ∙ subst P (sym e) l in cc

at_total : IsTotalOrder at_cmp
at_total = on_total (λ (o : Occurrence). o.at) position_total

module _ (os : List Occurrence) where
  ordered : AllAdjacentBelow (λ x y. true ≡ is_left x y) os (length os) → (d : Occurrence) → IsStrictlySortedBy at_cmp os
  ordered h d = sorted_from_all_adjacent at_total os d (λ k l. less_is (at_cmp (get_or os k d) (get_or os (k + 1) d)) (h k d l))

  before : IsStrictlySortedBy at_cmp os → (i j : ℕ) (a b : Occurrence) → i < j → j < length os → get_or os i a ≡ a → get_or os j b ≡ b → a.at ≡ b.at → ⊥
  before s i j a b l m e f g =
      let P : Occurrence → Type 0 = λ z. at_cmp z (get_or os j a) ≡ Less in
      let Q : Occurrence → Type 0 = λ z. at_cmp a z ≡ Less in
      differ a b (subst Q (get_or_default os j a b m ∙ f) (subst P e (Less-from_sorted at_cmp os i j a s l m))) g

  one : (i j : ℕ) (a b : Occurrence) → i ≡ j → i < length os → get_or os i a ≡ a → get_or os j b ≡ b → a ≡ b
  one i j a b n l e f = sym e ∙ get_or_default os i a b l ∙ ap (λ k. get_or os k b) n ∙ f

  apart_by : IsStrictlySortedBy at_cmp os → Apart os
  apart_by s a b (i, l, e) (j, m, f) g = elim (leb_tells i j) [
    | inl t ↦ (elim (leb_tells j i) [
      | inl u ↦ ap (λ (o : Occurrence). o.bound_at) (one i j a b (omega arith) l e f)
      | inr u ↦ absurd (before s i j a b (omega arith) m e f g)
    ])
    | inr t ↦ absurd (before s j i b a (omega arith) l f e (sym g))
  ]

  -- two neighbours, of which the first does not stand before the second
  stuck : (k : ℕ) (d : Occurrence) → k + 1 < length os → false ≡ is_left (get_or os k d) (get_or os (k + 1) d) → IsStrictlySortedBy occurrence_cmp os → Apart os → ⊥
  stuck k d l h s a =
      let x = get_or os k d in
      let y = get_or os (k + 1) d in
      let less : occurrence_cmp x y ≡ Less = Less-from_sorted occurrence_cmp os k (k + 1) d s (omega arith) l in
      not_less (at_cmp x y) h (apart_less x y less (a x y (k, omega (arith, l), get_or_default os k x d (omega (arith, l))) (k + 1, l, get_or_default os (k + 1) y d l)))

pub told : (os : List Occurrence) (r : Bool) → IsAllAdjacentAnswer (λ x y b. b ≡ is_left x y) os r → IsStrictlySortedBy occurrence_cmp os → MatchBool r (Apart os) (Apart os → ⊥)
told os true h s = λ a b i k e. apart_by os (ordered os h a) a b i k e
told os false (k, l, h) s = λ a.
    let none : Position = record { line = 0; column = 0 } in
    let d : Occurrence = record { at = none; bound_at = none } in
    stuck os k d l (h d) s a

-- what the answer true says of the list that was asked of
pub apart_where_told : (os asked : List Occurrence) (r : Bool) → asked ≡ os → (IsStrictlySortedBy occurrence_cmp asked → MatchBool r (Apart asked) (Apart asked → ⊥)) → IsStrictlySortedBy occurrence_cmp os → r ≡ true → Apart os
apart_where_told os asked r e h s t =
    let P : List Occurrence → Type 0 = λ zs. IsStrictlySortedBy occurrence_cmp zs → MatchBool r (Apart zs) (Apart zs → ⊥) in
    let Q : Bool → Type 0 = λ b. MatchBool b (Apart os) (Apart os → ⊥) in
    subst Q t (subst P e h s)
