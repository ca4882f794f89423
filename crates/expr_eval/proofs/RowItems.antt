-- Items of tuples and lists, by their places.
use Rattle.std.proofs.Common.{◌≡◌, ℕ, ℤ, pos, negsuc, zero, suc, ◌+◌, ◌^◌, ◌<◌, ◌≤◌, Bool, List, [], ◌∷◌, ◌++◌, length, get_or, slice_get, Some, None, refl, ap, sym, ◌∙◌, inl, inr, add-one, arith}
use Rattle.std.proofs.lemmas.Bool.{cases_lt}
use Rattle.term_value.specs.BuiltIns.{element, badarg, gives_or_badarg}
use Rattle.term_value.specs.Result.{Gives}
use Rattle.term_value.specs.Value.{Value, Values, VInt, VTuple, items}
use Rattle.term_value.specs.Seen.{Row, end, then, meanings, AreKnown}
use Rattle.term_value.specs.Terms.{value_of, seen, row, IsOver}
use Rattle.term_value.specs.declared.term.Term.{Term}
use Rattle.term_value.proofs.RowLemmas.{onto, onto_end, onto_last}

module _ {R : Type 0} where
  pub item_of : (shown : R → List Bool) (ts : List (Term R)) (i : ℕ) (d : Term R) → i < length ts → slice_get (items (meanings shown (row ts))) i ≡ Some (value_of shown (get_or ts i d))
  item_of shown [] i d h = absurd (omega arith)
  item_of shown (t ∷ ts) zero d h = refl
  item_of shown (t ∷ ts) (suc i) d h = item_of shown ts i d (omega arith)

  pub no_item : (shown : R → List Bool) (ts : List (Term R)) (i : ℕ) → length ts ≤ i → slice_get (items (meanings shown (row ts))) i ≡ None
  no_item shown [] i h = refl
  no_item shown (t ∷ ts) zero h = absurd (omega arith)
  no_item shown (t ∷ ts) (suc i) h = no_item shown ts i (omega arith)

  pub known_item : (has : R → Type 0) (knows : ℕ → Type 0) (ts : List (Term R)) (i : ℕ) (d : Term R) → i < length ts → AreKnown has knows (row ts) → IsOver has knows (get_or ts i d)
  known_item has knows [] i d h k = absurd (omega arith)
  known_item has knows (t ∷ ts) zero d h k = k.0
  known_item has knows (t ∷ ts) (suc i) d h k = known_item has knows ts i d (omega arith) k.1

-- ---- items that are taken from the front of a list
module _ {R : Type 0} where
  pub onto_nothing : (ts : List (Term R)) (r : Row R) → r ≡ end → onto ts r ≡ row ts
  onto_nothing ts r e = ap (onto ts) e ∙ onto_end ts

  pub onto_next : (ts : List (Term R)) (t : Term R) (r rest : Row R) → r ≡ then (seen t) rest → onto (ts ++ t ∷ []) rest ≡ onto ts r
  onto_next ts t r rest e = onto_last ts t rest ∙ ap (onto ts) (sym e)

-- ---- the item at a place that is counted from 1
pub element_is : (vs : Values) (place : ℤ) (i : ℕ) (v : Value) → place ≡ pos (i + 1) → slice_get (items vs) i ≡ Some v → element (VInt place) (VTuple vs) ≡ Gives v
element_is vs place i v e s =
    ap (λ (z : ℤ). element (VInt z) (VTuple vs)) (e ∙ ap pos (add-one i)) ∙ ap gives_or_badarg s

pub element_past : (vs : Values) (place : ℤ) (i : ℕ) → place ≡ pos (i + 1) → slice_get (items vs) i ≡ None → badarg ≡ element (VInt place) (VTuple vs)
element_past vs place i e s =
    sym (ap (λ (z : ℤ). element (VInt z) (VTuple vs)) (e ∙ ap pos (add-one i)) ∙ ap gives_or_badarg s)

module _ {R : Type 0} (shown : R → List Bool) (ts : List (Term R)) where
  pub element_nowhere : (place : ℤ) → length ts < 2 ^ 64 → ((i : ℕ) → i < 2 ^ 64 → place ≡ pos (i + 1) → ⊥) → badarg ≡ element (VInt place) (VTuple (meanings shown (row ts)))
  element_nowhere (pos zero) s h = refl
  element_nowhere (pos (suc n)) s h =
      let large : 2 ^ 64 ≤ n = elim (cases_lt n (2 ^ 64)) [ inl below ↦ absurd (h n below (ap pos (sym (add-one n)))) | inr above ↦ above ] in
      sym (ap gives_or_badarg (no_item shown ts n (omega arith)))
  element_nowhere (negsuc n) s h = refl
