-- A list's items, last first.
use Rattle.std.proofs.Common.{◌≡◌, ℕ, Bool, List, [], ◌∷◌, ◌++◌, map, reverse, refl, ap, sym, subst, ◌∙◌}
use Rattle.std.proofs.lemmas.List.{reverse-append}
use Rattle.term_value.specs.BuiltIns.{list_reversed}
use Rattle.term_value.specs.Bounds.{within}
use Rattle.term_value.specs.Primitives.{bounded_result}
use Rattle.term_value.specs.Seen.{Row, meanings, AreKnown}
use Rattle.term_value.specs.Terms.{value_of, row, IsOver}
use Rattle.term_value.specs.Value.{Value, Values, VList, more, items, row as values}
use Rattle.term_value.specs.declared.term.Term.{Term}

-- the reverse of a list with one more item in front
reverse_front : {X : Type 0} (x : X) (xs : List X) → reverse (x ∷ xs) ≡ reverse xs ++ x ∷ []
reverse_front x xs = reverse-append (x ∷ []) xs

module _ {R : Type 0} where
  module _ (shown : R → List Bool) where
    pub items_are : (ts : List (Term R)) → items (meanings shown (row ts)) ≡ map (value_of shown) ts
    items_are [] = refl
    items_are (t ∷ ts) = ap (λ (vs : List Value). value_of shown t ∷ vs) (items_are ts)

    pub values_are : (ts : List (Term R)) → meanings shown (row ts) ≡ values (map (value_of shown) ts)
    values_are [] = refl
    values_are (t ∷ ts) = ap (more (value_of shown t)) (values_are ts)

    map_last : (ts : List (Term R)) (t : Term R) → map (value_of shown) (ts ++ t ∷ []) ≡ map (value_of shown) ts ++ value_of shown t ∷ []
    map_last [] t = refl
    map_last (u ∷ ts) t = ap (λ (vs : List Value). value_of shown u ∷ vs) (map_last ts t)

    map_reverse : (ts : List (Term R)) → map (value_of shown) (reverse ts) ≡ reverse (map (value_of shown) ts)
    map_reverse [] = refl
    map_reverse (t ∷ ts) = ap (map (value_of shown)) (reverse_front t ts) ∙ map_last (reverse ts) t
        ∙ ap (λ (vs : List Value). vs ++ value_of shown t ∷ []) (map_reverse ts) ∙ sym (reverse_front (value_of shown t) (map (value_of shown) ts))

    reversed_values : (ts : List (Term R)) → meanings shown (row (reverse ts)) ≡ values (reverse (items (meanings shown (row ts))))
    reversed_values ts = values_are (reverse ts) ∙ ap values (map_reverse ts ∙ ap reverse (sym (items_are ts)))

    -- what the reversed items of a list give
    pub reversed_is : (list : Term R) (r : Row R) (ts us : List (Term R)) → value_of shown list ≡ VList (meanings shown r) → row ts ≡ r → us ≡ reverse ts
        → within (VList (meanings shown (row us))) ≡ bounded_result (list_reversed (value_of shown list))
    reversed_is list r ts us le re ue =
        ap (λ (xs : List (Term R)). within (VList (meanings shown (row xs)))) ue
        ∙ ap (λ (vs : Values). within (VList vs)) (reversed_values ts ∙ ap (λ (s : Row R). values (reverse (items (meanings shown s)))) re)
        ∙ ap (λ (v : Value). bounded_result (list_reversed v)) (sym le)

  module _ (has : R → Type 0) (knows : ℕ → Type 0) where
    known_last : (ts : List (Term R)) (t : Term R) → AreKnown has knows (row ts) → IsOver has knows t → AreKnown has knows (row (ts ++ t ∷ []))
    known_last [] t h k = (k, tt)
    known_last (u ∷ ts) t h k = (h.0, known_last ts t h.1 k)

    known_reverse : (ts : List (Term R)) → AreKnown has knows (row ts) → AreKnown has knows (row (reverse ts))
    known_reverse [] h = tt
    known_reverse (t ∷ ts) h =
        let P : List (Term R) → Type 0 = λ us. AreKnown has knows (row us) in
        subst P (sym (reverse_front t ts)) (known_last (reverse ts) t (known_reverse ts h.1) h.0)

    pub reversed_known : (r : Row R) (ts us : List (Term R)) → row ts ≡ r → us ≡ reverse ts → AreKnown has knows r → AreKnown has knows (row us)
    reversed_known r ts us re ue h =
        let P : List (Term R) → Type 0 = λ xs. AreKnown has knows (row xs) in
        subst P (sym ue) (known_reverse ts (subst (AreKnown has knows) (sym re) h))
