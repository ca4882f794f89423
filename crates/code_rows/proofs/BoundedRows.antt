-- The row of items with one more at its end: its values, its measures, and whether it is within the bounds.
use Rattle.std.proofs.Common.{◌≡◌, ◌+◌, ◌-◌, ◌^◌, ◌≤◌, ◌∙◌, ◌++◌, ◌∷◌, [], ◌&&◌, ℕ, Bool, true, false, List, length, map, min, max, nat_le, Option, Some, ap, sym, refl, arith}
use Rattle.std.proofs.lemmas.Bool.{leb-true}
use Rattle.std.proofs.lemmas.Grind.{common_steps}
use Rattle.std.proofs.lemmas.List.{map-append}
use Rattle.term_value.specs.Value.{Value, VList, more, row as values, count}
use Rattle.term_value.specs.Seen.{weight_of, weights_of, depth_of, depths_of, meanings, IsKnown, AreKnown}
use Rattle.term_value.specs.Terms.{seen, row}
use Rattle.term_value.specs.Bounds.{is_within, value_or_limit, within}
use Rattle.term_value.specs.Result.{Result, Gives, Stops}
use Rattle.term_value.specs.Made.{given}
use Rattle.term_value.specs.declared.term.Term.{Term}
use Rattle.term_value.proofs.Fits.{list_within}
use Rattle.term_value.proofs.Measures.{counts}
use Rattle.term_value.proofs.RowLemmas.{row_length}
use Rattle.bit_store.specs.Stores.{itself}
use Rattle.code_tree.specs.PlainTerms.{value, IsShort, AnyAtom}

pub row_values : (ts : List (Term (List Bool))) → meanings itself (row ts) ≡ values (map value (map seen ts))
row_values [] = refl
row_values (t ∷ ts) = ap (more (value (seen t))) (row_values ts)

pub seen_last : (ts : List (Term (List Bool))) (t : Term (List Bool)) → map seen (ts ++ t ∷ []) ≡ map seen ts ++ seen t ∷ []
seen_last ts t = map-append seen ts (t ∷ [])

pub weights_last : (ts : List (Term (List Bool))) (t : Term (List Bool)) → weights_of (row (ts ++ t ∷ [])) ≡ weights_of (row ts) + weight_of (seen t)
weights_last [] t = omega arith
weights_last (u ∷ ts) t = omega (arith, weights_last ts t)

pub depths_last : (ts : List (Term (List Bool))) (t : Term (List Bool)) → depths_of (row (ts ++ t ∷ [])) ≡ max (depths_of (row ts)) (depth_of (seen t))
depths_last [] t = omega arith
depths_last (u ∷ ts) t = omega (arith, depths_last ts t)

pub known_last : (ts : List (Term (List Bool))) (t : Term (List Bool)) → AreKnown IsShort AnyAtom (row ts) → IsKnown IsShort AnyAtom (seen t) → AreKnown IsShort AnyAtom (row (ts ++ t ∷ []))
known_last [] t h k = (k, tt)
known_last (u ∷ ts) t h k = (h.0, known_last ts t h.1 k)

first_true : (a b : Bool) → (a && b) ≡ true → a ≡ true
first_true true b h = refl
first_true false b h = h

-- a list within the bounds has few items
pub short : (ts : List (Term (List Bool))) → is_within (VList (meanings itself (row ts))) ≡ true → length ts ≤ 2 ^ 20
short ts h =
    let test : nat_le (count (meanings itself (row ts))) (2 ^ 20) ≡ true = first_true _ _ h in
    omega (arith, leb-true (count (meanings itself (row ts))) (2 ^ 20) test, counts itself (row ts), row_length ts)

-- the measures that are kept, those of an item, and those of all
module _ (ts : List (Term (List Bool))) (t : Term (List Bool)) (weight depth : ℕ) (hw : weight ≡ min (weights_of (row ts)) (2 ^ 32 - 1)) (hd : depth ≡ min (depths_of (row ts)) (2 ^ 32 - 1))
    (iw w id d : ℕ) (hiw : iw ≡ min (weight_of (seen t)) (2 ^ 32 - 1)) (ew : w ≡ min (weight + iw) (2 ^ 32 - 1)) (hid : id ≡ min (depth_of (seen t)) (2 ^ 32 - 1)) (ed : d ≡ max depth id) where
  pub weight_after : w ≡ min (weights_of (row (ts ++ t ∷ []))) (2 ^ 32 - 1)
  weight_after = omega (arith, hw, hiw, ew, weights_last ts t)

  pub depth_after : d ≡ min (depths_of (row (ts ++ t ∷ []))) (2 ^ 32 - 1)
  depth_after = omega (arith, hd, hid, ed, depths_last ts t)

  pub tested : (l w' d' : ℕ) (test : Bool) → length ts ≤ 2 ^ 20 → l ≡ length ts + 1 → w' ≡ min (w + 1) (2 ^ 32 - 1) → d' ≡ min (d + 1) (2 ^ 32 - 1)
      → test ≡ (nat_le l (2 ^ 20) && (nat_le w' (2 ^ 22) && nat_le d' 256)) → test ≡ is_within (VList (meanings itself (row (ts ++ t ∷ []))))
  tested l w' d' test few el ew' ed' is =
      list_within itself (row (ts ++ t ∷ [])) l w w' d d' test (omega (arith, few, el, row_length (ts ++ t ∷ []), length_last)) weight_after ew' depth_after ed' is where
        length_last : length (ts ++ t ∷ []) ≡ length ts + 1
        length_last = grind (arith, common_steps)

pub as_values : (ts : List (Term (List Bool))) (t : Term (List Bool)) → is_within (VList (meanings itself (row (ts ++ t ∷ [])))) ≡ is_within (VList (values (map value (map seen ts ++ seen t ∷ []))))
as_values ts t = ap (λ vs. is_within (VList vs)) (row_values (ts ++ t ∷ []) ∙ ap (λ ss. values (map value ss)) (seen_last ts t))

abbrev got : Value → Result → Value
got v (Gives w) = w
got v (Stops stop) = v

got_itself : (b : Bool) (v : Value) → got v (value_or_limit b v) ≡ v
got_itself true v = refl
got_itself false v = refl

-- the list that is made of items has their values
pub made_list : (o : Option (Term (List Bool))) (t : Term (List Bool)) (ts : List (Term (List Bool))) → o ≡ Some t → given itself o ≡ within (VList (meanings itself (row ts))) → value (seen t) ≡ VList (values (map value (map seen ts)))
made_list o t ts is made =
    let v = VList (meanings itself (row ts)) in
    ap (λ p. got v (given itself p)) (sym is) ∙ ap (got v) made ∙ got_itself (is_within v) v ∙ ap VList (row_values ts)
