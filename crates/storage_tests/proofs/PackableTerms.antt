-- Terms whose references are valid, and whose values are within the bounds.
use Rattle.std.proofs.Common.{◌≡◌, ℕ, ◌≤◌, Bool, true, false, List, [], ◌∷◌, length, All, Option, Some, nat_le, refl, sym, subst, arith}
use Rattle.std.proofs.lemmas.List.Elements.{All-head, All-tail}
use Rattle.bits_value.specs.declared.TheConstants.{MAX_BITS}
use Rattle.bit_store.specs.Stores.{AnyAtom}
use Rattle.term_value.specs.Bounds.{is_within, within, value_or_limit}
use Rattle.term_value.specs.Made.{given, IsMadeOf}
use Rattle.term_value.specs.Result.{Gives, Stops, Limit}
use Rattle.term_value.specs.Seen.{Seen, STuple, SList, IsKnown, AreKnown, meaning, meanings}
use Rattle.term_value.specs.Terms.{value_of, seen, row}
use Rattle.term_value.specs.Value.{Value, VTuple, VList}
use Rattle.term_value.specs.declared.term.Term.{Term}
use Rattle.off_heap.specs.declared.cell.Cell.{Cell}
use Rattle.off_heap.specs.declared.reference.BitRef.{BitRef}
use Rattle.off_heap.specs.Cells.{Valid, shown}
use Rattle.off_heap.specs.Parcels.{IsBounded, AreBounded}
use Rattle.off_heap.specs.Short.{valid_is_short}
use Rattle.storage_tests.specs.Packable.{IsPackable}

at_most : (m n : ℕ) → m ≤ n → nat_le m n ≡ true
at_most m n h = grind arith

pub bits_packable : (cells : List (Option Cell)) (of : BitRef) → Valid cells of → nat_le (length (shown cells of)) MAX_BITS ≡ true
bits_packable cells of h = at_most (length (shown cells of)) MAX_BITS (valid_is_short cells of h)

known : (cells : List (Option Cell)) (ts : List (Term BitRef)) → All (IsPackable cells) ts → AreKnown (Valid cells) AnyAtom (row ts)
known cells [] h = tt
known cells (t ∷ ts) h = ((All-head (IsPackable cells) t ts h).0, known cells ts (All-tail (IsPackable cells) t ts h))

bound : (cells : List (Option Cell)) (ts : List (Term BitRef)) → All (IsPackable cells) ts → AreBounded (meanings (shown cells) (row ts))
bound cells [] h = tt
bound cells (t ∷ ts) h = ((All-head (IsPackable cells) t ts h).1, bound cells ts (All-tail (IsPackable cells) t ts h))

gives_within : (b : Bool) (v w : Value) → Gives w ≡ value_or_limit b v → b ≡ true
gives_within true v w e = refl
gives_within false v w e = let f : Gives w ≡ Stops Limit = e in cc

made_packable : (cells : List (Option Cell)) (s : Seen BitRef) (made : Option (Term BitRef)) (t : Term BitRef) → made ≡ Some t → IsMadeOf s made →
    given (shown cells) made ≡ within (meaning (shown cells) s) → IsKnown (Valid cells) AnyAtom s → (is_within (meaning (shown cells) s) ≡ true → IsBounded (meaning (shown cells) s)) → IsPackable cells t
made_packable cells s made t e is g known bound =
    let same : seen t ≡ s = subst (IsMadeOf s) e is in
    let gives : Gives (value_of (shown cells) t) ≡ within (meaning (shown cells) s) = subst (λ (o : Option (Term BitRef)). given (shown cells) o ≡ within (meaning (shown cells) s)) e g in
    let P : Seen BitRef → Type 0 = λ u. IsKnown (Valid cells) AnyAtom u × IsBounded (meaning (shown cells) u) in
    subst P (sym same) (known, bound (gives_within (is_within (meaning (shown cells) s)) (meaning (shown cells) s) (value_of (shown cells) t) gives))

module _ (cells : List (Option Cell)) (ts : List (Term BitRef)) (made : Option (Term BitRef)) (t : Term BitRef) (e : made ≡ Some t) (h : All (IsPackable cells) ts) where
  pub tuple_packable : IsMadeOf (STuple (row ts)) made → given (shown cells) made ≡ within (VTuple (meanings (shown cells) (row ts))) → IsPackable cells t
  tuple_packable is g = made_packable cells (STuple (row ts)) made t e is g (known cells ts h) (λ w. (w, bound cells ts h))

  pub list_packable : IsMadeOf (SList (row ts)) made → given (shown cells) made ≡ within (VList (meanings (shown cells) (row ts))) → IsPackable cells t
  list_packable is g = made_packable cells (SList (row ts)) made t e is g (known cells ts h) (λ w. (w, bound cells ts h))
