-- What is known of the terms of all bindings, and what they stand for once a store has changed.
use Rattle.std.proofs.Common.{◌≡◌, ℕ, Bool, true, false, List, [], ◌∷◌, ◌++◌, Option, Some, None, cond, nat_eq, refl, ap, sym, subst, ◌∙◌}
use Rattle.std.proofs.lemmas.List.Elements.{All-nil, All-cons, All-head, All-tail, All-append}
use Rattle.std.specs.Prelude.{option_map, IfSome}
use Rattle.bit_store.specs.Stores.{AnyAtom, Keeps}
use Rattle.match_context.specs.Envs.{Agrees, AreThere}
use Rattle.term_value.specs.Tree.{Bound}
use Rattle.term_value.specs.Value.{Value, VTuple, VList, VBits, more}
use Rattle.term_value.specs.Seen.{Seen, SInt, SAtom, SPid, STuple, SList, SBits, Row, end, then, meaning, meanings, IsKnown, AreKnown}
use Rattle.proc_values.specs.Binds.{bounds, term_in, IsBound, AreBound}

module _ {R : Type 0} (has : R → Type 0) (knows : ℕ → Type 0) where
  -- no binding has a term that isn't known
  pub none_bound : AreBound has knows []
  none_bound = All-nil (IsBound has knows)

  -- one more known term
  pub more_bound : (bs : List (ℕ × Seen R)) (x : ℕ) (s : Seen R) → AreBound has knows bs → IsKnown has knows s → AreBound has knows (bs ++ (x, s) ∷ [])
  more_bound bs x s k h = All-append (IsBound has knows) bs ((x, s) ∷ []) k (All-cons (IsBound has knows) (x, s) [] h (All-nil (IsBound has knows)))

  first_or_later : (c : Bool) (one s : Seen R) (later : Option (Seen R)) → IsKnown has knows one → (later ≡ Some s → IsKnown has knows s) → cond c (Some one) later ≡ Some s → IsKnown has knows s
  first_or_later true one s later k h e = let same : one ≡ s = cc in subst (IsKnown has knows) same k
  first_or_later false one s later k h e = h e

  -- the term of a variable
  pub found_known : (bs : List (ℕ × Seen R)) (x : ℕ) (s : Seen R) → AreBound has knows bs → term_in bs x ≡ Some s → IsKnown has knows s
  found_known [] x s k e = absurd (cc)
  found_known (b ∷ bs) x s k e = first_or_later (nat_eq b.0 x) b.1 s (term_in bs x) (All-head (IsBound has knows) b bs k) (found_known bs x s (All-tail (IsBound has knows) b bs k)) e

-- where the terms of all bindings are known, so is each variable's value
module _ {R : Type 0} (has : R → Type 0) where
  there : (found : Option (Seen R)) → ((s : Seen R) → found ≡ Some s → IsKnown has AnyAtom s) → IfSome found (IsKnown has AnyAtom)
  there None h = tt
  there (Some s) h = h s refl

  pub bound_there : (bs : List (ℕ × Seen R)) → AreBound has AnyAtom bs → AreThere has (term_in bs)
  bound_there bs k x = there (term_in bs x) (λ s e. found_known has AnyAtom bs x s k e)

-- what one call keeps and then another is kept by both
pub keeps_then : {S R : Type 0} (shown : S → R → List Bool) (has : S → R → Type 0) (old mid new : S) → Keeps shown has old mid → Keeps shown has mid new → Keeps shown has old new
keeps_then shown has old mid new k l of h = ((l of (k of h).0).0, (l of (k of h).0).1 ∙ (k of h).1)

-- where each reference is there and shows the same bits, what was known is, and stands for the same
module _ {S R : Type 0} (shown : S → R → List Bool) (has : S → R → Type 0) (knows : ℕ → Type 0) (old new : S) (keeps : Keeps shown has old new) where
  mutual
    pub still_known : (s : Seen R) → IsKnown (has old) knows s → IsKnown (has new) knows s
    still_known (SInt n) k = tt
    still_known (SAtom a) k = k
    still_known (SPid p) k = tt
    still_known (STuple r) k = all_still_known r k
    still_known (SList r) k = all_still_known r k
    still_known (SBits b) k = (keeps b k).0

    pub all_still_known : (r : Row R) → AreKnown (has old) knows r → AreKnown (has new) knows r
    all_still_known end k = tt
    all_still_known (then s r) k = (still_known s k.0, all_still_known r k.1)

  mutual
    pub same_meaning : (s : Seen R) → IsKnown (has old) knows s → meaning (shown new) s ≡ meaning (shown old) s
    same_meaning (SInt n) k = refl
    same_meaning (SAtom a) k = refl
    same_meaning (SPid p) k = refl
    same_meaning (STuple r) k = ap VTuple (same_meanings r k)
    same_meaning (SList r) k = ap VList (same_meanings r k)
    same_meaning (SBits b) k = ap VBits (keeps b k).1

    pub same_meanings : (r : Row R) → AreKnown (has old) knows r → meanings (shown new) r ≡ meanings (shown old) r
    same_meanings end k = refl
    same_meanings (then s r) k = ap (λ (v : Value). more v (meanings (shown new) r)) (same_meaning s k.0) ∙ ap (more (meaning (shown old) s)) (same_meanings r k.1)

  pub still_bound : (bs : List (ℕ × Seen R)) → AreBound (has old) knows bs → AreBound (has new) knows bs
  still_bound [] k = All-nil (IsBound (has new) knows)
  still_bound (b ∷ bs) k = All-cons (IsBound (has new) knows) b bs (still_known b.1 (All-head (IsBound (has old) knows) b bs k)) (still_bound bs (All-tail (IsBound (has old) knows) b bs k))

  pub same_bounds : (bs : List (ℕ × Seen R)) → AreBound (has old) knows bs → bounds (shown new) bs ≡ bounds (shown old) bs
  same_bounds [] k = refl
  same_bounds (b ∷ bs) k =
      let head : meaning (shown new) b.1 ≡ meaning (shown old) b.1 = same_meaning b.1 (All-head (IsBound (has old) knows) b bs k) in
      let tail : bounds (shown new) bs ≡ bounds (shown old) bs = same_bounds bs (All-tail (IsBound (has old) knows) b bs k) in
      let bound : Value → Bound = λ v. record { variable = b.0; value = v } in
      ap (λ (v : Value). bound v ∷ bounds (shown new) bs) head ∙ ap (λ (cs : List Bound). bound (meaning (shown old) b.1) ∷ cs) tail

module _ {S R : Type 0} (shown : S → R → List Bool) (has : S → R → Type 0) (old new : S) (keeps : Keeps shown has old new) where
  value_there : (found : Option (Seen R)) → IfSome found (IsKnown (has old) AnyAtom) → IfSome found (IsKnown (has new) AnyAtom)
  value_there None k = tt
  value_there (Some s) k = still_known shown has AnyAtom old new keeps s k

  same_value : (found : Option (Seen R)) → IfSome found (IsKnown (has old) AnyAtom) → option_map (meaning (shown new)) found ≡ option_map (meaning (shown old)) found
  same_value None k = refl
  same_value (Some s) k = ap Some (same_meaning shown has AnyAtom old new keeps s k)

  -- the values of variables are there still
  pub still_there : (held : ℕ → Option (Seen R)) → AreThere (has old) held → AreThere (has new) held
  still_there held k x = value_there (held x) (k x)

  -- bindings that give each variable its value do so still
  pub still_agrees : (held : ℕ → Option (Seen R)) (bs : List Bound) → AreThere (has old) held → Agrees (shown old) held bs → Agrees (shown new) held bs
  still_agrees held bs k a x = a x ∙ sym (same_value (held x) (k x))
