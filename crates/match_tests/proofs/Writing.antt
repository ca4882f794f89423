-- Slots that are written, and what sizes come to.
use Rattle.std.proofs.Common.{◌≡◌, ◌≢◌, ℕ, zero, suc, ◌<◌, List, [], ◌∷◌, ◌++◌, Bool, true, false, length, set, cond, Option, Some, None, refl, ap, sym, subst, ◌∙◌, eqb-true, arith}
use Rattle.std.specs.Prelude.{nat_eq, slice_get, IfSome}
use Rattle.std.proofs.lemmas.List.{length-set}
use Rattle.bit_store.specs.Stores.{AnyAtom}
use Rattle.term_value.specs.Result.{Result}
use Rattle.term_value.specs.Seen.{Seen, IsKnown}
use Rattle.term_value.specs.declared.term.Term.{Term}
use Rattle.match_context.specs.Envs.{AreThere, IsSized, sized}
use Rattle.match_context.specs.declared.sized.Sized128.{Sized128}
use Rattle.match_context.specs.declared.sized.Sized128.TheVariants as w
use Rattle.match_tests.specs.Held.{held_in, seen_in, fixed_in}
use Rattle.match_tests.specs.Sizes.{slots_setting, rule_trees}
use Rattle.match_tests.specs.declared.slots.SizeRule.{SizeRule}

pub sized_is : (due : Result) (size : Sized128) → sized due ≡ size → IsSized due size
sized_is due (w.Size n) e = e
sized_is due w.Bad e = e
sized_is due w.Limit e = e
sized_is due w.NoMemory e = tt

module _ {X : Type 0} where
  same_place : (xs : List X) (i : ℕ) (x : X) → i < length xs → slice_get (set xs i x) i ≡ Some x
  same_place [] i x l = absurd (omega arith)
  same_place (y ∷ ys) zero x l = refl
  same_place (y ∷ ys) (suc i) x l = same_place ys i x (omega arith)

  other_place : (xs : List X) (i j : ℕ) (x : X) → i ≢ j → slice_get (set xs i x) j ≡ slice_get xs j
  other_place [] i j x ne = refl
  other_place (y ∷ ys) zero zero x ne = absurd (ne refl)
  other_place (y ∷ ys) zero (suc j) x ne = refl
  other_place (y ∷ ys) (suc i) zero x ne = refl
  other_place (y ∷ ys) (suc i) (suc j) x ne = other_place ys i j x (λ e. ne (ap suc e))

-- one more variable that isn't bound
pub none_more : {R : Type 0} (values : List (Option (Term R))) → ((x : ℕ) → held_in values x ≡ None) → (x : ℕ) → held_in (values ++ (None ∷ [])) x ≡ None
none_more [] h zero = refl
none_more [] h (suc x) = refl
none_more (slot ∷ values) h zero = h zero
none_more (slot ∷ values) h (suc x) = none_more values (λ k. h (suc k)) x

pub none_there : {R : Type 0} (has : R → Type 0) (held : ℕ → Option (Seen R)) → ((x : ℕ) → held x ≡ None) → AreThere has held
none_there has held h x = subst (λ o. IfSome o (IsKnown has AnyAtom)) (sym (h x)) tt

module _ {R : Type 0} (values : List (Option (Term R))) (i : ℕ) (slot : Option (Term R)) (l : i < length values) where
  written_at : (j : ℕ) (b : Bool) → nat_eq i j ≡ b → held_in (set values i slot) j ≡ cond b (seen_in (Some slot)) (held_in values j)
  written_at j true e = let at = eqb-true i j e in ap seen_in (ap (slice_get (set values i slot)) (sym at) ∙ same_place values i slot l)
  written_at j false e = ap seen_in (other_place values i j slot (λ at. grind (arith, e, at)))

  pub written : (j : ℕ) → held_in (set values i slot) j ≡ cond (nat_eq i j) (seen_in (Some slot)) (held_in values j)
  written j = written_at j (nat_eq i j) refl

pub kept : {R : Type 0} (values : List (Option (Term R))) (sizes : List SizeRule) (i : ℕ) (slot : Option (Term R)) → fixed_in (set values i slot) sizes ≡ fixed_in values sizes
kept values sizes i slot = ap (λ n. record { setting = slots_setting; trees = rule_trees sizes; variables = n; sizes = length sizes }) (length-set values i slot)
