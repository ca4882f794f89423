-- What the newest binding says of each variable, and what is known of all bindings' terms.
use Rattle.std.proofs.Common.{◌≡◌, ◌≢◌, ℕ, Bool, true, false, List, [], ◌∷◌, ◌++◌, Option, Some, None, option_map, cond, nat_eq, refl, ap, sym, ◌∙◌}
use Rattle.std.proofs.lemmas.Bool.{eq-eqb, eqb-true}
use Rattle.term_value.specs.PutIn.{value_in}
use Rattle.term_value.specs.Seen.{Seen, meaning}
use Rattle.proc_values.specs.Binds.{bounds, chained, term_in}
use Rattle.proc_values.specs.declared.bindings.Chain.{Chain}
use Rattle.proc_values.specs.declared.bindings.Chain.TheVariants.{Empty, More}

module _ {R : Type 0} where
  abbrev or_else : Option (Seen R) → Option (Seen R) → Option (Seen R)
  or_else None p = p
  or_else (Some s) p = Some s

  or_else_cond : (c : Bool) (s : Seen R) (o p : Option (Seen R)) → cond c (Some s) (or_else o p) ≡ or_else (cond c (Some s) o) p
  or_else_cond true s o p = refl
  or_else_cond false s o p = refl

  appended : (bs : List (ℕ × Seen R)) (b : ℕ × Seen R) (x : ℕ) → term_in (bs ++ b ∷ []) x ≡ or_else (term_in bs x) (cond (nat_eq b.0 x) (Some b.1) None)
  appended [] b x = refl
  appended (c ∷ bs) b x = ap (cond (nat_eq c.0 x) (Some c.1)) (appended bs b x) ∙ or_else_cond (nat_eq c.0 x) c.1 (term_in bs x) (cond (nat_eq b.0 x) (Some b.1) None)

  or_none : (o : Option (Seen R)) → or_else o None ≡ o
  or_none None = refl
  or_none (Some s) = refl

  found : (c : Bool) (s : Seen R) → c ≡ true → cond c (Some s) None ≡ Some s
  found c s e = ap (λ b. cond b (Some s) None) e

  pub newest_is : (bs : List (ℕ × Seen R)) (b : ℕ × Seen R) (x : ℕ) → term_in bs b.0 ≡ None → b.0 ≡ x → term_in (bs ++ b ∷ []) x ≡ Some b.1
  newest_is bs b x new e = appended bs b x ∙ ap (λ o. or_else o (cond (nat_eq b.0 x) (Some b.1) None)) (ap (λ y. term_in bs y) (sym e) ∙ new) ∙ found (nat_eq b.0 x) b.1 (eq-eqb b.0 x e)

  no_longer : (y x : ℕ) (c : Bool) → nat_eq y x ≡ c → y ≢ x → (s : Seen R) → cond c (Some s) None ≡ None
  no_longer y x true e other s = absurd (other (eqb-true y x e))
  no_longer y x false e other s = refl

  pub newest_is_not : (bs : List (ℕ × Seen R)) (b : ℕ × Seen R) (x : ℕ) → b.0 ≢ x → term_in (bs ++ b ∷ []) x ≡ term_in bs x
  newest_is_not bs b x other = appended bs b x ∙ ap (or_else (term_in bs x)) (no_longer b.0 x (nat_eq b.0 x) refl other b.1) ∙ or_none (term_in bs x)

  -- the first link of what is left of a chain, whose newer bindings are of other variables
  module _ (all : List (ℕ × Seen R)) (left : Chain R) (link : (ℕ × Seen R) × List (ℕ × Seen R)) (x : ℕ) (so_far : term_in (chained left) x ≡ term_in all x) (is : left ≡ More link) where
    here : (b : ℕ × Seen R) (earlier : List (ℕ × Seen R)) → (b, earlier) ≡ link → term_in (earlier ++ b ∷ []) x ≡ term_in all x
    here b earlier e = ap (λ (l : (ℕ × Seen R) × List (ℕ × Seen R)). term_in (l.1 ++ l.0 ∷ []) x) e ∙ ap (λ (c : Chain R). term_in (chained c) x) (sym is) ∙ so_far

    pub link_found : (b : ℕ × Seen R) (earlier : List (ℕ × Seen R)) → (b, earlier) ≡ link → term_in earlier b.0 ≡ None → b.0 ≡ x → term_in all x ≡ Some b.1
    link_found b earlier e new same = sym (here b earlier e) ∙ newest_is earlier b x new same

    pub link_passed : (b : ℕ × Seen R) (earlier : List (ℕ × Seen R)) → (b, earlier) ≡ link → b.0 ≢ x → term_in earlier x ≡ term_in all x
    link_passed b earlier e other = sym (newest_is_not earlier b x other) ∙ here b earlier e

  -- no link is left
  pub none_found : (all : List (ℕ × Seen R)) (left : Chain R) (x : ℕ) → term_in (chained left) x ≡ term_in all x → ((link : (ℕ × Seen R) × List (ℕ × Seen R)) → left ≡ More link → ⊥) → term_in all x ≡ None
  none_found all Empty x so_far other = sym so_far
  none_found all (More link) x so_far other = absurd (other link refl)

  -- the value of a variable is that of its term
  meant : (shown : R → List Bool) (c : Bool) (s : Seen R) (o : Option (Seen R)) → cond c (Some (meaning shown s)) (option_map (meaning shown) o) ≡ option_map (meaning shown) (cond c (Some s) o)
  meant shown true s o = refl
  meant shown false s o = refl

  pub value_is : (shown : R → List Bool) (bs : List (ℕ × Seen R)) (x : ℕ) → value_in (bounds shown bs) x ≡ option_map (meaning shown) (term_in bs x)
  value_is shown [] x = refl
  value_is shown (b ∷ bs) x = ap (cond (nat_eq b.0 x) (Some (meaning shown b.1))) (value_is shown bs x) ∙ meant shown (nat_eq b.0 x) b.1 (term_in bs x)
