-- What the newest binding says of each variable.
use Rattle.std.proofs.Common.{◌≡◌, ◌≢◌, ℕ, Bool, true, false, List, [], ◌∷◌, ◌++◌, Option, Some, None, cond, nat_eq, refl, ap, sym, ◌∙◌}
use Rattle.std.proofs.lemmas.Bool.{eq-eqb, eqb-true}
use Rattle.std.proofs.lemmas.List.{map-append}
use Rattle.term_value.specs.Value.{Value}
use Rattle.term_value.specs.Seen.{Seen}
use Rattle.term_value.specs.PutIn.{value_in}
use Rattle.term_layers.proofs.Twice.{or_else, value_in-append}
use Rattle.code_tree.specs.PlainTerms.{value}
use Rattle.code_match.specs.Binds.{bound_of, bounds}

or_none : (o : Option Value) → or_else o None ≡ o
or_none None = refl
or_none (Some v) = refl

appended : (bs : List (ℕ × Seen (List Bool))) (b : ℕ × Seen (List Bool)) (x : ℕ) → value_in (bounds (bs ++ b ∷ [])) x ≡ or_else (value_in (bounds bs) x) (cond (nat_eq b.0 x) (Some (value b.1)) None)
appended bs b x = ap (λ cs. value_in cs x) (map-append bound_of bs (b ∷ [])) ∙ value_in-append (bounds bs) (bound_of b ∷ []) x

found : (c : Bool) (v : Value) → c ≡ true → cond c (Some v) None ≡ Some v
found c v e = ap (λ b. cond b (Some v) None) e

pub newest_is : (bs : List (ℕ × Seen (List Bool))) (b : ℕ × Seen (List Bool)) (x : ℕ) → value_in (bounds bs) b.0 ≡ None → b.0 ≡ x → value_in (bounds (bs ++ b ∷ [])) x ≡ Some (value b.1)
newest_is bs b x new e = appended bs b x ∙ ap (λ o. or_else o (cond (nat_eq b.0 x) (Some (value b.1)) None)) (ap (λ y. value_in (bounds bs) y) (sym e) ∙ new) ∙ found (nat_eq b.0 x) (value b.1) (eq-eqb b.0 x e)

no_longer : (y x : ℕ) (c : Bool) → nat_eq y x ≡ c → y ≢ x → (v : Value) → cond c (Some v) None ≡ None
no_longer y x true e other v = absurd (other (eqb-true y x e))
no_longer y x false e other v = refl

pub newest_is_not : (bs : List (ℕ × Seen (List Bool))) (b : ℕ × Seen (List Bool)) (x : ℕ) → b.0 ≢ x → value_in (bounds (bs ++ b ∷ [])) x ≡ value_in (bounds bs) x
newest_is_not bs b x other = appended bs b x ∙ ap (or_else (value_in (bounds bs) x)) (no_longer b.0 x (nat_eq b.0 x) refl other (value b.1)) ∙ or_none (value_in (bounds bs) x)
