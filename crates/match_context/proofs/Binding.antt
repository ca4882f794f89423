-- Variables that are bound, and that are taken away again.
use Rattle.std.proofs.Common.{◌≡◌, ℕ, ◌+◌, ◌<◌, ◌≤◌, Bool, true, false, cond, List, [], ◌∷◌, map, length, get_or, drop, Option, Some, None, refl, ap, sym, subst, ◌∙◌, eqb-true}
use Rattle.std.specs.Prelude.{◌||◌, nat_eq, is_some, option_map, All, IfSome}
use Rattle.std.proofs.lemmas.List.{at_drop_more, drop_all}
use Rattle.std.proofs.lemmas.List.Elements.{All-nil, All-cons}
use Rattle.bit_store.specs.Stores.{AnyAtom}
use Rattle.term_value.specs.Decode.{bound_to}
use Rattle.term_value.specs.PutIn.{value_in}
use Rattle.term_value.specs.Seen.{Seen, meaning, IsKnown}
use Rattle.term_value.specs.Terms.{seen, value_of, IsOver}
use Rattle.term_value.specs.Tree.{Bound}
use Rattle.term_value.specs.Value.{Value}
use Rattle.term_value.specs.declared.term.Term.{Term}
use Rattle.pattern_compile.specs.Meaning.{wants}
use Rattle.pattern_compile.specs.Patterns.{TargetFits, TargetsFit, TargetInRange, binds, also, one_binds}
use Rattle.pattern_compile.specs.declared.pattern.Target.{Target}
use Rattle.pattern_compile.specs.declared.pattern.Target.TheVariants.{Bind, Same, Any}
use Rattle.pattern_compile.specs.declared.operation.Operation.{Operation}
use Rattle.match_context.specs.Envs.{Fixed, Agrees, AreThere, known}
use Rattle.match_context.specs.Runs.{AsBefore}

-- ---- One more binding

abbrev or_else : Option Value → Option Value → Option Value
or_else (Some v) o = Some v
or_else None o = o

behind : (c : Bool) (w : Value) (p q z : Option Value) → p ≡ or_else q z → cond c (Some w) p ≡ or_else (cond c (Some w) q) z
behind true w p q z e = refl
behind false w p q z e = e

last_in : (bs : List Bound) (x : ℕ) (v : Value) (y : ℕ) → value_in (bound_to x v bs) y ≡ or_else (value_in bs y) (cond (nat_eq x y) (Some v) None)
last_in [] x v y = refl
last_in (b ∷ bs) x v y = behind (nat_eq b.variable y) b.value (value_in (bound_to x v bs) y) (value_in bs y) (cond (nat_eq x y) (Some v) None) (last_in bs x v y)

last_none : (o : Option Value) → or_else o None ≡ o
last_none (Some v) = refl
last_none None = refl

module _ {R : Type 0} (old new : ℕ → Option (Seen R)) (x : ℕ) (term : Term R) (h : (y : ℕ) → new y ≡ cond (nat_eq x y) (Some (seen term)) (old y)) (free : old x ≡ None) where
  module _ (shown : R → List Bool) (bs : List Bound) (a : Agrees shown old bs) where
    value_at : (y : ℕ) (b : Bool) → nat_eq x y ≡ b → or_else (value_in bs y) (cond b (Some (value_of shown term)) None) ≡ option_map (meaning shown) (cond b (Some (seen term)) (old y))
    value_at y true e =
        let same : x ≡ y = eqb-true x y e in
        let none : value_in bs y ≡ None = a y ∙ ap (option_map (meaning shown)) (ap old (sym same) ∙ free) in
        ap (λ o. or_else o (Some (value_of shown term))) none
    value_at y false e = last_none (value_in bs y) ∙ a y

    pub bound_agrees : Agrees shown new (bound_to x (value_of shown term) bs)
    bound_agrees y = last_in bs x (value_of shown term) y ∙ value_at y (nat_eq x y) refl ∙ ap (option_map (meaning shown)) (sym (h y))

  there_at : (has : R → Type 0) → IsOver has AnyAtom term → (o : Option (Seen R)) → IfSome o (IsKnown has AnyAtom) → (b : Bool) → IfSome (cond b (Some (seen term)) o) (IsKnown has AnyAtom)
  there_at has is o k true = is
  there_at has is o k false = k

  pub bound_there : (has : R → Type 0) → IsOver has AnyAtom term → AreThere has old → AreThere has new
  bound_there has is k y = subst (λ o. IfSome o (IsKnown has AnyAtom)) (sym (h y)) (there_at has is (old y) (k y) (nat_eq x y))

  known_at : (o : Option (Seen R)) (b : Bool) → is_some (cond b (Some (seen term)) o) ≡ (b || is_some o)
  known_at o true = refl
  known_at o false = refl

  pub bound_known : (y : ℕ) → known new y ≡ also (known old) (Bind x) y
  bound_known y = ap is_some (h y) ∙ known_at (old y) (nat_eq x y)

  pub bound_other : (y : ℕ) → nat_eq x y ≡ false → new y ≡ old y
  bound_other y e = h y ∙ ap (λ b. cond b (Some (seen term)) (old y)) e

pub passed_known : {R : Type 0} (held : ℕ → Option (Seen R)) (target : Target) → ((x : ℕ) → binds target x ≡ false) → (y : ℕ) → known held y ≡ also (known held) target y
passed_known held target n y = ap (λ b. b || known held y) (sym (n y))

-- ---- Programs and the variables that are bound before

none_or : (a b : Bool) → (a || b) ≡ false → b ≡ false
none_or true b e = cc
none_or false b e = e

none_or_first : (a b : Bool) → (a || b) ≡ false → a ≡ false
none_or_first true b e = cc
none_or_first false b e = refl

-- a variable that a target binds isn't bound before
unbound_by : (n : ℕ) (known : ℕ → Bool) (target : Target) (x : ℕ) → TargetFits n known target → binds target x ≡ true → known x ≡ false
unbound_by n known (Bind y) x f e = ap known (sym (eqb-true y x e)) ∙ f.1
unbound_by n known (Same want) x f e = cc
unbound_by n known Any x f e = cc

unbound_one : (n : ℕ) (known : ℕ → Bool) (target : Target) (targets : List Target) (x : ℕ) → TargetFits n known target → ((one_binds targets x ≡ true) → also known target x ≡ false) → (b : Bool) → binds target x ≡ b → (b || one_binds targets x) ≡ true → known x ≡ false
unbound_one n known target targets x f later true e o = unbound_by n known target x f e
unbound_one n known target targets x f later false e o = none_or (binds target x) (known x) (later o)

pub unbound_before : (n : ℕ) (known : ℕ → Bool) (targets : List Target) (x : ℕ) → TargetsFit n known targets → one_binds targets x ≡ true → known x ≡ false
unbound_before n known [] x f o = cc
unbound_before n known (target ∷ targets) x f o = unbound_one n known target targets x f.0 (λ o'. unbound_before n (also known target) targets x f.1 o') (binds target x) refl o

range_of : (n : ℕ) (known : ℕ → Bool) (target : Target) → TargetFits n known target → TargetInRange n target
range_of n known (Bind x) f = f.0
range_of n known (Same want) f = tt
range_of n known Any f = tt

pub fits_range : (n : ℕ) (known : ℕ → Bool) (ops : List Operation) → TargetsFit n known (map wants ops) → All (λ (op : Operation). TargetInRange n (wants op)) ops
fits_range n known [] f = All-nil (λ (op : Operation). TargetInRange n (wants op))
fits_range n known (op ∷ ops) f = All-cons (λ (q : Operation). TargetInRange n (wants q)) op ops (range_of n known (wants op) f.0) (fits_range n (also known (wants op)) ops f.1)

-- the same, by what no call of an environment changes
pub kept_range : (F now : Fixed) (known : ℕ → Bool) (ops : List Operation) → now ≡ F → TargetsFit F.variables known (map wants ops) → All (λ (op : Operation). TargetInRange now.variables (wants op)) ops
kept_range F now known ops e f = subst (λ (G : Fixed). All (λ (op : Operation). TargetInRange G.variables (wants op)) ops) (sym e) (fits_range F.variables known ops f)

-- with the variables of the program taken away each is bound as it was before it
none_of : {R : Type 0} (held : Option (Seen R)) → is_some held ≡ false → None ≡ held
none_of None h = refl
none_of (Some seen) h = cc

module _ {R : Type 0} (old mid new : ℕ → Option (Seen R)) (n : ℕ) (targets : List Target) (f : TargetsFit n (known old) targets) (others : (x : ℕ) → one_binds targets x ≡ false → mid x ≡ old x) (h : (x : ℕ) → new x ≡ cond (one_binds targets x) None (mid x)) where
  before : (x : ℕ) (b : Bool) → one_binds targets x ≡ b → cond b None (mid x) ≡ old x
  before x true e = none_of (old x) (unbound_before n (known old) targets x f e)
  before x false e = others x e

  pub as_before : AsBefore old new
  as_before x = h x ∙ before x (one_binds targets x) refl

pub there_before : {R : Type 0} (has : R → Type 0) (old new : ℕ → Option (Seen R)) → AsBefore old new → AreThere has old → AreThere has new
there_before has old new e k x = subst (λ o. IfSome o (IsKnown has AnyAtom)) (sym (e x)) (k x)

-- ---- Taking variables away, one by one

module _ (ops : List Operation) (i : ℕ) (op : Operation) (l : i < length ops) (here : op ≡ get_or ops i op) (x : ℕ) where
  pub binds_here : one_binds (map wants (drop i ops)) x ≡ (binds (wants op) x || one_binds (map wants (drop (i + 1) ops)) x)
  binds_here = at_drop_more (λ ys. one_binds (map wants ys) x) ops i op l ∙ ap (λ q. binds (wants q) x || one_binds (map wants (drop (i + 1) ops)) x) (sym here)

  unbind_step : {R : Type 0} (a b : Bool) (now new due : Option (Seen R)) → new ≡ cond a None now → cond (a || b) None now ≡ due → cond b None new ≡ due
  unbind_step true true now new due e h = h
  unbind_step true false now new due e h = e ∙ h
  unbind_step false true now new due e h = h
  unbind_step false false now new due e h = e ∙ h

  pub unbound_more : {R : Type 0} (now new due : Option (Seen R)) → new ≡ cond (binds (wants op) x) None now → cond (one_binds (map wants (drop i ops)) x) None now ≡ due → cond (one_binds (map wants (drop (i + 1) ops)) x) None new ≡ due
  unbound_more now new due e h = unbind_step (binds (wants op) x) (one_binds (map wants (drop (i + 1) ops)) x) now new due e (ap (λ b. cond b None now) (sym binds_here) ∙ h)

pub unbound_all : {R : Type 0} (ops : List Operation) (i x : ℕ) (now due : Option (Seen R)) → length ops ≤ i → cond (one_binds (map wants (drop i ops)) x) None now ≡ due → now ≡ due
unbound_all ops i x now due l h = ap (λ ys. cond (one_binds (map wants ys) x) None now) (sym (drop_all i ops l)) ∙ h
