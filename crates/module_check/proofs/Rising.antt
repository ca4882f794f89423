-- A list whose places rise is known by its members; so a function's variables have one list.
use Rattle.std.proofs.Common.{◌≡◌, List, [], ◌∷◌, map, refl, sym, ◌∙◌, ap, subst, ◌⊎◌, inl, inr, arith, ◌↔◌}
use Rattle.std.specs.List.{Contains, All}
use Rattle.std.proofs.lemmas.List.Elements.{All-contains, Contains-append_cases}
use Rattle.erl_syntax.specs.Checking.{IsBefore, Place, IsPlace, RisingBy, binders, use_at, IsNumbered, AreNumbered}
use Rattle.erl_syntax.specs.declared.span.Span.{Span}
use Rattle.erl_syntax.specs.declared.module.Function.{Function}
use Rattle.erl_syntax.specs.declared.checking.VarUse.{VarUse}
use Rattle.module_check.proofs.Spots.{Contains-head, Contains-tail, none_in, only_one}

not_both : (a b : Span) → IsBefore a b → IsBefore b a → ⊥
not_both a b (inl h) (inl k) = omega (arith, h, k)
not_both a b (inl h) (inr k) = omega (arith, h, k.0)
not_both a b (inr h) (inl k) = omega (arith, h.0, k)
not_both a b (inr h) (inr k) = omega (arith, h.1, k.1)

module _ {X : Type 0} (at : X → Span) where
  cases : (x : X) (xs : List X) (z : X) → Contains (x ∷ xs) z → (x ≡ z) ⊎ Contains xs z
  cases x xs z h = elim (Contains-append_cases (x ∷ []) xs z h) [
    | inl k ↦ inl (only_one x z k)
    | inr k ↦ inr k
  ]

  later : (x : X) (xs : List X) (z : X) → RisingBy at (x ∷ xs) → Contains xs z → IsBefore (at x) (at z)
  later x xs z r h = All-contains (λ (y : X). IsBefore (at x) (at y)) xs z r.0 h

  heads : (x : X) (xs : List X) (y : X) (ys : List X) → RisingBy at (x ∷ xs) → RisingBy at (y ∷ ys) → Contains (y ∷ ys) x → Contains (x ∷ xs) y → x ≡ y
  heads x xs y ys r s h k = elim (cases y ys x h) [
    | inl e ↦ sym e
    | inr i ↦ elim (cases x xs y k) [
      | inl e ↦ e
      | inr j ↦ absurd (not_both (at x) (at y) (later x xs y r j) (later y ys x s i))
    ]
  ]

  -- a member behind the first of one list stands behind the first of the other
  behind : (x : X) (xs : List X) (y : X) (ys : List X) (z : X) → RisingBy at (x ∷ xs) → x ≡ y → Contains xs z → Contains (y ∷ ys) z → Contains ys z
  behind x xs y ys z r e h k = elim (cases y ys z k) [
    | inl i ↦ (let before : IsBefore (at x) (at z) = later x xs z r h in
        absurd (not_both (at z) (at z) (subst (λ (w : X). IsBefore (at w) (at z)) (e ∙ i) before) (subst (λ (w : X). IsBefore (at w) (at z)) (e ∙ i) before)))
    | inr i ↦ i
  ]

  pub rising_once : (xs ys : List X) → RisingBy at xs → RisingBy at ys → ((z : X) → Contains xs z ↔ Contains ys z) → xs ≡ ys
  rising_once [] [] r s h = refl
  rising_once [] (y ∷ ys) r s h = absurd (none_in y ((h y).1 (Contains-head y ys)))
  rising_once (x ∷ xs) [] r s h = absurd (none_in x ((h x).0 (Contains-head x xs)))
  rising_once (x ∷ xs) (y ∷ ys) r s h =
      let e : x ≡ y = heads x xs y ys r s ((h x).0 (Contains-head x xs)) ((h y).1 (Contains-head y ys)) in
      let rest : xs ≡ ys = rising_once xs ys r.1 s.1 (λ z. (
        λ k. behind x xs y ys z r e k ((h z).0 (Contains-tail x xs z k)),
        λ k. behind y ys x xs z s (sym e) k ((h z).1 (Contains-tail y ys z k)),
      )) in
      ap (λ w. w ∷ xs) e ∙ ap (λ ws. y ∷ ws) rest

pub one_list : (f : Function) (us vs : List VarUse) → IsNumbered f us → IsNumbered f vs → us ≡ vs
one_list f us vs n o =
    let same : n.places ≡ o.places = rising_once (λ (a : Place). a.at) n.places o.places n.has.rising o.has.rising (λ a. (
      λ h. o.has.whole a (All-contains (IsPlace f) n.places a n.has.stand h),
      λ h. n.has.whole a (All-contains (IsPlace f) o.places a o.has.stand h),
    )) in
    n.is ∙ ap (λ (places : List Place). map (use_at (binders places)) places) same ∙ sym o.is

pub one_for_each : (fs : List Function) (us vs : List (List VarUse)) → AreNumbered fs us → AreNumbered fs vs → us ≡ vs
one_for_each _ _ _ AreNumbered.none AreNumbered.none = refl
one_for_each _ _ _ (AreNumbered.and_then f fs us more n rest) (AreNumbered.and_then _ _ vs others o other) =
    ap (λ w. w ∷ more) (one_list f us vs n o) ∙ ap (λ ws. vs ∷ ws) (one_for_each fs more others rest other)
