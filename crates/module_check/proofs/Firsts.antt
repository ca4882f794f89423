-- The order in which faults are told, and the first of several.
use Rattle.std.proofs.Common.{◌≡◌, ℕ, ◌+◌, ◌<◌, ◌≤◌, Bool, true, false, List, [], ◌∷◌, ◌++◌, length, get_or, take, Option, Some, None, refl, sym, ◌∙◌, ap, subst, inl, inr, arith, MatchBool}
use Rattle.std.proofs.Math.Dec.{leb}
use Rattle.std.proofs.lemmas.Bool.{cases_eq}
use Rattle.std.proofs.lemmas.Bool.Decides.{leb_tells}
use Rattle.std.proofs.lemmas.List.{take_all, take_more}
use Rattle.std.proofs.lemmas.List.Elements.{Contains-append_left, Contains-push, Contains-push_cases}
use Rattle.erl_syntax.specs.Checking.{IsBefore}
use Rattle.erl_syntax.specs.declared.span.Span.{Span}
use Rattle.erl_syntax.specs.declared.checking.CheckCause.{CheckCause}
use Rattle.erl_syntax.specs.declared.checking.CheckFault.{CheckFault}
use Rattle.module_check.specs.Order.{rank, NotAfter, IsFirstOf, IsLeast, Some_of, Either, Below, At, fault_if}

same_spot : (a b : Span) → a.line ≡ b.line → a.column ≡ b.column → a ≡ b
same_spot a b e h =
    let f : ℕ → Span = λ l. record { line = l; column = a.column } in
    let g : ℕ → Span = λ k. record { line = b.line; column = k } in
    ap f e ∙ ap g h

pub one_place : (a b : Span) → (IsBefore a b → ⊥) → (IsBefore b a → ⊥) → a ≡ b
one_place a b h k =
    let h1 : a.line < b.line → ⊥ = λ x. h (inl x) in
    let k1 : b.line < a.line → ⊥ = λ x. k (inl x) in
    let e : a.line ≡ b.line = omega arith in
    let h2 : a.column < b.column → ⊥ = λ x. h (inr (e, x)) in
    let k2 : b.column < a.column → ⊥ = λ x. k (inr (sym e, x)) in
    same_spot a b e (omega arith)

-- of two faults of which neither starts first, the ranks decide
pub by_rank : (a b : Span) (v w : CheckCause) (m n : ℕ) → m ≡ rank v → n ≡ rank w → (IsBefore a b → ⊥) → (IsBefore b a → ⊥) → MatchBool (leb m n) (NotAfter a v b w) (NotAfter b w a v)
by_rank a b v w m n p q h k =
    let e = one_place a b h k in
    elim (leb_tells m n) [
      | inl t ↦ (let P : Bool → Type 0 = λ r. MatchBool r (NotAfter a v b w) (NotAfter b w a v) in subst P (sym t.0) (inr (e, omega arith)))
      | inr t ↦ (let P : Bool → Type 0 = λ r. MatchBool r (NotAfter a v b w) (NotAfter b w a v) in subst P (sym t.0) (inr (sym e, omega arith)))
    ]

before_before : (a b d : Span) → IsBefore a b → IsBefore b d → IsBefore a d
before_before a b d (inl p) (inl q) = inl (omega arith)
before_before a b d (inl p) (inr q) = inl (omega arith)
before_before a b d (inr p) (inl q) = inl (omega arith)
before_before a b d (inr p) (inr q) = inr (p.0 ∙ q.0, omega arith)

pub in_turn : (a : Span) (v : CheckCause) (b : Span) (w : CheckCause) (d : Span) (u : CheckCause) → NotAfter a v b w → NotAfter b w d u → NotAfter a v d u
in_turn a v b w d u (inl p) (inl q) = inl (before_before a b d p q)
in_turn a v b w d u (inl p) (inr q) = inl (let P : Span → Type 0 = λ x. IsBefore a x in subst P q.0 p)
in_turn a v b w d u (inr p) (inl q) = inl (let P : Span → Type 0 = λ x. IsBefore x d in subst P (sym p.0) q)
in_turn a v b w d u (inr p) (inr q) = inr (p.0 ∙ q.0, omega arith)

module _ (P Q : Span → CheckCause → Type 0) where
  pub same_least : (r : Option CheckFault) → ((at : Span) (why : CheckCause) → P at why → Q at why) → ((at : Span) (why : CheckCause) → Q at why → P at why) → IsLeast P r → IsLeast Q r
  same_least None to back h = λ at why q. h at why (back at why q)
  same_least (Some a) to back h = (to a.span a.why h.0, λ at why q. h.1 at why (back at why q))

  -- the first of both
  pub least_of_both : (a b r : Option CheckFault) → IsLeast P a → IsLeast Q b → IsFirstOf a b r → IsLeast (Either P Q) r
  least_of_both None None r p q e = let F : Option CheckFault → Type 0 = IsLeast (Either P Q) in subst F (sym e) (λ at why h. elim h [ inl k ↦ p at why k | inr k ↦ q at why k ])
  least_of_both None (Some y) r p q e = let F : Option CheckFault → Type 0 = IsLeast (Either P Q) in subst F (sym e) (inr q.0, λ at why h. elim h [ inl k ↦ absurd (p at why k) | inr k ↦ q.1 at why k ])
  least_of_both (Some x) None r p q e = let F : Option CheckFault → Type 0 = IsLeast (Either P Q) in subst F (sym e) (inl p.0, λ at why h. elim h [ inl k ↦ p.1 at why k | inr k ↦ absurd (q at why k) ])
  least_of_both (Some x) (Some y) r p q (inl e) = let F : Option CheckFault → Type 0 = IsLeast (Either P Q) in subst F (sym e.0) (inl p.0, λ at why h. elim h [ inl k ↦ p.1 at why k | inr k ↦ in_turn x.span x.why y.span y.why at why e.1 (q.1 at why k) ])
  least_of_both (Some x) (Some y) r p q (inr e) = let F : Option CheckFault → Type 0 = IsLeast (Either P Q) in subst F (sym e.0) (inr q.0, λ at why h. elim h [ inl k ↦ in_turn y.span y.why x.span x.why at why e.1 (p.1 at why k) | inr k ↦ q.1 at why k ])

module _ {X : Type 0} (Of : X → Span → CheckCause → Type 0) where
  pub none_of_none : IsLeast (Some_of Of []) None
  none_of_none at why h = absurd (omega (arith, h.1.0.1))

  -- one more at the end
  pub least_push : (xs : List X) (x : X) (a b r : Option CheckFault) → IsLeast (Some_of Of xs) a → IsLeast (Of x) b → IsFirstOf a b r → IsLeast (Some_of Of (xs ++ x ∷ [])) r
  least_push xs x a b r p q f =
      same_least (Either (Some_of Of xs) (Of x)) (Some_of Of (xs ++ x ∷ [])) r
      (λ at why h. elim h [
        | inl k ↦ (k.0, (Contains-append_left xs (x ∷ []) k.0 k.1.0, k.1.1))
        | inr k ↦ (x, (Contains-push xs x, k))
      ])
      (λ at why h. elim (Contains-push_cases xs x h.0 h.1.0) [
        | inl k ↦ inl (h.0, (k, h.1.1))
        | inr k ↦ inr (let G : X → Type 0 = λ y. Of y at why in subst G (sym k) h.1.1)
      ])
      (least_of_both (Some_of Of xs) (Of x) a b r p q f)

  pub least_more : (xs : List X) (i : ℕ) (x : X) (a b r : Option CheckFault) → i < length xs → x ≡ get_or xs i x → IsLeast (Some_of Of (take i xs)) a → IsLeast (Of x) b → IsFirstOf a b r → IsLeast (Some_of Of (take (i + 1) xs)) r
  least_more xs i x a b r l e p q f =
      let cut : take (i + 1) xs ≡ take i xs ++ x ∷ [] = take_more xs i x l ∙ ap (λ y. take i xs ++ y ∷ []) (sym e) in
      let F : List X → Type 0 = λ ys. IsLeast (Some_of Of ys) r in
      subst F (sym cut) (least_push (take i xs) x a b r p q f)

  pub least_all : (xs : List X) (i : ℕ) (r : Option CheckFault) → length xs ≤ i → IsLeast (Some_of Of (take i xs)) r → IsLeast (Some_of Of xs) r
  least_all xs i r l h = let F : List X → Type 0 = λ ys. IsLeast (Some_of Of ys) r in subst F (take_all i xs l) h

module _ (Of : ℕ → Span → CheckCause → Type 0) where
  pub none_below : IsLeast (Below Of 0) None
  none_below at why h = absurd (omega (arith, h.1.0))

  pub least_below : (n : ℕ) (a b r : Option CheckFault) → IsLeast (Below Of n) a → IsLeast (Of n) b → IsFirstOf a b r → IsLeast (Below Of (n + 1)) r
  least_below n a b r p q f =
      same_least (Either (Below Of n) (Of n)) (Below Of (n + 1)) r
      (λ at why h. elim h [
        | inl k ↦ (k.0, (omega (arith, k.1.0), k.1.1))
        | inr k ↦ (n, (omega arith, k))
      ])
      (λ at why h. split at why h.0 h.1.0 h.1.1)
      (least_of_both (Below Of n) (Of n) a b r p q f)
    where
      split : (at : Span) (why : CheckCause) (k : ℕ) → k < n + 1 → Of k at why → Either (Below Of n) (Of n) at why
      split at why k l h = elim (cases_eq k n) [
        | inl e ↦ inr (let G : ℕ → Type 0 = λ j. Of j at why in subst G e h)
        | inr e ↦ inl (k, (omega arith, h))
      ]

not_after_itself : (a : Span) (v : CheckCause) → NotAfter a v a v
not_after_itself a v = inr (refl, omega arith)

-- a fault that holds or not
pub least_if : (b : Bool) (P : Type 0) (az : Span) (o : CheckCause) (r : Option CheckFault) → MatchBool b P (P → ⊥) → r ≡ fault_if b az o → IsLeast (λ at why. At az o at why × P) r
least_if true P az o r h e = let F : Option CheckFault → Type 0 = IsLeast (λ at why. At az o at why × P) in subst F (sym e) (((refl, refl), h), λ at why k. moved at why k.0)
  where
    moved : (at : Span) (why : CheckCause) → At az o at why → NotAfter az o at why
    moved at why k = inr (k.0, (let Q : CheckCause → Type 0 = λ v. rank o ≤ rank v in subst Q k.1 (omega arith)))
least_if false P az o r h e = let F : Option CheckFault → Type 0 = IsLeast (λ at why. At az o at why × P) in subst F (sym e) (λ at why k. h k.1)

pub least_none : (P : Span → CheckCause → Type 0) (r : Option CheckFault) → r ≡ None → ((at : Span) (why : CheckCause) → P at why → ⊥) → IsLeast P r
least_none P r e h = let F : Option CheckFault → Type 0 = IsLeast P in subst F (sym e) h
