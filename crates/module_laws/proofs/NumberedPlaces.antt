-- The number that is looked up at a variable's place is that of the place at which the variable gets its value.
use Rattle.std.proofs.Common.{◌≡◌, ℕ, zero, suc, ◌+◌, ◌<◌, ◌∙◌, ap, Bool, true, false, cond, inl, inr, List, [], ◌∷◌, length, map, refl, sym, subst, arith}
use Rattle.std.specs.Prelude.{nat_eq, ◌&&◌, slice_index_or}
use Rattle.std.specs.List.{Contains, filter, position_or_len}
use Rattle.std.proofs.lemmas.Bool.Decides.{nat_tests}
use Rattle.erl_syntax.specs.Checking.{IsBefore, Place, RisingBy, binders, number_at, number_of, same_span, use_at}
use Rattle.erl_syntax.specs.declared.checking.VarUse.{VarUse}
use Rattle.erl_syntax.specs.declared.span.Span.{Span}
use Rattle.module_laws.specs.Numbers.{NumbersAreOfPlaces, NumbersDiffer}

equal_self : (n : ℕ) → nat_eq n n ≡ true
equal_self n = grind (arith, nat_tests)

both_true : (x y : Bool) → x ≡ true → y ≡ true → (x && y) ≡ true
both_true true true e d = refl
both_true true false e d = cc d
both_true false y e d = cc e

left_false : (x y : Bool) → x ≡ false → (x && y) ≡ false
left_false true y e = cc e
left_false false y e = refl

right_false : (x y : Bool) → y ≡ false → (x && y) ≡ false
right_false true y e = e
right_false false y e = refl

same_self : (at : Span) → same_span at at ≡ true
same_self at = both_true (nat_eq at.line at.line) (nat_eq at.column at.column) (equal_self at.line) (equal_self at.column)

unequal : (m n : ℕ) → m < n → nat_eq m n ≡ false
unequal m n h = grind (arith, nat_tests)

apart : (a b : Span) → IsBefore a b → same_span a b ≡ false
apart a b (inl h) = left_false (nat_eq a.line b.line) (nat_eq a.column b.column) (unequal a.line b.line h)
apart a b (inr h) = right_false (nat_eq a.line b.line) (nat_eq a.column b.column) (unequal a.column b.column h.1)

first_number : (b : Bool) (m n : ℕ) → b ≡ true → cond b m n ≡ m
first_number true m n e = refl
first_number false m n e = cc e

later_number : (b : Bool) (m n : ℕ) → b ≡ false → cond b m n ≡ n
later_number true m n e = cc e
later_number false m n e = refl

looked_up : (bounds : List Span) (places : List Place) (a : Place) (k : ℕ) → RisingBy (λ (p : Place). p.at) places → k < length places → slice_index_or places k a ≡ a →
    number_at (map (use_at bounds) places) a.at ≡ number_of bounds a
looked_up bounds [] a k r h e = absurd (omega arith)
looked_up bounds (p ∷ ps) a zero r h e =
    let n : ℕ = number_at (map (use_at bounds) ps) a.at in
    subst (λ (q : Place). cond (same_span q.at a.at) (number_of bounds q) n ≡ number_of bounds a) (sym e) (first_number (same_span a.at a.at) (number_of bounds a) n (same_self a.at))
looked_up bounds (p ∷ ps) a (suc k) r h e =
    let l : k < length ps = omega arith in
    let n : ℕ = number_at (map (use_at bounds) ps) a.at in
    let before : IsBefore p.at a.at = subst (λ (q : Place). IsBefore p.at q.at) e (r.0 k a l) in
    let rest : n ≡ number_of bounds a = looked_up bounds ps a k r.1 l e in
    subst (λ (m : ℕ). m ≡ number_of bounds a) (sym (later_number (same_span p.at a.at) (number_of bounds p) n (apart p.at a.at before))) rest

pub numbers_are_of_places : NumbersAreOfPlaces
numbers_are_of_places f uses numbered a h =
    let c = numbered.has.whole a h in
    subst (λ (us : List VarUse). number_at us a.at ≡ number_of (binders numbered.places) a) (sym numbered.is)
    (looked_up (binders numbered.places) numbered.places a c.0 numbered.has.rising c.1 c.2)

-- ---- Different numbers

both_of : (x y : Bool) → (x && y) ≡ true → (x ≡ true) × (y ≡ true)
both_of true y e = (refl, e)
both_of false y e = cc e

equal_of : (m n : ℕ) → nat_eq m n ≡ true → m ≡ n
equal_of m n e = grind (arith, nat_tests, e)

span_is : (a b : Span) → same_span a b ≡ true → a ≡ b
span_is a b h =
    let k = both_of (nat_eq a.line b.line) (nat_eq a.column b.column) h in
    let f : ℕ → Span = λ l. record { line = l; column = a.column } in
    let g : ℕ → Span = λ c. record { line = b.line; column = c } in
    ap f (equal_of a.line b.line k.0) ∙ ap g (equal_of a.column b.column k.1)

abbrev number : Span → List Span → ℕ
number at bounds = position_or_len (same_span at) bounds

number_here : (at b : Span) (bs : List Span) → same_span at b ≡ true → number at (b ∷ bs) ≡ 0
number_here at b bs e = rw e refl

number_past : (at b : Span) (bs : List Span) → same_span at b ≡ false → number at (b ∷ bs) ≡ 1 + number at bs
number_past at b bs e = rw e (omega arith)

by_tests : (x y b : Span) (bs : List Span) (c d : Bool) → same_span x b ≡ c → same_span y b ≡ d → number x (b ∷ bs) ≡ number y (b ∷ bs) → (same_span x b ≡ false → number x bs ≡ number y bs → x ≡ y) → x ≡ y
by_tests x y b bs true true e d h r = span_is x b e ∙ sym (span_is y b d)
by_tests x y b bs true false e d h r = absurd (omega (arith, number_here x b bs e, number_past y b bs d, h))
by_tests x y b bs false true e d h r = absurd (omega (arith, number_past x b bs e, number_here y b bs d, h))
by_tests x y b bs false false e d h r = r e (omega (arith, number_past x b bs e, number_past y b bs d, h))

true_false : (b : Bool) → b ≡ true → b ≡ false → ⊥
true_false true e d = cc d
true_false false e d = cc e

one_place : (x y : Span) (bounds : List Span) (k : ℕ) → k < length bounds → slice_index_or bounds k x ≡ x → number x bounds ≡ number y bounds → x ≡ y
one_place x y [] k l e h = absurd (omega arith)
one_place x y (b ∷ bs) zero l e h =
    by_tests x y b bs (same_span x b) (same_span y b) refl refl h (λ d _. absurd (true_false (same_span x b) (subst (λ (u : Span). same_span x u ≡ true) (sym e) (same_self x)) d))
one_place x y (b ∷ bs) (suc k) l e h =
    by_tests x y b bs (same_span x b) (same_span y b) refl refl h (λ _ g. one_place x y bs k (omega arith) e g)

abbrev ats : List Place → List Span
ats places = map (λ (p : Place). p.at) places

contains_here : (t : Bool) (p : Place) (ps : List Place) (at : Span) → t ≡ true → p.at ≡ at → Contains (ats (cond t (p ∷ ps) ps)) at
contains_here true p ps at h e = (0, omega arith, e)
contains_here false p ps at h e = cc h

contains_past : (t : Bool) (p : Place) (ps : List Place) (at : Span) → Contains (ats ps) at → Contains (ats (cond t (p ∷ ps) ps)) at
contains_past true p ps at r = (suc r.0, omega (arith, r.1), r.2)
contains_past false p ps at r = r

in_binders : (places : List Place) (at : Span) (k : ℕ) (a : Place) → a ≡ record { at = at; bound_at = at } → k < length places → slice_index_or places k a ≡ a → Contains (binders places) at
in_binders [] at k a s l e = absurd (omega arith)
in_binders (p ∷ ps) at zero a s l e =
    let f : p ≡ record { at = at; bound_at = at } = e ∙ s in
    contains_here (same_span p.at p.bound_at) p (filter (λ q. same_span q.at q.bound_at) ps) at
    (subst (λ (q : Place). same_span q.at q.bound_at ≡ true) (sym f) (same_self at)) (ap (λ (q : Place). q.at) f)
in_binders (p ∷ ps) at (suc k) a s l e =
    contains_past (same_span p.at p.bound_at) p (filter (λ q. same_span q.at q.bound_at) ps) at (in_binders ps at k a s (omega arith) e)

pub numbers_differ : NumbersDiffer
numbers_differ f uses numbered at other h g e =
    let a : Place = record { at = at; bound_at = at } in
    let b : Place = record { at = other; bound_at = other } in
    let c = numbered.has.whole a h in
    let d = in_binders numbered.places at c.0 a refl c.1 c.2 in
    let bounds : List Span = binders numbered.places in
    let i : number_at uses at ≡ number at bounds = numbers_are_of_places f uses numbered a h in
    let j : number_at uses other ≡ number other bounds = numbers_are_of_places f uses numbered b g in
    one_place at other bounds d.0 d.1 d.2 (sym i ∙ e ∙ j)
