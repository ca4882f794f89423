-- The laws of guards: alternatives of tests, up to the arrow.
use Rattle.std.proofs.Common.{◌≡◌, ℕ, max, false, IsTrue, List, [], ◌∷◌, ◌++◌, refl, sym, ap, ◌∙◌}
use Rattle.erl_syntax.specs.declared.span.Span.{Span}
use Rattle.erl_syntax.specs.declared.token.TokenKind.TheVariants as k
use Rattle.erl_syntax.specs.declared.expr.Expr.{Expr}
use Rattle.erl_syntax.specs.declared.clause.Guard.{Guard}
use Rattle.erl_syntax.specs.Word.{Word}
use Rattle.erl_syntax.specs.Grammar.{InGuard, Context, in_mode, Limits, Goal, Of, Guarded, Tests, MoreTests, unguarded, guarded, tests, next_test, next_alternative, end_tests, Spells, takes, expands}
use Rattle.pattern_read.specs.declared.placed.Placed.{Placed}
use Rattle.pattern_read.specs.declared.fault.Cause.TheVariants.{Syntax}
use Rattle.pattern_read.specs.Reading.{Passes, IsRefused, SameHead, closed, nothing}
use Rattle.pattern_read.specs.Wanted.{extends, level_in, NoMark, no_mark_end, no_mark}
use Rattle.body_read.specs.WantedExprs.{guarded_in, tests_in}
use Rattle.pattern_read.proofs.Passing.{Behind, Spelled}
use Rattle.pattern_read.proofs.Levels.{same_pair}
use Rattle.pattern_read.proofs.Operands.{mark_word}

-- ---- With a guard or without

pub same_guard : {ys zs : List (List Expr)} → ys ≡ zs → (let P : Guard = record { alternatives = ys } in P) ≡ (let P : Guard = record { alternatives = zs } in P)
same_guard e = ap (λ v. record { alternatives = v }) e

unguarded_forth : (l : Limits) (c : Context) (g : Guard) (d : ℕ) (gs : List Goal) (j : Word) (w : List Word) → j.kind ≡ k.Arrow → Spells l (Of (Guarded c g d) ∷ gs) (j ∷ w) → (g ≡ record { alternatives = [] }) × (d ≡ 0) × Spells l gs w
unguarded_forth l c g d gs j w h (expands _ (unguarded c_0 g_0 d_0 q0 q1) (takes t kk z)) = (q0, q1, z)
unguarded_forth l c g d gs j w h (expands _ (guarded c_0 g_0 d_0 at ts q0) (takes t kk z)) = cc

pub on_unguarded : {most : Limits} (c : Context) (j : Word) (rest : List Word) → j.kind ≡ k.Arrow → Passes most {X = Guard × ℕ} closed (guarded_in c) (j ∷ rest) nothing rest (λ u. (record { alternatives = [] }, 0))
on_unguarded c j rest h = record {
  front = j ∷ [];
  whole = refl;
  back = λ l v u gs w d. expands _ (unguarded c _ _ refl refl) (takes j h d);
  forth = λ l r gs w f s d. let m = unguarded_forth l c r.0 r.1 gs j w h d in (tt, same_pair m.0 m.1, m.2);
}

guarded_forth : (l : Limits) (c : Context) (g : Guard) (d : ℕ) (gs : List Goal) (j : Word) (w : List Word) → j.kind ≡ k.When → Spells l (Of (Guarded c g d) ∷ gs) (j ∷ w) →
    (r : Placed (List (List Expr))) × (g ≡ record { alternatives = r.tree }) × (d ≡ r.height) × Spells l (tests_in (in_mode InGuard c) r ++ gs) w
guarded_forth l c g d gs j w h (expands _ (unguarded c_0 g_0 d_0 q0 q1) (takes t kk z)) = cc
guarded_forth l c g d gs j w h (expands _ (guarded c_0 g_0 d_0 at ts q0) (takes t kk z)) = (record { at = at; tree = ts; height = d }, q0, refl, z)

pub on_guarded : {most : Limits} (c : Context) (j : Word) (rest : List Word) → j.kind ≡ k.When → Passes most {X = Guard × ℕ} {Y = Placed (List (List Expr))} closed (guarded_in c) (j ∷ rest) (tests_in (in_mode InGuard c)) rest (λ r. (record { alternatives = r.tree }, r.height))
on_guarded c j rest h = record {
  front = j ∷ [];
  whole = refl;
  back = λ l v r gs w d. expands _ (guarded c _ _ r.at r.tree refl) (takes j h d);
  forth = λ l r gs w f s d. let m = guarded_forth l c r.0 r.1 gs j w h d in (m.0, same_pair m.1 m.2, m.3);
}

guarded_stops : (l : Limits) (c : Context) (g : Guard) (d : ℕ) (gs : List Goal) (rest w : List Word) → NoMark k.Arrow rest → NoMark k.When rest → SameHead w rest → Spells l (Of (Guarded c g d) ∷ gs) w → ⊥
guarded_stops l c g d gs _ w no_mark_end b s (expands _ (unguarded c_0 g_0 d_0 q0 q1) (takes t kk z)) = s
guarded_stops l c g d gs _ w (no_mark j rest n) b s (expands _ (unguarded c_0 g_0 d_0 q0 q1) (takes t kk z)) = n (ap (λ v. v.kind) (sym s) ∙ kk)
guarded_stops l c g d gs _ w a no_mark_end s (expands _ (guarded c_0 g_0 d_0 at ts q0) (takes t kk z)) = s
guarded_stops l c g d gs _ w a (no_mark j rest n) s (expands _ (guarded c_0 g_0 d_0 at ts q0) (takes t kk z)) = n (ap (λ v. v.kind) (sym s) ∙ kk)

pub guarded_refused : {most : Limits} (c : Context) (rest : List Word) → NoMark k.Arrow rest → NoMark k.When rest → IsRefused most {X = Guard × ℕ} closed (guarded_in c) rest rest Syntax
guarded_refused c rest a b = record {
  front = [];
  whole = refl;
  tree = (record { alternatives = [] }, 0);
  more = mark_word k.Arrow ∷ [];
  goes_on = λ l v gs w d. expands _ (unguarded c _ _ refl refl) (takes (mark_word k.Arrow) refl d);
  stops = λ l i r gs w f s d. guarded_stops l c r.0 r.1 gs rest w a b s d;
  excused = tt;
}

-- ---- Tests

-- behind a test: further tests of its alternative, and further alternatives
abbrev pub more_tests_in : Context → (List Expr × List (List Expr)) × ℕ → List Goal
more_tests_in c r = Of (MoreTests c r.0.0 r.0.1 r.1) ∷ []

abbrev pub test_and_more : Context → Placed Expr × ((List Expr × List (List Expr)) × ℕ) → List Goal
test_and_more c p = level_in 0 c p.0 ++ more_tests_in c p.1

same_tests : {a b : Span} {ys zs : List (List Expr)} {d g : ℕ} → a ≡ b → ys ≡ zs → d ≡ g → (let P : Placed (List (List Expr)) = record { at = a; tree = ys; height = d } in P) ≡ (let P : Placed (List (List Expr)) = record { at = b; tree = zs; height = g } in P)
same_tests {a = a} {b = b} {ys = ys} {zs = zs} {d = d} {g = g} p q r = ap (λ v. record { at = v; tree = ys; height = d }) p ∙ ap (λ v. record { at = b; tree = v; height = d }) q ∙ ap (λ v. record { at = b; tree = zs; height = v }) r

-- tests of one place
pub tests_there : (at : Span) {ys zs : List (List Expr)} {d g : ℕ} → ys ≡ zs → d ≡ g → (let P : Placed (List (List Expr)) = record { at = at; tree = ys; height = d } in P) ≡ (let P : Placed (List (List Expr)) = record { at = at; tree = zs; height = g } in P)
tests_there at q r = same_tests refl q r

same_more : {ys zs : List Expr} {as_ bs : List (List Expr)} {d g : ℕ} → ys ≡ zs → as_ ≡ bs → d ≡ g → (let P : (List Expr × List (List Expr)) × ℕ = ((ys, as_), d) in P) ≡ (let P : (List Expr × List (List Expr)) × ℕ = ((zs, bs), g) in P)
same_more {ys = ys} {zs = zs} {as_ = as_} {bs = bs} {d = d} {g = g} p q r = ap (λ v. ((v, as_), d)) p ∙ ap (λ v. ((zs, v), d)) q ∙ ap (λ v. ((zs, bs), v)) r

abbrev pub as_tests : Placed Expr × ((List Expr × List (List Expr)) × ℕ) → Placed (List (List Expr))
as_tests p = record { at = p.0.at; tree = (p.0.tree ∷ p.1.0.0) ∷ p.1.0.1; height = max p.0.height p.1.1 }

tests_forth : (l : Limits) (c : Context) (at : Span) (ts : List (List Expr)) (d : ℕ) (gs : List Goal) (w : List Word) → Spells l (Of (Tests c at ts d) ∷ gs) w →
    (p : Placed Expr × ((List Expr × List (List Expr)) × ℕ)) × (at ≡ p.0.at) × (ts ≡ (as_tests p).tree) × (d ≡ (as_tests p).height) × Spells l (test_and_more c p ++ gs) w
tests_forth l c at _ d gs w (expands _ (tests c_0 at_0 y dy ys more dm d_0 q0) z) = ((record { at = at; tree = y; height = dy }, ((ys, more), dm)), refl, refl, q0, z)

pub on_tests : {most : Limits} (c : Context) (rest : List Word) → Passes most {X = Placed (List (List Expr))} {Y = Placed Expr × ((List Expr × List (List Expr)) × ℕ)} closed (tests_in c) rest (test_and_more c) rest as_tests
on_tests c rest = record {
  front = [];
  whole = refl;
  back = λ l v p gs w d. expands _ (tests c _ _ _ _ _ _ _ refl) d;
  forth = λ l r gs w f s d. let m = tests_forth l c r.at r.tree r.height gs w d in (m.0, same_tests m.1 m.2 m.3, m.4);
}

-- a further test
abbrev pub with_test : Placed Expr × ((List Expr × List (List Expr)) × ℕ) → (List Expr × List (List Expr)) × ℕ
with_test p = ((p.0.tree ∷ p.1.0.0, p.1.0.1), max p.0.height p.1.1)

next_test_forth : (l : Limits) (c : Context) (ys : List Expr) (as_ : List (List Expr)) (d : ℕ) (gs : List Goal) (j : Word) (w : List Word) → j.kind ≡ k.Comma → Spells l (Of (MoreTests c ys as_ d) ∷ gs) (j ∷ w) →
    (p : Placed Expr × ((List Expr × List (List Expr)) × ℕ)) × (ys ≡ p.0.tree ∷ p.1.0.0) × (as_ ≡ p.1.0.1) × (d ≡ max p.0.height p.1.1) × Spells l (test_and_more c p ++ gs) w
next_test_forth l c _ _ d gs j w h (expands _ (next_test c_0 ay y dy ys more dm d_0 q0) (takes t kk z)) = ((record { at = ay; tree = y; height = dy }, ((ys, more), dm)), refl, refl, q0, z)
next_test_forth l c _ _ d gs j w h (expands _ (next_alternative c_0 ay y dy ys more dm d_0 q0) (takes t kk z)) = cc
next_test_forth l c _ _ d gs j w h (expands _ (end_tests c_0 d_0 q0) (takes t kk z)) = cc

pub on_next_test : {most : Limits} (c : Context) (j : Word) (rest : List Word) → j.kind ≡ k.Comma → Passes most {X = (List Expr × List (List Expr)) × ℕ} {Y = Placed Expr × ((List Expr × List (List Expr)) × ℕ)} closed (more_tests_in c) (j ∷ rest) (test_and_more c) rest with_test
on_next_test c j rest h = record {
  front = j ∷ [];
  whole = refl;
  back = λ l v p gs w d. expands _ (next_test c _ _ _ _ _ _ _ refl) (takes j h d);
  forth = λ l r gs w f s d. let m = next_test_forth l c r.0.0 r.0.1 r.1 gs j w h d in (m.0, same_more m.1 m.2 m.3, m.4);
}

-- a further alternative
abbrev pub with_alternative : Placed Expr × ((List Expr × List (List Expr)) × ℕ) → (List Expr × List (List Expr)) × ℕ
with_alternative p = (([], (p.0.tree ∷ p.1.0.0) ∷ p.1.0.1), max p.0.height p.1.1)

next_alternative_forth : (l : Limits) (c : Context) (ys : List Expr) (as_ : List (List Expr)) (d : ℕ) (gs : List Goal) (j : Word) (w : List Word) → j.kind ≡ k.Semicolon → Spells l (Of (MoreTests c ys as_ d) ∷ gs) (j ∷ w) →
    (p : Placed Expr × ((List Expr × List (List Expr)) × ℕ)) × (ys ≡ []) × (as_ ≡ (p.0.tree ∷ p.1.0.0) ∷ p.1.0.1) × (d ≡ max p.0.height p.1.1) × Spells l (test_and_more c p ++ gs) w
next_alternative_forth l c _ _ d gs j w h (expands _ (next_test c_0 ay y dy ys more dm d_0 q0) (takes t kk z)) = cc
next_alternative_forth l c _ _ d gs j w h (expands _ (next_alternative c_0 ay y dy ys more dm d_0 q0) (takes t kk z)) = ((record { at = ay; tree = y; height = dy }, ((ys, more), dm)), refl, refl, q0, z)
next_alternative_forth l c _ _ d gs j w h (expands _ (end_tests c_0 d_0 q0) (takes t kk z)) = cc

pub on_next_alternative : {most : Limits} (c : Context) (j : Word) (rest : List Word) → j.kind ≡ k.Semicolon → Passes most {X = (List Expr × List (List Expr)) × ℕ} {Y = Placed Expr × ((List Expr × List (List Expr)) × ℕ)} closed (more_tests_in c) (j ∷ rest) (test_and_more c) rest with_alternative
on_next_alternative c j rest h = record {
  front = j ∷ [];
  whole = refl;
  back = λ l v p gs w d. expands _ (next_alternative c _ _ _ _ _ _ _ refl) (takes j h d);
  forth = λ l r gs w f s d. let m = next_alternative_forth l c r.0.0 r.0.1 r.1 gs j w h d in (m.0, same_more m.1 m.2 m.3, m.4);
}

end_tests_forth : (l : Limits) (c : Context) (ys : List Expr) (as_ : List (List Expr)) (d : ℕ) (gs : List Goal) (j : Word) (w : List Word) → j.kind ≡ k.Arrow → Spells l (Of (MoreTests c ys as_ d) ∷ gs) (j ∷ w) → (ys ≡ []) × (as_ ≡ []) × (d ≡ 0) × Spells l gs w
end_tests_forth l c _ _ d gs j w h (expands _ (next_test c_0 ay y dy ys more dm d_0 q0) (takes t kk z)) = cc
end_tests_forth l c _ _ d gs j w h (expands _ (next_alternative c_0 ay y dy ys more dm d_0 q0) (takes t kk z)) = cc
end_tests_forth l c _ _ d gs j w h (expands _ (end_tests c_0 d_0 q0) (takes t kk z)) = (refl, refl, q0, z)

pub on_end_tests : {most : Limits} (c : Context) (j : Word) (rest : List Word) → j.kind ≡ k.Arrow → Passes most {X = (List Expr × List (List Expr)) × ℕ} closed (more_tests_in c) (j ∷ rest) nothing rest (λ u. (([], []), 0))
on_end_tests c j rest h = record {
  front = j ∷ [];
  whole = refl;
  back = λ l v u gs w d. expands _ (end_tests c 0 refl) (takes j h d);
  forth = λ l r gs w f s d. let m = end_tests_forth l c r.0.0 r.0.1 r.1 gs j w h d in (tt, same_more m.0 m.1 m.2, m.3);
}

more_tests_stop : (l : Limits) (c : Context) (ys : List Expr) (as_ : List (List Expr)) (d : ℕ) (gs : List Goal) (rest w : List Word) → NoMark k.Comma rest → NoMark k.Semicolon rest → NoMark k.Arrow rest → SameHead w rest → Spells l (Of (MoreTests c ys as_ d) ∷ gs) w → ⊥
more_tests_stop l c _ _ d gs _ w no_mark_end b e s (expands _ (next_test c_0 ay y dy ys more dm d_0 q0) (takes t kk z)) = s
more_tests_stop l c _ _ d gs _ w (no_mark j rest n) b e s (expands _ (next_test c_0 ay y dy ys more dm d_0 q0) (takes t kk z)) = n (ap (λ v. v.kind) (sym s) ∙ kk)
more_tests_stop l c _ _ d gs _ w a no_mark_end e s (expands _ (next_alternative c_0 ay y dy ys more dm d_0 q0) (takes t kk z)) = s
more_tests_stop l c _ _ d gs _ w a (no_mark j rest n) e s (expands _ (next_alternative c_0 ay y dy ys more dm d_0 q0) (takes t kk z)) = n (ap (λ v. v.kind) (sym s) ∙ kk)
more_tests_stop l c _ _ d gs _ w a b no_mark_end s (expands _ (end_tests c_0 d_0 q0) (takes t kk z)) = s
more_tests_stop l c _ _ d gs _ w a b (no_mark j rest n) s (expands _ (end_tests c_0 d_0 q0) (takes t kk z)) = n (ap (λ v. v.kind) (sym s) ∙ kk)

pub more_tests_refused : {most : Limits} (c : Context) (rest : List Word) → NoMark k.Comma rest → NoMark k.Semicolon rest → NoMark k.Arrow rest → IsRefused most {X = (List Expr × List (List Expr)) × ℕ} closed (more_tests_in c) rest rest Syntax
more_tests_refused c rest a b e = record {
  front = [];
  whole = refl;
  tree = (([], []), 0);
  more = mark_word k.Arrow ∷ [];
  goes_on = λ l v gs w d. expands _ (end_tests c 0 refl) (takes (mark_word k.Arrow) refl d);
  stops = λ l i r gs w f s d. more_tests_stop l c r.0.0 r.0.1 r.1 gs rest w a b e s d;
  excused = tt;
}

tests_lengthen : (l : Limits) (c : Context) (ys : List Expr) (as_ : List (List Expr)) (d : ℕ) (gs : List Goal) (t : Word) (w : List Word) → IsTrue (extends 0 t.kind) → Spells l (Of (MoreTests c ys as_ d) ∷ gs) (t ∷ w) → ⊥
tests_lengthen l c _ _ d gs t w h (expands _ (next_test c_0 ay y dy ys more dm d_0 q0) (takes u kk z)) = let a : extends 0 t.kind ≡ false = ap (extends 0) kk in cc
tests_lengthen l c _ _ d gs t w h (expands _ (next_alternative c_0 ay y dy ys more dm d_0 q0) (takes u kk z)) = let a : extends 0 t.kind ≡ false = ap (extends 0) kk in cc
tests_lengthen l c _ _ d gs t w h (expands _ (end_tests c_0 d_0 q0) (takes u kk z)) = let a : extends 0 t.kind ≡ false = ap (extends 0) kk in cc

pub behind_test : (c : Context) → Behind {X = Placed Expr} {Y = (List Expr × List (List Expr)) × ℕ} (extends 0) closed (λ p. more_tests_in c)
behind_test c = record { behind = λ l p q gs f t w h d. tests_lengthen l c q.0.0 q.0.1 q.1 gs t w h d }

pub tests_spelled : {most : Limits} (c : Context) → Spelled most {X = Placed Expr} {Y = (List Expr × List (List Expr)) × ℕ} (λ p. more_tests_in c) (mark_word k.Arrow ∷ [])
tests_spelled c = record { tree = λ p. (([], []), 0); spelled = λ l v p gs w d. expands _ (end_tests c 0 refl) (takes (mark_word k.Arrow) refl d) }
