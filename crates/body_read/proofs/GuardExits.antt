-- What each exit of the readers of guards says.
use Rattle.std.proofs.Common.{◌≡◌, ℕ, ◌+◌, max, List, [], ◌∷◌, ◌++◌, append_assoc, drop, Ok, Err, refl, sym, ap, ◌∙◌, arith}
use Rattle.std.proofs.lemmas.List.{append-nil}
use Rattle.erl_syntax.specs.declared.span.Span.{Span}
use Rattle.erl_syntax.specs.declared.token.TokenKind.TheVariants as k
use Rattle.erl_syntax.specs.declared.expr.Expr.{Expr}
use Rattle.erl_syntax.specs.declared.clause.Guard.{Guard}
use Rattle.erl_syntax.specs.Grammar.{InGuard, Context, in_mode}
use Rattle.pattern_read.specs.declared.placed.Placed.{Placed}
use Rattle.pattern_read.specs.declared.fault.Cause.TheVariants.{Syntax}
use Rattle.pattern_read.specs.declared.fault.Fault.{Fault}
use Rattle.pattern_read.specs.Reading.{Passes, IsRefused, Gives, closed}
use Rattle.pattern_read.specs.Wanted.{IsAt, NoMark, extends, level_in}
use Rattle.body_read.specs.WantedExprs.{guarded_in, tests_in}
use Rattle.pattern_read.proofs.Passing.{same_kinds, and_then, refused_after, first_of_two, at_token, remade, fault_after, fault_first}
use Rattle.pattern_read.proofs.Levels.{same_pair}
use Rattle.body_read.proofs.GuardLaws.{same_guard, on_unguarded, on_guarded, guarded_refused, more_tests_in, test_and_more, tests_there, on_tests, on_next_test, on_next_alternative, on_end_tests, more_tests_refused, behind_test, tests_spelled}
use Rattle.pattern_read.specs.Cursor.{Readable}

-- ---- With a guard or without

pub guarded_none : (c : Context) (ws : Readable) (at : ℕ) (ts : List (List Expr)) → IsAt ws at k.Arrow → ts ≡ [] → Gives closed (guarded_in c) ws at (Ok ((record { alternatives = ts }, 0), at + 1))
guarded_none c ws at ts s e = remade (λ u. same_pair (same_guard (sym e)) refl) (at_token s.is (on_unguarded c s.word (drop (at + 1) ws.words) s.kind_is))

pub guarded_other : (c : Context) (ws : Readable) (at : ℕ) → NoMark k.Arrow (drop at ws.words) → NoMark k.When (drop at ws.words) → IsRefused ws.limits {X = Guard × ℕ} closed (guarded_in c) (drop at ws.words) (drop at ws.words) Syntax
guarded_other c ws at a b = guarded_refused c (drop at ws.words) a b

pub guarded_err : (c : Context) (ws : Readable) (at : ℕ) (f : Fault) → IsAt ws at k.When → Gives closed (tests_in (in_mode InGuard c)) ws (at + 1) (Err f) → Gives closed (guarded_in c) ws at (Err f)
guarded_err c ws at f s g = fault_after ws at (at + 1) f (same_kinds closed) (at_token s.is (on_guarded c s.word (drop (at + 1) ws.words) s.kind_is)) g

pub guarded_ok : (c : Context) (ws : Readable) (at next : ℕ) (r : Placed (List (List Expr))) → IsAt ws at k.When → Gives closed (tests_in (in_mode InGuard c)) ws (at + 1) (Ok (r, next)) → Gives closed (guarded_in c) ws at (Ok ((record { alternatives = r.tree }, r.height), next))
guarded_ok c ws at next r s g = and_then (same_kinds closed) (at_token s.is (on_guarded c s.word (drop (at + 1) ws.words) s.kind_is)) g

-- ---- Tests

-- what was read of tests, behind one: the alternatives before the last, and the tests of that one
abbrev pub TestsRead : Context → Readable → ℕ → ℕ → Span → List (List Expr) → List Expr → ℕ → Type 0
TestsRead c ws at next place as_ ys h = Passes ws.limits closed (tests_in c) (drop at ws.words) (more_tests_in c) (drop next ws.words) (λ r. record { at = place; tree = as_ ++ ((ys ++ r.0.0) ∷ r.0.1); height = max h r.1 })

-- the same before a test
abbrev pub TestsBegun : Context → Readable → ℕ → ℕ → Span → List (List Expr) → List Expr → ℕ → Type 0
TestsBegun c ws at next place as_ ys h = Passes ws.limits closed (tests_in c) (drop at ws.words) (test_and_more c) (drop next ws.words) (λ p. record { at = place; tree = as_ ++ ((ys ++ (p.0.tree ∷ p.1.0.0)) ∷ p.1.0.1); height = max h (max p.0.height p.1.1) })

pub tests_first_err : (c : Context) (ws : Readable) (at : ℕ) (f : Fault) → Gives (extends 0) (level_in 0 c) ws at (Err f) → Gives closed (tests_in c) ws at (Err f)
tests_first_err c ws at f g = fault_after ws at at f (same_kinds closed) (on_tests c (drop at ws.words)) (fault_first (level_in 0 c) ws at f (behind_test c) (tests_spelled c) g)

pub tests_begin : (c : Context) (ws : Readable) (at after : ℕ) (y : Placed Expr) (as_ : List (List Expr)) (ys : List Expr) → Gives (extends 0) (level_in 0 c) ws at (Ok (y, after)) → as_ ≡ [] → ys ≡ y.tree ∷ [] → TestsRead c ws at after y.at as_ ys y.height
tests_begin c ws at after y as_ ys g e i = remade (λ r. tests_there y.at (ap (λ v. (v ++ r.0.0) ∷ r.0.1) (sym i) ∙ ap (λ v. v ++ ((ys ++ r.0.0) ∷ r.0.1)) (sym e)) refl) (and_then (same_kinds closed) (on_tests c (drop at ws.words)) (first_of_two (behind_test c) g))

pub tests_end : (c : Context) (ws : Readable) (at next : ℕ) (place : Span) (as_ all : List (List Expr)) (ys : List Expr) (h : ℕ) (z : List Expr) → TestsRead c ws at next place as_ ys h → IsAt ws next k.Arrow → z ≡ ys → all ≡ as_ ++ (z ∷ []) → Gives closed (tests_in c) ws at (Ok (record { at = place; tree = all; height = h }, next + 1))
tests_end c ws at next place as_ all ys h z r s e i = remade (λ u. tests_there place (ap (λ v. as_ ++ (v ∷ [])) (append-nil ys ∙ sym e) ∙ sym i) (omega arith)) (and_then (same_kinds closed) r (at_token s.is (on_end_tests c s.word (drop (next + 1) ws.words) s.kind_is)))

pub tests_other : (c : Context) (ws : Readable) (at next : ℕ) (place : Span) (as_ : List (List Expr)) (ys : List Expr) (h : ℕ) → TestsRead c ws at next place as_ ys h → NoMark k.Comma (drop next ws.words) → NoMark k.Semicolon (drop next ws.words) → NoMark k.Arrow (drop next ws.words) → IsRefused ws.limits {X = Placed (List (List Expr))} closed (tests_in c) (drop at ws.words) (drop next ws.words) Syntax
tests_other c ws at next place as_ ys h r a b e = refused_after (same_kinds closed) r (more_tests_refused c (drop next ws.words) a b e)

-- another test of the same alternative
pub tests_comma : (c : Context) (ws : Readable) (at next : ℕ) (place : Span) (as_ bs : List (List Expr)) (ys zs : List Expr) (h : ℕ) → TestsRead c ws at next place as_ ys h → IsAt ws next k.Comma → bs ≡ as_ → zs ≡ ys → TestsBegun c ws at (next + 1) place bs zs h
tests_comma c ws at next place as_ bs ys zs h r s e i = remade (λ p. tests_there place (ap (λ v. as_ ++ ((v ++ (p.0.tree ∷ p.1.0.0)) ∷ p.1.0.1)) (sym i) ∙ ap (λ v. v ++ ((zs ++ (p.0.tree ∷ p.1.0.0)) ∷ p.1.0.1)) (sym e)) refl) (and_then (same_kinds closed) r (at_token s.is (on_next_test c s.word (drop (next + 1) ws.words) s.kind_is)))

-- the first test of another alternative
pub tests_semicolon : (c : Context) (ws : Readable) (at next : ℕ) (place : Span) (as_ bs : List (List Expr)) (ys zs : List Expr) (h : ℕ) (z : List Expr) → TestsRead c ws at next place as_ ys h → IsAt ws next k.Semicolon → z ≡ ys → bs ≡ as_ ++ (z ∷ []) → zs ≡ [] → TestsBegun c ws at (next + 1) place bs zs h
tests_semicolon c ws at next place as_ bs ys zs h z r s f e i = remade (λ p. let rest : List (List Expr) = (p.0.tree ∷ p.1.0.0) ∷ p.1.0.1 in tests_there place (ap (λ v. as_ ++ (v ∷ rest)) (append-nil ys ∙ sym f) ∙ sym (append_assoc as_ (z ∷ []) rest) ∙ ap (λ v. v ++ rest) (sym e) ∙ ap (λ v. bs ++ ((v ++ (p.0.tree ∷ p.1.0.0)) ∷ p.1.0.1)) (sym i)) refl) (and_then (same_kinds closed) r (at_token s.is (on_next_alternative c s.word (drop (next + 1) ws.words) s.kind_is)))

pub tests_err : (c : Context) (ws : Readable) (at next : ℕ) (place : Span) (as_ : List (List Expr)) (ys : List Expr) (h : ℕ) (f : Fault) → TestsBegun c ws at next place as_ ys h → Gives (extends 0) (level_in 0 c) ws next (Err f) → Gives closed (tests_in c) ws at (Err f)
tests_err c ws at next place as_ ys h f r g = fault_after ws at next f (same_kinds closed) r (fault_first (level_in 0 c) ws next f (behind_test c) (tests_spelled c) g)

pub tests_more : (c : Context) (ws : Readable) (at next after : ℕ) (place : Span) (as_ : List (List Expr)) (ys all : List Expr) (h g : ℕ) (y : Placed Expr) → TestsBegun c ws at next place as_ ys h → Gives (extends 0) (level_in 0 c) ws next (Ok (y, after)) → all ≡ ys ++ (y.tree ∷ []) → g ≡ max h y.height → TestsRead c ws at after place as_ all g
tests_more c ws at next after place as_ ys all h g y r v e i = remade (λ q. tests_there place (ap (λ u. as_ ++ (u ∷ q.0.1)) (sym (append_assoc ys (y.tree ∷ []) q.0.0) ∙ ap (λ u. u ++ q.0.0) (sym e))) (omega (arith, i))) (and_then (same_kinds closed) r (first_of_two (behind_test c) v))
