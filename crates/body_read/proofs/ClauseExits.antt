-- What each exit of the readers of clauses says.
use Rattle.std.proofs.Common.{◌≡◌, ℕ, ◌+◌, max, List, [], ◌∷◌, ◌++◌, append_assoc, drop, Ok, Err, sym, ap, ◌∙◌, arith}
use Rattle.erl_syntax.specs.declared.token.TokenKind.TheVariants as k
use Rattle.erl_syntax.specs.declared.expr.Expr.{Expr}
use Rattle.erl_syntax.specs.declared.pattern.Pattern.{Pattern}
use Rattle.erl_syntax.specs.declared.clause.Guard.{Guard}
use Rattle.erl_syntax.specs.declared.clause.Item.{Item}
use Rattle.erl_syntax.specs.declared.clause.Alt.{Alt, roll-Alt}
use Rattle.erl_syntax.specs.declared.clause.Branch.{Branch, roll-Branch}
use Rattle.erl_syntax.specs.Grammar.{InGuard, InSize, Context, in_mode}
use Rattle.pattern_read.specs.declared.placed.Placed.{Placed}
use Rattle.pattern_read.specs.declared.fault.Cause.TheVariants.{Syntax}
use Rattle.pattern_read.specs.declared.fault.Fault.{Fault}
use Rattle.pattern_read.specs.Reading.{Passes, IsRefused, Gives, closed}
use Rattle.pattern_read.specs.Wanted.{IsAt, NoMark}
use Rattle.pattern_read.specs.WantedPatterns.{goes_same, pattern_in}
use Rattle.body_read.specs.WantedExprs.{alt_in, alts_in, body_in, body_longer, branch_in, branches_in, guarded_in, tests_in}
use Rattle.pattern_read.proofs.Passing.{same_kinds, behind_closed, and_then, refused_after, first_of_two, at_token, remade, fault_after, fault_first}
use Rattle.pattern_read.proofs.Levels.{same_pair}
use Rattle.body_read.proofs.ClauseLaws.{alt_and_more, more_alts_in, on_alts, on_next_alt, on_end_alts, more_alts_refused, behind_alt, alts_spelled, rest_of_alt, on_alt, behind_pattern, rest_spelled, body_spelled, branch_and_more, more_branches_in, on_branches, on_next_branch, on_end_branches, more_branches_refused, behind_branch, branches_spelled, on_branch}
use Rattle.pattern_read.specs.Cursor.{Readable}

-- ---- The clauses of `case` and `receive`

-- what was read of them, before a clause
abbrev pub AltsRead : Context → Readable → ℕ → ℕ → List Alt → ℕ → Type 0
AltsRead c ws at next alts h = Passes ws.limits closed (alts_in c) (drop at ws.words) (alt_and_more c) (drop next ws.words) (λ p. (alts ++ (p.0.0 ∷ p.1.0), max h (max p.0.1 p.1.1)))

pub alts_begin : (c : Context) (ws : Readable) (at : ℕ) (alts : List Alt) → alts ≡ [] → AltsRead c ws at at alts 0
alts_begin c ws at alts e = remade (λ p. same_pair (ap (λ v. v ++ (p.0.0 ∷ p.1.0)) (sym e)) (omega arith)) (on_alts c (drop at ws.words))

pub alts_err : (c : Context) (ws : Readable) (at next : ℕ) (alts : List Alt) (h : ℕ) (f : Fault) → AltsRead c ws at next alts h → Gives body_longer (alt_in c) ws next (Err f) → Gives closed (alts_in c) ws at (Err f)
alts_err c ws at next alts h f r g = fault_after ws at next f (same_kinds closed) r (fault_first (alt_in c) ws next f (behind_alt c) (alts_spelled c) g)

then_alts : (c : Context) (ws : Readable) (at next after : ℕ) (alts : List Alt) (h : ℕ) (a : Alt) (d : ℕ) → AltsRead c ws at next alts h → Gives body_longer (alt_in c) ws next (Ok ((a, d), after)) → Passes ws.limits {X = List Alt × ℕ} {Y = List Alt × ℕ} closed (alts_in c) (drop at ws.words) (more_alts_in c) (drop after ws.words) (λ q. (alts ++ (a ∷ q.0), max h (max d q.1)))
then_alts c ws at next after alts h a d r g = and_then (same_kinds closed) r (first_of_two (behind_alt c) g)

pub alts_end : (c : Context) (ws : Readable) (at next after : ℕ) (alts all : List Alt) (h g : ℕ) (a : Alt) (d : ℕ) → AltsRead c ws at next alts h → Gives body_longer (alt_in c) ws next (Ok ((a, d), after)) → IsAt ws after k.End → all ≡ alts ++ (a ∷ []) → g ≡ max h d → Gives closed (alts_in c) ws at (Ok ((all, g), after + 1))
alts_end c ws at next after alts all h g a d r v s e m = remade (λ u. same_pair (sym e) (omega (arith, m))) (and_then (same_kinds closed) (then_alts c ws at next after alts h a d r v) (at_token s.is (on_end_alts c s.word (drop (after + 1) ws.words) s.kind_is)))

pub alts_more : (c : Context) (ws : Readable) (at next after : ℕ) (alts all : List Alt) (h g : ℕ) (a : Alt) (d : ℕ) → AltsRead c ws at next alts h → Gives body_longer (alt_in c) ws next (Ok ((a, d), after)) → IsAt ws after k.Semicolon → all ≡ alts ++ (a ∷ []) → g ≡ max h d → AltsRead c ws at (after + 1) all g
alts_more c ws at next after alts all h g a d r v s e m = remade (λ p. same_pair (sym (append_assoc alts (a ∷ []) (p.0.0 ∷ p.1.0)) ∙ ap (λ u. u ++ (p.0.0 ∷ p.1.0)) (sym e)) (omega (arith, m))) (and_then (same_kinds closed) (then_alts c ws at next after alts h a d r v) (at_token s.is (on_next_alt c s.word (drop (after + 1) ws.words) s.kind_is)))

pub alts_other : (c : Context) (ws : Readable) (at next after : ℕ) (alts : List Alt) (h : ℕ) (a : Alt) (d : ℕ) → AltsRead c ws at next alts h → Gives body_longer (alt_in c) ws next (Ok ((a, d), after)) → NoMark k.Semicolon (drop after ws.words) → NoMark k.End (drop after ws.words) → IsRefused ws.limits {X = List Alt × ℕ} closed (alts_in c) (drop at ws.words) (drop after ws.words) Syntax
alts_other c ws at next after alts h a d r v m n = refused_after (same_kinds closed) (then_alts c ws at next after alts h a d r v) (more_alts_refused c (drop after ws.words) m n)

-- ---- A clause of `case` or `receive`

pub alt_pattern_err : (c : Context) (ws : Readable) (at : ℕ) (f : Fault) → Gives goes_same (pattern_in (in_mode InSize c)) ws at (Err f) → Gives body_longer (alt_in c) ws at (Err f)
alt_pattern_err c ws at f g = fault_after ws at at f (same_kinds body_longer) (on_alt c (drop at ws.words)) (fault_first (pattern_in (in_mode InSize c)) ws at f (behind_pattern c) (rest_spelled c) g)

alt_then : (c : Context) (ws : Readable) (at after : ℕ) (p : Placed Pattern) → Gives goes_same (pattern_in (in_mode InSize c)) ws at (Ok (p, after)) → Passes ws.limits {X = Alt × ℕ} {Y = (Guard × ℕ) × (List Item × ℕ)} body_longer (alt_in c) (drop at ws.words) (rest_of_alt c) (drop after ws.words) (λ q. (roll-Alt (record { at = p.at; pattern = p.tree; guard = q.0.0; body = q.1.0 }), max p.height (max q.0.1 q.1.1)))
alt_then c ws at after p g = and_then (same_kinds body_longer) (on_alt c (drop at ws.words)) (first_of_two (behind_pattern c) g)

pub alt_guard_err : (c : Context) (ws : Readable) (at after : ℕ) (p : Placed Pattern) (f : Fault) → Gives goes_same (pattern_in (in_mode InSize c)) ws at (Ok (p, after)) → Gives closed (guarded_in c) ws after (Err f) → Gives body_longer (alt_in c) ws at (Err f)
alt_guard_err c ws at after p f g r = fault_after ws at after f (same_kinds body_longer) (alt_then c ws at after p g) (fault_first {X = Guard × ℕ} {Y = List Item × ℕ} (guarded_in c) ws after f (behind_closed body_longer (λ v. body_in c)) (body_spelled c) r)

alt_body : (c : Context) (ws : Readable) (at after behind : ℕ) (p : Placed Pattern) (g : Guard) (dg : ℕ) → Gives goes_same (pattern_in (in_mode InSize c)) ws at (Ok (p, after)) → Gives closed (guarded_in c) ws after (Ok ((g, dg), behind)) → Passes ws.limits {X = Alt × ℕ} {Y = List Item × ℕ} body_longer (alt_in c) (drop at ws.words) (body_in c) (drop behind ws.words) (λ q. (roll-Alt (record { at = p.at; pattern = p.tree; guard = g; body = q.0 }), max p.height (max dg q.1)))
alt_body c ws at after behind p g dg a b = and_then (same_kinds body_longer) (alt_then c ws at after p a) (first_of_two {X = Guard × ℕ} {Y = List Item × ℕ} (behind_closed body_longer (λ v. body_in c)) b)

pub alt_body_err : (c : Context) (ws : Readable) (at after behind : ℕ) (p : Placed Pattern) (g : Guard) (dg : ℕ) (f : Fault) → Gives goes_same (pattern_in (in_mode InSize c)) ws at (Ok (p, after)) → Gives closed (guarded_in c) ws after (Ok ((g, dg), behind)) → Gives body_longer (body_in c) ws behind (Err f) → Gives body_longer (alt_in c) ws at (Err f)
alt_body_err c ws at after behind p g dg f a b r = fault_after ws at behind f (same_kinds body_longer) (alt_body c ws at after behind p g dg a b) r

pub alt_ok : (c : Context) (ws : Readable) (at after behind next : ℕ) (p : Placed Pattern) (g : Guard) (dg : ℕ) (items : List Item) (di h i : ℕ) → i ≡ max dg di → h ≡ max p.height i → Gives goes_same (pattern_in (in_mode InSize c)) ws at (Ok (p, after)) → Gives closed (guarded_in c) ws after (Ok ((g, dg), behind)) → Gives body_longer (body_in c) ws behind (Ok ((items, di), next)) → Gives body_longer (alt_in c) ws at (Ok ((roll-Alt (record { at = p.at; pattern = p.tree; guard = g; body = items }), h), next))
alt_ok c ws at after behind next p g dg items di h i e m a b r = remade (λ u. ap (λ v. (roll-Alt (record { at = p.at; pattern = p.tree; guard = g; body = items }), v)) (ap (λ v. max p.height v) (sym e) ∙ sym m)) (and_then (same_kinds body_longer) (alt_body c ws at after behind p g dg a b) r)

-- ---- The clauses of `if`

-- what was read of them, before a clause
abbrev pub BranchesRead : Context → Readable → ℕ → ℕ → List Branch → ℕ → Type 0
BranchesRead c ws at next branches h = Passes ws.limits closed (branches_in c) (drop at ws.words) (branch_and_more c) (drop next ws.words) (λ p. (branches ++ (p.0.0 ∷ p.1.0), max h (max p.0.1 p.1.1)))

pub branches_begin : (c : Context) (ws : Readable) (at : ℕ) (branches : List Branch) → branches ≡ [] → BranchesRead c ws at at branches 0
branches_begin c ws at branches e = remade (λ p. same_pair (ap (λ v. v ++ (p.0.0 ∷ p.1.0)) (sym e)) (omega arith)) (on_branches c (drop at ws.words))

pub branches_err : (c : Context) (ws : Readable) (at next : ℕ) (branches : List Branch) (h : ℕ) (f : Fault) → BranchesRead c ws at next branches h → Gives body_longer (branch_in c) ws next (Err f) → Gives closed (branches_in c) ws at (Err f)
branches_err c ws at next branches h f r g = fault_after ws at next f (same_kinds closed) r (fault_first (branch_in c) ws next f (behind_branch c) (branches_spelled c) g)

then_branches : (c : Context) (ws : Readable) (at next after : ℕ) (branches : List Branch) (h : ℕ) (a : Branch) (d : ℕ) → BranchesRead c ws at next branches h → Gives body_longer (branch_in c) ws next (Ok ((a, d), after)) → Passes ws.limits {X = List Branch × ℕ} {Y = List Branch × ℕ} closed (branches_in c) (drop at ws.words) (more_branches_in c) (drop after ws.words) (λ q. (branches ++ (a ∷ q.0), max h (max d q.1)))
then_branches c ws at next after branches h a d r g = and_then (same_kinds closed) r (first_of_two (behind_branch c) g)

pub branches_end : (c : Context) (ws : Readable) (at next after : ℕ) (branches all : List Branch) (h g : ℕ) (a : Branch) (d : ℕ) → BranchesRead c ws at next branches h → Gives body_longer (branch_in c) ws next (Ok ((a, d), after)) → IsAt ws after k.End → all ≡ branches ++ (a ∷ []) → g ≡ max h d → Gives closed (branches_in c) ws at (Ok ((all, g), after + 1))
branches_end c ws at next after branches all h g a d r v s e m = remade (λ u. same_pair (sym e) (omega (arith, m))) (and_then (same_kinds closed) (then_branches c ws at next after branches h a d r v) (at_token s.is (on_end_branches c s.word (drop (after + 1) ws.words) s.kind_is)))

pub branches_more : (c : Context) (ws : Readable) (at next after : ℕ) (branches all : List Branch) (h g : ℕ) (a : Branch) (d : ℕ) → BranchesRead c ws at next branches h → Gives body_longer (branch_in c) ws next (Ok ((a, d), after)) → IsAt ws after k.Semicolon → all ≡ branches ++ (a ∷ []) → g ≡ max h d → BranchesRead c ws at (after + 1) all g
branches_more c ws at next after branches all h g a d r v s e m = remade (λ p. same_pair (sym (append_assoc branches (a ∷ []) (p.0.0 ∷ p.1.0)) ∙ ap (λ u. u ++ (p.0.0 ∷ p.1.0)) (sym e)) (omega (arith, m))) (and_then (same_kinds closed) (then_branches c ws at next after branches h a d r v) (at_token s.is (on_next_branch c s.word (drop (after + 1) ws.words) s.kind_is)))

pub branches_other : (c : Context) (ws : Readable) (at next after : ℕ) (branches : List Branch) (h : ℕ) (a : Branch) (d : ℕ) → BranchesRead c ws at next branches h → Gives body_longer (branch_in c) ws next (Ok ((a, d), after)) → NoMark k.Semicolon (drop after ws.words) → NoMark k.End (drop after ws.words) → IsRefused ws.limits {X = List Branch × ℕ} closed (branches_in c) (drop at ws.words) (drop after ws.words) Syntax
branches_other c ws at next after branches h a d r v m n = refused_after (same_kinds closed) (then_branches c ws at next after branches h a d r v) (more_branches_refused c (drop after ws.words) m n)

-- ---- A clause of `if`

pub branch_tests_err : (c : Context) (ws : Readable) (at : ℕ) (f : Fault) → Gives closed (tests_in (in_mode InGuard c)) ws at (Err f) → Gives body_longer (branch_in c) ws at (Err f)
branch_tests_err c ws at f g = fault_after ws at at f (same_kinds body_longer) (on_branch c (drop at ws.words)) (fault_first {X = Placed (List (List Expr))} {Y = List Item × ℕ} (tests_in (in_mode InGuard c)) ws at f (behind_closed body_longer (λ v. body_in c)) (body_spelled c) g)

branch_then : (c : Context) (ws : Readable) (at after : ℕ) (y : Placed (List (List Expr))) → Gives closed (tests_in (in_mode InGuard c)) ws at (Ok (y, after)) → Passes ws.limits {X = Branch × ℕ} {Y = List Item × ℕ} body_longer (branch_in c) (drop at ws.words) (body_in c) (drop after ws.words) (λ q. (roll-Branch (record { at = y.at; guard = record { alternatives = y.tree }; body = q.0 }), max y.height q.1))
branch_then c ws at after y g = and_then (same_kinds body_longer) (on_branch c (drop at ws.words)) (first_of_two {X = Placed (List (List Expr))} {Y = List Item × ℕ} (behind_closed body_longer (λ v. body_in c)) g)

pub branch_body_err : (c : Context) (ws : Readable) (at after : ℕ) (y : Placed (List (List Expr))) (f : Fault) → Gives closed (tests_in (in_mode InGuard c)) ws at (Ok (y, after)) → Gives body_longer (body_in c) ws after (Err f) → Gives body_longer (branch_in c) ws at (Err f)
branch_body_err c ws at after y f g r = fault_after ws at after f (same_kinds body_longer) (branch_then c ws at after y g) r

pub branch_ok : (c : Context) (ws : Readable) (at after next : ℕ) (y : Placed (List (List Expr))) (items : List Item) (di h : ℕ) → h ≡ max y.height di → Gives closed (tests_in (in_mode InGuard c)) ws at (Ok (y, after)) → Gives body_longer (body_in c) ws after (Ok ((items, di), next)) → Gives body_longer (branch_in c) ws at (Ok ((roll-Branch (record { at = y.at; guard = record { alternatives = y.tree }; body = items }), h), next))
branch_ok c ws at after next y items di h e g r = remade (λ u. ap (λ v. (roll-Branch (record { at = y.at; guard = record { alternatives = y.tree }; body = items }), v)) (sym e)) (and_then (same_kinds body_longer) (branch_then c ws at after y g) r)
