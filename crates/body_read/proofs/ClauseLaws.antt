-- The laws of clauses: those of `case` and `receive`, and those of `if`, up to `end`.
use Rattle.std.proofs.Common.{◌≡◌, ℕ, max, false, IsTrue, List, [], ◌∷◌, ◌++◌, refl, sym, ap, ◌∙◌}
use Rattle.erl_syntax.specs.declared.token.TokenKind.TheVariants as k
use Rattle.erl_syntax.specs.declared.expr.Expr.{Expr}
use Rattle.erl_syntax.specs.declared.pattern.Pattern.{Pattern}
use Rattle.erl_syntax.specs.declared.clause.Guard.{Guard}
use Rattle.erl_syntax.specs.declared.clause.Item.{Item}
use Rattle.erl_syntax.specs.declared.clause.Alt.{Alt, roll-Alt}
use Rattle.erl_syntax.specs.declared.clause.Branch.{Branch, roll-Branch}
use Rattle.erl_syntax.specs.Word.{Word}
use Rattle.erl_syntax.specs.Grammar.{InGuard, InSize, Context, in_mode, Limits, Goal, Of, Guarded, Alts, MoreAlts, AnAlt, Branches, MoreBranches, ABranch, unguarded, guarded, alts, more_alts, end_alts, alt, branches, more_branches, end_branches, branch, Spells, takes, expands}
use Rattle.pattern_read.specs.declared.placed.Placed.{Placed}
use Rattle.pattern_read.specs.declared.fault.Cause.TheVariants.{Syntax}
use Rattle.pattern_read.specs.Reading.{Passes, IsRefused, SameHead, closed, nothing}
use Rattle.pattern_read.specs.Wanted.{NoMark, no_mark_end, no_mark}
use Rattle.pattern_read.specs.WantedPatterns.{goes_same, pattern_in}
use Rattle.body_read.specs.WantedExprs.{alt_in, alts_in, body_in, body_longer, branch_in, branches_in, guarded_in, tests_in}
use Rattle.pattern_read.proofs.Passing.{Behind, Spelled}
use Rattle.pattern_read.proofs.Levels.{same_pair}
use Rattle.pattern_read.proofs.Operands.{mark_word, some_word}
use Rattle.body_read.proofs.BodyLaws.{body_completed, some_item}

-- ---- The clauses of `case` and `receive`

abbrev pub more_alts_in : Context → List Alt × ℕ → List Goal
more_alts_in c r = Of (MoreAlts c r.0 r.1) ∷ []

-- a first clause, and more behind it
abbrev pub alt_and_more : Context → (Alt × ℕ) × (List Alt × ℕ) → List Goal
alt_and_more c p = alt_in c p.0 ++ more_alts_in c p.1

abbrev pub with_alts : (Alt × ℕ) × (List Alt × ℕ) → List Alt × ℕ
with_alts p = (p.0.0 ∷ p.1.0, max p.0.1 p.1.1)

alts_forth : (l : Limits) (c : Context) (ys : List Alt) (d : ℕ) (gs : List Goal) (w : List Word) → Spells l (Of (Alts c ys d) ∷ gs) w →
    (p : (Alt × ℕ) × (List Alt × ℕ)) × (ys ≡ p.0.0 ∷ p.1.0) × (d ≡ max p.0.1 p.1.1) × Spells l (alt_and_more c p ++ gs) w
alts_forth l c _ d gs w (expands _ (alts c_0 a da rest_0 dr d_0 q0) z) = (((a, da), (rest_0, dr)), refl, q0, z)

pub on_alts : {most : Limits} (c : Context) (rest : List Word) → Passes most {X = List Alt × ℕ} {Y = (Alt × ℕ) × (List Alt × ℕ)} closed (alts_in c) rest (alt_and_more c) rest with_alts
on_alts c rest = record {
  front = [];
  whole = refl;
  back = λ l v p gs w d. expands _ (alts c _ _ _ _ _ refl) d;
  forth = λ l r gs w f s d. let m = alts_forth l c r.0 r.1 gs w d in (m.0, same_pair m.1 m.2, m.3);
}

next_alt_forth : (l : Limits) (c : Context) (ys : List Alt) (d : ℕ) (gs : List Goal) (j : Word) (w : List Word) → j.kind ≡ k.Semicolon → Spells l (Of (MoreAlts c ys d) ∷ gs) (j ∷ w) →
    (p : (Alt × ℕ) × (List Alt × ℕ)) × (ys ≡ p.0.0 ∷ p.1.0) × (d ≡ max p.0.1 p.1.1) × Spells l (alt_and_more c p ++ gs) w
next_alt_forth l c _ d gs j w h (expands _ (more_alts c_0 a da rest_0 dr d_0 q0) (takes t kk z)) = (((a, da), (rest_0, dr)), refl, q0, z)
next_alt_forth l c _ d gs j w h (expands _ (end_alts c_0 d_0 q0) (takes t kk z)) = cc

pub on_next_alt : {most : Limits} (c : Context) (j : Word) (rest : List Word) → j.kind ≡ k.Semicolon → Passes most {X = List Alt × ℕ} {Y = (Alt × ℕ) × (List Alt × ℕ)} closed (more_alts_in c) (j ∷ rest) (alt_and_more c) rest with_alts
on_next_alt c j rest h = record {
  front = j ∷ [];
  whole = refl;
  back = λ l v p gs w d. expands _ (more_alts c _ _ _ _ _ refl) (takes j h d);
  forth = λ l r gs w f s d. let m = next_alt_forth l c r.0 r.1 gs j w h d in (m.0, same_pair m.1 m.2, m.3);
}

end_alts_forth : (l : Limits) (c : Context) (ys : List Alt) (d : ℕ) (gs : List Goal) (j : Word) (w : List Word) → j.kind ≡ k.End → Spells l (Of (MoreAlts c ys d) ∷ gs) (j ∷ w) → (ys ≡ []) × (d ≡ 0) × Spells l gs w
end_alts_forth l c _ d gs j w h (expands _ (more_alts c_0 a da rest_0 dr d_0 q0) (takes t kk z)) = cc
end_alts_forth l c _ d gs j w h (expands _ (end_alts c_0 d_0 q0) (takes t kk z)) = (refl, q0, z)

pub on_end_alts : {most : Limits} (c : Context) (j : Word) (rest : List Word) → j.kind ≡ k.End → Passes most {X = List Alt × ℕ} closed (more_alts_in c) (j ∷ rest) nothing rest (λ u. ([], 0))
on_end_alts c j rest h = record {
  front = j ∷ [];
  whole = refl;
  back = λ l v u gs w d. expands _ (end_alts c 0 refl) (takes j h d);
  forth = λ l r gs w f s d. let m = end_alts_forth l c r.0 r.1 gs j w h d in (tt, same_pair m.0 m.1, m.2);
}

more_alts_stop : (l : Limits) (c : Context) (ys : List Alt) (d : ℕ) (gs : List Goal) (rest w : List Word) → NoMark k.Semicolon rest → NoMark k.End rest → SameHead w rest → Spells l (Of (MoreAlts c ys d) ∷ gs) w → ⊥
more_alts_stop l c _ d gs _ w no_mark_end b s (expands _ (more_alts c_0 a da rest_0 dr d_0 q0) (takes t kk z)) = s
more_alts_stop l c _ d gs _ w (no_mark j rest n) b s (expands _ (more_alts c_0 a da rest_0 dr d_0 q0) (takes t kk z)) = n (ap (λ v. v.kind) (sym s) ∙ kk)
more_alts_stop l c _ d gs _ w a no_mark_end s (expands _ (end_alts c_0 d_0 q0) (takes t kk z)) = s
more_alts_stop l c _ d gs _ w a (no_mark j rest n) s (expands _ (end_alts c_0 d_0 q0) (takes t kk z)) = n (ap (λ v. v.kind) (sym s) ∙ kk)

pub more_alts_refused : {most : Limits} (c : Context) (rest : List Word) → NoMark k.Semicolon rest → NoMark k.End rest → IsRefused most {X = List Alt × ℕ} closed (more_alts_in c) rest rest Syntax
more_alts_refused c rest a b = record {
  front = [];
  whole = refl;
  tree = ([], 0);
  more = mark_word k.End ∷ [];
  goes_on = λ l v gs w d. expands _ (end_alts c 0 refl) (takes (mark_word k.End) refl d);
  stops = λ l i r gs w f s d. more_alts_stop l c r.0 r.1 gs rest w a b s d;
  excused = tt;
}

alts_lengthen : (l : Limits) (c : Context) (ys : List Alt) (d : ℕ) (gs : List Goal) (t : Word) (w : List Word) → IsTrue (body_longer t.kind) → Spells l (Of (MoreAlts c ys d) ∷ gs) (t ∷ w) → ⊥
alts_lengthen l c _ d gs t w h (expands _ (more_alts c_0 a da rest_0 dr d_0 q0) (takes u kk z)) = let b : body_longer t.kind ≡ false = ap body_longer kk in cc
alts_lengthen l c _ d gs t w h (expands _ (end_alts c_0 d_0 q0) (takes u kk z)) = let b : body_longer t.kind ≡ false = ap body_longer kk in cc

pub behind_alt : (c : Context) → Behind {X = Alt × ℕ} {Y = List Alt × ℕ} body_longer closed (λ p. more_alts_in c)
behind_alt c = record { behind = λ l p q gs f t w h d. alts_lengthen l c q.0 q.1 gs t w h d }

pub alts_spelled : {most : Limits} (c : Context) → Spelled most {X = Alt × ℕ} {Y = List Alt × ℕ} (λ p. more_alts_in c) (mark_word k.End ∷ [])
alts_spelled c = record { tree = λ p. ([], 0); spelled = λ l v p gs w d. expands _ (end_alts c 0 refl) (takes (mark_word k.End) refl d) }

-- what stands behind the pattern of a clause: a guard, if there is one, and a body
abbrev pub rest_of_alt : Context → (Guard × ℕ) × (List Item × ℕ) → List Goal
rest_of_alt c q = guarded_in c q.0 ++ body_in c q.1

abbrev pub parts_of_alt : Context → Placed Pattern × ((Guard × ℕ) × (List Item × ℕ)) → List Goal
parts_of_alt c p = pattern_in (in_mode InSize c) p.0 ++ rest_of_alt c p.1

abbrev pub as_alt : Placed Pattern × ((Guard × ℕ) × (List Item × ℕ)) → Alt × ℕ
as_alt p = (roll-Alt (record { at = p.0.at; pattern = p.0.tree; guard = p.1.0.0; body = p.1.1.0 }), max p.0.height (max p.1.0.1 p.1.1.1))

alt_forth : (l : Limits) (c : Context) (a : Alt) (d : ℕ) (gs : List Goal) (w : List Word) → Spells l (Of (AnAlt c a d) ∷ gs) w →
    (p : Placed Pattern × ((Guard × ℕ) × (List Item × ℕ))) × (a ≡ (as_alt p).0) × (d ≡ (as_alt p).1) × Spells l (parts_of_alt c p ++ gs) w
alt_forth l c a d gs w (expands _ (alt c_0 a_0 d_0 at pt dp g dg is di q0 q1) z) = ((record { at = at; tree = pt; height = dp }, ((g, dg), (is, di))), q0, q1, z)

pub on_alt : {most : Limits} (c : Context) (rest : List Word) → Passes most {X = Alt × ℕ} {Y = Placed Pattern × ((Guard × ℕ) × (List Item × ℕ))} body_longer (alt_in c) rest (parts_of_alt c) rest as_alt
on_alt c rest = record {
  front = [];
  whole = refl;
  back = λ l v p gs w d. expands _ (alt c _ _ _ _ _ _ _ _ _ refl refl) d;
  forth = λ l r gs w f s d. let m = alt_forth l c r.0 r.1 gs w d in (m.0, same_pair m.1 m.2, m.3);
}

guard_lengthens : (l : Limits) (c : Context) (g : Guard) (d : ℕ) (gs : List Goal) (t : Word) (w : List Word) → IsTrue (goes_same t.kind) → Spells l (Of (Guarded c g d) ∷ gs) (t ∷ w) → ⊥
guard_lengthens l c g d gs t w h (expands _ (unguarded c_0 g_0 d_0 q0 q1) (takes u kk z)) = let b : goes_same t.kind ≡ false = ap goes_same kk in cc
guard_lengthens l c g d gs t w h (expands _ (guarded c_0 g_0 d_0 at ts q0) (takes u kk z)) = let b : goes_same t.kind ≡ false = ap goes_same kk in cc

pub behind_pattern : (c : Context) → Behind {X = Placed Pattern} {Y = (Guard × ℕ) × (List Item × ℕ)} goes_same body_longer (λ p. rest_of_alt c)
behind_pattern c = record { behind = λ l p q gs f t w h d. guard_lengthens l c q.0.0 q.0.1 (body_in c q.1 ++ gs) t w h d }

pub rest_spelled : {most : Limits} (c : Context) → Spelled most {X = Placed Pattern} {Y = (Guard × ℕ) × (List Item × ℕ)} (λ p. rest_of_alt c) (mark_word k.Arrow ∷ (some_word ∷ []))
rest_spelled c = record { tree = λ p. ((record { alternatives = [] }, 0), (some_item ∷ [], 1)); spelled = λ l v p gs w d. expands _ (unguarded c _ _ refl refl) (takes (mark_word k.Arrow) refl (body_completed l c gs w d)) }

-- a body behind an arrow
pub body_spelled : {most : Limits} {X : Type 0} (c : Context) → Spelled most {X = X} {Y = List Item × ℕ} (λ p. body_in c) (some_word ∷ [])
body_spelled c = record { tree = λ p. (some_item ∷ [], 1); spelled = λ l v p gs w d. body_completed l c gs w d }

-- ---- The clauses of `if`

abbrev pub more_branches_in : Context → List Branch × ℕ → List Goal
more_branches_in c r = Of (MoreBranches c r.0 r.1) ∷ []

-- a first clause, and more behind it
abbrev pub branch_and_more : Context → (Branch × ℕ) × (List Branch × ℕ) → List Goal
branch_and_more c p = branch_in c p.0 ++ more_branches_in c p.1

abbrev pub with_branches : (Branch × ℕ) × (List Branch × ℕ) → List Branch × ℕ
with_branches p = (p.0.0 ∷ p.1.0, max p.0.1 p.1.1)

branches_forth : (l : Limits) (c : Context) (ys : List Branch) (d : ℕ) (gs : List Goal) (w : List Word) → Spells l (Of (Branches c ys d) ∷ gs) w →
    (p : (Branch × ℕ) × (List Branch × ℕ)) × (ys ≡ p.0.0 ∷ p.1.0) × (d ≡ max p.0.1 p.1.1) × Spells l (branch_and_more c p ++ gs) w
branches_forth l c _ d gs w (expands _ (branches c_0 a da rest_0 dr d_0 q0) z) = (((a, da), (rest_0, dr)), refl, q0, z)

pub on_branches : {most : Limits} (c : Context) (rest : List Word) → Passes most {X = List Branch × ℕ} {Y = (Branch × ℕ) × (List Branch × ℕ)} closed (branches_in c) rest (branch_and_more c) rest with_branches
on_branches c rest = record {
  front = [];
  whole = refl;
  back = λ l v p gs w d. expands _ (branches c _ _ _ _ _ refl) d;
  forth = λ l r gs w f s d. let m = branches_forth l c r.0 r.1 gs w d in (m.0, same_pair m.1 m.2, m.3);
}

next_branch_forth : (l : Limits) (c : Context) (ys : List Branch) (d : ℕ) (gs : List Goal) (j : Word) (w : List Word) → j.kind ≡ k.Semicolon → Spells l (Of (MoreBranches c ys d) ∷ gs) (j ∷ w) →
    (p : (Branch × ℕ) × (List Branch × ℕ)) × (ys ≡ p.0.0 ∷ p.1.0) × (d ≡ max p.0.1 p.1.1) × Spells l (branch_and_more c p ++ gs) w
next_branch_forth l c _ d gs j w h (expands _ (more_branches c_0 a da rest_0 dr d_0 q0) (takes t kk z)) = (((a, da), (rest_0, dr)), refl, q0, z)
next_branch_forth l c _ d gs j w h (expands _ (end_branches c_0 d_0 q0) (takes t kk z)) = cc

pub on_next_branch : {most : Limits} (c : Context) (j : Word) (rest : List Word) → j.kind ≡ k.Semicolon → Passes most {X = List Branch × ℕ} {Y = (Branch × ℕ) × (List Branch × ℕ)} closed (more_branches_in c) (j ∷ rest) (branch_and_more c) rest with_branches
on_next_branch c j rest h = record {
  front = j ∷ [];
  whole = refl;
  back = λ l v p gs w d. expands _ (more_branches c _ _ _ _ _ refl) (takes j h d);
  forth = λ l r gs w f s d. let m = next_branch_forth l c r.0 r.1 gs j w h d in (m.0, same_pair m.1 m.2, m.3);
}

end_branches_forth : (l : Limits) (c : Context) (ys : List Branch) (d : ℕ) (gs : List Goal) (j : Word) (w : List Word) → j.kind ≡ k.End → Spells l (Of (MoreBranches c ys d) ∷ gs) (j ∷ w) → (ys ≡ []) × (d ≡ 0) × Spells l gs w
end_branches_forth l c _ d gs j w h (expands _ (more_branches c_0 a da rest_0 dr d_0 q0) (takes t kk z)) = cc
end_branches_forth l c _ d gs j w h (expands _ (end_branches c_0 d_0 q0) (takes t kk z)) = (refl, q0, z)

pub on_end_branches : {most : Limits} (c : Context) (j : Word) (rest : List Word) → j.kind ≡ k.End → Passes most {X = List Branch × ℕ} closed (more_branches_in c) (j ∷ rest) nothing rest (λ u. ([], 0))
on_end_branches c j rest h = record {
  front = j ∷ [];
  whole = refl;
  back = λ l v u gs w d. expands _ (end_branches c 0 refl) (takes j h d);
  forth = λ l r gs w f s d. let m = end_branches_forth l c r.0 r.1 gs j w h d in (tt, same_pair m.0 m.1, m.2);
}

more_branches_stop : (l : Limits) (c : Context) (ys : List Branch) (d : ℕ) (gs : List Goal) (rest w : List Word) → NoMark k.Semicolon rest → NoMark k.End rest → SameHead w rest → Spells l (Of (MoreBranches c ys d) ∷ gs) w → ⊥
more_branches_stop l c _ d gs _ w no_mark_end b s (expands _ (more_branches c_0 a da rest_0 dr d_0 q0) (takes t kk z)) = s
more_branches_stop l c _ d gs _ w (no_mark j rest n) b s (expands _ (more_branches c_0 a da rest_0 dr d_0 q0) (takes t kk z)) = n (ap (λ v. v.kind) (sym s) ∙ kk)
more_branches_stop l c _ d gs _ w a no_mark_end s (expands _ (end_branches c_0 d_0 q0) (takes t kk z)) = s
more_branches_stop l c _ d gs _ w a (no_mark j rest n) s (expands _ (end_branches c_0 d_0 q0) (takes t kk z)) = n (ap (λ v. v.kind) (sym s) ∙ kk)

pub more_branches_refused : {most : Limits} (c : Context) (rest : List Word) → NoMark k.Semicolon rest → NoMark k.End rest → IsRefused most {X = List Branch × ℕ} closed (more_branches_in c) rest rest Syntax
more_branches_refused c rest a b = record {
  front = [];
  whole = refl;
  tree = ([], 0);
  more = mark_word k.End ∷ [];
  goes_on = λ l v gs w d. expands _ (end_branches c 0 refl) (takes (mark_word k.End) refl d);
  stops = λ l i r gs w f s d. more_branches_stop l c r.0 r.1 gs rest w a b s d;
  excused = tt;
}

branches_lengthen : (l : Limits) (c : Context) (ys : List Branch) (d : ℕ) (gs : List Goal) (t : Word) (w : List Word) → IsTrue (body_longer t.kind) → Spells l (Of (MoreBranches c ys d) ∷ gs) (t ∷ w) → ⊥
branches_lengthen l c _ d gs t w h (expands _ (more_branches c_0 a da rest_0 dr d_0 q0) (takes u kk z)) = let b : body_longer t.kind ≡ false = ap body_longer kk in cc
branches_lengthen l c _ d gs t w h (expands _ (end_branches c_0 d_0 q0) (takes u kk z)) = let b : body_longer t.kind ≡ false = ap body_longer kk in cc

pub behind_branch : (c : Context) → Behind {X = Branch × ℕ} {Y = List Branch × ℕ} body_longer closed (λ p. more_branches_in c)
behind_branch c = record { behind = λ l p q gs f t w h d. branches_lengthen l c q.0 q.1 gs t w h d }

pub branches_spelled : {most : Limits} (c : Context) → Spelled most {X = Branch × ℕ} {Y = List Branch × ℕ} (λ p. more_branches_in c) (mark_word k.End ∷ [])
branches_spelled c = record { tree = λ p. ([], 0); spelled = λ l v p gs w d. expands _ (end_branches c 0 refl) (takes (mark_word k.End) refl d) }

abbrev pub parts_of_branch : Context → Placed (List (List Expr)) × (List Item × ℕ) → List Goal
parts_of_branch c p = tests_in (in_mode InGuard c) p.0 ++ body_in c p.1

abbrev pub as_branch : Placed (List (List Expr)) × (List Item × ℕ) → Branch × ℕ
as_branch p = (roll-Branch (record { at = p.0.at; guard = record { alternatives = p.0.tree }; body = p.1.0 }), max p.0.height p.1.1)

branch_forth : (l : Limits) (c : Context) (b : Branch) (d : ℕ) (gs : List Goal) (w : List Word) → Spells l (Of (ABranch c b d) ∷ gs) w →
    (p : Placed (List (List Expr)) × (List Item × ℕ)) × (b ≡ (as_branch p).0) × (d ≡ (as_branch p).1) × Spells l (parts_of_branch c p ++ gs) w
branch_forth l c b d gs w (expands _ (branch c_0 b_0 d_0 at ts dt is di q0 q1) z) = ((record { at = at; tree = ts; height = dt }, (is, di)), q0, q1, z)

pub on_branch : {most : Limits} (c : Context) (rest : List Word) → Passes most {X = Branch × ℕ} {Y = Placed (List (List Expr)) × (List Item × ℕ)} body_longer (branch_in c) rest (parts_of_branch c) rest as_branch
on_branch c rest = record {
  front = [];
  whole = refl;
  back = λ l v p gs w d. expands _ (branch c _ _ _ _ _ _ _ refl refl) d;
  forth = λ l r gs w f s d. let m = branch_forth l c r.0 r.1 gs w d in (m.0, same_pair m.1 m.2, m.3);
}
