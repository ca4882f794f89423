-- The laws of clauses and of functions.
use Rattle.std.proofs.Common.{◌≡◌, ℕ, false, IsTrue, List, [], ◌∷◌, ◌++◌, length, refl, sym, ap, ◌∙◌}
use Rattle.erl_syntax.specs.declared.token.TokenKind.TheVariants as k
use Rattle.erl_syntax.specs.declared.expr.Expr.TheVariants as x
use Rattle.erl_syntax.specs.declared.pattern.Pattern.{Pattern}
use Rattle.erl_syntax.specs.declared.clause.Guard.{Guard}
use Rattle.erl_syntax.specs.declared.clause.Item.{Item}
use Rattle.erl_syntax.specs.declared.module.Head.{Head}
use Rattle.erl_syntax.specs.declared.module.Name.{Name}
use Rattle.erl_syntax.specs.declared.module.Function.{Function}
use Rattle.erl_syntax.specs.declared.module.Clause.{Clause}
use Rattle.erl_syntax.specs.Word.{Word}
use Rattle.erl_syntax.specs.Grammar.{Context, InBody, InSize, whole as whole_tree, Limits, Goal, Of, Forms, MoreClauses, AClause, MoreItems, no_forms, head, export, skipped, any_form, function, more_clauses, end_clauses, clause, no_patterns, unguarded, body, item_value, end_items, Spells, takes, begins, this, expands}
use Rattle.clause_read.specs.declared.forms.ModuleForms.{ModuleForms}
use Rattle.pattern_read.specs.declared.fault.Cause.TheVariants.{Syntax}
use Rattle.pattern_read.specs.Reading.{Passes, IsRefused, Follows, SameHead}
use Rattle.pattern_read.specs.Wanted.{NoMark, no_mark_end, no_mark}
use Rattle.body_read.specs.WantedExprs.{body_longer, guarded_in, body_in}
use Rattle.pattern_read.specs.WantedPatterns.{patterns_in}
use Rattle.clause_read.specs.WantedForms.{anything, forms_in, clause_in, with_function}
use Rattle.pattern_read.proofs.Passing.{Behind, Spelled}
use Rattle.pattern_read.proofs.Operands.{mark_word, some_word, some_place, level_completed}
use Rattle.clause_read.proofs.FormSteps.{Opens, marked}
use Rattle.clause_read.proofs.FormLaws.{no_more_forms, forms_end}

abbrev pub in_head : Context
in_head = whole_tree InSize 1

abbrev pub in_clause : Context
in_clause = whole_tree InBody 0

-- ---- A clause

abbrev pub guard_and_body : (Guard × ℕ) × (List Item × ℕ) → List Goal
guard_and_body q = guarded_in in_clause q.0 ++ body_in in_clause q.1

abbrev pub clause_rest : (List Pattern × ℕ) × ((Guard × ℕ) × (List Item × ℕ)) → List Goal
clause_rest p = patterns_in k.RightParen in_head p.0 ++ guard_and_body p.1

abbrev pub clause_left : (List Pattern × ℕ) × ((Guard × ℕ) × (List Item × ℕ)) → List Goal
clause_left = marked k.LeftParen clause_rest

abbrev pub clause_at : Word → (List Pattern × ℕ) × ((Guard × ℕ) × (List Item × ℕ)) → Clause
clause_at j p = record { at = j.at; name = j.number; patterns = p.0.0; guard = p.1.0.0; body = p.1.1.0 }

clause_forth : (l : Limits) (cl : Clause) (gs : List Goal) (j : Word) (w : List Word) → Spells l (Of (AClause cl) ∷ gs) (j ∷ w) →
    (p : (List Pattern × ℕ) × ((Guard × ℕ) × (List Item × ℕ))) × (cl ≡ clause_at j p) × Spells l (clause_left p ++ gs) w
clause_forth l cl gs j w (expands _ (clause cl_0 t_0 ps dp g dg is di q0 q1) (this z)) = (((ps, dp), ((g, dg), (is, di))), q1, z)

pub on_clause : {most : Limits} (j : Word) (rest : List Word) → j.kind ≡ k.Atom → Passes most {X = Clause} {Y = (List Pattern × ℕ) × ((Guard × ℕ) × (List Item × ℕ))} body_longer clause_in (j ∷ rest) clause_left rest (clause_at j)
on_clause j rest h = record {
  front = j ∷ [];
  whole = refl;
  back = λ l v p gs w d. expands _ (clause (clause_at j p) j p.0.0 p.0.1 p.1.0.0 p.1.0.1 p.1.1.0 p.1.1.1 h refl) (this d);
  forth = λ l cl gs w f s d. clause_forth l cl gs j w d;
}

-- `() -> V`, of words that have no place
abbrev some_body : List Item
some_body = record { patterns = []; value = x.Var some_place [] } ∷ []

abbrev no_guard : Guard
no_guard = record { alternatives = [] }

abbrev some_rest : (List Pattern × ℕ) × ((Guard × ℕ) × (List Item × ℕ))
some_rest = (([], 0), ((no_guard, 0), (some_body, 1)))

body_end : (l : Limits) (gs : List Goal) (w : List Word) → Spells l gs w → Spells l (body_in in_clause (some_body, 1) ++ gs) (some_word ∷ w)
body_end l gs w d = expands _ (body in_clause (record { patterns = []; value = x.Var some_place [] }) 1 [] 0 1 refl)
    (expands _ (item_value in_clause (record { patterns = []; value = x.Var some_place [] }) 1 some_place (x.Var some_place []) refl)
    (level_completed 0 l in_clause (Of (MoreItems in_clause [] 0) ∷ gs) w (expands _ (end_items in_clause 0 refl) d)))

guard_end : (l : Limits) (gs : List Goal) (w : List Word) → Spells l gs w → Spells l (guard_and_body ((no_guard, 0), (some_body, 1)) ++ gs) (mark_word k.Arrow ∷ (some_word ∷ w))
guard_end l gs w d = expands _ (unguarded in_clause no_guard 0 refl refl) (takes (mark_word k.Arrow) refl (body_end l gs w d))

rest_end : (l : Limits) (gs : List Goal) (w : List Word) → Spells l gs w → Spells l (clause_rest some_rest ++ gs) (mark_word k.RightParen ∷ (mark_word k.Arrow ∷ (some_word ∷ w)))
rest_end l gs w d = expands _ (no_patterns k.RightParen in_head 0 refl) (takes (mark_word k.RightParen) refl (guard_end l gs w d))

pub opens_rest : {most : Limits} → Opens most clause_rest
opens_rest = record { tree = some_rest; words = mark_word k.RightParen ∷ mark_word k.Arrow ∷ some_word ∷ []; spelled = λ l v gs w d. rest_end l gs w d }

pub guard_spelled : {most : Limits} → Spelled most {X = List Pattern × ℕ} {Y = (Guard × ℕ) × (List Item × ℕ)} (λ p. guard_and_body) (mark_word k.Arrow ∷ some_word ∷ [])
guard_spelled = record { tree = λ p. ((no_guard, 0), (some_body, 1)); spelled = λ l v p gs w d. guard_end l gs w d }

pub body_spelled : {most : Limits} → Spelled most {X = Guard × ℕ} {Y = List Item × ℕ} (λ g. body_in in_clause) (some_word ∷ [])
body_spelled = record { tree = λ g. (some_body, 1); spelled = λ l v g gs w d. body_end l gs w d }

clause_stops : (l : Limits) (cl : Clause) (gs : List Goal) (rest w : List Word) → NoMark k.Atom rest → SameHead w rest → Spells l (Of (AClause cl) ∷ gs) w → ⊥
clause_stops l cl gs _ w no_mark_end s (expands _ (clause cl_0 t_0 ps dp g dg is di q0 q1) (this z)) = s
clause_stops l cl gs _ w (no_mark j rest n) s (expands _ (clause cl_0 t_0 ps dp g dg is di q0 q1) (this z)) = n (ap (λ v. v.kind) (sym s) ∙ q0)

clause_end : (l : Limits) (gs : List Goal) (w : List Word) → Spells l gs w → Spells l (clause_in (clause_at (mark_word k.Atom) some_rest) ++ gs) (mark_word k.Atom ∷ (mark_word k.LeftParen ∷ (mark_word k.RightParen ∷ (mark_word k.Arrow ∷ (some_word ∷ w)))))
clause_end l gs w d = expands _ (clause (clause_at (mark_word k.Atom) some_rest) (mark_word k.Atom) [] 0 no_guard 0 some_body 1 refl refl) (this (takes (mark_word k.LeftParen) refl (rest_end l gs w d)))

pub no_clause : {most : Limits} (rest : List Word) → NoMark k.Atom rest → IsRefused most {X = Clause} body_longer clause_in rest rest Syntax
no_clause rest n = record {
  front = [];
  whole = refl;
  tree = clause_at (mark_word k.Atom) some_rest;
  more = mark_word k.Atom ∷ mark_word k.LeftParen ∷ mark_word k.RightParen ∷ mark_word k.Arrow ∷ some_word ∷ [];
  goes_on = λ l v gs w d. clause_end l gs w d;
  stops = λ l i cl gs w f s d. clause_stops l cl gs rest w n s d;
  excused = tt;
}

-- ---- A function

-- more clauses of a function, and the forms behind it
abbrev pub clauses_left : List Clause × ModuleForms → List Goal
clauses_left q = Of (MoreClauses q.0) ∷ forms_in q.1

abbrev pub function_left : Clause × (List Clause × ModuleForms) → List Goal
function_left p = clause_in p.0 ++ clauses_left p.1

abbrev pub function_of : Clause → List Clause → Function
function_of cl cls = record { name = cl.name; arity = length cl.patterns; clauses = cl ∷ cls }

abbrev pub with_clauses : Clause × (List Clause × ModuleForms) → ModuleForms
with_clauses p = with_function (function_of p.0 p.1.0) p.1.1

-- no form of an attribute begins here, and not the end of the forms
data BeginsOther : List Word → Type 0 where
  begins_other : (j : Word) (rest : List Word) → (j.kind ≡ k.Minus → ⊥) → BeginsOther (j ∷ rest)

pub other_begins : (ws : List Word) (rest : List Word) (j : Word) → ws ≡ j ∷ rest → NoMark k.Minus ws → (n : Word) × (n.kind ≡ k.Minus → ⊥) × (ws ≡ n ∷ rest)
other_begins _ rest j e no_mark_end = cc
other_begins _ rest j e (no_mark i more n) = (i, n, (let f : more ≡ rest = cc in ap (λ v. i ∷ v) f))

function_made : (hs : List Head) (es : List Name) (fn : Function) (fs : List Function) (cl : Clause) (cls : List Clause) → fn ≡ function_of cl cls →
    (let P : ModuleForms = record { heads = hs; exports = es; functions = fn ∷ fs } in P) ≡ with_clauses (cl, (cls, record { heads = hs; exports = es; functions = fs }))
function_made hs es fn fs cl cls e = let f : Function → ModuleForms = λ v. record { heads = hs; exports = es; functions = v ∷ fs } in ap f e

function_forth : (l : Limits) (hs : List Head) (es : List Name) (fs : List Function) (gs : List Goal) (j : Word) (w : List Word) → Follows l anything gs → (j.kind ≡ k.Minus → ⊥) →
    Spells l (Of (Forms hs es fs) ∷ gs) (j ∷ w) → (p : Clause × (List Clause × ModuleForms)) × ((let P : ModuleForms = record { heads = hs; exports = es; functions = fs } in P) ≡ with_clauses p) × Spells l (function_left p ++ gs) (j ∷ w)
function_forth l _ _ _ gs j w f h (expands _ no_forms z) = absurd (f j w refl z)
function_forth l _ es fs gs j w f h (expands _ (head hd hs es_0 fs_0 at t_0 n q0 q1 q2 q3) (begins j_0 kk ka z)) = absurd (h kk)
function_forth l hs es fs gs j w f h (expands _ (export hs_0 es_0 ns more fs_0 t_0 q0 q1 q2) (takes j_0 kk z)) = absurd (h kk)
function_forth l hs es fs gs j w f h (expands _ (skipped hs_0 es_0 fs_0 t_0 q0 q1) (takes j_0 kk z)) = absurd (h kk)
function_forth l hs es fs gs j w f h (expands _ (any_form hs_0 es_0 fs_0 t_0 q0 q1 q2) (takes j_0 kk z)) = absurd (h kk)
function_forth l hs es _ gs j w f h (expands _ (function hs_0 es_0 fn fs cl cls q0) z) = ((cl, (cls, record { heads = hs; exports = es; functions = fs })), function_made hs es fn fs cl cls q0, z)

function_word : (l : Limits) (r : ModuleForms) (gs : List Goal) (j : Word) (rest w : List Word) → Follows l anything gs → (j.kind ≡ k.Minus → ⊥) → SameHead w (j ∷ rest) →
    Spells l (forms_in r ++ gs) w → (p : Clause × (List Clause × ModuleForms)) × (r ≡ with_clauses p) × Spells l (function_left p ++ gs) w
function_word l r gs j rest [] f h s d = absurd s
function_word l r gs j rest (t ∷ w) f h s d = function_forth l r.heads r.exports r.functions gs t w f (λ e. h (ap (λ v. v.kind) (sym s) ∙ e)) d

pub on_function : {most : Limits} (j : Word) (rest : List Word) → (j.kind ≡ k.Minus → ⊥) → Passes most {X = ModuleForms} {Y = Clause × (List Clause × ModuleForms)} anything forms_in (j ∷ rest) function_left (j ∷ rest) with_clauses
on_function j rest h = record {
  front = [];
  whole = refl;
  back = λ l v p gs w d. expands _ (function p.1.1.heads p.1.1.exports (function_of p.0 p.1.0) p.1.1.functions p.0 p.1.0 refl) d;
  forth = λ l r gs w f s d. function_word l r gs j rest w f h s d;
}

abbrev pub with_clause : Clause × (List Clause × ModuleForms) → List Clause × ModuleForms
with_clause p = (p.0 ∷ p.1.0, p.1.1)

semicolon_no_stop : k.Semicolon ≡ k.FullStop → ⊥
semicolon_no_stop e = cc

more_forth : (l : Limits) (cls : List Clause) (r : ModuleForms) (gs : List Goal) (j : Word) (w : List Word) → j.kind ≡ k.Semicolon → Spells l (clauses_left (cls, r) ++ gs) (j ∷ w) →
    (p : Clause × (List Clause × ModuleForms)) × ((let P : List Clause × ModuleForms = (cls, r) in P) ≡ with_clause p) × Spells l (function_left p ++ gs) w
more_forth l _ r gs j w h (expands _ (more_clauses cl cls) (takes t kk z)) = ((cl, (cls, r)), refl, z)
more_forth l _ r gs j w h (expands _ end_clauses (takes t kk z)) = absurd (semicolon_no_stop (sym h ∙ kk))

pub on_more_clauses : {most : Limits} (j : Word) (rest : List Word) → j.kind ≡ k.Semicolon → Passes most {X = List Clause × ModuleForms} {Y = Clause × (List Clause × ModuleForms)} anything clauses_left (j ∷ rest) function_left rest with_clause
on_more_clauses j rest h = record {
  front = j ∷ [];
  whole = refl;
  back = λ l v p gs w d. expands _ (more_clauses p.0 p.1.0) (takes j h d);
  forth = λ l q gs w f s d. more_forth l q.0 q.1 gs j w h d;
}

end_forth : (l : Limits) (cls : List Clause) (r : ModuleForms) (gs : List Goal) (j : Word) (w : List Word) → j.kind ≡ k.FullStop → Spells l (clauses_left (cls, r) ++ gs) (j ∷ w) →
    (u : ModuleForms) × ((let P : List Clause × ModuleForms = (cls, r) in P) ≡ ([], u)) × Spells l (forms_in u ++ gs) w
end_forth l _ r gs j w h (expands _ (more_clauses cl cls) (takes t kk z)) = absurd (semicolon_no_stop (sym kk ∙ h))
end_forth l _ r gs j w h (expands _ end_clauses (takes t kk z)) = (r, refl, z)

pub on_end_clauses : {most : Limits} (j : Word) (rest : List Word) → j.kind ≡ k.FullStop → Passes most {X = List Clause × ModuleForms} {Y = ModuleForms} anything clauses_left (j ∷ rest) forms_in rest (λ r. ([], r))
on_end_clauses j rest h = record {
  front = j ∷ [];
  whole = refl;
  back = λ l v r gs w d. expands _ end_clauses (takes j h d);
  forth = λ l q gs w f s d. end_forth l q.0 q.1 gs j w h d;
}

more_stops : (l : Limits) (cls : List Clause) (r : ModuleForms) (gs : List Goal) (rest w : List Word) → NoMark k.Semicolon rest → NoMark k.FullStop rest → SameHead w rest → Spells l (clauses_left (cls, r) ++ gs) w → ⊥
more_stops l _ r gs _ w no_mark_end b s (expands _ (more_clauses cl cls) (takes t kk z)) = s
more_stops l _ r gs _ w (no_mark j rest n) b s (expands _ (more_clauses cl cls) (takes t kk z)) = n (ap (λ v. v.kind) (sym s) ∙ kk)
more_stops l _ r gs _ w c no_mark_end s (expands _ end_clauses (takes t kk z)) = s
more_stops l _ r gs _ w c (no_mark j rest n) s (expands _ end_clauses (takes t kk z)) = n (ap (λ v. v.kind) (sym s) ∙ kk)

clauses_end : (l : Limits) (gs : List Goal) (w : List Word) → Spells l gs w → Spells l (clauses_left ([], no_more_forms) ++ gs) (mark_word k.FullStop ∷ w)
clauses_end l gs w d = expands _ end_clauses (takes (mark_word k.FullStop) refl (forms_end l gs w d))

pub no_more_clauses : {most : Limits} (rest : List Word) → NoMark k.Semicolon rest → NoMark k.FullStop rest → IsRefused most {X = List Clause × ModuleForms} anything clauses_left rest rest Syntax
no_more_clauses rest a b = record {
  front = [];
  whole = refl;
  tree = ([], no_more_forms);
  more = mark_word k.FullStop ∷ [];
  goes_on = λ l v gs w d. clauses_end l gs w d;
  stops = λ l i q gs w f s d. more_stops l q.0 q.1 gs rest w a b s d;
  excused = tt;
}

pub clauses_spelled : {most : Limits} → Spelled most {X = Clause} {Y = List Clause × ModuleForms} (λ cl. clauses_left) (mark_word k.FullStop ∷ [])
clauses_spelled = record { tree = λ cl. ([], no_more_forms); spelled = λ l v cl gs w d. clauses_end l gs w d }

lengthens : (l : Limits) (cls : List Clause) (r : ModuleForms) (gs : List Goal) (t : Word) (w : List Word) → IsTrue (body_longer t.kind) → Spells l (clauses_left (cls, r) ++ gs) (t ∷ w) → ⊥
lengthens l _ r gs t w h (expands _ (more_clauses cl cls) (takes u kk z)) = let a : body_longer t.kind ≡ false = ap body_longer kk in cc
lengthens l _ r gs t w h (expands _ end_clauses (takes u kk z)) = let a : body_longer t.kind ≡ false = ap body_longer kk in cc

pub behind_clause : Behind {X = Clause} {Y = List Clause × ModuleForms} body_longer anything (λ cl. clauses_left)
behind_clause = record { behind = λ l cl q gs f t w h d. lengthens l q.0 q.1 gs t w h d }
