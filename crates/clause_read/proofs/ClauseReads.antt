-- The returns of the readers of clauses and of functions.
use Rattle.std.proofs.Common.{◌≡◌, ℕ, suc, ◌+◌, ◌<◌, get_or, List, [], ◌∷◌, ◌++◌, length, drop, Ok, Err, sym, ap, subst, ◌∙◌, arith, append_assoc, append-nil}
use Rattle.std.proofs.Math.Seq.{drop-cons}
use Rattle.erl_syntax.specs.declared.span.Span.{Span}
use Rattle.erl_syntax.specs.declared.token.TokenKind.TheVariants as k
use Rattle.erl_syntax.specs.declared.pattern.Pattern.{Pattern}
use Rattle.erl_syntax.specs.declared.clause.Guard.{Guard}
use Rattle.erl_syntax.specs.declared.clause.Item.{Item}
use Rattle.erl_syntax.specs.declared.module.Function.{Function}
use Rattle.erl_syntax.specs.declared.module.Clause.{Clause}
use Rattle.erl_syntax.specs.Word.{Word}
use Rattle.pattern_read.specs.declared.fault.Fault.{Fault}
use Rattle.pattern_read.specs.declared.fault.Fault.TheVariants.{Memory, Refused}
use Rattle.pattern_read.specs.declared.fault.Cause.TheVariants.{Syntax}
use Rattle.clause_read.specs.declared.forms.ModuleForms.{ModuleForms}
use Rattle.pattern_read.specs.declared.cursor.Numbered.{Numbered}
use Rattle.pattern_read.specs.Reading.{Passes, IsRefused, closed, Gives}
use Rattle.pattern_read.specs.Cursor.{StandsAt, number_of}
use Rattle.pattern_read.specs.Wanted.{IsAt, NoMark}
use Rattle.body_read.specs.WantedExprs.{body_longer, guarded_in, body_in}
use Rattle.pattern_read.specs.WantedPatterns.{patterns_in}
use Rattle.clause_read.specs.WantedForms.{anything, forms_in, clause_in, with_function, Adds}
use Rattle.pattern_read.proofs.Passing.{and_then, refused_after, fault_after, same_kinds, behind_closed, at_token, remade}
use Rattle.pattern_read.proofs.Operands.{some_word}
use Rattle.clause_read.proofs.FormSteps.{then_mark, then_no_mark, then_part, then_fault}
use Rattle.clause_read.proofs.FormReads.{passes_at}
use Rattle.clause_read.proofs.FunctionLaws.{in_head, in_clause, guard_and_body, clause_rest, clause_left, clause_at, on_clause, opens_rest, guard_spelled, body_spelled, no_clause, clauses_left, function_left, with_clauses, on_function, on_more_clauses, on_end_clauses, no_more_clauses, clauses_spelled, behind_clause, other_begins}
use Rattle.pattern_read.specs.Cursor.{Readable}

-- ---- A clause

clause_0 : (ws : Readable) (at : ℕ) (s : IsAt ws at k.Atom) → Passes ws.limits body_longer clause_in (drop at ws.words) clause_left (drop (at + 1) ws.words) (clause_at s.word)
clause_0 ws at s = at_token s.is (on_clause s.word (drop (at + 1) ws.words) s.kind_is)

pub clause_no_open : (ws : Readable) (at : ℕ) → IsAt ws at k.Atom → NoMark k.LeftParen (drop (at + 1) ws.words) → IsRefused ws.limits body_longer clause_in (drop at ws.words) (drop (at + 1) ws.words) Syntax
clause_no_open ws at s n = then_no_mark clause_rest ws at (at + 1) k.LeftParen (clause_0 ws at s) opens_rest n

pub clause_1 : (ws : Readable) (at : ℕ) (s : IsAt ws at k.Atom) → IsAt ws (at + 1) k.LeftParen → Passes ws.limits body_longer clause_in (drop at ws.words) clause_rest (drop (at + 2) ws.words) (clause_at s.word)
clause_1 ws at s p = passes_at ws at (at + 1 + 1) (at + 2) (omega arith) (then_mark clause_rest ws at (at + 1) k.LeftParen (clause_0 ws at s) p)

pub clause_patterns_fault : (ws : Readable) (at : ℕ) (fault : Fault) → IsAt ws at k.Atom → IsAt ws (at + 1) k.LeftParen → Gives closed (patterns_in k.RightParen in_head) ws (at + 2) (Err fault) → Gives body_longer clause_in ws at (Err fault)
clause_patterns_fault ws at fault s p g = then_fault (patterns_in k.RightParen in_head) (λ q. guard_and_body) ws at (at + 2) fault (behind_closed body_longer (λ q. guard_and_body)) guard_spelled (clause_1 ws at s p) g

clause_2 : (ws : Readable) (at after : ℕ) (ps : List Pattern × ℕ) (s : IsAt ws at k.Atom) → IsAt ws (at + 1) k.LeftParen → Gives closed (patterns_in k.RightParen in_head) ws (at + 2) (Ok (ps, after)) →
    Passes ws.limits body_longer clause_in (drop at ws.words) guard_and_body (drop after ws.words) (λ q. clause_at s.word (ps, q))
clause_2 ws at after ps s p g = then_part (patterns_in k.RightParen in_head) (λ q. guard_and_body) ws at (at + 2) after ps (behind_closed body_longer (λ q. guard_and_body)) (clause_1 ws at s p) g

pub clause_guard_fault : (ws : Readable) (at after : ℕ) (ps : List Pattern × ℕ) (fault : Fault) → IsAt ws at k.Atom → IsAt ws (at + 1) k.LeftParen → Gives closed (patterns_in k.RightParen in_head) ws (at + 2) (Ok (ps, after)) →
    Gives closed (guarded_in in_clause) ws after (Err fault) → Gives body_longer clause_in ws at (Err fault)
clause_guard_fault ws at after ps fault s p g h = then_fault (guarded_in in_clause) (λ q. body_in in_clause) ws at after fault (behind_closed body_longer (λ q. body_in in_clause)) body_spelled (clause_2 ws at after ps s p g) h

clause_3 : (ws : Readable) (at after next : ℕ) (ps : List Pattern × ℕ) (gd : Guard × ℕ) (s : IsAt ws at k.Atom) → IsAt ws (at + 1) k.LeftParen → Gives closed (patterns_in k.RightParen in_head) ws (at + 2) (Ok (ps, after)) →
    Gives closed (guarded_in in_clause) ws after (Ok (gd, next)) → Passes ws.limits body_longer clause_in (drop at ws.words) (body_in in_clause) (drop next ws.words) (λ is. clause_at s.word (ps, (gd, is)))
clause_3 ws at after next ps gd s p g h = then_part (guarded_in in_clause) (λ q. body_in in_clause) ws at after next gd (behind_closed body_longer (λ q. body_in in_clause)) (clause_2 ws at after ps s p g) h

pub clause_body_fault : (ws : Readable) (at after next : ℕ) (ps : List Pattern × ℕ) (gd : Guard × ℕ) (fault : Fault) → IsAt ws at k.Atom → IsAt ws (at + 1) k.LeftParen → Gives closed (patterns_in k.RightParen in_head) ws (at + 2) (Ok (ps, after)) →
    Gives closed (guarded_in in_clause) ws after (Ok (gd, next)) → Gives body_longer (body_in in_clause) ws next (Err fault) → Gives body_longer clause_in ws at (Err fault)
clause_body_fault ws at after next ps gd fault s p g h b = fault_after ws at next fault (same_kinds body_longer) (clause_3 ws at after next ps gd s p g h) b

pub clause_whole : (ws : Readable) (at after next end : ℕ) (n : Numbered) (ps : List Pattern × ℕ) (gd : Guard × ℕ) (is : List Item × ℕ) (cl : Clause) → StandsAt ws at n → n.token.kind ≡ k.Atom → IsAt ws (at + 1) k.LeftParen →
    Gives closed (patterns_in k.RightParen in_head) ws (at + 2) (Ok (ps, after)) → Gives closed (guarded_in in_clause) ws after (Ok (gd, next)) → Gives body_longer (body_in in_clause) ws next (Ok (is, end)) →
    cl ≡ record { at = n.token.span; name = n.number; patterns = ps.0; guard = gd.0; body = is.0 } → Gives body_longer clause_in ws at (Ok (cl, end))
clause_whole ws at after next end n ps gd is cl s a p g h b e =
    let t : IsAt ws at k.Atom = record { word = s.word; is = s.is; kind_is = s.kind ∙ a } in
    let num : s.word.number ≡ n.number = s.number ∙ ap (number_of n) a in
    let f : Span → ℕ → Clause = λ v w. record { at = v; name = w; patterns = ps.0; guard = gd.0; body = is.0 } in
    let made : clause_at s.word (ps, (gd, is)) ≡ cl = ap (λ v. f v s.word.number) s.place ∙ ap (λ w. f n.token.span w) num ∙ sym e in
    remade (λ u. made) (and_then (same_kinds body_longer) (clause_3 ws at after next ps gd t p g h) b)

-- ---- A function

-- some clauses of a function have been read, and what is behind them has to stand at the place
abbrev pub ClausesRead : Readable → ℕ → ℕ → ℕ → ℕ → List Clause → Type 0
ClausesRead ws at next name arity cls = Passes ws.limits anything forms_in (drop at ws.words) clauses_left (drop next ws.words) (λ q. with_function (record { name = name; arity = arity; clauses = cls ++ q.0 }) q.1)

adds_fault : {X : Type 0} (add : X → ModuleForms → ModuleForms) (ws : Readable) (at : ℕ) (fault : Fault) → Gives anything forms_in ws at (Err fault) → Adds add ws at (Err fault)
adds_fault add ws at Memory g = tt
adds_fault add ws at (Refused n why) g = g

function_0 : (ws : Readable) (at : ℕ) → at < length ws.words → NoMark k.Minus (drop at ws.words) → Passes ws.limits anything forms_in (drop at ws.words) function_left (drop at ws.words) with_clauses
function_0 ws at h n =
    let m = other_begins (drop at ws.words) (drop (suc at) ws.words) (get_or ws.words at some_word) (drop-cons ws.words at some_word h) n in
    let P : List Word → Type 0 = λ w. Passes ws.limits anything forms_in w function_left w with_clauses in
    subst P (sym m.2) (on_function m.0 (drop (suc at) ws.words) m.1)

pub function_fault : (ws : Readable) (at : ℕ) (fault : Fault) → at < length ws.words → NoMark k.Minus (drop at ws.words) → Gives body_longer clause_in ws at (Err fault) → Adds with_function ws at (Err fault)
function_fault ws at fault h n g = adds_fault with_function ws at fault (then_fault clause_in (λ cl. clauses_left) ws at at fault behind_clause clauses_spelled (function_0 ws at h n) g)

pub function_begun : (ws : Readable) (at after name arity : ℕ) (cl : Clause) (cls none : List Clause) → at < length ws.words → NoMark k.Minus (drop at ws.words) → Gives body_longer clause_in ws at (Ok (cl, after)) →
    name ≡ cl.name → arity ≡ length cl.patterns → none ≡ [] → cls ≡ none ++ cl ∷ [] → ClausesRead ws at after name arity cls
function_begun ws at after name arity cl cls none h n g a b z d =
    let f : ℕ → ℕ → List Clause → List Clause × ModuleForms → ModuleForms = λ u v w q. with_function (record { name = u; arity = v; clauses = w ++ q.0 }) q.1 in
    let e : cls ≡ cl ∷ [] = d ∙ ap (λ v. v ++ cl ∷ []) z in
    remade (λ q. ap (λ u. f u (length cl.patterns) (cl ∷ []) q) (sym a) ∙ ap (λ v. f name v (cl ∷ []) q) (sym b) ∙ ap (λ w. f name arity w q) (sym e))
    (then_part clause_in (λ c. clauses_left) ws at at after cl behind_clause (function_0 ws at h n) g)

clauses_next : (ws : Readable) (at next name arity : ℕ) (cls : List Clause) → ClausesRead ws at next name arity cls → IsAt ws next k.Semicolon →
    Passes ws.limits anything forms_in (drop at ws.words) function_left (drop (next + 1) ws.words) (λ p. with_function (record { name = name; arity = arity; clauses = cls ++ (p.0 ∷ p.1.0) }) p.1.1)
clauses_next ws at next name arity cls r s = and_then (same_kinds anything) r (at_token s.is (on_more_clauses s.word (drop (next + 1) ws.words) s.kind_is))

pub clauses_fault : (ws : Readable) (at next name arity : ℕ) (cls : List Clause) (fault : Fault) → ClausesRead ws at next name arity cls → IsAt ws next k.Semicolon → Gives body_longer clause_in ws (next + 1) (Err fault) → Adds with_function ws at (Err fault)
clauses_fault ws at next name arity cls fault r s g = adds_fault with_function ws at fault (then_fault clause_in (λ cl. clauses_left) ws at (next + 1) fault behind_clause clauses_spelled (clauses_next ws at next name arity cls r s) g)

pub clauses_more : (ws : Readable) (at next after name arity : ℕ) (cls all : List Clause) (cl : Clause) → ClausesRead ws at next name arity cls → IsAt ws next k.Semicolon → Gives body_longer clause_in ws (next + 1) (Ok (cl, after)) →
    all ≡ cls ++ cl ∷ [] → ClausesRead ws at after name arity all
clauses_more ws at next after name arity cls all cl r s g e =
    let f : List Clause × ModuleForms → List Clause → ModuleForms = λ q v. with_function (record { name = name; arity = arity; clauses = v }) q.1 in
    remade (λ q. ap (f q) (sym (append_assoc cls (cl ∷ []) q.0) ∙ ap (λ v. v ++ q.0) (sym e))) (then_part clause_in (λ c. clauses_left) ws at (next + 1) after cl behind_clause (clauses_next ws at next name arity cls r s) g)

pub clauses_other : (ws : Readable) (at next name arity : ℕ) (cls : List Clause) → ClausesRead ws at next name arity cls → NoMark k.Semicolon (drop next ws.words) → NoMark k.FullStop (drop next ws.words) →
    IsRefused ws.limits anything forms_in (drop at ws.words) (drop next ws.words) Syntax
clauses_other ws at next name arity cls r a b = refused_after (same_kinds anything) r (no_more_clauses (drop next ws.words) a b)

pub function_whole : (ws : Readable) (at next name arity : ℕ) (cls : List Clause) (fn : Function) → ClausesRead ws at next name arity cls → IsAt ws next k.FullStop → fn ≡ record { name = name; arity = arity; clauses = cls } →
    Adds with_function ws at (Ok (fn, next + 1))
function_whole ws at next name arity cls fn r s e =
    let f : List Clause → Function = λ v. record { name = name; arity = arity; clauses = v } in
    remade (λ q. ap (λ v. with_function v q) (ap f (append-nil cls) ∙ sym e)) (and_then (same_kinds anything) r (at_token s.is (on_end_clauses s.word (drop (next + 1) ws.words) s.kind_is)))

pub no_clause_at : (ws : Readable) (at : ℕ) → NoMark k.Atom (drop at ws.words) → IsRefused ws.limits body_longer clause_in (drop at ws.words) (drop at ws.words) Syntax
no_clause_at ws at n = no_clause (drop at ws.words) n
