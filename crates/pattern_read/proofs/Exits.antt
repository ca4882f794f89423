-- What each exit of the readers of sizes says.
use Rattle.std.proofs.Common.{◌≡◌, ◌≢◌, ℕ, ℤ, ◌+◌, ◌≤◌, ◌<◌, max, Bool, true, false, List, [], ◌∷◌, ◌++◌, append_assoc, nat_lt, if◌then◌else◌, drop, Option, Some, None, Result, Ok, Err, refl, sym, ap, subst, ◌∙◌, arith, pos, ◌⊎◌, inl, inr}
use Rattle.std.proofs.lemmas.Bool.{cases_lt}
use Rattle.std.proofs.lemmas.Bool.Decides.{nat_tests}
use Rattle.erl_syntax.specs.declared.span.Span.{Span}
use Rattle.erl_syntax.specs.declared.token.TokenKind.{TokenKind}
use Rattle.erl_syntax.specs.declared.token.TokenKind.TheVariants as k
use Rattle.erl_syntax.specs.declared.expr.Expr.{Expr}
use Rattle.erl_syntax.specs.declared.expr.Expr.TheVariants as x
use Rattle.erl_syntax.specs.declared.expr.Op.{Op}
use Rattle.erl_syntax.specs.declared.expr.Op.TheVariants as o
use Rattle.erl_syntax.specs.declared.expr.Prefix.{Prefix}
use Rattle.erl_syntax.specs.Word.{Word}
use Rattle.erl_syntax.specs.Operators.{operator_of, level_of, prefix_of}
use Rattle.erl_syntax.specs.Grammar.{Mode, Context, InBody, InSize, under, inside, right_of, Goal}
use Rattle.pattern_read.specs.Cursor.{StandsAt, number_of}
use Rattle.pattern_read.specs.declared.cursor.Numbered.{Numbered}
use Rattle.pattern_read.specs.declared.placed.Placed.{Placed}
use Rattle.pattern_read.specs.declared.fault.Cause.{Cause}
use Rattle.pattern_read.specs.declared.fault.Cause.TheVariants.{Syntax, TooDeep}
use Rattle.pattern_read.specs.declared.fault.Fault.{Fault}
use Rattle.pattern_read.specs.Reading.{Passes, IsRefused, Gives, closed}
use Rattle.pattern_read.specs.Wanted.{calls, extends, level_in, tail_in, operand_in, after_atom_in, qualified_in, exprs_in, more_exprs_in, mark_in, placed_binary, IsAt, AtomAt, ModuleAt, OperatorAt, NoMark, no_mark, NoModule, NoneInSize, NoneFollows, ended, other, Closes, at_end, at_other, FirstCause, only_deeper, no_size as no_size_there}
use Rattle.pattern_read.proofs.Passing.{Within, same_kinds, closed_within, Behind, and_then, refused_after, first_of_two, at_token, refused_at, remade, fault_after, fault_first}
use Rattle.pattern_read.proofs.Levels.{same_placed, same_pair, tighter, calls_within, on_level, on_operand, behind_level, tail_spelled, on_alone, on_right, on_left, behind_right, right_spelled}
use Rattle.pattern_read.proofs.Operands.{on_variable, on_integer, on_character, on_atom, on_prefix, on_paren, on_macro, no_size, prefix_too_deep, paren_too_deep, macro_refused, behind_mark, mark_spelled}
use Rattle.pattern_read.proofs.Calls.{on_call, call_too_deep, on_no_call, on_unqualified, on_qualified, name_refused, open_refused, remote_too_deep, on_no_exprs, expr_and_more, on_exprs, on_comma, on_end, more_refused, behind_expr, more_spelled}
use Rattle.pattern_read.proofs.Depths.{operator_too_deep, exprs_too_deep, exprs_refused}
use Rattle.pattern_read.specs.Cursor.{Readable}
use Rattle.erl_syntax.specs.Grammar.{Limits}

-- one reader's answer is another's
pub gives_on : {X : Type 0} {outer inner : TokenKind → Bool} {a b : X → List Goal} (ws : Readable) (at next : ℕ) (r : Result (X × ℕ) Fault) → Within inner outer → Passes ws.limits outer a (drop at ws.words) b (drop next ws.words) (λ v. v) → Gives inner b ws next r → Gives outer a ws at r
gives_on ws at next (Ok v) n s g = and_then n s g
gives_on ws at next (Err f) n s g = fault_after ws at next f n s g

-- ---- Levels

pub level_first : (c : Context) (n : ℕ) (ws : Readable) (at : ℕ) (f : Fault) → n < 6 → Gives (extends (n + 1)) (level_in (n + 1) c) ws at (Err f) → Gives (extends n) (level_in n c) ws at (Err f)
level_first c n ws at f h g = fault_after ws at at f (same_kinds (extends n)) (on_level n c (drop at ws.words) h) (fault_first (level_in (n + 1) c) ws at f (behind_level n c) (tail_spelled n c) g)

level_then : (c : Context) (n : ℕ) (ws : Readable) (at after : ℕ) (y : Placed Expr) → n < 6 → Gives (extends (n + 1)) (level_in (n + 1) c) ws at (Ok (y, after)) → Passes ws.limits {X = Placed Expr} {Y = Expr × ℕ} (extends n) (level_in n c) (drop at ws.words) (tail_in n c y) (drop after ws.words) (λ r. record { at = y.at; tree = r.0; height = r.1 })
level_then c n ws at after y h g = and_then (same_kinds (extends n)) (on_level n c (drop at ws.words) h) (first_of_two (behind_level n c) g)

pub level_tail : (c : Context) (n : ℕ) (ws : Readable) (at after : ℕ) (y : Placed Expr) (f : Fault) → n < 6 → Gives (extends (n + 1)) (level_in (n + 1) c) ws at (Ok (y, after)) → Gives (extends n) (tail_in n c y) ws after (Err f) → Gives (extends n) (level_in n c) ws at (Err f)
level_tail c n ws at after y f h g t = fault_after ws at after f (same_kinds (extends n)) (level_then c n ws at after y h g) t

pub level_whole : (c : Context) (n : ℕ) (ws : Readable) (at after next : ℕ) (y : Placed Expr) (e : Expr) (d : ℕ) → n < 6 → Gives (extends (n + 1)) (level_in (n + 1) c) ws at (Ok (y, after)) → Gives (extends n) (tail_in n c y) ws after (Ok ((e, d), next)) → Gives (extends n) (level_in n c) ws at (Ok (record { at = y.at; tree = e; height = d }, next))
level_whole c n ws at after next y e d h g t = and_then (same_kinds (extends n)) (level_then c n ws at after y h g) t

pub level_operand : (c : Context) (n : ℕ) (ws : Readable) (at : ℕ) (r : Result (Placed Expr × ℕ) Fault) → n ≡ 6 → Gives calls (operand_in c) ws at r → Gives (extends n) (level_in n c) ws at r
level_operand c n ws at r h g = gives_on ws at at r (calls_within n) (on_operand n c (drop at ws.words) (omega arith)) g

-- ---- Behind an operand

pub tail_none : (c : Context) (n : ℕ) (ws : Readable) (at : ℕ) (y : Placed Expr) → c.mode ≡ InSize → NoneInSize n (drop at ws.words) → Gives (extends n) (tail_in n c y) ws at (Ok ((y.tree, y.height), at))
tail_none c n ws at y m h = on_alone n c y (drop at ws.words) (h c m)

pub tail_deep : (c : Context) (n : ℕ) (ws : Readable) (at : ℕ) (y : Placed Expr) (op : Op) → OperatorAt ws at n op → ws.limits.trees < c.deep + y.height → IsRefused ws.limits {X = Expr × ℕ} (extends n) (tail_in n c y) (drop at ws.words) (drop at ws.words) TooDeep
tail_deep c n ws at y op s b = refused_at s.is (operator_too_deep n c y s.word (drop (at + 1) ws.words) op s.operator s.level (inr s.other) b)

tail_right : (c : Context) (n : ℕ) (ws : Readable) (at : ℕ) (y : Placed Expr) (op : Op) → OperatorAt ws at n op → n < 4 → c.deep + y.height ≤ ws.limits.trees → Passes ws.limits {X = Expr × ℕ} {Y = Placed Expr} (extends n) (tail_in n c y) (drop at ws.words) (level_in (right_of n) (under c)) (drop (at + 1) ws.words) (λ z. (x.Binary y.at op (y.tree ∷ z.tree ∷ []), max y.height z.height + 1))
tail_right c n ws at y op s h b = at_token s.is (on_right n c y s.word (drop (at + 1) ws.words) op h s.operator s.level (inr s.other) b)

tail_left : (c : Context) (n : ℕ) (ws : Readable) (at : ℕ) (y : Placed Expr) (op : Op) → OperatorAt ws at n op → 4 ≤ n → c.deep + y.height ≤ ws.limits.trees → Passes ws.limits {X = Expr × ℕ} {Y = Placed Expr × (Expr × ℕ)} (extends n) (tail_in n c y) (drop at ws.words) (λ p. level_in (n + 1) (under c) p.0 ++ tail_in n c (placed_binary y op p.0) p.1) (drop (at + 1) ws.words) (λ p. p.1)
tail_left c n ws at y op s h b = at_token s.is (on_left n c y s.word (drop (at + 1) ws.words) op h s.operator s.level b)

pub tail_left_err : (c : Context) (n : ℕ) (ws : Readable) (at : ℕ) (y : Placed Expr) (op : Op) (f : Fault) → OperatorAt ws at n op → 4 ≤ n → c.deep + y.height ≤ ws.limits.trees → Gives (extends (n + 1)) (level_in (n + 1) (under c)) ws (at + 1) (Err f) → Gives (extends n) (tail_in n c y) ws at (Err f)
tail_left_err c n ws at y op f s h b g = fault_after ws at (at + 1) f (same_kinds (extends n)) (tail_left c n ws at y op s h b) (fault_first (level_in (n + 1) (under c)) ws (at + 1) f (behind_right n c y op) (right_spelled n c y op) g)

pub tail_left_then : (c : Context) (n : ℕ) (ws : Readable) (at next : ℕ) (y z : Placed Expr) (op : Op) (r : Result ((Expr × ℕ) × ℕ) Fault) → OperatorAt ws at n op → 4 ≤ n → c.deep + y.height ≤ ws.limits.trees → Gives (extends (n + 1)) (level_in (n + 1) (under c)) ws (at + 1) (Ok (z, next)) → Gives (extends n) (tail_in n c (placed_binary y op z)) ws next r → Gives (extends n) (tail_in n c y) ws at r
tail_left_then c n ws at next y z op r s h b g t = gives_on ws at next r (same_kinds (extends n)) (and_then (same_kinds (extends n)) (tail_left c n ws at y op s h b) (first_of_two (behind_right n c y op) g)) t

level_as : (c : Context) (ws : Readable) (at : ℕ) {m n : ℕ} (r : Result (Placed Expr × ℕ) Fault) → m ≡ n → Gives (extends m) (level_in m c) ws at r → Gives (extends n) (level_in n c) ws at r
level_as c ws at r e g = let P : ℕ → Type 0 = λ v. Gives (extends v) (level_in v c) ws at r in subst P e g

right_low : (n : ℕ) → n ≤ right_of n
right_low n = elim (cases_lt n 3) [ inl h ↦ let a : nat_lt n 3 ≡ true = grind (arith, nat_tests) in let b : right_of n ≡ n = ap (λ v. (if v then n else n + 1)) a in omega (arith, b) | inr h ↦ let a : nat_lt n 3 ≡ false = grind (arith, nat_tests) in let b : right_of n ≡ n + 1 = ap (λ v. (if v then n else n + 1)) a in omega (arith, b) ]

right_high : (n : ℕ) → 4 ≤ n → right_of n ≡ n + 1
right_high n h = let a : nat_lt n 3 ≡ false = grind (arith, nat_tests) in ap (λ v. (if v then n else n + 1)) a

right_err : (c : Context) (n : ℕ) (ws : Readable) (at : ℕ) (y : Placed Expr) (op : Op) (f : Fault) → OperatorAt ws at n op → n < 4 → c.deep + y.height ≤ ws.limits.trees → Gives (extends (right_of n)) (level_in (right_of n) (under c)) ws (at + 1) (Err f) → Gives (extends n) (tail_in n c y) ws at (Err f)
right_err c n ws at y op f s h b g = fault_after ws at (at + 1) f (tighter n (right_of n) (right_low n)) (tail_right c n ws at y op s h b) g

pub tail_err : (c : Context) (n m : ℕ) (ws : Readable) (at : ℕ) (y : Placed Expr) (op : Op) (f : Fault) → OperatorAt ws at n op → m ≡ right_of n → c.deep + y.height ≤ ws.limits.trees → Gives (extends m) (level_in m (under c)) ws (at + 1) (Err f) → Gives (extends n) (tail_in n c y) ws at (Err f)
tail_err c n m ws at y op f s e b g = elim (cases_lt n 4) [ inl h ↦ right_err c n ws at y op f s h b (level_as (under c) ws (at + 1) (Err f) e g) | inr h ↦ tail_left_err c n ws at y op f s h b (level_as (under c) ws (at + 1) (Err f) (e ∙ right_high n h) g) ]

pub tail_right_ok : (c : Context) (n m : ℕ) (ws : Readable) (at next : ℕ) (y z j : Placed Expr) (op : Op) → OperatorAt ws at n op → n < 4 → m ≡ right_of n → c.deep + y.height ≤ ws.limits.trees → j ≡ placed_binary y op z → Gives (extends m) (level_in m (under c)) ws (at + 1) (Ok (z, next)) → Gives (extends n) (tail_in n c y) ws at (Ok ((j.tree, j.height), next))
tail_right_ok c n m ws at next y z j op s h e b i g = remade (λ u. ap (λ v. (v.tree, v.height)) (sym i)) (and_then (tighter n (right_of n) (right_low n)) (tail_right c n ws at y op s h b) (level_as (under c) ws (at + 1) (Ok (z, next)) e g))

pub tail_left_ok : (c : Context) (n m : ℕ) (ws : Readable) (at next : ℕ) (y z j : Placed Expr) (op : Op) (r : Result ((Expr × ℕ) × ℕ) Fault) → OperatorAt ws at n op → 4 ≤ n → m ≡ right_of n → c.deep + y.height ≤ ws.limits.trees → j ≡ placed_binary y op z → Gives (extends m) (level_in m (under c)) ws (at + 1) (Ok (z, next)) → Gives (extends n) (tail_in n c j) ws next r → Gives (extends n) (tail_in n c y) ws at r
tail_left_ok c n m ws at next y z j op r s h e b i g t = let P : Placed Expr → Type 0 = λ v. Gives (extends n) (tail_in n c v) ws next r in tail_left_then c n ws at next y z op r s h b (level_as (under c) ws (at + 1) (Ok (z, next)) (e ∙ right_high n h) g) (subst P i t)

-- ---- Operands

pub operand_end : (c : Context) (ws : Readable) (at : ℕ) → c.mode ≡ InSize → drop at ws.words ≡ [] → IsRefused ws.limits {X = Placed Expr} calls (operand_in c) (drop at ws.words) (drop at ws.words) Syntax
operand_end c ws at m e = refused_at e (no_size c [] m at_end)

pub operand_variable : (c : Context) (ws : Readable) (at : ℕ) (n : Numbered) (name : List ℕ) → (s : StandsAt ws at n) → n.token.kind ≡ k.Variable → name ≡ s.word.chars → Gives calls (operand_in c) ws at (Ok (record { at = n.token.span; tree = x.Var n.token.span name; height = 1 }, at + 1))
operand_variable c ws at n name s h e = remade (λ u. same_placed s.place (ap (λ v. x.Var v s.word.chars) s.place ∙ ap (λ v. x.Var n.token.span v) (sym e)) refl) (at_token s.is (on_variable c s.word (drop (at + 1) ws.words) (s.kind ∙ h)))

pub operand_integer : (c : Context) (ws : Readable) (at : ℕ) (n : Numbered) (z : ℤ) → (s : StandsAt ws at n) → n.token.kind ≡ k.Integer → z ≡ pos n.value → Gives calls (operand_in c) ws at (Ok (record { at = n.token.span; tree = x.Int n.token.span z; height = 1 }, at + 1))
operand_integer c ws at n z s h e = remade (λ u. same_placed s.place (ap (λ v. x.Int v (pos s.word.number)) s.place ∙ ap (λ v. x.Int n.token.span (pos v)) (s.number ∙ ap (number_of n) h) ∙ ap (λ v. x.Int n.token.span v) (sym e)) refl) (at_token s.is (on_integer c s.word (drop (at + 1) ws.words) (s.kind ∙ h)))

pub operand_character : (c : Context) (ws : Readable) (at : ℕ) (n : Numbered) → (s : StandsAt ws at n) → n.token.kind ≡ k.Character → Gives calls (operand_in c) ws at (Ok (record { at = n.token.span; tree = x.Char n.token.span n.number; height = 1 }, at + 1))
operand_character c ws at n s h = remade (λ u. same_placed s.place (ap (λ v. x.Char v s.word.number) s.place ∙ ap (λ v. x.Char n.token.span v) (s.number ∙ ap (number_of n) h)) refl) (at_token s.is (on_character c s.word (drop (at + 1) ws.words) (s.kind ∙ h)))

operand_atom : (c : Context) (ws : Readable) (at : ℕ) (n : Numbered) → (s : StandsAt ws at n) → n.token.kind ≡ k.Atom → Passes ws.limits {X = Placed Expr} {Y = Expr × ℕ} calls (operand_in c) (drop at ws.words) (after_atom_in c n.token.span n.number) (drop (at + 1) ws.words) (λ r. record { at = n.token.span; tree = r.0; height = r.1 })
operand_atom c ws at n s h =
    let P : Span → Type 0 = λ v. Passes ws.limits {X = Placed Expr} {Y = Expr × ℕ} calls (operand_in c) (drop at ws.words) (after_atom_in c v n.number) (drop (at + 1) ws.words) (λ r. record { at = v; tree = r.0; height = r.1 }) in
    let Q : ℕ → Type 0 = λ v. Passes ws.limits {X = Placed Expr} {Y = Expr × ℕ} calls (operand_in c) (drop at ws.words) (after_atom_in c s.word.at v) (drop (at + 1) ws.words) (λ r. record { at = s.word.at; tree = r.0; height = r.1 }) in
    subst P s.place (subst Q (s.number ∙ ap (number_of n) h) (at_token s.is (on_atom c s.word (drop (at + 1) ws.words) (s.kind ∙ h))))

pub operand_atom_err : (c : Context) (ws : Readable) (at : ℕ) (n : Numbered) (f : Fault) → StandsAt ws at n → n.token.kind ≡ k.Atom → Gives calls (after_atom_in c n.token.span n.number) ws (at + 1) (Err f) → Gives calls (operand_in c) ws at (Err f)
operand_atom_err c ws at n f s h g = fault_after ws at (at + 1) f (same_kinds calls) (operand_atom c ws at n s h) g

pub operand_atom_ok : (c : Context) (ws : Readable) (at next : ℕ) (n : Numbered) (e : Expr) (d : ℕ) → StandsAt ws at n → n.token.kind ≡ k.Atom → Gives calls (after_atom_in c n.token.span n.number) ws (at + 1) (Ok ((e, d), next)) → Gives calls (operand_in c) ws at (Ok (record { at = n.token.span; tree = e; height = d }, next))
operand_atom_ok c ws at next n e d s h g = and_then (same_kinds calls) (operand_atom c ws at n s h) g

operand_prefix : (c : Context) (ws : Readable) (at : ℕ) (n : Numbered) (op : Prefix) → (s : StandsAt ws at n) → prefix_of n.token.kind ≡ Some op → c.deep + 1 ≤ ws.limits.trees → Passes ws.limits {X = Placed Expr} {Y = Placed Expr} calls (operand_in c) (drop at ws.words) (operand_in (under c)) (drop (at + 1) ws.words) (λ y. record { at = n.token.span; tree = x.Unary n.token.span op (y.tree ∷ []); height = y.height + 1 })
operand_prefix c ws at n op s h b =
    let P : Span → Type 0 = λ v. Passes ws.limits {X = Placed Expr} {Y = Placed Expr} calls (operand_in c) (drop at ws.words) (operand_in (under c)) (drop (at + 1) ws.words) (λ y. record { at = v; tree = x.Unary v op (y.tree ∷ []); height = y.height + 1 }) in
    subst P s.place (at_token s.is (on_prefix c s.word (drop (at + 1) ws.words) op (ap prefix_of s.kind ∙ h) b))

pub operand_prefix_deep : (c : Context) (ws : Readable) (at : ℕ) (n : Numbered) (op : Prefix) → StandsAt ws at n → prefix_of n.token.kind ≡ Some op → ws.limits.trees < c.deep + 1 → IsRefused ws.limits {X = Placed Expr} calls (operand_in c) (drop at ws.words) (drop at ws.words) TooDeep
operand_prefix_deep c ws at n op s h b = refused_at s.is (prefix_too_deep c s.word (drop (at + 1) ws.words) op (ap prefix_of s.kind ∙ h) b)

pub operand_prefix_err : (c : Context) (ws : Readable) (at : ℕ) (n : Numbered) (op : Prefix) (f : Fault) → StandsAt ws at n → prefix_of n.token.kind ≡ Some op → c.deep + 1 ≤ ws.limits.trees → Gives calls (operand_in (under c)) ws (at + 1) (Err f) → Gives calls (operand_in c) ws at (Err f)
operand_prefix_err c ws at n op f s h b g = fault_after ws at (at + 1) f (same_kinds calls) (operand_prefix c ws at n op s h b) g

pub operand_prefix_ok : (c : Context) (ws : Readable) (at next : ℕ) (n : Numbered) (op : Prefix) (y : Placed Expr) (part : List Expr) → StandsAt ws at n → prefix_of n.token.kind ≡ Some op → c.deep + 1 ≤ ws.limits.trees → part ≡ y.tree ∷ [] → Gives calls (operand_in (under c)) ws (at + 1) (Ok (y, next)) → Gives calls (operand_in c) ws at (Ok (record { at = n.token.span; tree = x.Unary n.token.span op part; height = y.height + 1 }, next))
operand_prefix_ok c ws at next n op y part s h b e g = remade (λ u. same_placed refl (ap (λ v. x.Unary n.token.span op v) (sym e)) refl) (and_then (same_kinds calls) (operand_prefix c ws at n op s h b) g)

pub operand_paren_deep : (c : Context) (ws : Readable) (at : ℕ) (n : Numbered) → StandsAt ws at n → n.token.kind ≡ k.LeftParen → ws.limits.brackets ≤ c.open_ → IsRefused ws.limits {X = Placed Expr} calls (operand_in c) (drop at ws.words) (drop at ws.words) TooDeep
operand_paren_deep c ws at n s h b = refused_at s.is (paren_too_deep c s.word (drop (at + 1) ws.words) (s.kind ∙ h) b)

operand_paren : (c : Context) (ws : Readable) (at : ℕ) (n : Numbered) → (s : StandsAt ws at n) → n.token.kind ≡ k.LeftParen → c.open_ < ws.limits.brackets → Passes ws.limits {X = Placed Expr} {Y = Placed Expr × Unit {0}} calls (operand_in c) (drop at ws.words) (λ p. level_in 0 (inside c) p.0 ++ mark_in k.RightParen p.1) (drop (at + 1) ws.words) (λ p. record { at = n.token.span; tree = p.0.tree; height = p.0.height })
operand_paren c ws at n s h b = remade (λ p. same_placed s.place refl refl) (at_token s.is (on_paren c s.word (drop (at + 1) ws.words) (s.kind ∙ h) b))

paren_behind : Behind {X = Placed Expr} {Y = Unit {0}} (extends 0) calls (λ p. mark_in k.RightParen)
paren_behind = behind_mark k.RightParen (extends 0) calls refl

pub operand_paren_err : (c : Context) (ws : Readable) (at : ℕ) (n : Numbered) (f : Fault) → StandsAt ws at n → n.token.kind ≡ k.LeftParen → c.open_ < ws.limits.brackets → Gives (extends 0) (level_in 0 (inside c)) ws (at + 1) (Err f) → Gives calls (operand_in c) ws at (Err f)
operand_paren_err c ws at n f s h b g = fault_after ws at (at + 1) f (same_kinds calls) (operand_paren c ws at n s h b) (fault_first (level_in 0 (inside c)) ws (at + 1) f paren_behind (mark_spelled k.RightParen) g)

operand_inner : (c : Context) (ws : Readable) (at after : ℕ) (n : Numbered) (y : Placed Expr) → StandsAt ws at n → n.token.kind ≡ k.LeftParen → c.open_ < ws.limits.brackets → Gives (extends 0) (level_in 0 (inside c)) ws (at + 1) (Ok (y, after)) → Passes ws.limits {X = Placed Expr} {Y = Unit {0}} calls (operand_in c) (drop at ws.words) (mark_in k.RightParen) (drop after ws.words) (λ u. record { at = n.token.span; tree = y.tree; height = y.height })
operand_inner c ws at after n y s h b g = and_then (same_kinds calls) (operand_paren c ws at n s h b) (first_of_two paren_behind g)

pub operand_close_err : (c : Context) (ws : Readable) (at after : ℕ) (n : Numbered) (y : Placed Expr) (f : Fault) → StandsAt ws at n → n.token.kind ≡ k.LeftParen → c.open_ < ws.limits.brackets → Gives (extends 0) (level_in 0 (inside c)) ws (at + 1) (Ok (y, after)) → Gives closed (mark_in k.RightParen) ws after (Err f) → Gives calls (operand_in c) ws at (Err f)
operand_close_err c ws at after n y f s h b g m = fault_after ws at after f (closed_within calls) (operand_inner c ws at after n y s h b g) m

pub operand_close : (c : Context) (ws : Readable) (at after next : ℕ) (n : Numbered) (y : Placed Expr) (u : Unit {0}) → StandsAt ws at n → n.token.kind ≡ k.LeftParen → c.open_ < ws.limits.brackets → Gives (extends 0) (level_in 0 (inside c)) ws (at + 1) (Ok (y, after)) → Gives closed (mark_in k.RightParen) ws after (Ok (u, next)) → Gives calls (operand_in c) ws at (Ok (record { at = n.token.span; tree = y.tree; height = y.height }, next))
operand_close c ws at after next n y u s h b g m = and_then (closed_within calls) (operand_inner c ws at after n y s h b g) m

pub operand_no_module : (c : Context) (ws : Readable) (at : ℕ) (n : Numbered) → StandsAt ws at n → n.token.kind ≡ k.Question → NoModule (drop (at + 1) ws.words) → IsRefused ws.limits {X = Placed Expr} calls (operand_in c) (drop at ws.words) (drop (at + 1) ws.words) Syntax
operand_no_module c ws at n s h m = let P : List Word → Type 0 = λ v. IsRefused ws.limits {X = Placed Expr} calls (operand_in c) v (drop (at + 1) ws.words) Syntax in subst P (sym s.is) (macro_refused c s.word (drop (at + 1) ws.words) (s.kind ∙ h) m)

operand_macro : (c : Context) (ws : Readable) (at : ℕ) (n : Numbered) → StandsAt ws at n → n.token.kind ≡ k.Question → ModuleAt ws (at + 1) → Passes ws.limits {X = Placed Expr} {Y = Expr × ℕ} calls (operand_in c) (drop at ws.words) (qualified_in c n.token.span (x.ModuleName n.token.span)) (drop (at + 2) ws.words) (λ r. record { at = n.token.span; tree = r.0; height = r.1 })
operand_macro c ws at n s h m =
    let e : at + 1 + 1 ≡ at + 2 = omega arith in
    let f : drop at ws.words ≡ s.word ∷ (m.word ∷ drop (at + 2) ws.words) = s.is ∙ ap (λ v. s.word ∷ v) (m.is ∙ ap (λ v. m.word ∷ drop v ws.words) e) in
    let P : Span → Type 0 = λ v. Passes ws.limits {X = Placed Expr} {Y = Expr × ℕ} calls (operand_in c) (drop at ws.words) (qualified_in c v (x.ModuleName v)) (drop (at + 2) ws.words) (λ r. record { at = v; tree = r.0; height = r.1 }) in
    subst P s.place (at_token f (on_macro c s.word m.word (drop (at + 2) ws.words) (s.kind ∙ h) m.kind m.chars))

pub operand_macro_err : (c : Context) (ws : Readable) (at : ℕ) (n : Numbered) (f : Fault) → StandsAt ws at n → n.token.kind ≡ k.Question → ModuleAt ws (at + 1) → Gives calls (qualified_in c n.token.span (x.ModuleName n.token.span)) ws (at + 2) (Err f) → Gives calls (operand_in c) ws at (Err f)
operand_macro_err c ws at n f s h m g = fault_after ws at (at + 2) f (same_kinds calls) (operand_macro c ws at n s h m) g

pub operand_macro_ok : (c : Context) (ws : Readable) (at next : ℕ) (n : Numbered) (e : Expr) (d : ℕ) → StandsAt ws at n → n.token.kind ≡ k.Question → ModuleAt ws (at + 1) → Gives calls (qualified_in c n.token.span (x.ModuleName n.token.span)) ws (at + 2) (Ok ((e, d), next)) → Gives calls (operand_in c) ws at (Ok (record { at = n.token.span; tree = e; height = d }, next))
operand_macro_ok c ws at next n e d s h m g = and_then (same_kinds calls) (operand_macro c ws at n s h m) g

no_op : (found : Option Prefix) → ((op : Prefix) → found ≡ Some op → ⊥) → found ≡ None
no_op None f = refl
no_op (Some op) f = absurd (f op refl)

pub operand_none : (c : Context) (ws : Readable) (at : ℕ) (n : Numbered) → c.mode ≡ InSize → (s : StandsAt ws at n) → ((op : Prefix) → prefix_of n.token.kind ≡ Some op → ⊥) → (n.token.kind ≡ k.Atom → ⊥) → (n.token.kind ≡ k.Question → ⊥) → (n.token.kind ≡ k.Variable → ⊥) → (n.token.kind ≡ k.Integer → ⊥) → (n.token.kind ≡ k.Character → ⊥) → (n.token.kind ≡ k.LeftParen → ⊥) → IsRefused ws.limits {X = Placed Expr} calls (operand_in c) (drop at ws.words) (drop at ws.words) Syntax
operand_none c ws at n m s a d e f g h i = refused_at s.is (no_size c (s.word ∷ drop (at + 1) ws.words) m (at_other s.word (drop (at + 1) ws.words) (record {
  prefix = no_op (prefix_of s.word.kind) (λ op j. a op (ap prefix_of (sym s.kind) ∙ j));
  atom = λ j. d (sym s.kind ∙ j);
  question = λ j. e (sym s.kind ∙ j);
  variable = λ j. f (sym s.kind ∙ j);
  integer = λ j. g (sym s.kind ∙ j);
  character = λ j. h (sym s.kind ∙ j);
  paren = λ j. i (sym s.kind ∙ j);
})))

-- ---- Calls

pub atom_alone : (c : Context) (ws : Readable) (at : ℕ) (place : Span) (n : ℕ) (r : Result ((Expr × ℕ) × ℕ) Fault) → NoMark k.LeftParen (drop at ws.words) → Gives calls (qualified_in c place (x.Atom place n)) ws at r → Gives calls (after_atom_in c place n) ws at r
atom_alone c ws at place n r b g = gives_on ws at at r (same_kinds calls) (on_no_call c place n (drop at ws.words) b) g

pub atom_deep : (c : Context) (ws : Readable) (at : ℕ) (place : Span) (n : ℕ) → IsAt ws at k.LeftParen → ws.limits.brackets ≤ c.open_ → IsRefused ws.limits {X = Expr × ℕ} calls (after_atom_in c place n) (drop at ws.words) (drop at ws.words) TooDeep
atom_deep c ws at place n s b = refused_at s.is (call_too_deep c place n s.word (drop (at + 1) ws.words) s.kind_is b)

pub atom_err : (c : Context) (ws : Readable) (at : ℕ) (place : Span) (n : ℕ) (f : Fault) → IsAt ws at k.LeftParen → c.open_ < ws.limits.brackets → Gives closed (exprs_in k.RightParen (inside (under c))) ws (at + 1) (Err f) → Gives calls (after_atom_in c place n) ws at (Err f)
atom_err c ws at place n f s b g = fault_after ws at (at + 1) f (closed_within calls) (at_token s.is (on_call c place n s.word (drop (at + 1) ws.words) s.kind_is b)) g

pub atom_call : (c : Context) (ws : Readable) (at next : ℕ) (place : Span) (n : ℕ) (module_ args : List Expr) (d : ℕ) → IsAt ws at k.LeftParen → c.open_ < ws.limits.brackets → module_ ≡ [] → Gives closed (exprs_in k.RightParen (inside (under c))) ws (at + 1) (Ok ((args, d), next)) → Gives calls (after_atom_in c place n) ws at (Ok ((x.Call place module_ n args, d + 1), next))
atom_call c ws at next place n module_ args d s b e g = remade (λ u. same_pair (ap (λ v. x.Call place v n args) (sym e)) refl) (and_then (closed_within calls) (at_token s.is (on_call c place n s.word (drop (at + 1) ws.words) s.kind_is b)) g)

pub qualified_alone : (c : Context) (ws : Readable) (at : ℕ) (place : Span) (y : Expr) → NoMark k.Colon (drop at ws.words) → Gives calls (qualified_in c place y) ws at (Ok ((y, 1), at))
qualified_alone c ws at place y b = on_unqualified c place y (drop at ws.words) b

pub qualified_deep : (c : Context) (ws : Readable) (at : ℕ) (place : Span) (y : Expr) → IsAt ws at k.Colon → (ws.limits.brackets ≤ c.open_ ⊎ ws.limits.trees < c.deep + 1) → IsRefused ws.limits {X = Expr × ℕ} calls (qualified_in c place y) (drop at ws.words) (drop at ws.words) TooDeep
qualified_deep c ws at place y s b = refused_at s.is (remote_too_deep c place y s.word (drop (at + 1) ws.words) s.kind_is b)

pub qualified_no_name : (c : Context) (ws : Readable) (at : ℕ) (place : Span) (y : Expr) → IsAt ws at k.Colon → c.open_ < ws.limits.brackets → c.deep + 1 ≤ ws.limits.trees → NoMark k.Atom (drop (at + 1) ws.words) → IsRefused ws.limits {X = Expr × ℕ} calls (qualified_in c place y) (drop at ws.words) (drop (at + 1) ws.words) Syntax
qualified_no_name c ws at place y s b a n = let P : List Word → Type 0 = λ v. IsRefused ws.limits {X = Expr × ℕ} calls (qualified_in c place y) v (drop (at + 1) ws.words) Syntax in subst P (sym s.is) (name_refused c place y s.word (drop (at + 1) ws.words) s.kind_is b a n)

two : (ws : Readable) (at : ℕ) (j t : Word) → drop at ws.words ≡ j ∷ drop (at + 1) ws.words → drop (at + 1) ws.words ≡ t ∷ drop (at + 1 + 1) ws.words → drop at ws.words ≡ j ∷ (t ∷ drop (at + 2) ws.words)
two ws at j t a b = let e : at + 1 + 1 ≡ at + 2 = omega arith in a ∙ ap (λ v. j ∷ v) (b ∙ ap (λ v. t ∷ drop v ws.words) e)

pub qualified_no_open : (c : Context) (ws : Readable) (at : ℕ) (place : Span) (y : Expr) (n : ℕ) → IsAt ws at k.Colon → AtomAt ws (at + 1) n → c.open_ < ws.limits.brackets → c.deep + 1 ≤ ws.limits.trees → NoMark k.LeftParen (drop (at + 2) ws.words) → IsRefused ws.limits {X = Expr × ℕ} calls (qualified_in c place y) (drop at ws.words) (drop (at + 2) ws.words) Syntax
qualified_no_open c ws at place y n s t b a m = let P : List Word → Type 0 = λ v. IsRefused ws.limits {X = Expr × ℕ} calls (qualified_in c place y) v (drop (at + 2) ws.words) Syntax in subst P (sym (two ws at s.word t.word s.is t.is)) (open_refused c place y s.word t.word (drop (at + 2) ws.words) s.kind_is t.kind b a m)

qualified_call : (c : Context) (ws : Readable) (at : ℕ) (place : Span) (y : Expr) (n : ℕ) → IsAt ws at k.Colon → AtomAt ws (at + 1) n → IsAt ws (at + 2) k.LeftParen → c.open_ < ws.limits.brackets → c.deep + 1 ≤ ws.limits.trees → Passes ws.limits {X = Expr × ℕ} {Y = List Expr × ℕ} calls (qualified_in c place y) (drop at ws.words) (exprs_in k.RightParen (inside (under c))) (drop (at + 3) ws.words) (λ r. (x.Call place (y ∷ []) n r.0, max 1 r.1 + 1))
qualified_call c ws at place y n s t p b a =
    let e : at + 2 + 1 ≡ at + 3 = omega arith in
    let f : drop at ws.words ≡ s.word ∷ (t.word ∷ (p.word ∷ drop (at + 3) ws.words)) = two ws at s.word t.word s.is t.is ∙ ap (λ v. s.word ∷ (t.word ∷ v)) (p.is ∙ ap (λ v. p.word ∷ drop v ws.words) e) in
    remade (λ r. same_pair (ap (λ v. x.Call place (y ∷ []) v r.0) t.number) refl) (at_token f (on_qualified c place y s.word t.word p.word (drop (at + 3) ws.words) s.kind_is t.kind p.kind_is b a))

pub qualified_err : (c : Context) (ws : Readable) (at : ℕ) (place : Span) (y : Expr) (n : ℕ) (f : Fault) → IsAt ws at k.Colon → AtomAt ws (at + 1) n → IsAt ws (at + 2) k.LeftParen → c.open_ < ws.limits.brackets → c.deep + 1 ≤ ws.limits.trees → Gives closed (exprs_in k.RightParen (inside (under c))) ws (at + 3) (Err f) → Gives calls (qualified_in c place y) ws at (Err f)
qualified_err c ws at place y n f s t p b a g = fault_after ws at (at + 3) f (closed_within calls) (qualified_call c ws at place y n s t p b a) g

pub qualified_ok : (c : Context) (ws : Readable) (at next : ℕ) (place : Span) (y : Expr) (n : ℕ) (module_ args : List Expr) (d h : ℕ) → IsAt ws at k.Colon → AtomAt ws (at + 1) n → IsAt ws (at + 2) k.LeftParen → c.open_ < ws.limits.brackets → c.deep + 1 ≤ ws.limits.trees → module_ ≡ y ∷ [] → h ≡ max 1 d + 1 → Gives closed (exprs_in k.RightParen (inside (under c))) ws (at + 3) (Ok ((args, d), next)) → Gives calls (qualified_in c place y) ws at (Ok ((x.Call place module_ n args, h), next))
qualified_ok c ws at next place y n module_ args d h s t p b a e i g = remade (λ u. same_pair (ap (λ v. x.Call place v n args) (sym e)) (sym i)) (and_then (closed_within calls) (qualified_call c ws at place y n s t p b a) g)

-- ---- Lists of expressions

pub exprs_empty : (close : TokenKind) (c : Context) (ws : Readable) (at : ℕ) (items : List Expr) → Closes close → IsAt ws at close → items ≡ [] → Gives closed (exprs_in close c) ws at (Ok ((items, 0), at + 1))
exprs_empty close c ws at items n s e = remade (λ u. same_pair (sym e) refl) (at_token s.is (on_no_exprs close c s.word (drop (at + 1) ws.words) n s.kind_is))

head_not : {kind : TokenKind} {j : Word} {rest : List Word} → NoMark kind (j ∷ rest) → j.kind ≡ kind → ⊥
head_not (no_mark j rest f) = f

pub exprs_first : {most : Limits} (close : TokenKind) (c : Context) (rest : List Word) (why : Cause) → c.mode ≡ InSize → FirstCause rest why → NoMark close rest → most.trees < c.deep → IsRefused most {X = List Expr × ℕ} closed (exprs_in close c) rest rest why
exprs_first close c _ _ m (only_deeper j rest b) n h = exprs_too_deep close c j rest (head_not n) b h
exprs_first close c _ _ m (no_size_there rest b) n h = exprs_refused close c rest m n b

pub exprs_begin : (close : TokenKind) (c : Context) (ws : Readable) (at : ℕ) (items : List Expr) → c.deep ≤ ws.limits.trees → NoMark close (drop at ws.words) → items ≡ [] → Passes ws.limits closed (exprs_in close c) (drop at ws.words) (expr_and_more close c) (drop at ws.words) (λ p. (items ++ (p.0.tree ∷ p.1.0), max 0 (max p.0.height p.1.1)))
exprs_begin close c ws at items b n e = remade (λ p. same_pair (ap (λ v. v ++ (p.0.tree ∷ p.1.0)) (sym e)) (omega arith)) (on_exprs close c (drop at ws.words) b n)

-- what was read so far
abbrev pub Read : TokenKind → Context → Readable → ℕ → ℕ → List Expr → ℕ → Type 0
Read close c ws at next items h = Passes ws.limits closed (exprs_in close c) (drop at ws.words) (expr_and_more close c) (drop next ws.words) (λ p. (items ++ (p.0.tree ∷ p.1.0), max h (max p.0.height p.1.1)))

pub exprs_err : (close : TokenKind) (c : Context) (ws : Readable) (at next : ℕ) (items : List Expr) (h : ℕ) (f : Fault) → Closes close → Read close c ws at next items h → Gives (extends 0) (level_in 0 c) ws next (Err f) → Gives closed (exprs_in close c) ws at (Err f)
exprs_err close c ws at next items h f n r g = fault_after ws at next f (same_kinds closed) r (fault_first (level_in 0 c) ws next f (behind_expr close c n) (more_spelled close c) g)

then_more : (close : TokenKind) (c : Context) (ws : Readable) (at next after : ℕ) (items : List Expr) (h : ℕ) (y : Placed Expr) → Closes close → Read close c ws at next items h → Gives (extends 0) (level_in 0 c) ws next (Ok (y, after)) → Passes ws.limits {X = List Expr × ℕ} {Y = List Expr × ℕ} closed (exprs_in close c) (drop at ws.words) (more_exprs_in close c) (drop after ws.words) (λ q. (items ++ (y.tree ∷ q.0), max h (max y.height q.1)))
then_more close c ws at next after items h y n r g = and_then (same_kinds closed) r (first_of_two (behind_expr close c n) g)

pub exprs_end : (close : TokenKind) (c : Context) (ws : Readable) (at next after : ℕ) (items all : List Expr) (h g : ℕ) (y : Placed Expr) → Closes close → Read close c ws at next items h → Gives (extends 0) (level_in 0 c) ws next (Ok (y, after)) → IsAt ws after close → all ≡ items ++ (y.tree ∷ []) → g ≡ max h y.height → Gives closed (exprs_in close c) ws at (Ok ((all, g), after + 1))
exprs_end close c ws at next after items all h g y n r v s e i = remade (λ u. same_pair (sym e) (omega (arith, i))) (and_then (same_kinds closed) (then_more close c ws at next after items h y n r v) (at_token s.is (on_end close c s.word (drop (after + 1) ws.words) n s.kind_is)))

pub exprs_more : (close : TokenKind) (c : Context) (ws : Readable) (at next after : ℕ) (items all : List Expr) (h g : ℕ) (y : Placed Expr) → Closes close → Read close c ws at next items h → Gives (extends 0) (level_in 0 c) ws next (Ok (y, after)) → IsAt ws after k.Comma → all ≡ items ++ (y.tree ∷ []) → g ≡ max h y.height → Read close c ws at (after + 1) all g
exprs_more close c ws at next after items all h g y n r v s e i = remade (λ p. same_pair (sym (append_assoc items (y.tree ∷ []) (p.0.tree ∷ p.1.0)) ∙ ap (λ u. u ++ (p.0.tree ∷ p.1.0)) (sym e)) (omega (arith, i))) (and_then (same_kinds closed) (then_more close c ws at next after items h y n r v) (at_token s.is (on_comma close c s.word (drop (after + 1) ws.words) n s.kind_is)))

pub exprs_other : (close : TokenKind) (c : Context) (ws : Readable) (at next after : ℕ) (items : List Expr) (h : ℕ) (y : Placed Expr) → Closes close → Read close c ws at next items h → Gives (extends 0) (level_in 0 c) ws next (Ok (y, after)) → NoMark k.Comma (drop after ws.words) → NoMark close (drop after ws.words) → IsRefused ws.limits {X = List Expr × ℕ} closed (exprs_in close c) (drop at ws.words) (drop after ws.words) Syntax
exprs_other close c ws at next after items h y n r v a b = refused_after (same_kinds closed) (then_more close c ws at next after items h y n r v) (more_refused close c (drop after ws.words) a b)

-- ---- Which operator stands there

pub operator_end : (n : ℕ) (rest : List Word) → rest ≡ [] → NoneInSize n rest
operator_end n rest e = λ c m. let P : List Word → Type 0 = λ v. NoneFollows n c v in subst P (sym e) ended

pub operator_none : (n : ℕ) (ws : Readable) (at : ℕ) (t : Numbered) → StandsAt ws at t → ((op : Op) → operator_of t.token.kind ≡ Some op → ⊥) → NoneInSize n (drop at ws.words)
operator_none n ws at t s f = λ c m. let P : List Word → Type 0 = λ v. NoneFollows n c v in subst P (sym s.is) (other s.word (drop (at + 1) ws.words) (record { none = λ op e l b. f op (ap operator_of (sym s.kind) ∙ e) }))

no_send : {m : Mode} {op : Op} → m ≡ InSize → op ≡ o.Send → (m ≡ InBody ⊎ op ≢ o.Send) → ⊥
no_send a b (inl c) = cc
no_send a b (inr c) = c b

same_op : {found : Option Op} {p q : Op} → found ≡ Some p → found ≡ Some q → p ≡ q
same_op a b = cc

pub operator_other : (n : ℕ) (ws : Readable) (at : ℕ) (t : Numbered) (op : Op) → StandsAt ws at t → operator_of t.token.kind ≡ Some op → ((level_of op ≡ n → ⊥) ⊎ op ≡ o.Send) → NoneInSize n (drop at ws.words)
operator_other n ws at t op s e (inl f) = λ c m. let P : List Word → Type 0 = λ v. NoneFollows n c v in subst P (sym s.is) (other s.word (drop (at + 1) ws.words) (record { none = λ q i l b. f (ap level_of (same_op e (ap operator_of (sym s.kind) ∙ i)) ∙ l) }))
operator_other n ws at t op s e (inr f) = λ c m. let P : List Word → Type 0 = λ v. NoneFollows n c v in subst P (sym s.is) (other s.word (drop (at + 1) ws.words) (record { none = λ q i l b. no_send m (sym (same_op e (ap operator_of (sym s.kind) ∙ i)) ∙ f) b }))
