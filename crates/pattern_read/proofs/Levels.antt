-- The laws of operators and operands: what each token does to what is wanted.
use Rattle.std.proofs.Common.{◌≡◌, ◌≢◌, ℕ, ◌+◌, ◌≤◌, ◌<◌, max, nat_le, true, IsTrue, List, [], ◌∷◌, ◌++◌, Option, Some, None, refl, sym, ap, subst, ◌∙◌, arith, inr, ◌⊎◌}
use Rattle.std.proofs.lemmas.Bool.Decides.{nat_tests}
use Rattle.erl_syntax.specs.declared.span.Span.{Span}
use Rattle.erl_syntax.specs.declared.token.TokenKind.{TokenKind}
use Rattle.erl_syntax.specs.declared.token.TokenKind.TheVariants as k
use Rattle.erl_syntax.specs.declared.expr.Expr.{Expr}
use Rattle.erl_syntax.specs.declared.expr.Expr.TheVariants as x
use Rattle.erl_syntax.specs.declared.expr.Op.{Op}
use Rattle.erl_syntax.specs.declared.expr.Op.TheVariants as o
use Rattle.erl_syntax.specs.declared.expr.Prefix.{Prefix}
use Rattle.erl_syntax.specs.Word.{Word}
use Rattle.erl_syntax.specs.Operators.{operator_of, level_of}
use Rattle.erl_syntax.specs.Grammar.{InBody, Context, under, Limits, right_of, Goal, Of, Level, Tail, Operand, level, operand, alone, right, left, Spells, this, expands}
use Rattle.pattern_read.specs.declared.placed.Placed.{Placed}
use Rattle.pattern_read.specs.Reading.{Passes, Follows, SameHead, nothing}
use Rattle.pattern_read.specs.Wanted.{calls, lengthens, extends, level_in, tail_in, operand_in, NoneFollows, ended, other}
use Rattle.pattern_read.proofs.Passing.{Within, Behind, Spelled}

pub same_placed : {a b : Span} {e f : Expr} {d g : ℕ} → a ≡ b → e ≡ f → d ≡ g → (let P : Placed Expr = record { at = a; tree = e; height = d } in P) ≡ (let P : Placed Expr = record { at = b; tree = f; height = g } in P)
same_placed {a = a} {b = b} {e = e} {f = f} {d = d} {g = g} p q r = ap (λ v. record { at = v; tree = e; height = d }) p ∙ ap (λ v. record { at = b; tree = v; height = d }) q ∙ ap (λ v. record { at = b; tree = f; height = v }) r

pub same_pair : {X : Type 0} {e f : X} {d g : ℕ} → e ≡ f → d ≡ g → (let P : X × ℕ = (e, d) in P) ≡ (let P : X × ℕ = (f, g) in P)
same_pair {e = e} {f = f} {d = d} {g = g} q r = ap (λ v. (v, d)) q ∙ ap (λ v. (f, v)) r

pub no_prefix : {found : Option Prefix} {op : Prefix} → found ≡ None → found ≡ Some op → ⊥
no_prefix a b = cc

pub no_operator : {found : Option Op} {op : Op} → found ≡ None → found ≡ Some op → ⊥
no_operator a b = cc

one_operator : {found : Option Op} {p q : Op} → found ≡ Some p → found ≡ Some q → p ≡ q
one_operator a b = cc

lengthens_with : (n : ℕ) (kind : TokenKind) {op : Op} → operator_of kind ≡ Some op → extends n kind ≡ nat_le n (level_of op)
lengthens_with n kind e = ap (lengthens n kind) e

pub extends_with : (n : ℕ) (kind : TokenKind) {op : Op} → operator_of kind ≡ Some op → n ≤ level_of op → IsTrue (extends n kind)
extends_with n kind {op = op} e h = let a : nat_le n (level_of op) ≡ true = grind (arith, nat_tests) in lengthens_with n kind e ∙ a

pub above : (n : ℕ) (kind : TokenKind) {op : Op} → operator_of kind ≡ Some op → IsTrue (extends n kind) → n ≤ level_of op
above n kind {op = op} e h = let a : nat_le n (level_of op) ≡ true = sym (lengthens_with n kind e) ∙ h in grind (arith, nat_tests)

-- a kind that lengthens a tighter level lengthens a looser one
lengthens_less : (m n : ℕ) (kind : TokenKind) (op : Option Op) → m ≤ n → IsTrue (lengthens n kind op) → IsTrue (lengthens m kind op)
lengthens_less m n kind (Some op) h i = let a : nat_le m (level_of op) ≡ true = grind (arith, nat_tests) in a
lengthens_less m n kind None h i = i

pub tighter : (m n : ℕ) → m ≤ n → Within (extends n) (extends m)
tighter m n h = record { within = λ kind i. lengthens_less m n kind (operator_of kind) h i }

calls_lengthen : (n : ℕ) (kind : TokenKind) → IsTrue (calls kind) → IsTrue (extends n kind)
calls_lengthen n k.LeftParen h = refl
calls_lengthen n k.Colon h = refl
calls_lengthen n _ h = cc

pub calls_within : (n : ℕ) → Within calls (extends n)
calls_within n = record { within = λ kind h. calls_lengthen n kind h }

-- ---- A level is a first operand of the next one, and what follows

level_forth : (l : Limits) (n : ℕ) (c : Context) (at : Span) (e : Expr) (d : ℕ) (gs : List Goal) (w : List Word) → n < 6 → Spells l (Of (Level n c at e d) ∷ gs) w → (y : Expr) × (dy : ℕ) × Spells l (Of (Level (n + 1) c at y dy) ∷ Of (Tail n c at y dy e d) ∷ gs) w
level_forth l n c at e d gs w h (expands _ (level n_0 c_0 at_0 y dy e_0 d_0 i) z) = (y, dy, z)
level_forth l n c at e d gs w h (expands _ (operand n_0 c_0 at_0 e_0 d_0 i) z) = absurd (omega arith)

pub on_level : {most : Limits} (n : ℕ) (c : Context) (from : List Word) → n < 6 → Passes most {X = Placed Expr} {Y = Placed Expr × (Expr × ℕ)} (extends n) (level_in n c) from (λ p. level_in (n + 1) c p.0 ++ tail_in n c p.0 p.1) from (λ p. record { at = p.0.at; tree = p.1.0; height = p.1.1 })
on_level n c from h = record {
  front = [];
  whole = refl;
  back = λ l i p gs w d. expands _ (level n c _ _ _ _ _ h) d;
  forth = λ l r gs w f s d. let m = level_forth l n c r.at r.tree r.height gs w h d in ((record { at = r.at; tree = m.0; height = m.1 }, (r.tree, r.height)), refl, m.2);
}

operand_forth : (l : Limits) (n : ℕ) (c : Context) (at : Span) (e : Expr) (d : ℕ) (gs : List Goal) (w : List Word) → 6 ≤ n → Spells l (Of (Level n c at e d) ∷ gs) w → Spells l (Of (Operand c at e d) ∷ gs) w
operand_forth l n c at e d gs w h (expands _ (level n_0 c_0 at_0 y dy e_0 d_0 i) z) = absurd (omega arith)
operand_forth l n c at e d gs w h (expands _ (operand n_0 c_0 at_0 e_0 d_0 i) z) = z

pub on_operand : {most : Limits} (n : ℕ) (c : Context) (from : List Word) → 6 ≤ n → Passes most {X = Placed Expr} {Y = Placed Expr} (extends n) (level_in n c) from (operand_in c) from (λ p. p)
on_operand n c from h = record {
  front = [];
  whole = refl;
  back = λ l i p gs w d. expands _ (operand n c _ _ _ h) d;
  forth = λ l r gs w f s d. (r, refl, operand_forth l n c r.at r.tree r.height gs w h d);
}

behind_first : (l : Limits) (n : ℕ) (c : Context) (at : Span) (y : Expr) (dy : ℕ) (e : Expr) (d : ℕ) (gs : List Goal) (t : Word) (w : List Word) → Follows l (extends n) gs → IsTrue (extends (n + 1) t.kind) → Spells l (Of (Tail n c at y dy e d) ∷ gs) (t ∷ w) → ⊥
behind_first l n c at y dy e d gs t w f h (expands _ (alone n_0 c_0 at_0 y_0 dy_0 e_0 d_0 q0 q1) z) = f t w ((tighter n (n + 1) (omega arith)).within t.kind h) z
behind_first l n c at y dy e d gs t w f h (expands _ (right n_0 c_0 at_0 y_0 dy_0 e_0 d_0 u op az r dr q0 q1 q2 q3 q4 q5 q6) (this z)) = let a : n + 1 ≤ level_of op = above (n + 1) t.kind q1 h in omega (arith, q2)
behind_first l n c at y dy e d gs t w f h (expands _ (left n_0 c_0 at_0 y_0 dy_0 e_0 d_0 u op az r dr q0 q1 q2 q3) (this z)) = let a : n + 1 ≤ level_of op = above (n + 1) t.kind q1 h in omega (arith, q2)

pub behind_level : (n : ℕ) (c : Context) → Behind {X = Placed Expr} {Y = Expr × ℕ} (extends (n + 1)) (extends n) (tail_in n c)
behind_level n c = record { behind = λ l p q gs f t w h d. behind_first l n c p.at p.tree p.height q.0 q.1 gs t w f h d }

pub tail_spelled : {most : Limits} (n : ℕ) (c : Context) → Spelled most {X = Placed Expr} {Y = Expr × ℕ} (tail_in n c) []
tail_spelled n c = record { tree = λ p. (p.tree, p.height); spelled = λ l i p gs w d. expands _ (alone n c _ _ _ _ _ refl refl) d }

-- ---- Behind a first operand

sums_bind : {op : Op} {n : ℕ} → level_of op ≡ n → 4 ≤ n → op ≢ o.Send
sums_bind {op = op} e h i = let a : level_of op ≡ 0 = ap level_of i in omega (arith, a)

alone_forth : (l : Limits) (n : ℕ) (c : Context) (at : Span) (y : Expr) (dy : ℕ) (e : Expr) (d : ℕ) (gs : List Goal) (rest w : List Word) → NoneFollows n c rest → SameHead w rest → Spells l (Of (Tail n c at y dy e d) ∷ gs) w → (e ≡ y) × (d ≡ dy) × Spells l gs w
alone_forth l n c at y dy e d gs rest w nf s (expands _ (alone n_0 c_0 at_0 y_0 dy_0 e_0 d_0 q0 q1) z) = (q0, q1, z)
alone_forth l n c at y dy e d gs _ w ended s (expands _ (right n_0 c_0 at_0 y_0 dy_0 e_0 d_0 u op az r dr q0 q1 q2 q3 q4 q5 q6) (this z)) = absurd s
alone_forth l n c at y dy e d gs _ w ended s (expands _ (left n_0 c_0 at_0 y_0 dy_0 e_0 d_0 u op az r dr q0 q1 q2 q3) (this z)) = absurd s
alone_forth l n c at y dy e d gs _ w (other j rest i) s (expands _ (right n_0 c_0 at_0 y_0 dy_0 e_0 d_0 u op az r dr q0 q1 q2 q3 q4 q5 q6) (this z)) = absurd (i.none op (ap (λ v. operator_of v.kind) (sym s) ∙ q1) q2 q3)
alone_forth l n c at y dy e d gs _ w (other j rest i) s (expands _ (left n_0 c_0 at_0 y_0 dy_0 e_0 d_0 u op az r dr q0 q1 q2 q3) (this z)) = absurd (i.none op (ap (λ v. operator_of v.kind) (sym s) ∙ q1) q2 (inr (sums_bind q2 q0)))

pub on_alone : {most : Limits} (n : ℕ) (c : Context) (y : Placed Expr) (rest : List Word) → NoneFollows n c rest → Passes most {X = Expr × ℕ} (extends n) (tail_in n c y) rest nothing rest (λ u. (y.tree, y.height))
on_alone n c y rest h = record {
  front = [];
  whole = refl;
  back = λ l i u gs w d. expands _ (alone n c _ _ _ _ _ refl refl) d;
  forth = λ l r gs w f s d. let m = alone_forth l n c y.at y.tree y.height r.0 r.1 gs rest w h s d in (tt, same_pair m.0 m.1, m.2);
}

abbrev placed_binary : Span → Op → Expr → Expr → Expr
placed_binary at op y z = x.Binary at op (y ∷ z ∷ [])

right_forth : (l : Limits) (n : ℕ) (c : Context) (at : Span) (y : Expr) (dy : ℕ) (e : Expr) (d : ℕ) (gs : List Goal) (j : Word) (w : List Word) (op : Op) → n < 4 → operator_of j.kind ≡ Some op → level_of op ≡ n → Follows l (extends n) gs → Spells l (Of (Tail n c at y dy e d) ∷ gs) (j ∷ w) →
    (z : Placed Expr) × (e ≡ placed_binary at op y z.tree) × (d ≡ max dy z.height + 1) × Spells l (Of (Level (right_of n) (under c) z.at z.tree z.height) ∷ gs) w
right_forth l n c at y dy e d gs j w op h i a f (expands _ (alone n_0 c_0 at_0 y_0 dy_0 e_0 d_0 q0 q1) z) = absurd (f j w (extends_with n j.kind i (omega (arith, a))) z)
right_forth l n c at y dy e d gs j w op h i a f (expands _ (right n_0 c_0 at_0 y_0 dy_0 e_0 d_0 u op_0 az r dr q0 q1 q2 q3 q4 q5 q6) (this z)) = (record { at = az; tree = r; height = dr }, q5 ∙ ap (λ v. placed_binary at v y r) (one_operator q1 i), q6, z)
right_forth l n c at y dy e d gs j w op h i a f (expands _ (left n_0 c_0 at_0 y_0 dy_0 e_0 d_0 u op_0 az r dr q0 q1 q2 q3) (this z)) = absurd (omega arith)

pub on_right : {most : Limits} (n : ℕ) (c : Context) (y : Placed Expr) (j : Word) (rest : List Word) (op : Op) → n < 4 → operator_of j.kind ≡ Some op → level_of op ≡ n → (c.mode ≡ InBody ⊎ op ≢ o.Send) → c.deep + y.height ≤ most.trees →
    Passes most {X = Expr × ℕ} {Y = Placed Expr} (extends n) (tail_in n c y) (j ∷ rest) (level_in (right_of n) (under c)) rest (λ z. (x.Binary y.at op (y.tree ∷ z.tree ∷ []), max y.height z.height + 1))
on_right n c y j rest op h i a m b = record {
  front = j ∷ [];
  whole = refl;
  back = λ l v z gs w d. let room : c.deep + y.height ≤ l.trees = omega (arith, v.trees) in expands _ (right n c _ _ _ _ _ j op _ _ _ h i a m room refl refl) (this d);
  forth = λ l r gs w f s d. let m = right_forth l n c y.at y.tree y.height r.0 r.1 gs j w op h i a f d in (m.0, same_pair m.1 m.2, m.3);
}

left_forth : (l : Limits) (n : ℕ) (c : Context) (at : Span) (y : Expr) (dy : ℕ) (e : Expr) (d : ℕ) (gs : List Goal) (j : Word) (w : List Word) (op : Op) → 4 ≤ n → operator_of j.kind ≡ Some op → level_of op ≡ n → Follows l (extends n) gs → Spells l (Of (Tail n c at y dy e d) ∷ gs) (j ∷ w) →
    (z : Placed Expr) × Spells l (Of (Level (n + 1) (under c) z.at z.tree z.height) ∷ Of (Tail n c at (placed_binary at op y z.tree) (max dy z.height + 1) e d) ∷ gs) w
left_forth l n c at y dy e d gs j w op h i a f (expands _ (alone n_0 c_0 at_0 y_0 dy_0 e_0 d_0 q0 q1) z) = absurd (f j w (extends_with n j.kind i (omega (arith, a))) z)
left_forth l n c at y dy e d gs j w op h i a f (expands _ (right n_0 c_0 at_0 y_0 dy_0 e_0 d_0 u op_0 az r dr q0 q1 q2 q3 q4 q5 q6) (this z)) = absurd (omega arith)
left_forth l n c at y dy e d gs j w op h i a f (expands _ (left n_0 c_0 at_0 y_0 dy_0 e_0 d_0 u op_0 az r dr q0 q1 q2 q3) (this z)) =
    let P : Op → Type 0 = λ v. Spells l (Of (Level (n + 1) (under c) az r dr) ∷ Of (Tail n c at (placed_binary at v y r) (max dy dr + 1) e d) ∷ gs) w in
    (record { at = az; tree = r; height = dr }, subst P (one_operator q1 i) z)

pub on_left : {most : Limits} (n : ℕ) (c : Context) (y : Placed Expr) (j : Word) (rest : List Word) (op : Op) → 4 ≤ n → operator_of j.kind ≡ Some op → level_of op ≡ n → c.deep + y.height ≤ most.trees →
    Passes most {X = Expr × ℕ} {Y = Placed Expr × (Expr × ℕ)} (extends n) (tail_in n c y) (j ∷ rest) (λ p. level_in (n + 1) (under c) p.0 ++ tail_in n c (record { at = y.at; tree = x.Binary y.at op (y.tree ∷ p.0.tree ∷ []); height = max y.height p.0.height + 1 }) p.1) rest (λ p. p.1)
on_left n c y j rest op h i a b = record {
  front = j ∷ [];
  whole = refl;
  back = λ l v p gs w d. let room : c.deep + y.height ≤ l.trees = omega (arith, v.trees) in expands _ (left n c _ _ _ _ _ j op _ _ _ h i a room) (this d);
  forth = λ l r gs w f s d. let m = left_forth l n c y.at y.tree y.height r.0 r.1 gs j w op h i a f d in ((m.0, r), refl, m.1);
}

-- what stands behind the right operand of a sum or a product
pub behind_right : (n : ℕ) (c : Context) (y : Placed Expr) (op : Op) → Behind {X = Placed Expr} {Y = Expr × ℕ} (extends (n + 1)) (extends n) (λ z. tail_in n c (record { at = y.at; tree = x.Binary y.at op (y.tree ∷ z.tree ∷ []); height = max y.height z.height + 1 }))
behind_right n c y op = record { behind = λ l p q gs f t w h d. behind_first l n c y.at (x.Binary y.at op (y.tree ∷ p.tree ∷ [])) (max y.height p.height + 1) q.0 q.1 gs t w f h d }

pub right_spelled : {most : Limits} (n : ℕ) (c : Context) (y : Placed Expr) (op : Op) → Spelled most {X = Placed Expr} {Y = Expr × ℕ} (λ z. tail_in n c (record { at = y.at; tree = x.Binary y.at op (y.tree ∷ z.tree ∷ []); height = max y.height z.height + 1 })) []
right_spelled n c y op = record { tree = λ p. (x.Binary y.at op (y.tree ∷ p.tree ∷ []), max y.height p.height + 1); spelled = λ l i p gs w d. expands _ (alone n c _ _ _ _ _ refl refl) d }
