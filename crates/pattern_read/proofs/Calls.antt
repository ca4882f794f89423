-- The laws of calls and their arguments.
use Rattle.std.proofs.Common.{◌≡◌, ℕ, ◌+◌, ◌≤◌, ◌<◌, max, false, IsTrue, List, [], ◌∷◌, ◌++◌, Some, refl, sym, ap, ◌∙◌, arith, ◌⊎◌, inl, inr}
use Rattle.erl_syntax.specs.declared.span.Span.{Span}
use Rattle.erl_syntax.specs.declared.token.TokenKind.{TokenKind}
use Rattle.erl_syntax.specs.declared.token.TokenKind.TheVariants as k
use Rattle.erl_syntax.specs.declared.expr.Expr.{Expr}
use Rattle.erl_syntax.specs.declared.expr.Expr.TheVariants as x
use Rattle.erl_syntax.specs.declared.expr.Prefix.{Prefix}
use Rattle.erl_syntax.specs.Word.{Word}
use Rattle.erl_syntax.specs.Operators.{prefix_of}
use Rattle.erl_syntax.specs.Grammar.{Context, under, inside, Limits, Goal, Mark, The, Of, Level, Tail, Operand, AfterAtom, Qualified, Exprs, MoreExprs, level, operand, prefix, atom, macro, tuple, list, case, receive, if_, common, variable, integer, character, string, bits, paren, call, no_call, unqualified, qualified, no_exprs, exprs, more_exprs, end_exprs, Spells, takes, begins, this, expands}
use Rattle.pattern_read.specs.declared.placed.Placed.{Placed}
use Rattle.pattern_read.specs.declared.fault.Cause.TheVariants.{Syntax, TooDeep}
use Rattle.pattern_read.specs.Reading.{Passes, IsRefused, Follows, SameHead, closed, nothing}
use Rattle.pattern_read.specs.Wanted.{calls, extends, begins_expr, level_in, after_atom_in, qualified_in, exprs_in, more_exprs_in, NoMark, no_mark_end, no_mark, Closes}
use Rattle.pattern_read.proofs.Passing.{Behind, Spelled}
use Rattle.pattern_read.proofs.Levels.{same_pair}
use Rattle.pattern_read.proofs.Operands.{some_place, deeper, deeper_wide, mark_word}

-- ---- How an expression begins

prefix_begins : (kind : TokenKind) (op : Prefix) → prefix_of kind ≡ Some op → IsTrue (begins_expr kind)
prefix_begins k.Plus op h = refl
prefix_begins k.Minus op h = refl
prefix_begins k.Bnot op h = refl
prefix_begins k.Not op h = refl
prefix_begins _ op h = cc

first_operand : (l : Limits) (c : Context) (at : Span) (e : Expr) (d : ℕ) (gs : List Goal) (j : Word) (w : List Word) → Spells l (Of (Operand c at e d) ∷ gs) (j ∷ w) → IsTrue (begins_expr j.kind)
first_operand l c at e d gs j w (expands _ (prefix c_0 at_0 e_0 d_0 t_0 op_0 ay_0 y_0 dy_0 q0_0 q0_1 q0_2 q0_3 q0_4) (this z)) = prefix_begins _ _ q0_0
first_operand l c at e d gs j w (expands _ (atom c_0 at_0 e_0 d_0 t_0 q0_0 q0_1) (this z)) = ap begins_expr q0_0
first_operand l c at e d gs j w (expands _ (macro c_0 at_0 e_0 d_0 t_0 q0_0 q0_1) (begins t kk ka z)) = ap begins_expr kk
first_operand l c at e d gs j w (expands _ (tuple c_0 at_0 e_0 d_0 ys_0 dys_0 q0_0 q0_1 q0_2 q0_3) (begins t kk ka z)) = ap begins_expr kk
first_operand l c at e d gs j w (expands _ (list c_0 at_0 e_0 d_0 q0_0 q0_1) (begins t kk ka z)) = ap begins_expr kk
first_operand l c at e d gs j w (expands _ (case c_0 at_0 e_0 d_0 ay_0 y_0 dy_0 alts_0 da_0 q0_0 q0_1 q0_2 q0_3 q0_4) (begins t kk ka z)) = ap begins_expr kk
first_operand l c at e d gs j w (expands _ (receive c_0 at_0 e_0 d_0 alts_0 da_0 q0_0 q0_1 q0_2 q0_3 q0_4) (begins t kk ka z)) = ap begins_expr kk
first_operand l c at e d gs j w (expands _ (if_ c_0 at_0 e_0 d_0 bs_0 db_0 q0_0 q0_1 q0_2 q0_3 q0_4) (begins t kk ka z)) = ap begins_expr kk
first_operand l c at e d gs j w (expands _ (common c_0 at_0 e_0 d_0) (expands _ (variable c_1 at_1 e_1 d_1 t_1 q1_0 q1_1 q1_2 q1_3) (this z))) = ap begins_expr q1_0
first_operand l c at e d gs j w (expands _ (common c_0 at_0 e_0 d_0) (expands _ (integer c_1 at_1 e_1 d_1 t_1 q1_0 q1_1 q1_2 q1_3) (this z))) = ap begins_expr q1_0
first_operand l c at e d gs j w (expands _ (common c_0 at_0 e_0 d_0) (expands _ (character c_1 at_1 e_1 d_1 t_1 q1_0 q1_1 q1_2 q1_3) (this z))) = ap begins_expr q1_0
first_operand l c at e d gs j w (expands _ (common c_0 at_0 e_0 d_0) (expands _ (string c_1 at_1 e_1 d_1 t_1 q1_0 q1_1 q1_2 q1_3 q1_4) (this z))) = ap begins_expr q1_1
first_operand l c at e d gs j w (expands _ (common c_0 at_0 e_0 d_0) (expands _ (bits c_1 at_1 e_1 d_1 q1_0 q1_1) (begins t kk ka z))) = ap begins_expr kk
first_operand l c at e d gs j w (expands _ (common c_0 at_0 e_0 d_0) (expands _ (paren c_1 at_1 e_1 d_1 ay_1 q1_0) (begins t kk ka z))) = ap begins_expr kk

operand_ends : (l : Limits) (c : Context) (at : Span) (e : Expr) (d : ℕ) (gs : List Goal) → Spells l (Of (Operand c at e d) ∷ gs) [] → ⊥
operand_ends l c at e d gs (expands _ (prefix c_0 at_0 e_0 d_0 t_0 op_0 ay_0 y_0 dy_0 q0_0 q0_1 q0_2 q0_3 q0_4) z) = elim z [ ]
operand_ends l c at e d gs (expands _ (atom c_0 at_0 e_0 d_0 t_0 q0_0 q0_1) z) = elim z [ ]
operand_ends l c at e d gs (expands _ (macro c_0 at_0 e_0 d_0 t_0 q0_0 q0_1) z) = elim z [ ]
operand_ends l c at e d gs (expands _ (tuple c_0 at_0 e_0 d_0 ys_0 dys_0 q0_0 q0_1 q0_2 q0_3) z) = elim z [ ]
operand_ends l c at e d gs (expands _ (list c_0 at_0 e_0 d_0 q0_0 q0_1) z) = elim z [ ]
operand_ends l c at e d gs (expands _ (case c_0 at_0 e_0 d_0 ay_0 y_0 dy_0 alts_0 da_0 q0_0 q0_1 q0_2 q0_3 q0_4) z) = elim z [ ]
operand_ends l c at e d gs (expands _ (receive c_0 at_0 e_0 d_0 alts_0 da_0 q0_0 q0_1 q0_2 q0_3 q0_4) z) = elim z [ ]
operand_ends l c at e d gs (expands _ (if_ c_0 at_0 e_0 d_0 bs_0 db_0 q0_0 q0_1 q0_2 q0_3 q0_4) z) = elim z [ ]
operand_ends l c at e d gs (expands _ (common c_0 at_0 e_0 d_0) (expands _ (variable c_1 at_1 e_1 d_1 t_1 q1_0 q1_1 q1_2 q1_3) z)) = elim z [ ]
operand_ends l c at e d gs (expands _ (common c_0 at_0 e_0 d_0) (expands _ (integer c_1 at_1 e_1 d_1 t_1 q1_0 q1_1 q1_2 q1_3) z)) = elim z [ ]
operand_ends l c at e d gs (expands _ (common c_0 at_0 e_0 d_0) (expands _ (character c_1 at_1 e_1 d_1 t_1 q1_0 q1_1 q1_2 q1_3) z)) = elim z [ ]
operand_ends l c at e d gs (expands _ (common c_0 at_0 e_0 d_0) (expands _ (string c_1 at_1 e_1 d_1 t_1 q1_0 q1_1 q1_2 q1_3 q1_4) z)) = elim z [ ]
operand_ends l c at e d gs (expands _ (common c_0 at_0 e_0 d_0) (expands _ (bits c_1 at_1 e_1 d_1 q1_0 q1_1) z)) = elim z [ ]
operand_ends l c at e d gs (expands _ (common c_0 at_0 e_0 d_0) (expands _ (paren c_1 at_1 e_1 d_1 ay_1 q1_0) z)) = elim z [ ]

pub first_level : (l : Limits) (n : ℕ) (c : Context) (at : Span) (e : Expr) (d : ℕ) (gs : List Goal) (j : Word) (w : List Word) → Spells l (Of (Level n c at e d) ∷ gs) (j ∷ w) → IsTrue (begins_expr j.kind)
first_level l n c at e d gs j w (expands _ (level n_0 c_0 at_0 y dy e_0 d_0 i) z) = first_level l (n + 1) c at y dy (Of (Tail n c at y dy e d) ∷ gs) j w z
first_level l n c at e d gs j w (expands _ (operand n_0 c_0 at_0 e_0 d_0 i) z) = first_operand l c at e d gs j w z

pub level_ends : (l : Limits) (n : ℕ) (c : Context) (at : Span) (e : Expr) (d : ℕ) (gs : List Goal) → Spells l (Of (Level n c at e d) ∷ gs) [] → ⊥
level_ends l n c at e d gs (expands _ (level n_0 c_0 at_0 y dy e_0 d_0 i) z) = level_ends l (n + 1) c at y dy (Of (Tail n c at y dy e d) ∷ gs) z
level_ends l n c at e d gs (expands _ (operand n_0 c_0 at_0 e_0 d_0 i) z) = operand_ends l c at e d gs z

-- ---- Behind an atom

call_forth : (l : Limits) (c : Context) (at : Span) (n : ℕ) (e : Expr) (d : ℕ) (gs : List Goal) (j : Word) (w : List Word) → j.kind ≡ k.LeftParen → Follows l calls gs → Spells l (Of (AfterAtom c at n e d) ∷ gs) (j ∷ w) →
    (c.open_ < l.brackets) × (r : List Expr × ℕ) × (e ≡ x.Call at [] n r.0) × (d ≡ r.1 + 1) × Spells l (Of (Exprs k.RightParen (inside (under c)) r.0 r.1) ∷ gs) w
call_forth l c at n e d gs j w h f (expands _ (call c_0 at_0 n_0 e_0 d_0 ys dys q0 q1 q2) (takes t kk z)) = (q0, (ys, dys), q1, q2, z)
call_forth l c at n e d gs j w h f (expands _ (no_call c_0 at_0 n_0 e_0 d_0) (expands _ (unqualified c_1 at_1 y_1 e_1 d_1 q0 q1) z)) = absurd (f j w (ap calls h) z)
call_forth l c at n e d gs j w h f (expands _ (no_call c_0 at_0 n_0 e_0 d_0) (expands _ (qualified c_1 at_1 y_1 e_1 d_1 t_1 ys_1 dys_1 q0 q1 q2 q3 q4) (takes t kk z))) = cc

pub on_call : {most : Limits} (c : Context) (at : Span) (n : ℕ) (j : Word) (rest : List Word) → j.kind ≡ k.LeftParen → c.open_ < most.brackets →
    Passes most {X = Expr × ℕ} {Y = List Expr × ℕ} calls (after_atom_in c at n) (j ∷ rest) (exprs_in k.RightParen (inside (under c))) rest (λ r. (x.Call at [] n r.0, r.1 + 1))
on_call c at n j rest h b = record {
  front = j ∷ [];
  whole = refl;
  back = λ l v r gs w d. let room : c.open_ < l.brackets = omega (arith, v.brackets) in expands _ (call c at n _ _ _ _ room refl refl) (takes j h d);
  forth = λ l r gs w f s d. let m = call_forth l c at n r.0 r.1 gs j w h f d in (m.1, same_pair m.2 m.3, m.4);
}

stops_call : (most : Limits) (c : Context) (at : Span) (n : ℕ) (j : Word) (rest : List Word) → j.kind ≡ k.LeftParen → most.brackets ≤ c.open_ → (l : Limits) → l.brackets ≡ most.brackets → (r : Expr × ℕ) (gs : List Goal) (w : List Word) → Follows l calls gs → SameHead w (j ∷ rest) → Spells l (after_atom_in c at n r ++ gs) w → ⊥
stops_call most c at n j rest h b l i r gs [] f s d = s
stops_call most c at n j rest h b l i r gs (t ∷ w) f s d = let m = call_forth l c at n r.0 r.1 gs t w (ap (λ v. v.kind) s ∙ h) f d in let a : c.open_ < l.brackets = m.0 in omega arith

pub call_too_deep : {most : Limits} (c : Context) (at : Span) (n : ℕ) (j : Word) (rest : List Word) → j.kind ≡ k.LeftParen → most.brackets ≤ c.open_ → IsRefused most {X = Expr × ℕ} calls (after_atom_in c at n) (j ∷ rest) (j ∷ rest) TooDeep
call_too_deep {most = most} c at n j rest h b = record {
  front = [];
  whole = refl;
  tree = (x.Atom at n, 1);
  more = [];
  goes_on = λ l v gs w d. expands _ (no_call c at n _ _) (expands _ (unqualified c at _ _ _ refl refl) d);
  stops = λ l i r gs w f s d. stops_call most c at n j rest h b l i.brackets r gs w f s d;
  excused = record {
    limits = deeper most 0 (c.open_ + 1);
    wide = deeper_wide most 0 (c.open_ + 1);
    allows = (refl, refl);
    first = j;
    behind = rest;
    begins = refl;
    tree = (x.Call at [] n [], 1);
    more = mark_word k.RightParen ∷ [];
    goes_on = λ gs w d. expands _ (call c at n _ _ [] 0 (omega arith) refl refl) (takes j h (expands _ (no_exprs k.RightParen (inside (under c)) 0 refl) (takes (mark_word k.RightParen) refl d)));
  };
}

no_call_forth : (l : Limits) (c : Context) (at : Span) (n : ℕ) (e : Expr) (d : ℕ) (gs : List Goal) (rest w : List Word) → NoMark k.LeftParen rest → SameHead w rest → Spells l (Of (AfterAtom c at n e d) ∷ gs) w → Spells l (Of (Qualified c at (x.Atom at n) e d) ∷ gs) w
no_call_forth l c at n e d gs rest w b s (expands _ (no_call c_0 at_0 n_0 e_0 d_0) z) = z
no_call_forth l c at n e d gs _ w no_mark_end s (expands _ (call c_0 at_0 n_0 e_0 d_0 ys dys q0 q1 q2) (takes t kk z)) = absurd s
no_call_forth l c at n e d gs _ w (no_mark j rest b) s (expands _ (call c_0 at_0 n_0 e_0 d_0 ys dys q0 q1 q2) (takes t kk z)) = absurd (b (ap (λ v. v.kind) (sym s) ∙ kk))

pub on_no_call : {most : Limits} (c : Context) (at : Span) (n : ℕ) (rest : List Word) → NoMark k.LeftParen rest → Passes most {X = Expr × ℕ} {Y = Expr × ℕ} calls (after_atom_in c at n) rest (qualified_in c at (x.Atom at n)) rest (λ r. r)
on_no_call c at n rest b = record {
  front = [];
  whole = refl;
  back = λ l v r gs w d. expands _ (no_call c at n _ _) d;
  forth = λ l r gs w f s d. (r, refl, no_call_forth l c at n r.0 r.1 gs rest w b s d);
}

-- ---- Behind a module's name

unqualified_forth : (l : Limits) (c : Context) (at : Span) (y e : Expr) (d : ℕ) (gs : List Goal) (rest w : List Word) → NoMark k.Colon rest → SameHead w rest → Spells l (Of (Qualified c at y e d) ∷ gs) w → (e ≡ y) × (d ≡ 1) × Spells l gs w
unqualified_forth l c at y e d gs rest w b s (expands _ (unqualified c_1 at_1 y_1 e_1 d_1 q0 q1) z) = (q0, q1, z)
unqualified_forth l c at y e d gs _ w no_mark_end s (expands _ (qualified c_1 at_1 y_1 e_1 d_1 t_1 ys_1 dys_1 q0 q1 q2 q3 q4) (takes t kk z)) = absurd s
unqualified_forth l c at y e d gs _ w (no_mark j rest b) s (expands _ (qualified c_1 at_1 y_1 e_1 d_1 t_1 ys_1 dys_1 q0 q1 q2 q3 q4) (takes t kk z)) = absurd (b (ap (λ v. v.kind) (sym s) ∙ kk))

pub on_unqualified : {most : Limits} (c : Context) (at : Span) (y : Expr) (rest : List Word) → NoMark k.Colon rest → Passes most {X = Expr × ℕ} calls (qualified_in c at y) rest nothing rest (λ u. (y, 1))
on_unqualified c at y rest b = record {
  front = [];
  whole = refl;
  back = λ l v u gs w d. expands _ (unqualified c at _ _ _ refl refl) d;
  forth = λ l r gs w f s d. let m = unqualified_forth l c at y r.0 r.1 gs rest w b s d in (tt, same_pair m.0 m.1, m.2);
}

-- what stands behind `:`
pub record Remote (l : Limits) (c : Context) (at : Span) (y e : Expr) (d : ℕ) (gs : List Goal) (w : List Word) : Type 0 where
  pub room : c.open_ < l.brackets
  pub deep : c.deep + 1 ≤ l.trees
  pub name : Word
  pub kind : name.kind ≡ k.Atom
  pub args : List Expr × ℕ
  pub tree : e ≡ x.Call at (y ∷ []) name.number args.0
  pub height : d ≡ max 1 args.1 + 1
  pub rest : Spells l (The name ∷ Mark k.LeftParen ∷ Of (Exprs k.RightParen (inside (under c)) args.0 args.1) ∷ gs) w

remote : (l : Limits) (c : Context) (at : Span) (y e : Expr) (d : ℕ) (gs : List Goal) (j : Word) (w : List Word) → j.kind ≡ k.Colon → Follows l calls gs → Spells l (Of (Qualified c at y e d) ∷ gs) (j ∷ w) → Remote l c at y e d gs w
remote l c at y e d gs j w h f (expands _ (unqualified c_1 at_1 y_1 e_1 d_1 q0 q1) z) = absurd (f j w (ap calls h) z)
remote l c at y e d gs j w h f (expands _ (qualified c_1 at_1 y_1 e_1 d_1 t_1 ys_1 dys_1 q0 q1 q2 q3 q4) (takes t kk z)) = record { room = q0; deep = q1; name = t_1; kind = q2; args = (ys_1, dys_1); tree = q3; height = q4; rest = z }

this_is : {l : Limits} {t : Word} {gs : List Goal} {j : Word} {w : List Word} → Spells l (The t ∷ gs) (j ∷ w) → (t ≡ j) × Spells l gs w
this_is (this z) = (refl, z)

takes_it : {l : Limits} {kind : TokenKind} {gs : List Goal} {j : Word} {w : List Word} → Spells l (Mark kind ∷ gs) (j ∷ w) → (j.kind ≡ kind) × Spells l gs w
takes_it (takes t h z) = (h, z)

qualified_forth : (l : Limits) (c : Context) (at : Span) (y e : Expr) (d : ℕ) (gs : List Goal) (j t p : Word) (w : List Word) → j.kind ≡ k.Colon → Follows l calls gs → Spells l (Of (Qualified c at y e d) ∷ gs) (j ∷ (t ∷ (p ∷ w))) →
    (r : List Expr × ℕ) × (e ≡ x.Call at (y ∷ []) t.number r.0) × (d ≡ max 1 r.1 + 1) × Spells l (Of (Exprs k.RightParen (inside (under c)) r.0 r.1) ∷ gs) w
qualified_forth l c at y e d gs j t p w h f z =
    let m = remote l c at y e d gs j (t ∷ (p ∷ w)) h f z in
    let a = this_is m.rest in
    let b = takes_it a.1 in
    (m.args, m.tree ∙ ap (λ v. x.Call at (y ∷ []) v.number m.args.0) a.0, m.height, b.1)

pub on_qualified : {most : Limits} (c : Context) (at : Span) (y : Expr) (j t p : Word) (rest : List Word) → j.kind ≡ k.Colon → t.kind ≡ k.Atom → p.kind ≡ k.LeftParen → c.open_ < most.brackets → c.deep + 1 ≤ most.trees →
    Passes most {X = Expr × ℕ} {Y = List Expr × ℕ} calls (qualified_in c at y) (j ∷ (t ∷ (p ∷ rest))) (exprs_in k.RightParen (inside (under c))) rest (λ r. (x.Call at (y ∷ []) t.number r.0, max 1 r.1 + 1))
on_qualified c at y j t p rest h i n b a = record {
  front = j ∷ (t ∷ (p ∷ []));
  whole = refl;
  back = λ l v r gs w d. let room : c.open_ < l.brackets = omega (arith, v.brackets) in let deep : c.deep + 1 ≤ l.trees = omega (arith, v.trees) in expands _ (qualified c at y _ _ t _ _ room deep i refl refl) (takes j h (this (takes p n d)));
  forth = λ l r gs w f s d. let m = qualified_forth l c at y r.0 r.1 gs j t p w h f d in (m.0, same_pair m.1 m.2, m.3);
}

abbrev atom_word : Word
atom_word = record { kind = k.Atom; at = some_place; number = 0; chars = [] }

atom_stops : {l : Limits} {t : Word} {gs : List Goal} (rest w : List Word) → t.kind ≡ k.Atom → NoMark k.Atom rest → SameHead w rest → Spells l (The t ∷ gs) w → ⊥
atom_stops _ w h no_mark_end s (this z) = s
atom_stops _ w h (no_mark j rest n) s (this z) = n (ap (λ v. v.kind) (sym s) ∙ h)

mark_stops_ : {l : Limits} {kind : TokenKind} {gs : List Goal} (rest w : List Word) → NoMark kind rest → SameHead w rest → Spells l (Mark kind ∷ gs) w → ⊥
mark_stops_ _ w no_mark_end s (takes t h z) = s
mark_stops_ _ w (no_mark j rest n) s (takes t h z) = n (ap (λ v. v.kind) (sym s) ∙ h)

-- no atom behind `:`
pub name_refused : {most : Limits} (c : Context) (at : Span) (y : Expr) (j : Word) (rest : List Word) → j.kind ≡ k.Colon → c.open_ < most.brackets → c.deep + 1 ≤ most.trees → NoMark k.Atom rest → IsRefused most {X = Expr × ℕ} calls (qualified_in c at y) (j ∷ rest) rest Syntax
name_refused c at y j rest h b a n = record {
  front = j ∷ [];
  whole = refl;
  tree = (x.Call at (y ∷ []) 0 [], 2);
  more = atom_word ∷ (mark_word k.LeftParen ∷ (mark_word k.RightParen ∷ []));
  goes_on = λ l v gs w d. let room : c.open_ < l.brackets = omega (arith, v.brackets) in let deep : c.deep + 1 ≤ l.trees = omega (arith, v.trees) in
      expands _ (qualified c at y _ _ atom_word [] 0 room deep refl refl refl) (takes j h (this (takes (mark_word k.LeftParen) refl (expands _ (no_exprs k.RightParen (inside (under c)) 0 refl) (takes (mark_word k.RightParen) refl d)))));
  stops = λ l i r gs w f s d. let m = remote l c at y r.0 r.1 gs j w h f d in atom_stops rest w m.kind n s m.rest;
  excused = tt;
}

-- no `(` behind the name
pub open_refused : {most : Limits} (c : Context) (at : Span) (y : Expr) (j t : Word) (rest : List Word) → j.kind ≡ k.Colon → t.kind ≡ k.Atom → c.open_ < most.brackets → c.deep + 1 ≤ most.trees → NoMark k.LeftParen rest → IsRefused most {X = Expr × ℕ} calls (qualified_in c at y) (j ∷ (t ∷ rest)) rest Syntax
open_refused c at y j t rest h e b a n = record {
  front = j ∷ (t ∷ []);
  whole = refl;
  tree = (x.Call at (y ∷ []) t.number [], 2);
  more = mark_word k.LeftParen ∷ (mark_word k.RightParen ∷ []);
  goes_on = λ l v gs w d. let room : c.open_ < l.brackets = omega (arith, v.brackets) in let deep : c.deep + 1 ≤ l.trees = omega (arith, v.trees) in
      expands _ (qualified c at y _ _ t [] 0 room deep e refl refl) (takes j h (this (takes (mark_word k.LeftParen) refl (expands _ (no_exprs k.RightParen (inside (under c)) 0 refl) (takes (mark_word k.RightParen) refl d)))));
  stops = λ l i r gs w f s d. let m = remote l c at y r.0 r.1 gs j (t ∷ w) h f d in mark_stops_ rest w n s (this_is m.rest).1;
  excused = tt;
}

stops_remote : (most : Limits) (c : Context) (at : Span) (y : Expr) (j : Word) (rest : List Word) → j.kind ≡ k.Colon → (most.brackets ≤ c.open_ ⊎ most.trees < c.deep + 1) → (l : Limits) → l.trees ≡ most.trees → l.brackets ≡ most.brackets → (r : Expr × ℕ) (gs : List Goal) (w : List Word) → Follows l calls gs → SameHead w (j ∷ rest) → Spells l (qualified_in c at y r ++ gs) w → ⊥
stops_remote most c at y j rest h b l i n r gs [] f s d = s
stops_remote most c at y j rest h (inl b) l i n r gs (t ∷ w) f s d = let m = remote l c at y r.0 r.1 gs t w (ap (λ v. v.kind) s ∙ h) f d in let a : c.open_ < l.brackets = m.room in omega arith
stops_remote most c at y j rest h (inr b) l i n r gs (t ∷ w) f s d = let m = remote l c at y r.0 r.1 gs t w (ap (λ v. v.kind) s ∙ h) f d in let a : c.deep + 1 ≤ l.trees = m.deep in omega arith

pub remote_too_deep : {most : Limits} (c : Context) (at : Span) (y : Expr) (j : Word) (rest : List Word) → j.kind ≡ k.Colon → (most.brackets ≤ c.open_ ⊎ most.trees < c.deep + 1) → IsRefused most {X = Expr × ℕ} calls (qualified_in c at y) (j ∷ rest) (j ∷ rest) TooDeep
remote_too_deep {most = most} c at y j rest h b = record {
  front = [];
  whole = refl;
  tree = (y, 1);
  more = [];
  goes_on = λ l v gs w d. expands _ (unqualified c at _ _ _ refl refl) d;
  stops = λ l i r gs w f s d. stops_remote most c at y j rest h b l i.trees i.brackets r gs w f s d;
  excused = record {
    limits = deeper most (c.deep + 1) (c.open_ + 1);
    wide = deeper_wide most (c.deep + 1) (c.open_ + 1);
    allows = (refl, refl);
    first = j;
    behind = rest;
    begins = refl;
    tree = (x.Call at (y ∷ []) 0 [], 2);
    more = atom_word ∷ (mark_word k.LeftParen ∷ (mark_word k.RightParen ∷ []));
    goes_on = λ gs w d. expands _ (qualified c at y _ _ atom_word [] 0 (omega arith) (omega arith) refl refl refl) (takes j h (this (takes (mark_word k.LeftParen) refl (expands _ (no_exprs k.RightParen (inside (under c)) 0 refl) (takes (mark_word k.RightParen) refl d)))));
  };
}

-- ---- Expressions up to a closing bracket

no_first : {kind close : TokenKind} → begins_expr close ≡ false → kind ≡ close → IsTrue (begins_expr kind) → ⊥
no_first n h f = let a : _ ≡ _ = ap begins_expr h in cc

end_forth : (l : Limits) (close : TokenKind) (c : Context) (ys : List Expr) (d : ℕ) (gs : List Goal) (j : Word) (w : List Word) → Closes close → j.kind ≡ close → Spells l (Of (Exprs close c ys d) ∷ gs) (j ∷ w) → (ys ≡ []) × (d ≡ 0) × Spells l gs w
end_forth l close c _ d gs j w n h (expands _ (no_exprs close_0 c_0 d_0 q0) (takes t kk z)) = (refl, q0, z)
end_forth l close c _ d gs j w n h (expands _ (exprs close_0 c_0 ay y dy ys dys d_0 q0 q1) z) = absurd (no_first n.begins h (first_level l 0 c ay y dy (Of (MoreExprs close c ys dys) ∷ gs) j w z))

pub on_no_exprs : {most : Limits} (close : TokenKind) (c : Context) (j : Word) (rest : List Word) → Closes close → j.kind ≡ close → Passes most {X = List Expr × ℕ} closed (exprs_in close c) (j ∷ rest) nothing rest (λ u. ([], 0))
on_no_exprs close c j rest n h = record {
  front = j ∷ [];
  whole = refl;
  back = λ l v u gs w d. expands _ (no_exprs close c 0 refl) (takes j h d);
  forth = λ l r gs w f s d. let m = end_forth l close c r.0 r.1 gs j w n h d in (tt, same_pair m.0 m.1, m.2);
}

-- a first expression, and more behind it
abbrev pub expr_and_more : TokenKind → Context → Placed Expr × (List Expr × ℕ) → List Goal
expr_and_more close c p = level_in 0 c p.0 ++ more_exprs_in close c p.1

abbrev pub with_more : Placed Expr × (List Expr × ℕ) → List Expr × ℕ
with_more p = (p.0.tree ∷ p.1.0, max p.0.height p.1.1)

exprs_forth : (l : Limits) (close : TokenKind) (c : Context) (ys : List Expr) (d : ℕ) (gs : List Goal) (rest w : List Word) → NoMark close rest → SameHead w rest → Spells l (Of (Exprs close c ys d) ∷ gs) w →
    (c.deep ≤ l.trees) × (p : Placed Expr × (List Expr × ℕ)) × (ys ≡ p.0.tree ∷ p.1.0) × (d ≡ max p.0.height p.1.1) × Spells l (expr_and_more close c p ++ gs) w
exprs_forth l close c _ d gs rest w n s (expands _ (exprs close_0 c_0 ay y dy ys dys d_0 q0 q1) z) = (q0, (record { at = ay; tree = y; height = dy }, (ys, dys)), refl, q1, z)
exprs_forth l close c _ d gs _ w no_mark_end s (expands _ (no_exprs close_0 c_0 d_0 q0) (takes t kk z)) = absurd s
exprs_forth l close c _ d gs _ w (no_mark j rest n) s (expands _ (no_exprs close_0 c_0 d_0 q0) (takes t kk z)) = absurd (n (ap (λ v. v.kind) (sym s) ∙ kk))

pub on_exprs : {most : Limits} (close : TokenKind) (c : Context) (rest : List Word) → c.deep ≤ most.trees → NoMark close rest → Passes most {X = List Expr × ℕ} {Y = Placed Expr × (List Expr × ℕ)} closed (exprs_in close c) rest (expr_and_more close c) rest with_more
on_exprs close c rest b n = record {
  front = [];
  whole = refl;
  back = λ l v p gs w d. let room : c.deep ≤ l.trees = omega (arith, v.trees) in expands _ (exprs close c _ _ _ _ _ _ room refl) d;
  forth = λ l r gs w f s d. let m = exprs_forth l close c r.0 r.1 gs rest w n s d in (m.1, same_pair m.2 m.3, m.4);
}

comma_forth : (l : Limits) (close : TokenKind) (c : Context) (ys : List Expr) (d : ℕ) (gs : List Goal) (j : Word) (w : List Word) → Closes close → j.kind ≡ k.Comma → Spells l (Of (MoreExprs close c ys d) ∷ gs) (j ∷ w) →
    (p : Placed Expr × (List Expr × ℕ)) × (ys ≡ p.0.tree ∷ p.1.0) × (d ≡ max p.0.height p.1.1) × Spells l (expr_and_more close c p ++ gs) w
comma_forth l close c _ d gs j w n h (expands _ (more_exprs close_0 c_0 ay y dy ys dys d_0 q0) (takes t kk z)) = ((record { at = ay; tree = y; height = dy }, (ys, dys)), refl, q0, z)
comma_forth l close c _ d gs j w n h (expands _ (end_exprs close_0 c_0 d_0 q0) (takes t kk z)) = absurd (n.comma (sym kk ∙ h))

pub on_comma : {most : Limits} (close : TokenKind) (c : Context) (j : Word) (rest : List Word) → Closes close → j.kind ≡ k.Comma → Passes most {X = List Expr × ℕ} {Y = Placed Expr × (List Expr × ℕ)} closed (more_exprs_in close c) (j ∷ rest) (expr_and_more close c) rest with_more
on_comma close c j rest n h = record {
  front = j ∷ [];
  whole = refl;
  back = λ l v p gs w d. expands _ (more_exprs close c _ _ _ _ _ _ refl) (takes j h d);
  forth = λ l r gs w f s d. let m = comma_forth l close c r.0 r.1 gs j w n h d in (m.0, same_pair m.1 m.2, m.3);
}

close_forth : (l : Limits) (close : TokenKind) (c : Context) (ys : List Expr) (d : ℕ) (gs : List Goal) (j : Word) (w : List Word) → Closes close → j.kind ≡ close → Spells l (Of (MoreExprs close c ys d) ∷ gs) (j ∷ w) → (ys ≡ []) × (d ≡ 0) × Spells l gs w
close_forth l close c _ d gs j w n h (expands _ (more_exprs close_0 c_0 ay y dy ys dys d_0 q0) (takes t kk z)) = absurd (n.comma (sym h ∙ kk))
close_forth l close c _ d gs j w n h (expands _ (end_exprs close_0 c_0 d_0 q0) (takes t kk z)) = (refl, q0, z)

pub on_end : {most : Limits} (close : TokenKind) (c : Context) (j : Word) (rest : List Word) → Closes close → j.kind ≡ close → Passes most {X = List Expr × ℕ} closed (more_exprs_in close c) (j ∷ rest) nothing rest (λ u. ([], 0))
on_end close c j rest n h = record {
  front = j ∷ [];
  whole = refl;
  back = λ l v u gs w d. expands _ (end_exprs close c 0 refl) (takes j h d);
  forth = λ l r gs w f s d. let m = close_forth l close c r.0 r.1 gs j w n h d in (tt, same_pair m.0 m.1, m.2);
}

more_stops : (l : Limits) (close : TokenKind) (c : Context) (ys : List Expr) (d : ℕ) (gs : List Goal) (rest w : List Word) → NoMark k.Comma rest → NoMark close rest → SameHead w rest → Spells l (Of (MoreExprs close c ys d) ∷ gs) w → ⊥
more_stops l close c _ d gs _ w no_mark_end b s (expands _ (more_exprs close_0 c_0 ay y dy ys dys d_0 q0) (takes t kk z)) = s
more_stops l close c _ d gs _ w (no_mark j rest a) b s (expands _ (more_exprs close_0 c_0 ay y dy ys dys d_0 q0) (takes t kk z)) = a (ap (λ v. v.kind) (sym s) ∙ kk)
more_stops l close c _ d gs _ w a no_mark_end s (expands _ (end_exprs close_0 c_0 d_0 q0) (takes t kk z)) = s
more_stops l close c _ d gs _ w a (no_mark j rest b) s (expands _ (end_exprs close_0 c_0 d_0 q0) (takes t kk z)) = b (ap (λ v. v.kind) (sym s) ∙ kk)

pub more_refused : {most : Limits} (close : TokenKind) (c : Context) (rest : List Word) → NoMark k.Comma rest → NoMark close rest → IsRefused most {X = List Expr × ℕ} closed (more_exprs_in close c) rest rest Syntax
more_refused close c rest a b = record {
  front = [];
  whole = refl;
  tree = ([], 0);
  more = mark_word close ∷ [];
  goes_on = λ l v gs w d. expands _ (end_exprs close c 0 refl) (takes (mark_word close) refl d);
  stops = λ l i r gs w f s d. more_stops l close c r.0 r.1 gs rest w a b s d;
  excused = tt;
}

more_lengthens : (l : Limits) (close : TokenKind) (c : Context) (ys : List Expr) (d : ℕ) (gs : List Goal) (t : Word) (w : List Word) → Closes close → IsTrue (extends 0 t.kind) → Spells l (Of (MoreExprs close c ys d) ∷ gs) (t ∷ w) → ⊥
more_lengthens l close c _ d gs j w n h (expands _ (more_exprs close_0 c_0 ay y dy ys dys d_0 q0) (takes t kk z)) = let a : extends 0 j.kind ≡ false = ap (extends 0) kk in cc
more_lengthens l close c _ d gs j w n h (expands _ (end_exprs close_0 c_0 d_0 q0) (takes t kk z)) = let a : extends 0 j.kind ≡ false = ap (extends 0) kk ∙ n.extends in cc

pub behind_expr : (close : TokenKind) (c : Context) → Closes close → Behind {X = Placed Expr} {Y = List Expr × ℕ} (extends 0) closed (λ p. more_exprs_in close c)
behind_expr close c n = record { behind = λ l p q gs f t w h d. more_lengthens l close c q.0 q.1 gs t w n h d }

pub more_spelled : {most : Limits} (close : TokenKind) (c : Context) → Spelled most {X = Placed Expr} {Y = List Expr × ℕ} (λ p. more_exprs_in close c) (mark_word close ∷ [])
more_spelled close c = record { tree = λ p. ([], 0); spelled = λ l v p gs w d. expands _ (end_exprs close c 0 refl) (takes (mark_word close) refl d) }
