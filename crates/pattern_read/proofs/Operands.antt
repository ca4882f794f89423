-- The laws of operands: what each token does where an operand is wanted.
use Rattle.std.proofs.Common.{zero, inl, inr, ◌≡◌, ℕ, suc, ◌+◌, ◌≤◌, ◌<◌, Bool, false, IsTrue, List, [], ◌∷◌, ◌++◌, drop, Option, Some, refl, sym, ap, subst, ◌∙◌, arith, pos}
use Rattle.std.proofs.lemmas.Bool.{cases_lt}
use Rattle.erl_syntax.specs.declared.span.Span.{Span}
use Rattle.erl_syntax.specs.declared.token.TokenKind.{TokenKind}
use Rattle.erl_syntax.specs.declared.token.TokenKind.TheVariants as k
use Rattle.erl_syntax.specs.declared.expr.Expr.{Expr}
use Rattle.erl_syntax.specs.declared.expr.Expr.TheVariants as x
use Rattle.erl_syntax.specs.declared.expr.Prefix.{Prefix}
use Rattle.erl_syntax.specs.Word.{Word}
use Rattle.erl_syntax.specs.Operators.{prefix_of}
use Rattle.erl_syntax.specs.Names.{module_macro}
use Rattle.erl_syntax.specs.Grammar.{Mode, InBody, InSize, Context, under, inside, Limits, Goal, Mark, The, Of, Level, Tail, Operand, AfterAtom, Qualified, level, operand, alone, prefix, atom, macro, tuple, list, case, receive, if_, common, variable, integer, character, string, bits, paren, unqualified, Spells, takes, begins, this, expands}
use Rattle.pattern_read.specs.declared.placed.Placed.{Placed}
use Rattle.pattern_read.specs.declared.fault.Cause.TheVariants.{Syntax, TooDeep}
use Rattle.pattern_read.specs.Reading.{Passes, IsRefused, IsWide, SameHead, closed, nothing}
use Rattle.pattern_read.specs.Wanted.{calls, level_in, operand_in, after_atom_in, qualified_in, mark_in, IsAt, NoMark, no_mark_end, no_mark, NoModule, no_word, no_module, NoSize, at_end, at_other}
use Rattle.pattern_read.proofs.Passing.{Behind, Spelled}
use Rattle.pattern_read.proofs.Levels.{same_placed, no_prefix}
use Rattle.pattern_read.specs.Cursor.{Readable}

one_prefix : {found : Option Prefix} {p q : Prefix} → found ≡ Some p → found ≡ Some q → p ≡ q
one_prefix a b = cc

variable_forth : (l : Limits) (c : Context) (at : Span) (e : Expr) (d : ℕ) (gs : List Goal) (j : Word) (w : List Word) → j.kind ≡ k.Variable → Spells l (Of (Operand c at e d) ∷ gs) (j ∷ w) → (at ≡ j.at) × (e ≡ x.Var j.at j.chars) × (d ≡ 1) × Spells l gs w
variable_forth l c at e d gs j w h (expands _ (prefix c_0 at_0 e_0 d_0 t_0 op_0 ay_0 y_0 dy_0 q0_0 q0_1 q0_2 q0_3 q0_4) (this z)) = absurd (no_prefix (ap prefix_of h) q0_0)
variable_forth l c at e d gs j w h (expands _ (atom c_0 at_0 e_0 d_0 t_0 q0_0 q0_1) (this z)) = cc
variable_forth l c at e d gs j w h (expands _ (macro c_0 at_0 e_0 d_0 t_0 q0_0 q0_1) (begins t kk ka z)) = cc
variable_forth l c at e d gs j w h (expands _ (tuple c_0 at_0 e_0 d_0 ys_0 dys_0 q0_0 q0_1 q0_2 q0_3) (begins t kk ka z)) = cc
variable_forth l c at e d gs j w h (expands _ (list c_0 at_0 e_0 d_0 q0_0 q0_1) (begins t kk ka z)) = cc
variable_forth l c at e d gs j w h (expands _ (case c_0 at_0 e_0 d_0 ay_0 y_0 dy_0 alts_0 da_0 q0_0 q0_1 q0_2 q0_3 q0_4) (begins t kk ka z)) = cc
variable_forth l c at e d gs j w h (expands _ (receive c_0 at_0 e_0 d_0 alts_0 da_0 q0_0 q0_1 q0_2 q0_3 q0_4) (begins t kk ka z)) = cc
variable_forth l c at e d gs j w h (expands _ (if_ c_0 at_0 e_0 d_0 bs_0 db_0 q0_0 q0_1 q0_2 q0_3 q0_4) (begins t kk ka z)) = cc
variable_forth l c at e d gs j w h (expands _ (common c_0 at_0 e_0 d_0) (expands _ (variable c_1 at_1 e_1 d_1 t_1 q1_0 q1_1 q1_2 q1_3) (this z))) = (q1_1, q1_2 ∙ ap (λ v. x.Var v j.chars) q1_1, q1_3, z)
variable_forth l c at e d gs j w h (expands _ (common c_0 at_0 e_0 d_0) (expands _ (integer c_1 at_1 e_1 d_1 t_1 q1_0 q1_1 q1_2 q1_3) (this z))) = cc
variable_forth l c at e d gs j w h (expands _ (common c_0 at_0 e_0 d_0) (expands _ (character c_1 at_1 e_1 d_1 t_1 q1_0 q1_1 q1_2 q1_3) (this z))) = cc
variable_forth l c at e d gs j w h (expands _ (common c_0 at_0 e_0 d_0) (expands _ (string c_1 at_1 e_1 d_1 t_1 q1_0 q1_1 q1_2 q1_3 q1_4) (this z))) = cc
variable_forth l c at e d gs j w h (expands _ (common c_0 at_0 e_0 d_0) (expands _ (bits c_1 at_1 e_1 d_1 q1_0 q1_1) (begins t kk ka z))) = cc
variable_forth l c at e d gs j w h (expands _ (common c_0 at_0 e_0 d_0) (expands _ (paren c_1 at_1 e_1 d_1 ay_1 q1_0) (begins t kk ka z))) = cc

pub on_variable : {most : Limits} (c : Context) (j : Word) (rest : List Word) → j.kind ≡ k.Variable → Passes most {X = Placed Expr} calls (operand_in c) (j ∷ rest) nothing rest (λ u. record { at = j.at; tree = x.Var j.at j.chars; height = 1 })
on_variable c j rest h = record {
  front = j ∷ [];
  whole = refl;
  back = λ l i u gs w d. expands _ (common c _ _ _) (expands _ (variable c _ _ _ j h refl refl refl) (this d));
  forth = λ l r gs w f s d. let m = variable_forth l c r.at r.tree r.height gs j w h d in (tt, same_placed m.0 m.1 m.2, m.3);
}

integer_forth : (l : Limits) (c : Context) (at : Span) (e : Expr) (d : ℕ) (gs : List Goal) (j : Word) (w : List Word) → j.kind ≡ k.Integer → Spells l (Of (Operand c at e d) ∷ gs) (j ∷ w) → (at ≡ j.at) × (e ≡ x.Int j.at (pos j.number)) × (d ≡ 1) × Spells l gs w
integer_forth l c at e d gs j w h (expands _ (prefix c_0 at_0 e_0 d_0 t_0 op_0 ay_0 y_0 dy_0 q0_0 q0_1 q0_2 q0_3 q0_4) (this z)) = absurd (no_prefix (ap prefix_of h) q0_0)
integer_forth l c at e d gs j w h (expands _ (atom c_0 at_0 e_0 d_0 t_0 q0_0 q0_1) (this z)) = cc
integer_forth l c at e d gs j w h (expands _ (macro c_0 at_0 e_0 d_0 t_0 q0_0 q0_1) (begins t kk ka z)) = cc
integer_forth l c at e d gs j w h (expands _ (tuple c_0 at_0 e_0 d_0 ys_0 dys_0 q0_0 q0_1 q0_2 q0_3) (begins t kk ka z)) = cc
integer_forth l c at e d gs j w h (expands _ (list c_0 at_0 e_0 d_0 q0_0 q0_1) (begins t kk ka z)) = cc
integer_forth l c at e d gs j w h (expands _ (case c_0 at_0 e_0 d_0 ay_0 y_0 dy_0 alts_0 da_0 q0_0 q0_1 q0_2 q0_3 q0_4) (begins t kk ka z)) = cc
integer_forth l c at e d gs j w h (expands _ (receive c_0 at_0 e_0 d_0 alts_0 da_0 q0_0 q0_1 q0_2 q0_3 q0_4) (begins t kk ka z)) = cc
integer_forth l c at e d gs j w h (expands _ (if_ c_0 at_0 e_0 d_0 bs_0 db_0 q0_0 q0_1 q0_2 q0_3 q0_4) (begins t kk ka z)) = cc
integer_forth l c at e d gs j w h (expands _ (common c_0 at_0 e_0 d_0) (expands _ (variable c_1 at_1 e_1 d_1 t_1 q1_0 q1_1 q1_2 q1_3) (this z))) = cc
integer_forth l c at e d gs j w h (expands _ (common c_0 at_0 e_0 d_0) (expands _ (integer c_1 at_1 e_1 d_1 t_1 q1_0 q1_1 q1_2 q1_3) (this z))) = (q1_1, q1_2 ∙ ap (λ v. x.Int v (pos j.number)) q1_1, q1_3, z)
integer_forth l c at e d gs j w h (expands _ (common c_0 at_0 e_0 d_0) (expands _ (character c_1 at_1 e_1 d_1 t_1 q1_0 q1_1 q1_2 q1_3) (this z))) = cc
integer_forth l c at e d gs j w h (expands _ (common c_0 at_0 e_0 d_0) (expands _ (string c_1 at_1 e_1 d_1 t_1 q1_0 q1_1 q1_2 q1_3 q1_4) (this z))) = cc
integer_forth l c at e d gs j w h (expands _ (common c_0 at_0 e_0 d_0) (expands _ (bits c_1 at_1 e_1 d_1 q1_0 q1_1) (begins t kk ka z))) = cc
integer_forth l c at e d gs j w h (expands _ (common c_0 at_0 e_0 d_0) (expands _ (paren c_1 at_1 e_1 d_1 ay_1 q1_0) (begins t kk ka z))) = cc

pub on_integer : {most : Limits} (c : Context) (j : Word) (rest : List Word) → j.kind ≡ k.Integer → Passes most {X = Placed Expr} calls (operand_in c) (j ∷ rest) nothing rest (λ u. record { at = j.at; tree = x.Int j.at (pos j.number); height = 1 })
on_integer c j rest h = record {
  front = j ∷ [];
  whole = refl;
  back = λ l i u gs w d. expands _ (common c _ _ _) (expands _ (integer c _ _ _ j h refl refl refl) (this d));
  forth = λ l r gs w f s d. let m = integer_forth l c r.at r.tree r.height gs j w h d in (tt, same_placed m.0 m.1 m.2, m.3);
}

character_forth : (l : Limits) (c : Context) (at : Span) (e : Expr) (d : ℕ) (gs : List Goal) (j : Word) (w : List Word) → j.kind ≡ k.Character → Spells l (Of (Operand c at e d) ∷ gs) (j ∷ w) → (at ≡ j.at) × (e ≡ x.Char j.at j.number) × (d ≡ 1) × Spells l gs w
character_forth l c at e d gs j w h (expands _ (prefix c_0 at_0 e_0 d_0 t_0 op_0 ay_0 y_0 dy_0 q0_0 q0_1 q0_2 q0_3 q0_4) (this z)) = absurd (no_prefix (ap prefix_of h) q0_0)
character_forth l c at e d gs j w h (expands _ (atom c_0 at_0 e_0 d_0 t_0 q0_0 q0_1) (this z)) = cc
character_forth l c at e d gs j w h (expands _ (macro c_0 at_0 e_0 d_0 t_0 q0_0 q0_1) (begins t kk ka z)) = cc
character_forth l c at e d gs j w h (expands _ (tuple c_0 at_0 e_0 d_0 ys_0 dys_0 q0_0 q0_1 q0_2 q0_3) (begins t kk ka z)) = cc
character_forth l c at e d gs j w h (expands _ (list c_0 at_0 e_0 d_0 q0_0 q0_1) (begins t kk ka z)) = cc
character_forth l c at e d gs j w h (expands _ (case c_0 at_0 e_0 d_0 ay_0 y_0 dy_0 alts_0 da_0 q0_0 q0_1 q0_2 q0_3 q0_4) (begins t kk ka z)) = cc
character_forth l c at e d gs j w h (expands _ (receive c_0 at_0 e_0 d_0 alts_0 da_0 q0_0 q0_1 q0_2 q0_3 q0_4) (begins t kk ka z)) = cc
character_forth l c at e d gs j w h (expands _ (if_ c_0 at_0 e_0 d_0 bs_0 db_0 q0_0 q0_1 q0_2 q0_3 q0_4) (begins t kk ka z)) = cc
character_forth l c at e d gs j w h (expands _ (common c_0 at_0 e_0 d_0) (expands _ (variable c_1 at_1 e_1 d_1 t_1 q1_0 q1_1 q1_2 q1_3) (this z))) = cc
character_forth l c at e d gs j w h (expands _ (common c_0 at_0 e_0 d_0) (expands _ (integer c_1 at_1 e_1 d_1 t_1 q1_0 q1_1 q1_2 q1_3) (this z))) = cc
character_forth l c at e d gs j w h (expands _ (common c_0 at_0 e_0 d_0) (expands _ (character c_1 at_1 e_1 d_1 t_1 q1_0 q1_1 q1_2 q1_3) (this z))) = (q1_1, q1_2 ∙ ap (λ v. x.Char v j.number) q1_1, q1_3, z)
character_forth l c at e d gs j w h (expands _ (common c_0 at_0 e_0 d_0) (expands _ (string c_1 at_1 e_1 d_1 t_1 q1_0 q1_1 q1_2 q1_3 q1_4) (this z))) = cc
character_forth l c at e d gs j w h (expands _ (common c_0 at_0 e_0 d_0) (expands _ (bits c_1 at_1 e_1 d_1 q1_0 q1_1) (begins t kk ka z))) = cc
character_forth l c at e d gs j w h (expands _ (common c_0 at_0 e_0 d_0) (expands _ (paren c_1 at_1 e_1 d_1 ay_1 q1_0) (begins t kk ka z))) = cc

pub on_character : {most : Limits} (c : Context) (j : Word) (rest : List Word) → j.kind ≡ k.Character → Passes most {X = Placed Expr} calls (operand_in c) (j ∷ rest) nothing rest (λ u. record { at = j.at; tree = x.Char j.at j.number; height = 1 })
on_character c j rest h = record {
  front = j ∷ [];
  whole = refl;
  back = λ l i u gs w d. expands _ (common c _ _ _) (expands _ (character c _ _ _ j h refl refl refl) (this d));
  forth = λ l r gs w f s d. let m = character_forth l c r.at r.tree r.height gs j w h d in (tt, same_placed m.0 m.1 m.2, m.3);
}

atom_forth : (l : Limits) (c : Context) (at : Span) (e : Expr) (d : ℕ) (gs : List Goal) (j : Word) (w : List Word) → j.kind ≡ k.Atom → Spells l (Of (Operand c at e d) ∷ gs) (j ∷ w) → (at ≡ j.at) × Spells l (Of (AfterAtom c j.at j.number e d) ∷ gs) w
atom_forth l c at e d gs j w h (expands _ (prefix c_0 at_0 e_0 d_0 t_0 op_0 ay_0 y_0 dy_0 q0_0 q0_1 q0_2 q0_3 q0_4) (this z)) = absurd (no_prefix (ap prefix_of h) q0_0)
atom_forth l c at e d gs j w h (expands _ (atom c_0 at_0 e_0 d_0 t_0 q0_0 q0_1) (this z)) = let P : Span → Type 0 = λ v. Spells l (Of (AfterAtom c v j.number e d) ∷ gs) w in (q0_1, subst P q0_1 z)
atom_forth l c at e d gs j w h (expands _ (macro c_0 at_0 e_0 d_0 t_0 q0_0 q0_1) (begins t kk ka z)) = cc
atom_forth l c at e d gs j w h (expands _ (tuple c_0 at_0 e_0 d_0 ys_0 dys_0 q0_0 q0_1 q0_2 q0_3) (begins t kk ka z)) = cc
atom_forth l c at e d gs j w h (expands _ (list c_0 at_0 e_0 d_0 q0_0 q0_1) (begins t kk ka z)) = cc
atom_forth l c at e d gs j w h (expands _ (case c_0 at_0 e_0 d_0 ay_0 y_0 dy_0 alts_0 da_0 q0_0 q0_1 q0_2 q0_3 q0_4) (begins t kk ka z)) = cc
atom_forth l c at e d gs j w h (expands _ (receive c_0 at_0 e_0 d_0 alts_0 da_0 q0_0 q0_1 q0_2 q0_3 q0_4) (begins t kk ka z)) = cc
atom_forth l c at e d gs j w h (expands _ (if_ c_0 at_0 e_0 d_0 bs_0 db_0 q0_0 q0_1 q0_2 q0_3 q0_4) (begins t kk ka z)) = cc
atom_forth l c at e d gs j w h (expands _ (common c_0 at_0 e_0 d_0) (expands _ (variable c_1 at_1 e_1 d_1 t_1 q1_0 q1_1 q1_2 q1_3) (this z))) = cc
atom_forth l c at e d gs j w h (expands _ (common c_0 at_0 e_0 d_0) (expands _ (integer c_1 at_1 e_1 d_1 t_1 q1_0 q1_1 q1_2 q1_3) (this z))) = cc
atom_forth l c at e d gs j w h (expands _ (common c_0 at_0 e_0 d_0) (expands _ (character c_1 at_1 e_1 d_1 t_1 q1_0 q1_1 q1_2 q1_3) (this z))) = cc
atom_forth l c at e d gs j w h (expands _ (common c_0 at_0 e_0 d_0) (expands _ (string c_1 at_1 e_1 d_1 t_1 q1_0 q1_1 q1_2 q1_3 q1_4) (this z))) = cc
atom_forth l c at e d gs j w h (expands _ (common c_0 at_0 e_0 d_0) (expands _ (bits c_1 at_1 e_1 d_1 q1_0 q1_1) (begins t kk ka z))) = cc
atom_forth l c at e d gs j w h (expands _ (common c_0 at_0 e_0 d_0) (expands _ (paren c_1 at_1 e_1 d_1 ay_1 q1_0) (begins t kk ka z))) = cc

pub on_atom : {most : Limits} (c : Context) (j : Word) (rest : List Word) → j.kind ≡ k.Atom → Passes most {X = Placed Expr} {Y = Expr × ℕ} calls (operand_in c) (j ∷ rest) (after_atom_in c j.at j.number) rest (λ r. record { at = j.at; tree = r.0; height = r.1 })
on_atom c j rest h = record {
  front = j ∷ [];
  whole = refl;
  back = λ l i u gs w d. expands _ (atom c _ _ _ j h refl) (this d);
  forth = λ l r gs w f s d. let m = atom_forth l c r.at r.tree r.height gs j w h d in ((r.tree, r.height), same_placed m.0 refl refl, m.1);
}

prefix_forth : (l : Limits) (c : Context) (at : Span) (e : Expr) (d : ℕ) (gs : List Goal) (j : Word) (w : List Word) (op : Prefix) → prefix_of j.kind ≡ Some op → Spells l (Of (Operand c at e d) ∷ gs) (j ∷ w) → (at ≡ j.at) × (y : Placed Expr) × (e ≡ x.Unary j.at op (y.tree ∷ [])) × (d ≡ y.height + 1) × Spells l (Of (Operand (under c) y.at y.tree y.height) ∷ gs) w
prefix_forth l c at e d gs j w op h (expands _ (prefix c_0 at_0 e_0 d_0 t_0 op_0 ay_0 y_0 dy_0 q0_0 q0_1 q0_2 q0_3 q0_4) (this z)) = (q0_1, record { at = ay_0; tree = y_0; height = dy_0 }, q0_3 ∙ ap (λ v. x.Unary v op_0 (y_0 ∷ [])) q0_1 ∙ ap (λ v. x.Unary j.at v (y_0 ∷ [])) (one_prefix q0_0 h), q0_4, z)
prefix_forth l c at e d gs j w op h (expands _ (atom c_0 at_0 e_0 d_0 t_0 q0_0 q0_1) (this z)) = absurd (no_prefix (ap prefix_of q0_0) h)
prefix_forth l c at e d gs j w op h (expands _ (macro c_0 at_0 e_0 d_0 t_0 q0_0 q0_1) (begins t kk ka z)) = absurd (no_prefix (ap prefix_of kk) h)
prefix_forth l c at e d gs j w op h (expands _ (tuple c_0 at_0 e_0 d_0 ys_0 dys_0 q0_0 q0_1 q0_2 q0_3) (begins t kk ka z)) = absurd (no_prefix (ap prefix_of kk) h)
prefix_forth l c at e d gs j w op h (expands _ (list c_0 at_0 e_0 d_0 q0_0 q0_1) (begins t kk ka z)) = absurd (no_prefix (ap prefix_of kk) h)
prefix_forth l c at e d gs j w op h (expands _ (case c_0 at_0 e_0 d_0 ay_0 y_0 dy_0 alts_0 da_0 q0_0 q0_1 q0_2 q0_3 q0_4) (begins t kk ka z)) = absurd (no_prefix (ap prefix_of kk) h)
prefix_forth l c at e d gs j w op h (expands _ (receive c_0 at_0 e_0 d_0 alts_0 da_0 q0_0 q0_1 q0_2 q0_3 q0_4) (begins t kk ka z)) = absurd (no_prefix (ap prefix_of kk) h)
prefix_forth l c at e d gs j w op h (expands _ (if_ c_0 at_0 e_0 d_0 bs_0 db_0 q0_0 q0_1 q0_2 q0_3 q0_4) (begins t kk ka z)) = absurd (no_prefix (ap prefix_of kk) h)
prefix_forth l c at e d gs j w op h (expands _ (common c_0 at_0 e_0 d_0) (expands _ (variable c_1 at_1 e_1 d_1 t_1 q1_0 q1_1 q1_2 q1_3) (this z))) = absurd (no_prefix (ap prefix_of q1_0) h)
prefix_forth l c at e d gs j w op h (expands _ (common c_0 at_0 e_0 d_0) (expands _ (integer c_1 at_1 e_1 d_1 t_1 q1_0 q1_1 q1_2 q1_3) (this z))) = absurd (no_prefix (ap prefix_of q1_0) h)
prefix_forth l c at e d gs j w op h (expands _ (common c_0 at_0 e_0 d_0) (expands _ (character c_1 at_1 e_1 d_1 t_1 q1_0 q1_1 q1_2 q1_3) (this z))) = absurd (no_prefix (ap prefix_of q1_0) h)
prefix_forth l c at e d gs j w op h (expands _ (common c_0 at_0 e_0 d_0) (expands _ (string c_1 at_1 e_1 d_1 t_1 q1_0 q1_1 q1_2 q1_3 q1_4) (this z))) = absurd (no_prefix (ap prefix_of q1_1) h)
prefix_forth l c at e d gs j w op h (expands _ (common c_0 at_0 e_0 d_0) (expands _ (bits c_1 at_1 e_1 d_1 q1_0 q1_1) (begins t kk ka z))) = absurd (no_prefix (ap prefix_of kk) h)
prefix_forth l c at e d gs j w op h (expands _ (common c_0 at_0 e_0 d_0) (expands _ (paren c_1 at_1 e_1 d_1 ay_1 q1_0) (begins t kk ka z))) = absurd (no_prefix (ap prefix_of kk) h)

pub on_prefix : {most : Limits} (c : Context) (j : Word) (rest : List Word) (op : Prefix) → prefix_of j.kind ≡ Some op → c.deep + 1 ≤ most.trees →
    Passes most {X = Placed Expr} {Y = Placed Expr} calls (operand_in c) (j ∷ rest) (operand_in (under c)) rest (λ y. record { at = j.at; tree = x.Unary j.at op (y.tree ∷ []); height = y.height + 1 })
on_prefix c j rest op h b = record {
  front = j ∷ [];
  whole = refl;
  back = λ l v y gs w d. let room : c.deep + 1 ≤ l.trees = omega (arith, v.trees) in expands _ (prefix c _ _ _ j op _ _ _ h refl room refl refl) (this d);
  forth = λ l r gs w f s d. let m = prefix_forth l c r.at r.tree r.height gs j w op h d in (m.1, same_placed m.0 m.2 m.3, m.4);
}

paren_forth : (l : Limits) (c : Context) (at : Span) (e : Expr) (d : ℕ) (gs : List Goal) (j : Word) (w : List Word) → j.kind ≡ k.LeftParen → Spells l (Of (Operand c at e d) ∷ gs) (j ∷ w) → (at ≡ j.at) × (ay : Span) × Spells l (Of (Level 0 (inside c) ay e d) ∷ Mark k.RightParen ∷ gs) w
paren_forth l c at e d gs j w h (expands _ (prefix c_0 at_0 e_0 d_0 t_0 op_0 ay_0 y_0 dy_0 q0_0 q0_1 q0_2 q0_3 q0_4) (this z)) = absurd (no_prefix (ap prefix_of h) q0_0)
paren_forth l c at e d gs j w h (expands _ (atom c_0 at_0 e_0 d_0 t_0 q0_0 q0_1) (this z)) = cc
paren_forth l c at e d gs j w h (expands _ (macro c_0 at_0 e_0 d_0 t_0 q0_0 q0_1) (begins t kk ka z)) = cc
paren_forth l c at e d gs j w h (expands _ (tuple c_0 at_0 e_0 d_0 ys_0 dys_0 q0_0 q0_1 q0_2 q0_3) (begins t kk ka z)) = cc
paren_forth l c at e d gs j w h (expands _ (list c_0 at_0 e_0 d_0 q0_0 q0_1) (begins t kk ka z)) = cc
paren_forth l c at e d gs j w h (expands _ (case c_0 at_0 e_0 d_0 ay_0 y_0 dy_0 alts_0 da_0 q0_0 q0_1 q0_2 q0_3 q0_4) (begins t kk ka z)) = cc
paren_forth l c at e d gs j w h (expands _ (receive c_0 at_0 e_0 d_0 alts_0 da_0 q0_0 q0_1 q0_2 q0_3 q0_4) (begins t kk ka z)) = cc
paren_forth l c at e d gs j w h (expands _ (if_ c_0 at_0 e_0 d_0 bs_0 db_0 q0_0 q0_1 q0_2 q0_3 q0_4) (begins t kk ka z)) = cc
paren_forth l c at e d gs j w h (expands _ (common c_0 at_0 e_0 d_0) (expands _ (variable c_1 at_1 e_1 d_1 t_1 q1_0 q1_1 q1_2 q1_3) (this z))) = cc
paren_forth l c at e d gs j w h (expands _ (common c_0 at_0 e_0 d_0) (expands _ (integer c_1 at_1 e_1 d_1 t_1 q1_0 q1_1 q1_2 q1_3) (this z))) = cc
paren_forth l c at e d gs j w h (expands _ (common c_0 at_0 e_0 d_0) (expands _ (character c_1 at_1 e_1 d_1 t_1 q1_0 q1_1 q1_2 q1_3) (this z))) = cc
paren_forth l c at e d gs j w h (expands _ (common c_0 at_0 e_0 d_0) (expands _ (string c_1 at_1 e_1 d_1 t_1 q1_0 q1_1 q1_2 q1_3 q1_4) (this z))) = cc
paren_forth l c at e d gs j w h (expands _ (common c_0 at_0 e_0 d_0) (expands _ (bits c_1 at_1 e_1 d_1 q1_0 q1_1) (begins t kk ka z))) = cc
paren_forth l c at e d gs j w h (expands _ (common c_0 at_0 e_0 d_0) (expands _ (paren c_1 at_1 e_1 d_1 ay_1 q1_0) (begins t kk ka z))) = (ka, ay_1, z)

-- what stands in parentheses, and their end
abbrev pub in_paren : Context → Placed Expr × Unit {0} → List Goal
in_paren c p = level_in 0 (inside c) p.0 ++ (Mark k.RightParen ∷ [])

pub on_paren : {most : Limits} (c : Context) (j : Word) (rest : List Word) → j.kind ≡ k.LeftParen → c.open_ < most.brackets →
    Passes most {X = Placed Expr} {Y = Placed Expr × Unit {0}} calls (operand_in c) (j ∷ rest) (in_paren c) rest (λ p. record { at = j.at; tree = p.0.tree; height = p.0.height })
on_paren c j rest h b = record {
  front = j ∷ [];
  whole = refl;
  back = λ l v p gs w d. let room : c.open_ < l.brackets = omega (arith, v.brackets) in expands _ (common c _ _ _) (expands _ (paren c _ _ _ _ room) (begins j h refl d));
  forth = λ l r gs w f s d. let m = paren_forth l c r.at r.tree r.height gs j w h d in ((record { at = m.1; tree = r.tree; height = r.height }, tt), same_placed m.0 refl refl, m.2);
}

macro_forth : (l : Limits) (c : Context) (at : Span) (e : Expr) (d : ℕ) (gs : List Goal) (j : Word) (w : List Word) → j.kind ≡ k.Question → Spells l (Of (Operand c at e d) ∷ gs) (j ∷ w) → (at ≡ j.at) × (t : Word) × (t.kind ≡ k.Variable) × (t.chars ≡ module_macro) × Spells l (The t ∷ Of (Qualified c j.at (x.ModuleName j.at) e d) ∷ gs) w
macro_forth l c at e d gs j w h (expands _ (prefix c_0 at_0 e_0 d_0 t_0 op_0 ay_0 y_0 dy_0 q0_0 q0_1 q0_2 q0_3 q0_4) (this z)) = absurd (no_prefix (ap prefix_of h) q0_0)
macro_forth l c at e d gs j w h (expands _ (atom c_0 at_0 e_0 d_0 t_0 q0_0 q0_1) (this z)) = cc
macro_forth l c at e d gs j w h (expands _ (macro c_0 at_0 e_0 d_0 t_0 q0_0 q0_1) (begins t kk ka z)) = let P : Span → Type 0 = λ v. Spells l (The t_0 ∷ Of (Qualified c v (x.ModuleName v) e d) ∷ gs) w in (ka, t_0, q0_0, q0_1, subst P ka z)
macro_forth l c at e d gs j w h (expands _ (tuple c_0 at_0 e_0 d_0 ys_0 dys_0 q0_0 q0_1 q0_2 q0_3) (begins t kk ka z)) = cc
macro_forth l c at e d gs j w h (expands _ (list c_0 at_0 e_0 d_0 q0_0 q0_1) (begins t kk ka z)) = cc
macro_forth l c at e d gs j w h (expands _ (case c_0 at_0 e_0 d_0 ay_0 y_0 dy_0 alts_0 da_0 q0_0 q0_1 q0_2 q0_3 q0_4) (begins t kk ka z)) = cc
macro_forth l c at e d gs j w h (expands _ (receive c_0 at_0 e_0 d_0 alts_0 da_0 q0_0 q0_1 q0_2 q0_3 q0_4) (begins t kk ka z)) = cc
macro_forth l c at e d gs j w h (expands _ (if_ c_0 at_0 e_0 d_0 bs_0 db_0 q0_0 q0_1 q0_2 q0_3 q0_4) (begins t kk ka z)) = cc
macro_forth l c at e d gs j w h (expands _ (common c_0 at_0 e_0 d_0) (expands _ (variable c_1 at_1 e_1 d_1 t_1 q1_0 q1_1 q1_2 q1_3) (this z))) = cc
macro_forth l c at e d gs j w h (expands _ (common c_0 at_0 e_0 d_0) (expands _ (integer c_1 at_1 e_1 d_1 t_1 q1_0 q1_1 q1_2 q1_3) (this z))) = cc
macro_forth l c at e d gs j w h (expands _ (common c_0 at_0 e_0 d_0) (expands _ (character c_1 at_1 e_1 d_1 t_1 q1_0 q1_1 q1_2 q1_3) (this z))) = cc
macro_forth l c at e d gs j w h (expands _ (common c_0 at_0 e_0 d_0) (expands _ (string c_1 at_1 e_1 d_1 t_1 q1_0 q1_1 q1_2 q1_3 q1_4) (this z))) = cc
macro_forth l c at e d gs j w h (expands _ (common c_0 at_0 e_0 d_0) (expands _ (bits c_1 at_1 e_1 d_1 q1_0 q1_1) (begins t kk ka z))) = cc
macro_forth l c at e d gs j w h (expands _ (common c_0 at_0 e_0 d_0) (expands _ (paren c_1 at_1 e_1 d_1 ay_1 q1_0) (begins t kk ka z))) = cc

macro_takes : {l : Limits} {t : Word} {gs : List Goal} {j : Word} {w : List Word} → Spells l (The t ∷ gs) (j ∷ w) → Spells l gs w
macro_takes (this z) = z

-- `?` and the variable `MODULE`
pub on_macro : {most : Limits} (c : Context) (j m : Word) (rest : List Word) → j.kind ≡ k.Question → m.kind ≡ k.Variable → m.chars ≡ module_macro →
    Passes most {X = Placed Expr} {Y = Expr × ℕ} calls (operand_in c) (j ∷ (m ∷ rest)) (qualified_in c j.at (x.ModuleName j.at)) rest (λ r. record { at = j.at; tree = r.0; height = r.1 })
on_macro c j m rest h i a = record {
  front = j ∷ (m ∷ []);
  whole = refl;
  back = λ l v r gs w d. expands _ (macro c _ _ _ m i a) (begins j h refl (this d));
  forth = λ l r gs w f s d. let n = macro_forth l c r.at r.tree r.height gs j (m ∷ w) h d in ((r.tree, r.height), same_placed n.0 refl refl, macro_takes n.4);
}

-- ---- Refusals

-- a word with which an expression may be completed
pub some_place : Span
some_place = record { line = 1; column = 1 }

abbrev pub some_word : Word
some_word = record { kind = k.Variable; at = some_place; number = 0; chars = [] }

abbrev pub some_expr : Placed Expr
some_expr = record { at = some_place; tree = x.Var some_place []; height = 1 }

pub operand_spells : (l : Limits) (c : Context) (gs : List Goal) (w : List Word) → Spells l gs w → Spells l (operand_in c some_expr ++ gs) (some_word ∷ w)
operand_spells l c gs w d = expands _ (common c _ _ _) (expands _ (variable c _ _ _ some_word refl refl refl refl) (this d))

-- where an operand has a spelling, a level has it too
level_spells : (m n : ℕ) (l : Limits) (c : Context) (y : Placed Expr) (v : List Word) → ((gs : List Goal) (w : List Word) → Spells l gs w → Spells l (operand_in c y ++ gs) (v ++ w)) → (gs : List Goal) (w : List Word) → 6 ≤ n + m → Spells l gs w → Spells l (level_in n c y ++ gs) (v ++ w)
level_spells zero n l c y v f gs w h d = expands _ (operand n c _ _ _ (omega arith)) (f gs w d)
level_spells (suc m) n l c y v f gs w h d = elim (cases_lt n 6) [ inr i ↦ expands _ (operand n c _ _ _ i) (f gs w d) | inl i ↦ expands _ (level n c y.at y.tree y.height y.tree y.height i) (level_spells m (n + 1) l c y v f (Of (Tail n c y.at y.tree y.height y.tree y.height) ∷ gs) w (omega arith) (expands _ (alone n c _ _ _ _ _ refl refl) d)) ]

pub level_with : (n : ℕ) (l : Limits) (c : Context) (y : Placed Expr) (v : List Word) → ((gs : List Goal) (w : List Word) → Spells l gs w → Spells l (operand_in c y ++ gs) (v ++ w)) → (gs : List Goal) (w : List Word) → Spells l gs w → Spells l (level_in n c y ++ gs) (v ++ w)
level_with n l c y v f gs w d = level_spells 6 n l c y v f gs w (omega arith) d

pub level_completed : (n : ℕ) (l : Limits) (c : Context) (gs : List Goal) (w : List Word) → Spells l gs w → Spells l (level_in n c some_expr ++ gs) (some_word ∷ w)
level_completed n l c gs w d = level_with n l c some_expr (some_word ∷ []) (λ hs v e. operand_spells l c hs v e) gs w d

in_no_body : {m : Mode} → m ≡ InSize → m ≡ InBody → ⊥
in_no_body a b = cc

pub no_size_operand : (l : Limits) (c : Context) (at : Span) (e : Expr) (d : ℕ) (gs : List Goal) (rest w : List Word) → c.mode ≡ InSize → NoSize rest → SameHead w rest → Spells l (Of (Operand c at e d) ∷ gs) w → ⊥
no_size_operand l c at e d gs _ w m at_end s (expands _ (prefix c_0 at_0 e_0 d_0 t_0 op_0 ay_0 y_0 dy_0 q0_0 q0_1 q0_2 q0_3 q0_4) (this z)) = s
no_size_operand l c at e d gs _ w m at_end s (expands _ (atom c_0 at_0 e_0 d_0 t_0 q0_0 q0_1) (this z)) = s
no_size_operand l c at e d gs _ w m at_end s (expands _ (macro c_0 at_0 e_0 d_0 t_0 q0_0 q0_1) (begins t kk ka z)) = s
no_size_operand l c at e d gs _ w m at_end s (expands _ (tuple c_0 at_0 e_0 d_0 ys_0 dys_0 q0_0 q0_1 q0_2 q0_3) (begins t kk ka z)) = s
no_size_operand l c at e d gs _ w m at_end s (expands _ (list c_0 at_0 e_0 d_0 q0_0 q0_1) (begins t kk ka z)) = s
no_size_operand l c at e d gs _ w m at_end s (expands _ (case c_0 at_0 e_0 d_0 ay_0 y_0 dy_0 alts_0 da_0 q0_0 q0_1 q0_2 q0_3 q0_4) (begins t kk ka z)) = s
no_size_operand l c at e d gs _ w m at_end s (expands _ (receive c_0 at_0 e_0 d_0 alts_0 da_0 q0_0 q0_1 q0_2 q0_3 q0_4) (begins t kk ka z)) = s
no_size_operand l c at e d gs _ w m at_end s (expands _ (if_ c_0 at_0 e_0 d_0 bs_0 db_0 q0_0 q0_1 q0_2 q0_3 q0_4) (begins t kk ka z)) = s
no_size_operand l c at e d gs _ w m at_end s (expands _ (common c_0 at_0 e_0 d_0) (expands _ (variable c_1 at_1 e_1 d_1 t_1 q1_0 q1_1 q1_2 q1_3) (this z))) = s
no_size_operand l c at e d gs _ w m at_end s (expands _ (common c_0 at_0 e_0 d_0) (expands _ (integer c_1 at_1 e_1 d_1 t_1 q1_0 q1_1 q1_2 q1_3) (this z))) = s
no_size_operand l c at e d gs _ w m at_end s (expands _ (common c_0 at_0 e_0 d_0) (expands _ (character c_1 at_1 e_1 d_1 t_1 q1_0 q1_1 q1_2 q1_3) (this z))) = s
no_size_operand l c at e d gs _ w m at_end s (expands _ (common c_0 at_0 e_0 d_0) (expands _ (string c_1 at_1 e_1 d_1 t_1 q1_0 q1_1 q1_2 q1_3 q1_4) (this z))) = s
no_size_operand l c at e d gs _ w m at_end s (expands _ (common c_0 at_0 e_0 d_0) (expands _ (bits c_1 at_1 e_1 d_1 q1_0 q1_1) (begins t kk ka z))) = s
no_size_operand l c at e d gs _ w m at_end s (expands _ (common c_0 at_0 e_0 d_0) (expands _ (paren c_1 at_1 e_1 d_1 ay_1 q1_0) (begins t kk ka z))) = s
no_size_operand l c at e d gs _ w m (at_other j rest n) s (expands _ (prefix c_0 at_0 e_0 d_0 t_0 op_0 ay_0 y_0 dy_0 q0_0 q0_1 q0_2 q0_3 q0_4) (this z)) = no_prefix n.prefix (ap (λ v. prefix_of v.kind) (sym s) ∙ q0_0)
no_size_operand l c at e d gs _ w m (at_other j rest n) s (expands _ (atom c_0 at_0 e_0 d_0 t_0 q0_0 q0_1) (this z)) = n.atom (ap (λ v. v.kind) (sym s) ∙ q0_0)
no_size_operand l c at e d gs _ w m (at_other j rest n) s (expands _ (macro c_0 at_0 e_0 d_0 t_0 q0_0 q0_1) (begins t kk ka z)) = n.question (ap (λ v. v.kind) (sym s) ∙ kk)
no_size_operand l c at e d gs _ w m (at_other j rest n) s (expands _ (tuple c_0 at_0 e_0 d_0 ys_0 dys_0 q0_0 q0_1 q0_2 q0_3) (begins t kk ka z)) = absurd (q0_0 m)
no_size_operand l c at e d gs _ w m (at_other j rest n) s (expands _ (list c_0 at_0 e_0 d_0 q0_0 q0_1) (begins t kk ka z)) = absurd (q0_0 m)
no_size_operand l c at e d gs _ w m (at_other j rest n) s (expands _ (case c_0 at_0 e_0 d_0 ay_0 y_0 dy_0 alts_0 da_0 q0_0 q0_1 q0_2 q0_3 q0_4) (begins t kk ka z)) = absurd (in_no_body m q0_0)
no_size_operand l c at e d gs _ w m (at_other j rest n) s (expands _ (receive c_0 at_0 e_0 d_0 alts_0 da_0 q0_0 q0_1 q0_2 q0_3 q0_4) (begins t kk ka z)) = absurd (in_no_body m q0_0)
no_size_operand l c at e d gs _ w m (at_other j rest n) s (expands _ (if_ c_0 at_0 e_0 d_0 bs_0 db_0 q0_0 q0_1 q0_2 q0_3 q0_4) (begins t kk ka z)) = absurd (in_no_body m q0_0)
no_size_operand l c at e d gs _ w m (at_other j rest n) s (expands _ (common c_0 at_0 e_0 d_0) (expands _ (variable c_1 at_1 e_1 d_1 t_1 q1_0 q1_1 q1_2 q1_3) (this z))) = n.variable (ap (λ v. v.kind) (sym s) ∙ q1_0)
no_size_operand l c at e d gs _ w m (at_other j rest n) s (expands _ (common c_0 at_0 e_0 d_0) (expands _ (integer c_1 at_1 e_1 d_1 t_1 q1_0 q1_1 q1_2 q1_3) (this z))) = n.integer (ap (λ v. v.kind) (sym s) ∙ q1_0)
no_size_operand l c at e d gs _ w m (at_other j rest n) s (expands _ (common c_0 at_0 e_0 d_0) (expands _ (character c_1 at_1 e_1 d_1 t_1 q1_0 q1_1 q1_2 q1_3) (this z))) = n.character (ap (λ v. v.kind) (sym s) ∙ q1_0)
no_size_operand l c at e d gs _ w m (at_other j rest n) s (expands _ (common c_0 at_0 e_0 d_0) (expands _ (string c_1 at_1 e_1 d_1 t_1 q1_0 q1_1 q1_2 q1_3 q1_4) (this z))) = absurd (q1_0 m)
no_size_operand l c at e d gs _ w m (at_other j rest n) s (expands _ (common c_0 at_0 e_0 d_0) (expands _ (bits c_1 at_1 e_1 d_1 q1_0 q1_1) (begins t kk ka z))) = absurd (q1_0 m)
no_size_operand l c at e d gs _ w m (at_other j rest n) s (expands _ (common c_0 at_0 e_0 d_0) (expands _ (paren c_1 at_1 e_1 d_1 ay_1 q1_0) (begins t kk ka z))) = n.paren (ap (λ v. v.kind) (sym s) ∙ kk)

pub no_size : {most : Limits} (c : Context) (rest : List Word) → c.mode ≡ InSize → NoSize rest → IsRefused most {X = Placed Expr} calls (operand_in c) rest rest Syntax
no_size c rest m n = record {
  front = [];
  whole = refl;
  tree = some_expr;
  more = some_word ∷ [];
  goes_on = λ l v gs w d. operand_spells l c gs w d;
  stops = λ l j r gs w f s d. no_size_operand l c r.at r.tree r.height gs rest w m n s d;
  excused = tt;
}

-- limits at which one more fits
abbrev pub deeper : Limits → ℕ → ℕ → Limits
deeper most trees brackets = record { trees = most.trees + trees; brackets = most.brackets + brackets; any_attribute = false; any_type = false }

pub deeper_wide : (most : Limits) (trees brackets : ℕ) → IsWide most (deeper most trees brackets)
deeper_wide most trees brackets = record { trees = omega arith; brackets = omega arith }

-- behind a prefix the part would be too deep

prefix_depth : (l : Limits) (c : Context) (at : Span) (e : Expr) (d : ℕ) (gs : List Goal) (j : Word) (w : List Word) (op : Prefix) → prefix_of j.kind ≡ Some op → Spells l (Of (Operand c at e d) ∷ gs) (j ∷ w) → c.deep + 1 ≤ l.trees
prefix_depth l c at e d gs j w op h (expands _ (prefix c_0 at_0 e_0 d_0 t_0 op_0 ay_0 y_0 dy_0 q0_0 q0_1 q0_2 q0_3 q0_4) (this z)) = q0_2
prefix_depth l c at e d gs j w op h (expands _ (atom c_0 at_0 e_0 d_0 t_0 q0_0 q0_1) (this z)) = absurd (no_prefix (ap prefix_of q0_0) h)
prefix_depth l c at e d gs j w op h (expands _ (macro c_0 at_0 e_0 d_0 t_0 q0_0 q0_1) (begins t kk ka z)) = absurd (no_prefix (ap prefix_of kk) h)
prefix_depth l c at e d gs j w op h (expands _ (tuple c_0 at_0 e_0 d_0 ys_0 dys_0 q0_0 q0_1 q0_2 q0_3) (begins t kk ka z)) = absurd (no_prefix (ap prefix_of kk) h)
prefix_depth l c at e d gs j w op h (expands _ (list c_0 at_0 e_0 d_0 q0_0 q0_1) (begins t kk ka z)) = absurd (no_prefix (ap prefix_of kk) h)
prefix_depth l c at e d gs j w op h (expands _ (case c_0 at_0 e_0 d_0 ay_0 y_0 dy_0 alts_0 da_0 q0_0 q0_1 q0_2 q0_3 q0_4) (begins t kk ka z)) = absurd (no_prefix (ap prefix_of kk) h)
prefix_depth l c at e d gs j w op h (expands _ (receive c_0 at_0 e_0 d_0 alts_0 da_0 q0_0 q0_1 q0_2 q0_3 q0_4) (begins t kk ka z)) = absurd (no_prefix (ap prefix_of kk) h)
prefix_depth l c at e d gs j w op h (expands _ (if_ c_0 at_0 e_0 d_0 bs_0 db_0 q0_0 q0_1 q0_2 q0_3 q0_4) (begins t kk ka z)) = absurd (no_prefix (ap prefix_of kk) h)
prefix_depth l c at e d gs j w op h (expands _ (common c_0 at_0 e_0 d_0) (expands _ (variable c_1 at_1 e_1 d_1 t_1 q1_0 q1_1 q1_2 q1_3) (this z))) = absurd (no_prefix (ap prefix_of q1_0) h)
prefix_depth l c at e d gs j w op h (expands _ (common c_0 at_0 e_0 d_0) (expands _ (integer c_1 at_1 e_1 d_1 t_1 q1_0 q1_1 q1_2 q1_3) (this z))) = absurd (no_prefix (ap prefix_of q1_0) h)
prefix_depth l c at e d gs j w op h (expands _ (common c_0 at_0 e_0 d_0) (expands _ (character c_1 at_1 e_1 d_1 t_1 q1_0 q1_1 q1_2 q1_3) (this z))) = absurd (no_prefix (ap prefix_of q1_0) h)
prefix_depth l c at e d gs j w op h (expands _ (common c_0 at_0 e_0 d_0) (expands _ (string c_1 at_1 e_1 d_1 t_1 q1_0 q1_1 q1_2 q1_3 q1_4) (this z))) = absurd (no_prefix (ap prefix_of q1_1) h)
prefix_depth l c at e d gs j w op h (expands _ (common c_0 at_0 e_0 d_0) (expands _ (bits c_1 at_1 e_1 d_1 q1_0 q1_1) (begins t kk ka z))) = absurd (no_prefix (ap prefix_of kk) h)
prefix_depth l c at e d gs j w op h (expands _ (common c_0 at_0 e_0 d_0) (expands _ (paren c_1 at_1 e_1 d_1 ay_1 q1_0) (begins t kk ka z))) = absurd (no_prefix (ap prefix_of kk) h)

stops_prefix : (most : Limits) (c : Context) (j : Word) (rest : List Word) (op : Prefix) → prefix_of j.kind ≡ Some op → most.trees < c.deep + 1 → (l : Limits) → l.trees ≡ most.trees → (r : Placed Expr) (gs : List Goal) (w : List Word) → SameHead w (j ∷ rest) → Spells l (operand_in c r ++ gs) w → ⊥
stops_prefix most c j rest op h b l i r gs [] s d = s
stops_prefix most c j rest op h b l i r gs (t ∷ w) s d = let a : c.deep + 1 ≤ l.trees = prefix_depth l c r.at r.tree r.height gs t w op (ap (λ v. prefix_of v.kind) s ∙ h) d in omega arith

pub prefix_too_deep : {most : Limits} (c : Context) (j : Word) (rest : List Word) (op : Prefix) → prefix_of j.kind ≡ Some op → most.trees < c.deep + 1 → IsRefused most {X = Placed Expr} calls (operand_in c) (j ∷ rest) (j ∷ rest) TooDeep
prefix_too_deep {most = most} c j rest op h b = record {
  front = [];
  whole = refl;
  tree = some_expr;
  more = some_word ∷ [];
  goes_on = λ l v gs w d. operand_spells l c gs w d;
  stops = λ l i r gs w f s d. stops_prefix most c j rest op h b l i.trees r gs w s d;
  excused = record {
    limits = deeper most (c.deep + 1) 0;
    wide = deeper_wide most (c.deep + 1) 0;
    allows = (refl, refl);
    first = j;
    behind = rest;
    begins = refl;
    tree = record { at = j.at; tree = x.Unary j.at op (x.Var some_place [] ∷ []); height = 2 };
    more = some_word ∷ [];
    goes_on = λ gs w d. expands _ (prefix c _ _ _ j op some_place (x.Var some_place []) 1 h refl (omega arith) refl refl) (this (operand_spells (deeper most (c.deep + 1) 0) (under c) gs w d));
  };
}

paren_depth : (l : Limits) (c : Context) (at : Span) (e : Expr) (d : ℕ) (gs : List Goal) (j : Word) (w : List Word) → j.kind ≡ k.LeftParen → Spells l (Of (Operand c at e d) ∷ gs) (j ∷ w) → c.open_ < l.brackets
paren_depth l c at e d gs j w h (expands _ (prefix c_0 at_0 e_0 d_0 t_0 op_0 ay_0 y_0 dy_0 q0_0 q0_1 q0_2 q0_3 q0_4) (this z)) = absurd (no_prefix (ap prefix_of h) q0_0)
paren_depth l c at e d gs j w h (expands _ (atom c_0 at_0 e_0 d_0 t_0 q0_0 q0_1) (this z)) = cc
paren_depth l c at e d gs j w h (expands _ (macro c_0 at_0 e_0 d_0 t_0 q0_0 q0_1) (begins t kk ka z)) = cc
paren_depth l c at e d gs j w h (expands _ (tuple c_0 at_0 e_0 d_0 ys_0 dys_0 q0_0 q0_1 q0_2 q0_3) (begins t kk ka z)) = cc
paren_depth l c at e d gs j w h (expands _ (list c_0 at_0 e_0 d_0 q0_0 q0_1) (begins t kk ka z)) = cc
paren_depth l c at e d gs j w h (expands _ (case c_0 at_0 e_0 d_0 ay_0 y_0 dy_0 alts_0 da_0 q0_0 q0_1 q0_2 q0_3 q0_4) (begins t kk ka z)) = cc
paren_depth l c at e d gs j w h (expands _ (receive c_0 at_0 e_0 d_0 alts_0 da_0 q0_0 q0_1 q0_2 q0_3 q0_4) (begins t kk ka z)) = cc
paren_depth l c at e d gs j w h (expands _ (if_ c_0 at_0 e_0 d_0 bs_0 db_0 q0_0 q0_1 q0_2 q0_3 q0_4) (begins t kk ka z)) = cc
paren_depth l c at e d gs j w h (expands _ (common c_0 at_0 e_0 d_0) (expands _ (variable c_1 at_1 e_1 d_1 t_1 q1_0 q1_1 q1_2 q1_3) (this z))) = cc
paren_depth l c at e d gs j w h (expands _ (common c_0 at_0 e_0 d_0) (expands _ (integer c_1 at_1 e_1 d_1 t_1 q1_0 q1_1 q1_2 q1_3) (this z))) = cc
paren_depth l c at e d gs j w h (expands _ (common c_0 at_0 e_0 d_0) (expands _ (character c_1 at_1 e_1 d_1 t_1 q1_0 q1_1 q1_2 q1_3) (this z))) = cc
paren_depth l c at e d gs j w h (expands _ (common c_0 at_0 e_0 d_0) (expands _ (string c_1 at_1 e_1 d_1 t_1 q1_0 q1_1 q1_2 q1_3 q1_4) (this z))) = cc
paren_depth l c at e d gs j w h (expands _ (common c_0 at_0 e_0 d_0) (expands _ (bits c_1 at_1 e_1 d_1 q1_0 q1_1) (begins t kk ka z))) = cc
paren_depth l c at e d gs j w h (expands _ (common c_0 at_0 e_0 d_0) (expands _ (paren c_1 at_1 e_1 d_1 ay_1 q1_0) (begins t kk ka z))) = q1_0

stops_paren : (most : Limits) (c : Context) (j : Word) (rest : List Word) → j.kind ≡ k.LeftParen → most.brackets ≤ c.open_ → (l : Limits) → l.brackets ≡ most.brackets → (r : Placed Expr) (gs : List Goal) (w : List Word) → SameHead w (j ∷ rest) → Spells l (operand_in c r ++ gs) w → ⊥
stops_paren most c j rest h b l i r gs [] s d = s
stops_paren most c j rest h b l i r gs (t ∷ w) s d = let a : c.open_ < l.brackets = paren_depth l c r.at r.tree r.height gs t w (ap (λ v. v.kind) s ∙ h) d in omega arith

abbrev pub close_paren : Word
close_paren = record { kind = k.RightParen; at = some_place; number = 0; chars = [] }

pub paren_too_deep : {most : Limits} (c : Context) (j : Word) (rest : List Word) → j.kind ≡ k.LeftParen → most.brackets ≤ c.open_ → IsRefused most {X = Placed Expr} calls (operand_in c) (j ∷ rest) (j ∷ rest) TooDeep
paren_too_deep {most = most} c j rest h b = record {
  front = [];
  whole = refl;
  tree = some_expr;
  more = some_word ∷ [];
  goes_on = λ l v gs w d. operand_spells l c gs w d;
  stops = λ l i r gs w f s d. stops_paren most c j rest h b l i.brackets r gs w s d;
  excused = record {
    limits = deeper most 0 (c.open_ + 1);
    wide = deeper_wide most 0 (c.open_ + 1);
    allows = (refl, refl);
    first = j;
    behind = rest;
    begins = refl;
    tree = record { at = j.at; tree = x.Var some_place []; height = 1 };
    more = some_word ∷ (close_paren ∷ []);
    goes_on = λ gs w d. expands _ (common c _ _ _) (expands _ (paren c _ _ _ some_place (omega arith)) (begins j h refl (level_completed 0 (deeper most 0 (c.open_ + 1)) (inside c) (Mark k.RightParen ∷ gs) (close_paren ∷ w) (takes close_paren refl d))));
  };
}

-- behind `?` stands no `MODULE`
module_stops : (c : Context) (at : Span) (t : Word) (l : Limits) (e : Expr) (d : ℕ) (gs : List Goal) (rest w : List Word) → t.kind ≡ k.Variable → t.chars ≡ module_macro → NoModule rest → SameHead w rest → Spells l (The t ∷ Of (Qualified c at (x.ModuleName at) e d) ∷ gs) w → ⊥
module_stops c at t l e d gs _ w h i no_word s (this z) = s
module_stops c at t l e d gs _ w h i (no_module m rest n) s (this z) = n (ap (λ v. v.kind) (sym s) ∙ h) (ap (λ v. v.chars) (sym s) ∙ i)

stops_macro : (c : Context) (j : Word) → j.kind ≡ k.Question → (l : Limits) (r : Placed Expr) (gs : List Goal) (rest w : List Word) → NoModule rest → SameHead w rest → Spells l (operand_in c r ++ gs) (j ∷ w) → ⊥
stops_macro c j h l r gs rest w n s d = let m = macro_forth l c r.at r.tree r.height gs j w h d in module_stops c j.at m.1 l r.tree r.height gs rest w m.2 m.3 n s m.4

abbrev pub module_word : Word
module_word = record { kind = k.Variable; at = some_place; number = 0; chars = module_macro }

pub macro_refused : {most : Limits} (c : Context) (j : Word) (rest : List Word) → j.kind ≡ k.Question → NoModule rest → IsRefused most {X = Placed Expr} calls (operand_in c) (j ∷ rest) rest Syntax
macro_refused c j rest h n = record {
  front = j ∷ [];
  whole = refl;
  tree = record { at = j.at; tree = x.ModuleName j.at; height = 1 };
  more = module_word ∷ [];
  goes_on = λ l v gs w d. expands _ (macro c _ _ _ module_word refl refl) (begins j h refl (this (expands _ (unqualified c _ _ _ _ refl refl) d)));
  stops = λ l i r gs w f s d. stops_macro c j h l r gs rest w n s d;
  excused = tt;
}

mark_forth : {l : Limits} {kind : TokenKind} {gs : List Goal} {j : Word} {w : List Word} → Spells l (Mark kind ∷ gs) (j ∷ w) → Spells l gs w
mark_forth (takes t h z) = z

pub on_mark : {most : Limits} (kind : TokenKind) (j : Word) (rest : List Word) → j.kind ≡ kind → Passes most {X = Unit {0}} {Y = Unit {0}} closed (mark_in kind) (j ∷ rest) nothing rest (λ u. tt)
on_mark kind j rest h = record {
  front = j ∷ [];
  whole = refl;
  back = λ l v u gs w d. takes j h d;
  forth = λ l u gs w f s d. (tt, refl, mark_forth d);
}

pub mark_passes : (all : Readable) (at : ℕ) (kind : TokenKind) → IsAt all at kind → Passes all.limits {X = Unit {0}} {Y = Unit {0}} closed (mark_in kind) (drop at all.words) nothing (drop (at + 1) all.words) (λ u. tt)
mark_passes all at kind s = let P : List Word → Type 0 = λ v. Passes all.limits {X = Unit {0}} {Y = Unit {0}} closed (mark_in kind) v nothing (drop (at + 1) all.words) (λ u. tt) in subst P (sym s.is) (on_mark kind s.word (drop (at + 1) all.words) s.kind_is)

mark_stops : (kind : TokenKind) (l : Limits) (gs : List Goal) (rest w : List Word) → NoMark kind rest → SameHead w rest → Spells l (Mark kind ∷ gs) w → ⊥
mark_stops kind l gs _ w no_mark_end s (takes t h z) = s
mark_stops kind l gs _ w (no_mark j rest n) s (takes t h z) = n (ap (λ v. v.kind) (sym s) ∙ h)

abbrev pub mark_word : TokenKind → Word
mark_word kind = record { kind = kind; at = some_place; number = 0; chars = [] }

pub mark_refused : {most : Limits} (kind : TokenKind) (rest : List Word) → NoMark kind rest → IsRefused most {X = Unit {0}} closed (mark_in kind) rest rest Syntax
mark_refused kind rest n = record {
  front = [];
  whole = refl;
  tree = tt;
  more = mark_word kind ∷ [];
  goes_on = λ l v gs w d. takes (mark_word kind) refl d;
  stops = λ l i u gs w f s d. mark_stops kind l gs rest w n s d;
  excused = tt;
}

-- a mark lengthens no expression, where its kind doesn't
mark_follows : (kind : TokenKind) (inner : TokenKind → Bool) (l : Limits) (gs : List Goal) (t : Word) (w : List Word) → inner kind ≡ false → IsTrue (inner t.kind) → Spells l (Mark kind ∷ gs) (t ∷ w) → ⊥
mark_follows kind inner l gs t w n h (takes u i z) = let a : inner t.kind ≡ inner kind = ap inner i in cc

pub behind_mark : {X : Type 0} (kind : TokenKind) (inner outer : TokenKind → Bool) → inner kind ≡ false → Behind {X = X} {Y = Unit {0}} inner outer (λ p. mark_in kind)
behind_mark kind inner outer n = record { behind = λ l p q gs f t w h d. mark_follows kind inner l gs t w n h d }

pub mark_spelled : {most : Limits} {X : Type 0} (kind : TokenKind) → Spelled most {X = X} {Y = Unit {0}} (λ p. mark_in kind) (mark_word kind ∷ [])
mark_spelled kind = record { tree = λ p. tt; spelled = λ l v p gs w d. takes (mark_word kind) refl d }
