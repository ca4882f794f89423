-- The laws of operands that stand in bodies and guards only.
use Rattle.std.proofs.Common.{◌≡◌, ℕ, ◌+◌, ◌≤◌, ◌<◌, max, Bool, IsTrue, List, [], ◌∷◌, ◌++◌, None, refl, sym, ap, subst, ◌∙◌, arith, ◌⊎◌, inl, inr}
use Rattle.erl_syntax.specs.declared.span.Span.{Span}
use Rattle.erl_syntax.specs.declared.token.TokenKind.{TokenKind}
use Rattle.erl_syntax.specs.declared.token.TokenKind.TheVariants as k
use Rattle.erl_syntax.specs.declared.expr.Expr.{Expr}
use Rattle.erl_syntax.specs.declared.expr.Expr.TheVariants as x
use Rattle.erl_syntax.specs.declared.clause.Alt.{Alt}
use Rattle.erl_syntax.specs.declared.clause.Branch.{Branch}
use Rattle.erl_syntax.specs.Word.{Word}
use Rattle.erl_syntax.specs.Operators.{prefix_of}
use Rattle.erl_syntax.specs.Grammar.{InBody, InSize, Context, under, inside, Limits, Goal, Mark, Of, Level, Operand, Common, Exprs, ListRest, Alts, Branches, prefix, atom, macro, tuple, list, case, receive, if_, common, variable, integer, character, string, bits, paren, Spells, takes, begins, this, expands}
use Rattle.pattern_read.specs.declared.placed.Placed.{Placed}
use Rattle.pattern_read.specs.declared.fault.Cause.TheVariants.{TooDeep}
use Rattle.pattern_read.specs.Reading.{Passes, IsRefused, SameHead}
use Rattle.pattern_read.specs.Wanted.{calls, extends, operand_in, exprs_in}
use Rattle.body_read.specs.WantedExprs.{common_in, list_in, alts_in, branches_in}
use Rattle.body_read.specs.Sites.{begins_block, of_alts, case_in}
use Rattle.pattern_read.proofs.Passing.{Behind, Spelled}
use Rattle.pattern_read.proofs.Levels.{same_placed, no_prefix}
use Rattle.pattern_read.proofs.Operands.{some_word, some_expr, operand_spells, deeper, deeper_wide, mark_word}
use Rattle.pattern_read.proofs.Depths.{Begun}
use Rattle.body_read.proofs.BodiedBegins.{some_alt, alts_spell, clause_words, begun_tuple, begun_list, begun_block}

-- ---- Tuples

tuple_forth : (l : Limits) (c : Context) (at : Span) (e : Expr) (d : ℕ) (gs : List Goal) (j : Word) (w : List Word) → j.kind ≡ k.LeftBrace → Spells l (Of (Operand c at e d) ∷ gs) (j ∷ w) →
    (c.open_ < l.brackets) × (at ≡ j.at) × (r : List Expr × ℕ) × (e ≡ x.Tuple j.at r.0) × (d ≡ r.1 + 1) × Spells l (Of (Exprs k.RightBrace (inside (under c)) r.0 r.1) ∷ gs) w
tuple_forth l c at e d gs j w h (expands _ (prefix c_0 at_0 e_0 d_0 t_0 op_0 ay_0 y_0 dy_0 q0_0 q0_1 q0_2 q0_3 q0_4) (this z)) = absurd (no_prefix (ap prefix_of h) q0_0)
tuple_forth l c at e d gs j w h (expands _ (atom c_0 at_0 e_0 d_0 t_0 q0_0 q0_1) (this z)) = cc
tuple_forth l c at e d gs j w h (expands _ (macro c_0 at_0 e_0 d_0 t_0 q0_0 q0_1) (begins t kk ka z)) = cc
tuple_forth l c at e d gs j w h (expands _ (tuple c_0 at_0 e_0 d_0 ys_0 dys_0 q0_0 q0_1 q0_2 q0_3) (begins t kk ka z)) = (q0_1, ka, (ys_0, dys_0), q0_2 ∙ ap (λ v. x.Tuple v ys_0) ka, q0_3, z)
tuple_forth l c at e d gs j w h (expands _ (list c_0 at_0 e_0 d_0 q0_0 q0_1) (begins t kk ka z)) = cc
tuple_forth l c at e d gs j w h (expands _ (case c_0 at_0 e_0 d_0 ay_0 y_0 dy_0 alts_0 da_0 q0_0 q0_1 q0_2 q0_3 q0_4) (begins t kk ka z)) = cc
tuple_forth l c at e d gs j w h (expands _ (receive c_0 at_0 e_0 d_0 alts_0 da_0 q0_0 q0_1 q0_2 q0_3 q0_4) (begins t kk ka z)) = cc
tuple_forth l c at e d gs j w h (expands _ (if_ c_0 at_0 e_0 d_0 bs_0 db_0 q0_0 q0_1 q0_2 q0_3 q0_4) (begins t kk ka z)) = cc
tuple_forth l c at e d gs j w h (expands _ (common c_0 at_0 e_0 d_0) (expands _ (variable c_1 at_1 e_1 d_1 t_1 q1_0 q1_1 q1_2 q1_3) (this z))) = cc
tuple_forth l c at e d gs j w h (expands _ (common c_0 at_0 e_0 d_0) (expands _ (integer c_1 at_1 e_1 d_1 t_1 q1_0 q1_1 q1_2 q1_3) (this z))) = cc
tuple_forth l c at e d gs j w h (expands _ (common c_0 at_0 e_0 d_0) (expands _ (character c_1 at_1 e_1 d_1 t_1 q1_0 q1_1 q1_2 q1_3) (this z))) = cc
tuple_forth l c at e d gs j w h (expands _ (common c_0 at_0 e_0 d_0) (expands _ (string c_1 at_1 e_1 d_1 t_1 q1_0 q1_1 q1_2 q1_3 q1_4) (this z))) = cc
tuple_forth l c at e d gs j w h (expands _ (common c_0 at_0 e_0 d_0) (expands _ (bits c_1 at_1 e_1 d_1 q1_0 q1_1) (begins t kk ka z))) = cc
tuple_forth l c at e d gs j w h (expands _ (common c_0 at_0 e_0 d_0) (expands _ (paren c_1 at_1 e_1 d_1 ay_1 q1_0) (begins t kk ka z))) = cc

pub on_tuple : {most : Limits} (c : Context) (j : Word) (rest : List Word) → (c.mode ≡ InSize → ⊥) → j.kind ≡ k.LeftBrace → c.open_ < most.brackets →
    Passes most {X = Placed Expr} {Y = List Expr × ℕ} calls (operand_in c) (j ∷ rest) (exprs_in k.RightBrace (inside (under c))) rest (λ r. record { at = j.at; tree = x.Tuple j.at r.0; height = r.1 + 1 })
on_tuple c j rest m h b = record {
  front = j ∷ [];
  whole = refl;
  back = λ l v r gs w d. let room : c.open_ < l.brackets = omega (arith, v.brackets) in expands _ (tuple c j.at _ _ _ _ m room refl refl) (begins j h refl d);
  forth = λ l r gs w f s d. let n = tuple_forth l c r.at r.tree r.height gs j w h d in (n.2, same_placed n.1 n.3 n.4, n.5);
}

-- ---- Lists

list_forth : (l : Limits) (c : Context) (at : Span) (e : Expr) (d : ℕ) (gs : List Goal) (j : Word) (w : List Word) → j.kind ≡ k.LeftBracket → Spells l (Of (Operand c at e d) ∷ gs) (j ∷ w) → (c.open_ < l.brackets) × (at ≡ j.at) × Spells l (Of (ListRest c j.at e d) ∷ gs) w
list_forth l c at e d gs j w h (expands _ (prefix c_0 at_0 e_0 d_0 t_0 op_0 ay_0 y_0 dy_0 q0_0 q0_1 q0_2 q0_3 q0_4) (this z)) = absurd (no_prefix (ap prefix_of h) q0_0)
list_forth l c at e d gs j w h (expands _ (atom c_0 at_0 e_0 d_0 t_0 q0_0 q0_1) (this z)) = cc
list_forth l c at e d gs j w h (expands _ (macro c_0 at_0 e_0 d_0 t_0 q0_0 q0_1) (begins t kk ka z)) = cc
list_forth l c at e d gs j w h (expands _ (tuple c_0 at_0 e_0 d_0 ys_0 dys_0 q0_0 q0_1 q0_2 q0_3) (begins t kk ka z)) = cc
list_forth l c at e d gs j w h (expands _ (list c_0 at_0 e_0 d_0 q0_0 q0_1) (begins t kk ka z)) = let P : Span → Type 0 = λ v. Spells l (Of (ListRest c v e d) ∷ gs) w in (q0_1, ka, subst P ka z)
list_forth l c at e d gs j w h (expands _ (case c_0 at_0 e_0 d_0 ay_0 y_0 dy_0 alts_0 da_0 q0_0 q0_1 q0_2 q0_3 q0_4) (begins t kk ka z)) = cc
list_forth l c at e d gs j w h (expands _ (receive c_0 at_0 e_0 d_0 alts_0 da_0 q0_0 q0_1 q0_2 q0_3 q0_4) (begins t kk ka z)) = cc
list_forth l c at e d gs j w h (expands _ (if_ c_0 at_0 e_0 d_0 bs_0 db_0 q0_0 q0_1 q0_2 q0_3 q0_4) (begins t kk ka z)) = cc
list_forth l c at e d gs j w h (expands _ (common c_0 at_0 e_0 d_0) (expands _ (variable c_1 at_1 e_1 d_1 t_1 q1_0 q1_1 q1_2 q1_3) (this z))) = cc
list_forth l c at e d gs j w h (expands _ (common c_0 at_0 e_0 d_0) (expands _ (integer c_1 at_1 e_1 d_1 t_1 q1_0 q1_1 q1_2 q1_3) (this z))) = cc
list_forth l c at e d gs j w h (expands _ (common c_0 at_0 e_0 d_0) (expands _ (character c_1 at_1 e_1 d_1 t_1 q1_0 q1_1 q1_2 q1_3) (this z))) = cc
list_forth l c at e d gs j w h (expands _ (common c_0 at_0 e_0 d_0) (expands _ (string c_1 at_1 e_1 d_1 t_1 q1_0 q1_1 q1_2 q1_3 q1_4) (this z))) = cc
list_forth l c at e d gs j w h (expands _ (common c_0 at_0 e_0 d_0) (expands _ (bits c_1 at_1 e_1 d_1 q1_0 q1_1) (begins t kk ka z))) = cc
list_forth l c at e d gs j w h (expands _ (common c_0 at_0 e_0 d_0) (expands _ (paren c_1 at_1 e_1 d_1 ay_1 q1_0) (begins t kk ka z))) = cc

pub on_list : {most : Limits} (c : Context) (j : Word) (rest : List Word) → (c.mode ≡ InSize → ⊥) → j.kind ≡ k.LeftBracket → c.open_ < most.brackets → Passes most {X = Placed Expr} {Y = Expr × ℕ} calls (operand_in c) (j ∷ rest) (list_in c j.at) rest (λ r. record { at = j.at; tree = r.0; height = r.1 })
on_list c j rest m h b = record {
  front = j ∷ [];
  whole = refl;
  back = λ l v r gs w d. let room : c.open_ < l.brackets = omega (arith, v.brackets) in expands _ (list c j.at _ _ m room) (begins j h refl d);
  forth = λ l r gs w f s d. let n = list_forth l c r.at r.tree r.height gs j w h d in ((r.tree, r.height), same_placed n.1 refl refl, n.2);
}

-- ---- Blocks

abbrev pub case_with : Span → Placed Expr × (List Alt × ℕ) → Placed Expr
case_with at p = record { at = at; tree = x.Case at (p.0.tree ∷ []) p.1.0; height = max p.0.height p.1.1 + 1 }

abbrev Room : Limits → Context → Type 0
Room l c = (c.open_ < l.brackets) × (c.deep + 1 ≤ l.trees)

case_forth : (l : Limits) (c : Context) (at : Span) (e : Expr) (d : ℕ) (gs : List Goal) (j : Word) (w : List Word) → j.kind ≡ k.Case → Spells l (Of (Operand c at e d) ∷ gs) (j ∷ w) →
    Room l c × (at ≡ j.at) × (p : Placed Expr × (List Alt × ℕ)) × (e ≡ x.Case j.at (p.0.tree ∷ []) p.1.0) × (d ≡ max p.0.height p.1.1 + 1) × Spells l (Of (Level 0 (inside (under c)) p.0.at p.0.tree p.0.height) ∷ Mark k.Of ∷ Of (Alts (inside (under c)) p.1.0 p.1.1) ∷ gs) w
case_forth l c at e d gs j w h (expands _ (prefix c_0 at_0 e_0 d_0 t_0 op_0 ay_0 y_0 dy_0 q0_0 q0_1 q0_2 q0_3 q0_4) (this z)) = absurd (no_prefix (ap prefix_of h) q0_0)
case_forth l c at e d gs j w h (expands _ (atom c_0 at_0 e_0 d_0 t_0 q0_0 q0_1) (this z)) = cc
case_forth l c at e d gs j w h (expands _ (macro c_0 at_0 e_0 d_0 t_0 q0_0 q0_1) (begins t kk ka z)) = cc
case_forth l c at e d gs j w h (expands _ (tuple c_0 at_0 e_0 d_0 ys_0 dys_0 q0_0 q0_1 q0_2 q0_3) (begins t kk ka z)) = cc
case_forth l c at e d gs j w h (expands _ (list c_0 at_0 e_0 d_0 q0_0 q0_1) (begins t kk ka z)) = cc
case_forth l c at e d gs j w h (expands _ (case c_0 at_0 e_0 d_0 ay_0 y_0 dy_0 alts_0 da_0 q0_0 q0_1 q0_2 q0_3 q0_4) (begins t kk ka z)) = ((q0_1, q0_2), ka, (record { at = ay_0; tree = y_0; height = dy_0 }, (alts_0, da_0)), q0_3 ∙ ap (λ v. x.Case v (y_0 ∷ []) alts_0) ka, q0_4, z)
case_forth l c at e d gs j w h (expands _ (receive c_0 at_0 e_0 d_0 alts_0 da_0 q0_0 q0_1 q0_2 q0_3 q0_4) (begins t kk ka z)) = cc
case_forth l c at e d gs j w h (expands _ (if_ c_0 at_0 e_0 d_0 bs_0 db_0 q0_0 q0_1 q0_2 q0_3 q0_4) (begins t kk ka z)) = cc
case_forth l c at e d gs j w h (expands _ (common c_0 at_0 e_0 d_0) (expands _ (variable c_1 at_1 e_1 d_1 t_1 q1_0 q1_1 q1_2 q1_3) (this z))) = cc
case_forth l c at e d gs j w h (expands _ (common c_0 at_0 e_0 d_0) (expands _ (integer c_1 at_1 e_1 d_1 t_1 q1_0 q1_1 q1_2 q1_3) (this z))) = cc
case_forth l c at e d gs j w h (expands _ (common c_0 at_0 e_0 d_0) (expands _ (character c_1 at_1 e_1 d_1 t_1 q1_0 q1_1 q1_2 q1_3) (this z))) = cc
case_forth l c at e d gs j w h (expands _ (common c_0 at_0 e_0 d_0) (expands _ (string c_1 at_1 e_1 d_1 t_1 q1_0 q1_1 q1_2 q1_3 q1_4) (this z))) = cc
case_forth l c at e d gs j w h (expands _ (common c_0 at_0 e_0 d_0) (expands _ (bits c_1 at_1 e_1 d_1 q1_0 q1_1) (begins t kk ka z))) = cc
case_forth l c at e d gs j w h (expands _ (common c_0 at_0 e_0 d_0) (expands _ (paren c_1 at_1 e_1 d_1 ay_1 q1_0) (begins t kk ka z))) = cc

pub on_case : {most : Limits} (c : Context) (j : Word) (rest : List Word) → c.mode ≡ InBody → j.kind ≡ k.Case → c.open_ < most.brackets → c.deep + 1 ≤ most.trees →
    Passes most {X = Placed Expr} {Y = Placed Expr × (List Alt × ℕ)} calls (operand_in c) (j ∷ rest) (case_in (inside (under c))) rest (case_with j.at)
on_case c j rest m h b a = record {
  front = j ∷ [];
  whole = refl;
  back = λ l v p gs w d. let room : c.open_ < l.brackets = omega (arith, v.brackets) in let deep : c.deep + 1 ≤ l.trees = omega (arith, v.trees) in expands _ (case c j.at _ _ _ _ _ _ _ m room deep refl refl) (begins j h refl d);
  forth = λ l r gs w f s d. let n = case_forth l c r.at r.tree r.height gs j w h d in (n.2, same_placed n.1 n.3 n.4, n.5);
}

receive_forth : (l : Limits) (c : Context) (at : Span) (e : Expr) (d : ℕ) (gs : List Goal) (j : Word) (w : List Word) → j.kind ≡ k.Receive → Spells l (Of (Operand c at e d) ∷ gs) (j ∷ w) →
    Room l c × (at ≡ j.at) × (r : List Alt × ℕ) × (e ≡ x.Receive j.at r.0) × (d ≡ r.1 + 1) × Spells l (Of (Alts (inside (under c)) r.0 r.1) ∷ gs) w
receive_forth l c at e d gs j w h (expands _ (prefix c_0 at_0 e_0 d_0 t_0 op_0 ay_0 y_0 dy_0 q0_0 q0_1 q0_2 q0_3 q0_4) (this z)) = absurd (no_prefix (ap prefix_of h) q0_0)
receive_forth l c at e d gs j w h (expands _ (atom c_0 at_0 e_0 d_0 t_0 q0_0 q0_1) (this z)) = cc
receive_forth l c at e d gs j w h (expands _ (macro c_0 at_0 e_0 d_0 t_0 q0_0 q0_1) (begins t kk ka z)) = cc
receive_forth l c at e d gs j w h (expands _ (tuple c_0 at_0 e_0 d_0 ys_0 dys_0 q0_0 q0_1 q0_2 q0_3) (begins t kk ka z)) = cc
receive_forth l c at e d gs j w h (expands _ (list c_0 at_0 e_0 d_0 q0_0 q0_1) (begins t kk ka z)) = cc
receive_forth l c at e d gs j w h (expands _ (case c_0 at_0 e_0 d_0 ay_0 y_0 dy_0 alts_0 da_0 q0_0 q0_1 q0_2 q0_3 q0_4) (begins t kk ka z)) = cc
receive_forth l c at e d gs j w h (expands _ (receive c_0 at_0 e_0 d_0 alts_0 da_0 q0_0 q0_1 q0_2 q0_3 q0_4) (begins t kk ka z)) = ((q0_1, q0_2), ka, (alts_0, da_0), q0_3 ∙ ap (λ v. x.Receive v alts_0) ka, q0_4, z)
receive_forth l c at e d gs j w h (expands _ (if_ c_0 at_0 e_0 d_0 bs_0 db_0 q0_0 q0_1 q0_2 q0_3 q0_4) (begins t kk ka z)) = cc
receive_forth l c at e d gs j w h (expands _ (common c_0 at_0 e_0 d_0) (expands _ (variable c_1 at_1 e_1 d_1 t_1 q1_0 q1_1 q1_2 q1_3) (this z))) = cc
receive_forth l c at e d gs j w h (expands _ (common c_0 at_0 e_0 d_0) (expands _ (integer c_1 at_1 e_1 d_1 t_1 q1_0 q1_1 q1_2 q1_3) (this z))) = cc
receive_forth l c at e d gs j w h (expands _ (common c_0 at_0 e_0 d_0) (expands _ (character c_1 at_1 e_1 d_1 t_1 q1_0 q1_1 q1_2 q1_3) (this z))) = cc
receive_forth l c at e d gs j w h (expands _ (common c_0 at_0 e_0 d_0) (expands _ (string c_1 at_1 e_1 d_1 t_1 q1_0 q1_1 q1_2 q1_3 q1_4) (this z))) = cc
receive_forth l c at e d gs j w h (expands _ (common c_0 at_0 e_0 d_0) (expands _ (bits c_1 at_1 e_1 d_1 q1_0 q1_1) (begins t kk ka z))) = cc
receive_forth l c at e d gs j w h (expands _ (common c_0 at_0 e_0 d_0) (expands _ (paren c_1 at_1 e_1 d_1 ay_1 q1_0) (begins t kk ka z))) = cc

pub on_receive : {most : Limits} (c : Context) (j : Word) (rest : List Word) → c.mode ≡ InBody → j.kind ≡ k.Receive → c.open_ < most.brackets → c.deep + 1 ≤ most.trees →
    Passes most {X = Placed Expr} {Y = List Alt × ℕ} calls (operand_in c) (j ∷ rest) (alts_in (inside (under c))) rest (λ r. record { at = j.at; tree = x.Receive j.at r.0; height = r.1 + 1 })
on_receive c j rest m h b a = record {
  front = j ∷ [];
  whole = refl;
  back = λ l v r gs w d. let room : c.open_ < l.brackets = omega (arith, v.brackets) in let deep : c.deep + 1 ≤ l.trees = omega (arith, v.trees) in expands _ (receive c j.at _ _ _ _ m room deep refl refl) (begins j h refl d);
  forth = λ l r gs w f s d. let n = receive_forth l c r.at r.tree r.height gs j w h d in (n.2, same_placed n.1 n.3 n.4, n.5);
}

if_forth : (l : Limits) (c : Context) (at : Span) (e : Expr) (d : ℕ) (gs : List Goal) (j : Word) (w : List Word) → j.kind ≡ k.If → Spells l (Of (Operand c at e d) ∷ gs) (j ∷ w) →
    Room l c × (at ≡ j.at) × (r : List Branch × ℕ) × (e ≡ x.If j.at r.0) × (d ≡ r.1 + 1) × Spells l (Of (Branches (inside (under c)) r.0 r.1) ∷ gs) w
if_forth l c at e d gs j w h (expands _ (prefix c_0 at_0 e_0 d_0 t_0 op_0 ay_0 y_0 dy_0 q0_0 q0_1 q0_2 q0_3 q0_4) (this z)) = absurd (no_prefix (ap prefix_of h) q0_0)
if_forth l c at e d gs j w h (expands _ (atom c_0 at_0 e_0 d_0 t_0 q0_0 q0_1) (this z)) = cc
if_forth l c at e d gs j w h (expands _ (macro c_0 at_0 e_0 d_0 t_0 q0_0 q0_1) (begins t kk ka z)) = cc
if_forth l c at e d gs j w h (expands _ (tuple c_0 at_0 e_0 d_0 ys_0 dys_0 q0_0 q0_1 q0_2 q0_3) (begins t kk ka z)) = cc
if_forth l c at e d gs j w h (expands _ (list c_0 at_0 e_0 d_0 q0_0 q0_1) (begins t kk ka z)) = cc
if_forth l c at e d gs j w h (expands _ (case c_0 at_0 e_0 d_0 ay_0 y_0 dy_0 alts_0 da_0 q0_0 q0_1 q0_2 q0_3 q0_4) (begins t kk ka z)) = cc
if_forth l c at e d gs j w h (expands _ (receive c_0 at_0 e_0 d_0 alts_0 da_0 q0_0 q0_1 q0_2 q0_3 q0_4) (begins t kk ka z)) = cc
if_forth l c at e d gs j w h (expands _ (if_ c_0 at_0 e_0 d_0 bs_0 db_0 q0_0 q0_1 q0_2 q0_3 q0_4) (begins t kk ka z)) = ((q0_1, q0_2), ka, (bs_0, db_0), q0_3 ∙ ap (λ v. x.If v bs_0) ka, q0_4, z)
if_forth l c at e d gs j w h (expands _ (common c_0 at_0 e_0 d_0) (expands _ (variable c_1 at_1 e_1 d_1 t_1 q1_0 q1_1 q1_2 q1_3) (this z))) = cc
if_forth l c at e d gs j w h (expands _ (common c_0 at_0 e_0 d_0) (expands _ (integer c_1 at_1 e_1 d_1 t_1 q1_0 q1_1 q1_2 q1_3) (this z))) = cc
if_forth l c at e d gs j w h (expands _ (common c_0 at_0 e_0 d_0) (expands _ (character c_1 at_1 e_1 d_1 t_1 q1_0 q1_1 q1_2 q1_3) (this z))) = cc
if_forth l c at e d gs j w h (expands _ (common c_0 at_0 e_0 d_0) (expands _ (string c_1 at_1 e_1 d_1 t_1 q1_0 q1_1 q1_2 q1_3 q1_4) (this z))) = cc
if_forth l c at e d gs j w h (expands _ (common c_0 at_0 e_0 d_0) (expands _ (bits c_1 at_1 e_1 d_1 q1_0 q1_1) (begins t kk ka z))) = cc
if_forth l c at e d gs j w h (expands _ (common c_0 at_0 e_0 d_0) (expands _ (paren c_1 at_1 e_1 d_1 ay_1 q1_0) (begins t kk ka z))) = cc

pub on_if : {most : Limits} (c : Context) (j : Word) (rest : List Word) → c.mode ≡ InBody → j.kind ≡ k.If → c.open_ < most.brackets → c.deep + 1 ≤ most.trees →
    Passes most {X = Placed Expr} {Y = List Branch × ℕ} calls (operand_in c) (j ∷ rest) (branches_in (inside (under c))) rest (λ r. record { at = j.at; tree = x.If j.at r.0; height = r.1 + 1 })
on_if c j rest m h b a = record {
  front = j ∷ [];
  whole = refl;
  back = λ l v r gs w d. let room : c.open_ < l.brackets = omega (arith, v.brackets) in let deep : c.deep + 1 ≤ l.trees = omega (arith, v.trees) in expands _ (if_ c j.at _ _ _ _ m room deep refl refl) (begins j h refl d);
  forth = λ l r gs w f s d. let n = if_forth l c r.at r.tree r.height gs j w h d in (n.2, same_placed n.1 n.3 n.4, n.5);
}

-- behind the value of a `case`
of_follows : (l : Limits) (gs : List Goal) (t : Word) (w : List Word) → IsTrue (extends 0 t.kind) → Spells l (Mark k.Of ∷ gs) (t ∷ w) → ⊥
of_follows l gs t w h (takes u i z) = let a : extends 0 t.kind ≡ extends 0 k.Of = ap (extends 0) i in cc

pub behind_value : (c : Context) (outer : TokenKind → Bool) → Behind {X = Placed Expr} {Y = List Alt × ℕ} (extends 0) outer (of_alts c)
behind_value c outer = record { behind = λ l p q gs f t w h d. of_follows l (Of (Alts c q.0 q.1) ∷ gs) t w h d }

pub value_spelled : {most : Limits} (c : Context) → Spelled most {X = Placed Expr} {Y = List Alt × ℕ} (of_alts c) (mark_word k.Of ∷ clause_words [])
value_spelled c = record { tree = λ p. (some_alt ∷ [], 1); spelled = λ l v p gs w d. takes (mark_word k.Of) refl (alts_spell l c gs w d) }

-- ---- Refusals

stops_at : (most : Limits) (c : Context) (j : Word) (rest : List Word) → ((l : Limits) → l.trees ≡ most.trees → l.brackets ≡ most.brackets → (r : Placed Expr) (gs : List Goal) (w : List Word) → Spells l (operand_in c r ++ gs) (j ∷ w) → ⊥) → (l : Limits) → l.trees ≡ most.trees → l.brackets ≡ most.brackets → (r : Placed Expr) (gs : List Goal) (w : List Word) → SameHead w (j ∷ rest) → Spells l (operand_in c r ++ gs) w → ⊥
stops_at most c j rest stop l i n r gs [] s d = s
stops_at most c j rest stop l i n r gs (t ∷ w) s d = let P : Word → Type 0 = λ v. Spells l (operand_in c r ++ gs) (v ∷ w) in stop l i n r gs w (subst P s d)

too_deep : {most : Limits} (c : Context) (j : Word) (rest : List Word) → Begun most c j → ((l : Limits) → l.trees ≡ most.trees → l.brackets ≡ most.brackets → (r : Placed Expr) (gs : List Goal) (w : List Word) → Spells l (operand_in c r ++ gs) (j ∷ w) → ⊥) → IsRefused most {X = Placed Expr} calls (operand_in c) (j ∷ rest) (j ∷ rest) TooDeep
too_deep {most = most} c j rest g stop = record {
  front = [];
  whole = refl;
  tree = some_expr;
  more = some_word ∷ [];
  goes_on = λ l v gs w d. operand_spells l c gs w d;
  stops = λ l i r gs w f s d. stops_at most c j rest stop l i.trees i.brackets r gs w s d;
  excused = record {
    limits = deeper most (c.deep + 1) (c.open_ + 1);
    wide = deeper_wide most (c.deep + 1) (c.open_ + 1);
    allows = (refl, refl);
    first = j;
    behind = rest;
    begins = refl;
    tree = g.tree;
    more = g.more;
    goes_on = λ gs w d. g.spelled gs w d;
  };
}

pub tuple_deep : {most : Limits} (c : Context) (j : Word) (rest : List Word) → (c.mode ≡ InSize → ⊥) → j.kind ≡ k.LeftBrace → most.brackets ≤ c.open_ → IsRefused most {X = Placed Expr} calls (operand_in c) (j ∷ rest) (j ∷ rest) TooDeep
tuple_deep c j rest m h b = too_deep c j rest (begun_tuple c j m h) (λ l i n r gs w d. let a : c.open_ < l.brackets = (tuple_forth l c r.at r.tree r.height gs j w h d).0 in omega arith)

pub list_deep : {most : Limits} (c : Context) (j : Word) (rest : List Word) → (c.mode ≡ InSize → ⊥) → j.kind ≡ k.LeftBracket → most.brackets ≤ c.open_ → IsRefused most {X = Placed Expr} calls (operand_in c) (j ∷ rest) (j ∷ rest) TooDeep
list_deep c j rest m h b = too_deep c j rest (begun_list c j m h) (λ l i n r gs w d. let a : c.open_ < l.brackets = (list_forth l c r.at r.tree r.height gs j w h d).0 in omega arith)

no_room : (most : Limits) (l : Limits) (c : Context) → l.trees ≡ most.trees → l.brackets ≡ most.brackets → (most.brackets ≤ c.open_ ⊎ most.trees < c.deep + 1) → Room l c → ⊥
no_room most l c i n (inl b) r = let a : c.open_ < l.brackets = r.0 in omega arith
no_room most l c i n (inr b) r = let a : c.deep + 1 ≤ l.trees = r.1 in omega arith

block_room : (l : Limits) (c : Context) (at : Span) (e : Expr) (d : ℕ) (gs : List Goal) (j : Word) (w : List Word) (kind : TokenKind) → j.kind ≡ kind → IsTrue (begins_block kind) → Spells l (Of (Operand c at e d) ∷ gs) (j ∷ w) → Room l c
block_room l c at e d gs j w k.Case h b z = (case_forth l c at e d gs j w h z).0
block_room l c at e d gs j w k.Receive h b z = (receive_forth l c at e d gs j w h z).0
block_room l c at e d gs j w k.If h b z = (if_forth l c at e d gs j w h z).0
block_room l c at e d gs j w _ h b z = cc

pub block_deep : {most : Limits} (c : Context) (j : Word) (rest : List Word) → c.mode ≡ InBody → IsTrue (begins_block j.kind) → (most.brackets ≤ c.open_ ⊎ most.trees < c.deep + 1) → IsRefused most {X = Placed Expr} calls (operand_in c) (j ∷ rest) (j ∷ rest) TooDeep
block_deep {most = most} c j rest m h b = too_deep c j rest (begun_block c j j.kind m refl h) (λ l i n r gs w d. no_room most l c i n b (block_room l c r.at r.tree r.height gs j w j.kind refl h d))

-- ---- What begins as none of the others

pub record NoneElse (c : Context) (j : Word) : Type 0 where
  pub prefix : prefix_of j.kind ≡ None
  pub atom : j.kind ≡ k.Atom → ⊥
  pub question : j.kind ≡ k.Question → ⊥
  pub brace : j.kind ≡ k.LeftBrace → ⊥
  pub bracket : j.kind ≡ k.LeftBracket → ⊥
  pub block : c.mode ≡ InBody → IsTrue (begins_block j.kind) → ⊥

pub data OnlyCommon (c : Context) : List Word → Type 0 where
  none_else_end : OnlyCommon c []
  none_else : (j : Word) (rest : List Word) → NoneElse c j → OnlyCommon c (j ∷ rest)

common_forth : (l : Limits) (c : Context) (at : Span) (e : Expr) (d : ℕ) (gs : List Goal) (rest w : List Word) → OnlyCommon c rest → SameHead w rest → Spells l (Of (Operand c at e d) ∷ gs) w → Spells l (Of (Common c at e d) ∷ gs) w
common_forth l c at e d gs _ w none_else_end s (expands _ (prefix c_0 at_0 e_0 d_0 t_0 op_0 ay_0 y_0 dy_0 q0_0 q0_1 q0_2 q0_3 q0_4) (this z)) = absurd s
common_forth l c at e d gs _ w none_else_end s (expands _ (atom c_0 at_0 e_0 d_0 t_0 q0_0 q0_1) (this z)) = absurd s
common_forth l c at e d gs _ w none_else_end s (expands _ (macro c_0 at_0 e_0 d_0 t_0 q0_0 q0_1) (begins t kk ka z)) = absurd s
common_forth l c at e d gs _ w none_else_end s (expands _ (tuple c_0 at_0 e_0 d_0 ys_0 dys_0 q0_0 q0_1 q0_2 q0_3) (begins t kk ka z)) = absurd s
common_forth l c at e d gs _ w none_else_end s (expands _ (list c_0 at_0 e_0 d_0 q0_0 q0_1) (begins t kk ka z)) = absurd s
common_forth l c at e d gs _ w none_else_end s (expands _ (case c_0 at_0 e_0 d_0 ay_0 y_0 dy_0 alts_0 da_0 q0_0 q0_1 q0_2 q0_3 q0_4) (begins t kk ka z)) = absurd s
common_forth l c at e d gs _ w none_else_end s (expands _ (receive c_0 at_0 e_0 d_0 alts_0 da_0 q0_0 q0_1 q0_2 q0_3 q0_4) (begins t kk ka z)) = absurd s
common_forth l c at e d gs _ w none_else_end s (expands _ (if_ c_0 at_0 e_0 d_0 bs_0 db_0 q0_0 q0_1 q0_2 q0_3 q0_4) (begins t kk ka z)) = absurd s
common_forth l c at e d gs _ w none_else_end s (expands _ (common c_0 at_0 e_0 d_0) z) = z
common_forth l c at e d gs _ w (none_else j rest m) s (expands _ (prefix c_0 at_0 e_0 d_0 t_0 op_0 ay_0 y_0 dy_0 q0_0 q0_1 q0_2 q0_3 q0_4) (this z)) = absurd (no_prefix m.prefix (ap (λ v. prefix_of v.kind) (sym s) ∙ q0_0))
common_forth l c at e d gs _ w (none_else j rest m) s (expands _ (atom c_0 at_0 e_0 d_0 t_0 q0_0 q0_1) (this z)) = absurd (m.atom (ap (λ v. v.kind) (sym s) ∙ q0_0))
common_forth l c at e d gs _ w (none_else j rest m) s (expands _ (macro c_0 at_0 e_0 d_0 t_0 q0_0 q0_1) (begins t kk ka z)) = absurd (m.question (ap (λ v. v.kind) (sym s) ∙ kk))
common_forth l c at e d gs _ w (none_else j rest m) s (expands _ (tuple c_0 at_0 e_0 d_0 ys_0 dys_0 q0_0 q0_1 q0_2 q0_3) (begins t kk ka z)) = absurd (m.brace (ap (λ v. v.kind) (sym s) ∙ kk))
common_forth l c at e d gs _ w (none_else j rest m) s (expands _ (list c_0 at_0 e_0 d_0 q0_0 q0_1) (begins t kk ka z)) = absurd (m.bracket (ap (λ v. v.kind) (sym s) ∙ kk))
common_forth l c at e d gs _ w (none_else j rest m) s (expands _ (case c_0 at_0 e_0 d_0 ay_0 y_0 dy_0 alts_0 da_0 q0_0 q0_1 q0_2 q0_3 q0_4) (begins t kk ka z)) = absurd (m.block q0_0 (ap (λ v. begins_block v.kind) (sym s) ∙ ap begins_block kk))
common_forth l c at e d gs _ w (none_else j rest m) s (expands _ (receive c_0 at_0 e_0 d_0 alts_0 da_0 q0_0 q0_1 q0_2 q0_3 q0_4) (begins t kk ka z)) = absurd (m.block q0_0 (ap (λ v. begins_block v.kind) (sym s) ∙ ap begins_block kk))
common_forth l c at e d gs _ w (none_else j rest m) s (expands _ (if_ c_0 at_0 e_0 d_0 bs_0 db_0 q0_0 q0_1 q0_2 q0_3 q0_4) (begins t kk ka z)) = absurd (m.block q0_0 (ap (λ v. begins_block v.kind) (sym s) ∙ ap begins_block kk))
common_forth l c at e d gs _ w (none_else j rest m) s (expands _ (common c_0 at_0 e_0 d_0) z) = z

pub only_common : {most : Limits} (c : Context) (rest : List Word) → OnlyCommon c rest → Passes most {X = Placed Expr} {Y = Placed Expr} calls (operand_in c) rest (common_in c) rest (λ p. p)
only_common c rest h = record {
  front = [];
  whole = refl;
  back = λ l v p gs w d. expands _ (common c _ _ _) d;
  forth = λ l r gs w f s d. (r, refl, common_forth l c r.at r.tree r.height gs rest w h s d);
}
