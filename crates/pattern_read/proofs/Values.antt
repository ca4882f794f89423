-- The laws of the values of segments of patterns, and what each exit of their readers says.
use Rattle.std.proofs.Common.{◌≡◌, ℕ, ℤ, ◌+◌, ◌≤◌, ◌<◌, true, false, IsTrue, List, [], ◌∷◌, ◌++◌, drop, Option, Some, Ok, refl, sym, ap, subst, ◌∙◌, arith, pos, ◌⊎◌, inl, inr}
use Rattle.erl_syntax.specs.declared.span.Span.{Span}
use Rattle.erl_syntax.specs.declared.token.TokenKind.{TokenKind}
use Rattle.erl_syntax.specs.declared.token.TokenKind.TheVariants as k
use Rattle.erl_syntax.specs.declared.expr.Expr.{Expr}
use Rattle.erl_syntax.specs.declared.expr.Expr.TheVariants as x
use Rattle.erl_syntax.specs.declared.expr.Prefix.{Prefix}
use Rattle.erl_syntax.specs.declared.expr.Prefix.TheVariants as f
use Rattle.erl_syntax.specs.Word.{Word}
use Rattle.erl_syntax.specs.Operators.{prefix_of}
use Rattle.erl_syntax.specs.Grammar.{Context, Limits, Goal, The, Of, PatternValue, value_variable, value_wild, value_integer, value_signed, value_character, value_string, Spells, begins, this, expands}
use Rattle.pattern_read.specs.Cursor.{StandsAt, number_of}
use Rattle.pattern_read.specs.declared.cursor.Numbered.{Numbered}
use Rattle.pattern_read.specs.declared.placed.Placed.{Placed}
use Rattle.pattern_read.specs.declared.fault.Cause.TheVariants.{Syntax, TooDeep}
use Rattle.pattern_read.specs.Reading.{Passes, IsRefused, SameHead, Gives, closed, nothing}
use Rattle.pattern_read.specs.Wanted.{NoMark, no_mark_end, no_mark}
use Rattle.pattern_read.specs.WantedPatterns.{begins_value, pattern_value_in}
use Rattle.pattern_read.proofs.Passing.{at_token, refused_at, remade}
use Rattle.pattern_read.proofs.Levels.{same_placed}
use Rattle.pattern_read.proofs.Operands.{mark_word, some_place, deeper, deeper_wide}
use Rattle.pattern_read.proofs.PatBegins.{is_sign, some_number}
use Rattle.pattern_read.specs.Cursor.{Readable}

one_prefix : {found : Option Prefix} {p q : Prefix} → found ≡ Some p → found ≡ Some q → p ≡ q
one_prefix a b = cc

signed_is : {kind : TokenKind} → (kind ≡ k.Plus ⊎ kind ≡ k.Minus) → is_sign kind ≡ true
signed_is (inl e) = ap is_sign e
signed_is (inr e) = ap is_sign e

sign_begins : {kind : TokenKind} → (kind ≡ k.Plus ⊎ kind ≡ k.Minus) → IsTrue (begins_value kind)
sign_begins (inl e) = ap begins_value e
sign_begins (inr e) = ap begins_value e

first_value : (l : Limits) (c : Context) (at : Span) (e : Expr) (d : ℕ) (gs : List Goal) (j : Word) (w : List Word) → Spells l (Of (PatternValue c at e d) ∷ gs) (j ∷ w) → IsTrue (begins_value j.kind)
first_value l c at e d gs j w (expands _ (value_variable c_0 at_0 e_0 d_0 t_0 q0 q1 q2 q3) (this z)) = ap begins_value q0
first_value l c at e d gs j w (expands _ (value_wild c_0 at_0 e_0 d_0 q0 q1) (begins t kk ka z)) = ap begins_value kk
first_value l c at e d gs j w (expands _ (value_integer c_0 at_0 e_0 d_0 t_0 q0 q1 q2 q3) (this z)) = ap begins_value q0
first_value l c at e d gs j w (expands _ (value_signed c_0 at_0 e_0 d_0 t_0 n_0 op_0 q0 q1 q2 q3 q4 q5 q6) (this z)) = sign_begins q0
first_value l c at e d gs j w (expands _ (value_character c_0 at_0 e_0 d_0 t_0 q0 q1 q2 q3) (this z)) = ap begins_value q0
first_value l c at e d gs j w (expands _ (value_string c_0 at_0 e_0 d_0 t_0 q0 q1 q2 q3) (this z)) = ap begins_value q0

variable_forth : (l : Limits) (c : Context) (at : Span) (e : Expr) (d : ℕ) (gs : List Goal) (j : Word) (w : List Word) → j.kind ≡ k.Variable → Spells l (Of (PatternValue c at e d) ∷ gs) (j ∷ w) → (at ≡ j.at) × (e ≡ x.Var j.at j.chars) × (d ≡ 1) × Spells l gs w
variable_forth l c at e d gs j w h (expands _ (value_variable c_0 at_0 e_0 d_0 t_0 q0 q1 q2 q3) (this z)) = (q1, q2 ∙ ap (λ v. x.Var v j.chars) q1, q3, z)
variable_forth l c at e d gs j w h (expands _ (value_wild c_0 at_0 e_0 d_0 q0 q1) (begins t kk ka z)) = cc
variable_forth l c at e d gs j w h (expands _ (value_integer c_0 at_0 e_0 d_0 t_0 q0 q1 q2 q3) (this z)) = cc
variable_forth l c at e d gs j w h (expands _ (value_signed c_0 at_0 e_0 d_0 t_0 n_0 op_0 q0 q1 q2 q3 q4 q5 q6) (this z)) = let a : is_sign j.kind ≡ true = signed_is q0 in let b : is_sign j.kind ≡ false = ap is_sign h in cc
variable_forth l c at e d gs j w h (expands _ (value_character c_0 at_0 e_0 d_0 t_0 q0 q1 q2 q3) (this z)) = cc
variable_forth l c at e d gs j w h (expands _ (value_string c_0 at_0 e_0 d_0 t_0 q0 q1 q2 q3) (this z)) = cc

on_variable : {most : Limits} (c : Context) (j : Word) (rest : List Word) → j.kind ≡ k.Variable → Passes most {X = Placed Expr} closed (pattern_value_in c) (j ∷ rest) nothing rest (λ u. record { at = j.at; tree = x.Var j.at j.chars; height = 1 })
on_variable c j rest h = record {
  front = j ∷ [];
  whole = refl;
  back = λ l v u gs w d. expands _ (value_variable c _ _ _ j h refl refl refl) (this d);
  forth = λ l r gs w o s d. let m = variable_forth l c r.at r.tree r.height gs j w h d in (tt, same_placed m.0 m.1 m.2, m.3);
}

wild_forth : (l : Limits) (c : Context) (at : Span) (e : Expr) (d : ℕ) (gs : List Goal) (j : Word) (w : List Word) → j.kind ≡ k.Underscore → Spells l (Of (PatternValue c at e d) ∷ gs) (j ∷ w) → (at ≡ j.at) × (e ≡ x.Wild j.at) × (d ≡ 1) × Spells l gs w
wild_forth l c at e d gs j w h (expands _ (value_variable c_0 at_0 e_0 d_0 t_0 q0 q1 q2 q3) (this z)) = cc
wild_forth l c at e d gs j w h (expands _ (value_wild c_0 at_0 e_0 d_0 q0 q1) (begins t kk ka z)) = (ka, q0 ∙ ap (λ v. x.Wild v) ka, q1, z)
wild_forth l c at e d gs j w h (expands _ (value_integer c_0 at_0 e_0 d_0 t_0 q0 q1 q2 q3) (this z)) = cc
wild_forth l c at e d gs j w h (expands _ (value_signed c_0 at_0 e_0 d_0 t_0 n_0 op_0 q0 q1 q2 q3 q4 q5 q6) (this z)) = let a : is_sign j.kind ≡ true = signed_is q0 in let b : is_sign j.kind ≡ false = ap is_sign h in cc
wild_forth l c at e d gs j w h (expands _ (value_character c_0 at_0 e_0 d_0 t_0 q0 q1 q2 q3) (this z)) = cc
wild_forth l c at e d gs j w h (expands _ (value_string c_0 at_0 e_0 d_0 t_0 q0 q1 q2 q3) (this z)) = cc

on_wild : {most : Limits} (c : Context) (j : Word) (rest : List Word) → j.kind ≡ k.Underscore → Passes most {X = Placed Expr} closed (pattern_value_in c) (j ∷ rest) nothing rest (λ u. record { at = j.at; tree = x.Wild j.at; height = 1 })
on_wild c j rest h = record {
  front = j ∷ [];
  whole = refl;
  back = λ l v u gs w d. expands _ (value_wild c _ _ _ refl refl) (begins j h refl d);
  forth = λ l r gs w o s d. let m = wild_forth l c r.at r.tree r.height gs j w h d in (tt, same_placed m.0 m.1 m.2, m.3);
}

integer_forth : (l : Limits) (c : Context) (at : Span) (e : Expr) (d : ℕ) (gs : List Goal) (j : Word) (w : List Word) → j.kind ≡ k.Integer → Spells l (Of (PatternValue c at e d) ∷ gs) (j ∷ w) → (at ≡ j.at) × (e ≡ x.Int j.at (pos j.number)) × (d ≡ 1) × Spells l gs w
integer_forth l c at e d gs j w h (expands _ (value_variable c_0 at_0 e_0 d_0 t_0 q0 q1 q2 q3) (this z)) = cc
integer_forth l c at e d gs j w h (expands _ (value_wild c_0 at_0 e_0 d_0 q0 q1) (begins t kk ka z)) = cc
integer_forth l c at e d gs j w h (expands _ (value_integer c_0 at_0 e_0 d_0 t_0 q0 q1 q2 q3) (this z)) = (q1, q2 ∙ ap (λ v. x.Int v (pos j.number)) q1, q3, z)
integer_forth l c at e d gs j w h (expands _ (value_signed c_0 at_0 e_0 d_0 t_0 n_0 op_0 q0 q1 q2 q3 q4 q5 q6) (this z)) = let a : is_sign j.kind ≡ true = signed_is q0 in let b : is_sign j.kind ≡ false = ap is_sign h in cc
integer_forth l c at e d gs j w h (expands _ (value_character c_0 at_0 e_0 d_0 t_0 q0 q1 q2 q3) (this z)) = cc
integer_forth l c at e d gs j w h (expands _ (value_string c_0 at_0 e_0 d_0 t_0 q0 q1 q2 q3) (this z)) = cc

on_integer : {most : Limits} (c : Context) (j : Word) (rest : List Word) → j.kind ≡ k.Integer → Passes most {X = Placed Expr} closed (pattern_value_in c) (j ∷ rest) nothing rest (λ u. record { at = j.at; tree = x.Int j.at (pos j.number); height = 1 })
on_integer c j rest h = record {
  front = j ∷ [];
  whole = refl;
  back = λ l v u gs w d. expands _ (value_integer c _ _ _ j h refl refl refl) (this d);
  forth = λ l r gs w o s d. let m = integer_forth l c r.at r.tree r.height gs j w h d in (tt, same_placed m.0 m.1 m.2, m.3);
}

character_forth : (l : Limits) (c : Context) (at : Span) (e : Expr) (d : ℕ) (gs : List Goal) (j : Word) (w : List Word) → j.kind ≡ k.Character → Spells l (Of (PatternValue c at e d) ∷ gs) (j ∷ w) → (at ≡ j.at) × (e ≡ x.Char j.at j.number) × (d ≡ 1) × Spells l gs w
character_forth l c at e d gs j w h (expands _ (value_variable c_0 at_0 e_0 d_0 t_0 q0 q1 q2 q3) (this z)) = cc
character_forth l c at e d gs j w h (expands _ (value_wild c_0 at_0 e_0 d_0 q0 q1) (begins t kk ka z)) = cc
character_forth l c at e d gs j w h (expands _ (value_integer c_0 at_0 e_0 d_0 t_0 q0 q1 q2 q3) (this z)) = cc
character_forth l c at e d gs j w h (expands _ (value_signed c_0 at_0 e_0 d_0 t_0 n_0 op_0 q0 q1 q2 q3 q4 q5 q6) (this z)) = let a : is_sign j.kind ≡ true = signed_is q0 in let b : is_sign j.kind ≡ false = ap is_sign h in cc
character_forth l c at e d gs j w h (expands _ (value_character c_0 at_0 e_0 d_0 t_0 q0 q1 q2 q3) (this z)) = (q1, q2 ∙ ap (λ v. x.Char v j.number) q1, q3, z)
character_forth l c at e d gs j w h (expands _ (value_string c_0 at_0 e_0 d_0 t_0 q0 q1 q2 q3) (this z)) = cc

on_character : {most : Limits} (c : Context) (j : Word) (rest : List Word) → j.kind ≡ k.Character → Passes most {X = Placed Expr} closed (pattern_value_in c) (j ∷ rest) nothing rest (λ u. record { at = j.at; tree = x.Char j.at j.number; height = 1 })
on_character c j rest h = record {
  front = j ∷ [];
  whole = refl;
  back = λ l v u gs w d. expands _ (value_character c _ _ _ j h refl refl refl) (this d);
  forth = λ l r gs w o s d. let m = character_forth l c r.at r.tree r.height gs j w h d in (tt, same_placed m.0 m.1 m.2, m.3);
}

string_forth : (l : Limits) (c : Context) (at : Span) (e : Expr) (d : ℕ) (gs : List Goal) (j : Word) (w : List Word) → j.kind ≡ k.Str → Spells l (Of (PatternValue c at e d) ∷ gs) (j ∷ w) → (at ≡ j.at) × (e ≡ x.Str j.at j.chars) × (d ≡ 1) × Spells l gs w
string_forth l c at e d gs j w h (expands _ (value_variable c_0 at_0 e_0 d_0 t_0 q0 q1 q2 q3) (this z)) = cc
string_forth l c at e d gs j w h (expands _ (value_wild c_0 at_0 e_0 d_0 q0 q1) (begins t kk ka z)) = cc
string_forth l c at e d gs j w h (expands _ (value_integer c_0 at_0 e_0 d_0 t_0 q0 q1 q2 q3) (this z)) = cc
string_forth l c at e d gs j w h (expands _ (value_signed c_0 at_0 e_0 d_0 t_0 n_0 op_0 q0 q1 q2 q3 q4 q5 q6) (this z)) = let a : is_sign j.kind ≡ true = signed_is q0 in let b : is_sign j.kind ≡ false = ap is_sign h in cc
string_forth l c at e d gs j w h (expands _ (value_character c_0 at_0 e_0 d_0 t_0 q0 q1 q2 q3) (this z)) = cc
string_forth l c at e d gs j w h (expands _ (value_string c_0 at_0 e_0 d_0 t_0 q0 q1 q2 q3) (this z)) = (q1, q2 ∙ ap (λ v. x.Str v j.chars) q1, q3, z)

on_string : {most : Limits} (c : Context) (j : Word) (rest : List Word) → j.kind ≡ k.Str → Passes most {X = Placed Expr} closed (pattern_value_in c) (j ∷ rest) nothing rest (λ u. record { at = j.at; tree = x.Str j.at j.chars; height = 1 })
on_string c j rest h = record {
  front = j ∷ [];
  whole = refl;
  back = λ l v u gs w d. expands _ (value_string c _ _ _ j h refl refl refl) (this d);
  forth = λ l r gs w o s d. let m = string_forth l c r.at r.tree r.height gs j w h d in (tt, same_placed m.0 m.1 m.2, m.3);
}

-- ---- A sign and an integer

signed_forth : (l : Limits) (c : Context) (at : Span) (e : Expr) (d : ℕ) (gs : List Goal) (j : Word) (w : List Word) (op : Prefix) → (j.kind ≡ k.Plus ⊎ j.kind ≡ k.Minus) → prefix_of j.kind ≡ Some op → Spells l (Of (PatternValue c at e d) ∷ gs) (j ∷ w) → (at ≡ j.at) × (n : Word) × (n.kind ≡ k.Integer) × (e ≡ x.Unary j.at op (x.Int n.at (pos n.number) ∷ [])) × (d ≡ 2) × (c.deep + 1 ≤ l.trees) × Spells l (The n ∷ gs) w
signed_forth l c at e d gs j w op h p (expands _ (value_variable c_0 at_0 e_0 d_0 t_0 q0 q1 q2 q3) (this z)) = let a : is_sign j.kind ≡ true = signed_is h in let b : is_sign j.kind ≡ false = ap is_sign q0 in cc
signed_forth l c at e d gs j w op h p (expands _ (value_wild c_0 at_0 e_0 d_0 q0 q1) (begins t kk ka z)) = let a : is_sign j.kind ≡ true = signed_is h in let b : is_sign j.kind ≡ false = ap is_sign kk in cc
signed_forth l c at e d gs j w op h p (expands _ (value_integer c_0 at_0 e_0 d_0 t_0 q0 q1 q2 q3) (this z)) = let a : is_sign j.kind ≡ true = signed_is h in let b : is_sign j.kind ≡ false = ap is_sign q0 in cc
signed_forth l c at e d gs j w op h p (expands _ (value_signed c_0 at_0 e_0 d_0 t_0 n_0 op_0 q0 q1 q2 q3 q4 q5 q6) (this z)) = (q2, n_0, q4, q5 ∙ ap (λ v. x.Unary v op_0 (x.Int n_0.at (pos n_0.number) ∷ [])) q2 ∙ ap (λ v. x.Unary j.at v (x.Int n_0.at (pos n_0.number) ∷ [])) (one_prefix q1 p), q6, q3, z)
signed_forth l c at e d gs j w op h p (expands _ (value_character c_0 at_0 e_0 d_0 t_0 q0 q1 q2 q3) (this z)) = let a : is_sign j.kind ≡ true = signed_is h in let b : is_sign j.kind ≡ false = ap is_sign q0 in cc
signed_forth l c at e d gs j w op h p (expands _ (value_string c_0 at_0 e_0 d_0 t_0 q0 q1 q2 q3) (this z)) = let a : is_sign j.kind ≡ true = signed_is h in let b : is_sign j.kind ≡ false = ap is_sign q0 in cc

number_forth : {l : Limits} {n : Word} {gs : List Goal} {i : Word} {w : List Word} → Spells l (The n ∷ gs) (i ∷ w) → (i ≡ n) × Spells l gs w
number_forth (this z) = (refl, z)

on_signed : {most : Limits} (c : Context) (j i : Word) (rest : List Word) (op : Prefix) → (j.kind ≡ k.Plus ⊎ j.kind ≡ k.Minus) → prefix_of j.kind ≡ Some op → c.deep + 1 ≤ most.trees → i.kind ≡ k.Integer → Passes most {X = Placed Expr} closed (pattern_value_in c) (j ∷ (i ∷ rest)) nothing rest (λ u. record { at = j.at; tree = x.Unary j.at op (x.Int i.at (pos i.number) ∷ []); height = 2 })
on_signed c j i rest op h p b n = record {
  front = j ∷ (i ∷ []);
  whole = refl;
  back = λ l v u gs w d. let room : c.deep + 1 ≤ l.trees = omega (arith, v.trees) in expands _ (value_signed c _ _ _ j i op h p refl room n refl refl) (this (this d));
  forth = λ l r gs w o s d.
      let m = signed_forth l c r.at r.tree r.height gs j (i ∷ w) op h p d in
      let q = number_forth m.6 in
      (tt, same_placed m.0 (m.3 ∙ ap (λ v. x.Unary j.at op (x.Int v.at (pos v.number) ∷ [])) (sym q.0)) m.4, q.1);
}

no_number : (l : Limits) (n : Word) (gs : List Goal) (rest w : List Word) → n.kind ≡ k.Integer → NoMark k.Integer rest → SameHead w rest → Spells l (The n ∷ gs) w → ⊥
no_number l n gs _ w i no_mark_end s (this z) = s
no_number l n gs _ w i (no_mark j rest o) s (this z) = o (ap (λ v. v.kind) (sym s) ∙ i)

sign_alone : {most : Limits} (c : Context) (j : Word) (rest : List Word) (op : Prefix) → (j.kind ≡ k.Plus ⊎ j.kind ≡ k.Minus) → prefix_of j.kind ≡ Some op → c.deep + 1 ≤ most.trees → NoMark k.Integer rest → IsRefused most {X = Placed Expr} closed (pattern_value_in c) (j ∷ rest) rest Syntax
sign_alone c j rest op h p b n = record {
  front = j ∷ [];
  whole = refl;
  tree = record { at = j.at; tree = x.Unary j.at op (x.Int some_place (pos 0) ∷ []); height = 2 };
  more = some_number ∷ [];
  goes_on = λ l v gs w d. let room : c.deep + 1 ≤ l.trees = omega (arith, v.trees) in expands _ (value_signed c _ _ _ j some_number op h p refl room refl refl refl) (this (this d));
  stops = λ l v r gs w o s d. let m = signed_forth l c r.at r.tree r.height gs j w op h p d in no_number l m.1 gs rest w m.2 n s m.6;
  excused = tt;
}

-- a value with which segments may be completed
abbrev pub some_value : Placed Expr
some_value = record { at = some_place; tree = x.Wild some_place; height = 1 }

pub value_spells : (l : Limits) (c : Context) (gs : List Goal) (w : List Word) → Spells l gs w → Spells l (pattern_value_in c some_value ++ gs) (mark_word k.Underscore ∷ w)
value_spells l c gs w d = expands _ (value_wild c _ _ _ refl refl) (begins (mark_word k.Underscore) refl refl d)

stops_sign : (most : Limits) (c : Context) (j : Word) (rest : List Word) (op : Prefix) → (j.kind ≡ k.Plus ⊎ j.kind ≡ k.Minus) → prefix_of j.kind ≡ Some op → most.trees < c.deep + 1 → (l : Limits) → l.trees ≡ most.trees → (r : Placed Expr) (gs : List Goal) (w : List Word) → SameHead w (j ∷ rest) → Spells l (pattern_value_in c r ++ gs) w → ⊥
stops_sign most c j rest op h p b l i r gs [] s d = s
stops_sign most c j rest op h p b l i r gs (t ∷ w) s d = let m = signed_forth l c r.at r.tree r.height gs t w op (subst (λ v. v.kind ≡ k.Plus ⊎ v.kind ≡ k.Minus) (sym s) h) (ap (λ v. prefix_of v.kind) s ∙ p) d in let a : c.deep + 1 ≤ l.trees = m.5 in omega arith

sign_too_deep : {most : Limits} (c : Context) (j : Word) (rest : List Word) (op : Prefix) → (j.kind ≡ k.Plus ⊎ j.kind ≡ k.Minus) → prefix_of j.kind ≡ Some op → most.trees < c.deep + 1 → IsRefused most {X = Placed Expr} closed (pattern_value_in c) (j ∷ rest) (j ∷ rest) TooDeep
sign_too_deep {most = most} c j rest op h p b = record {
  front = [];
  whole = refl;
  tree = some_value;
  more = mark_word k.Underscore ∷ [];
  goes_on = λ l v gs w d. value_spells l c gs w d;
  stops = λ l i r gs w o s d. stops_sign most c j rest op h p b l i.trees r gs w s d;
  excused = record {
    limits = deeper most (c.deep + 1) 0;
    wide = deeper_wide most (c.deep + 1) 0;
    allows = (refl, refl);
    first = j;
    behind = rest;
    begins = refl;
    tree = record { at = j.at; tree = x.Unary j.at op (x.Int some_place (pos 0) ∷ []); height = 2 };
    more = some_number ∷ [];
    goes_on = λ gs w d. expands _ (value_signed c _ _ _ j some_number op h p refl (omega arith) refl refl refl) (this (this d));
  };
}

-- ---- Where no value begins

no_value_end : (l : Limits) (c : Context) (at : Span) (e : Expr) (d : ℕ) (gs : List Goal) → Spells l (Of (PatternValue c at e d) ∷ gs) [] → ⊥
no_value_end l c at e d gs (expands _ (value_variable c_0 at_0 e_0 d_0 t_0 q0 q1 q2 q3) z) = elim z [ ]
no_value_end l c at e d gs (expands _ (value_wild c_0 at_0 e_0 d_0 q0 q1) z) = elim z [ ]
no_value_end l c at e d gs (expands _ (value_integer c_0 at_0 e_0 d_0 t_0 q0 q1 q2 q3) z) = elim z [ ]
no_value_end l c at e d gs (expands _ (value_signed c_0 at_0 e_0 d_0 t_0 n_0 op_0 q0 q1 q2 q3 q4 q5 q6) z) = elim z [ ]
no_value_end l c at e d gs (expands _ (value_character c_0 at_0 e_0 d_0 t_0 q0 q1 q2 q3) z) = elim z [ ]
no_value_end l c at e d gs (expands _ (value_string c_0 at_0 e_0 d_0 t_0 q0 q1 q2 q3) z) = elim z [ ]

pub data NoValue : List Word → Type 0 where
  no_value_there : NoValue []
  no_value : (j : Word) (rest : List Word) → begins_value j.kind ≡ false → NoValue (j ∷ rest)

pub value_none : (l : Limits) (c : Context) (at : Span) (e : Expr) (d : ℕ) (gs : List Goal) (rest w : List Word) → NoValue rest → SameHead w rest → Spells l (Of (PatternValue c at e d) ∷ gs) w → ⊥
value_none l c at e d gs _ [] no_value_there s z = no_value_end l c at e d gs z
value_none l c at e d gs _ (t ∷ w) no_value_there s z = s
value_none l c at e d gs _ [] (no_value j rest n) s z = s
value_none l c at e d gs _ (t ∷ w) (no_value j rest n) s z = let a : begins_value t.kind ≡ true = first_value l c at e d gs t w z in let b : begins_value t.kind ≡ begins_value j.kind = ap (λ v. begins_value v.kind) s in cc

value_refused : {most : Limits} (c : Context) (rest : List Word) → NoValue rest → IsRefused most {X = Placed Expr} closed (pattern_value_in c) rest rest Syntax
value_refused c rest n = record {
  front = [];
  whole = refl;
  tree = some_value;
  more = mark_word k.Underscore ∷ [];
  goes_on = λ l v gs w d. value_spells l c gs w d;
  stops = λ l v r gs w o s d. value_none l c r.at r.tree r.height gs rest w n s d;
  excused = tt;
}

-- A token with which a value begins, at limits where it fits.
pub record Begun (most : Limits) (c : Context) (j : Word) : Type 0 where
  pub tree : Placed Expr
  pub more : List Word
  pub spelled : (b : ℕ) (gs : List Goal) (w : List Word) → Spells (deeper most (c.deep + 1) b) gs w → Spells (deeper most (c.deep + 1) b) (pattern_value_in c tree ++ gs) (j ∷ (more ++ w))

begun_sign : {most : Limits} (c : Context) (j : Word) (op : Prefix) → (j.kind ≡ k.Plus ⊎ j.kind ≡ k.Minus) → prefix_of j.kind ≡ Some op → Begun most c j
begun_sign c j op h p = record {
  tree = record { at = j.at; tree = x.Unary j.at op (x.Int some_place (pos 0) ∷ []); height = 2 };
  more = some_number ∷ [];
  spelled = λ b gs w d. expands _ (value_signed c _ _ _ j some_number op h p refl (omega arith) refl refl refl) (this (this d));
}

pub begun : {most : Limits} (c : Context) (j : Word) (kind : TokenKind) → j.kind ≡ kind → IsTrue (begins_value kind) → Begun most c j
begun c j k.Variable h b = record { tree = record { at = j.at; tree = x.Var j.at j.chars; height = 1 }; more = []; spelled = λ n gs w d. expands _ (value_variable c _ _ _ j h refl refl refl) (this d) }
begun c j k.Underscore h b = record { tree = record { at = j.at; tree = x.Wild j.at; height = 1 }; more = []; spelled = λ n gs w d. expands _ (value_wild c _ _ _ refl refl) (begins j h refl d) }
begun c j k.Integer h b = record { tree = record { at = j.at; tree = x.Int j.at (pos j.number); height = 1 }; more = []; spelled = λ n gs w d. expands _ (value_integer c _ _ _ j h refl refl refl) (this d) }
begun c j k.Plus h b = begun_sign c j f.Plus (inl h) (ap prefix_of h)
begun c j k.Minus h b = begun_sign c j f.Minus (inr h) (ap prefix_of h)
begun c j k.Character h b = record { tree = record { at = j.at; tree = x.Char j.at j.number; height = 1 }; more = []; spelled = λ n gs w d. expands _ (value_character c _ _ _ j h refl refl refl) (this d) }
begun c j k.Str h b = record { tree = record { at = j.at; tree = x.Str j.at j.chars; height = 1 }; more = []; spelled = λ n gs w d. expands _ (value_string c _ _ _ j h refl refl refl) (this d) }
begun c j _ h b = cc

-- ---- Exits

pub ends_variable : (c : Context) (ws : Readable) (at : ℕ) (n : Numbered) (name : List ℕ) → (s : StandsAt ws at n) → n.token.kind ≡ k.Variable → name ≡ s.word.chars → Gives closed (pattern_value_in c) ws at (Ok (record { at = n.token.span; tree = x.Var n.token.span name; height = 1 }, at + 1))
ends_variable c ws at n name s h e = remade (λ u. same_placed s.place (ap (λ v. x.Var v s.word.chars) s.place ∙ ap (λ v. x.Var n.token.span v) (sym e)) refl) (at_token s.is (on_variable c s.word (drop (at + 1) ws.words) (s.kind ∙ h)))

pub ends_string : (c : Context) (ws : Readable) (at : ℕ) (n : Numbered) (chars : List ℕ) → (s : StandsAt ws at n) → n.token.kind ≡ k.Str → chars ≡ s.word.chars → Gives closed (pattern_value_in c) ws at (Ok (record { at = n.token.span; tree = x.Str n.token.span chars; height = 1 }, at + 1))
ends_string c ws at n chars s h e = remade (λ u. same_placed s.place (ap (λ v. x.Str v s.word.chars) s.place ∙ ap (λ v. x.Str n.token.span v) (sym e)) refl) (at_token s.is (on_string c s.word (drop (at + 1) ws.words) (s.kind ∙ h)))

pub ends_wild : (c : Context) (ws : Readable) (at : ℕ) (n : Numbered) → (s : StandsAt ws at n) → n.token.kind ≡ k.Underscore → Gives closed (pattern_value_in c) ws at (Ok (record { at = n.token.span; tree = x.Wild n.token.span; height = 1 }, at + 1))
ends_wild c ws at n s h = remade (λ u. same_placed s.place (ap (λ v. x.Wild v) s.place) refl) (at_token s.is (on_wild c s.word (drop (at + 1) ws.words) (s.kind ∙ h)))

pub ends_integer : (c : Context) (ws : Readable) (at : ℕ) (n : Numbered) (z : ℤ) → (s : StandsAt ws at n) → n.token.kind ≡ k.Integer → z ≡ pos n.value → Gives closed (pattern_value_in c) ws at (Ok (record { at = n.token.span; tree = x.Int n.token.span z; height = 1 }, at + 1))
ends_integer c ws at n z s h e = remade (λ u. same_placed s.place (ap (λ v. x.Int v (pos s.word.number)) s.place ∙ ap (λ v. x.Int n.token.span (pos v)) (s.number ∙ ap (number_of n) h) ∙ ap (λ v. x.Int n.token.span v) (sym e)) refl) (at_token s.is (on_integer c s.word (drop (at + 1) ws.words) (s.kind ∙ h)))

pub ends_character : (c : Context) (ws : Readable) (at : ℕ) (n : Numbered) → (s : StandsAt ws at n) → n.token.kind ≡ k.Character → Gives closed (pattern_value_in c) ws at (Ok (record { at = n.token.span; tree = x.Char n.token.span n.number; height = 1 }, at + 1))
ends_character c ws at n s h = remade (λ u. same_placed s.place (ap (λ v. x.Char v s.word.number) s.place ∙ ap (λ v. x.Char n.token.span v) (s.number ∙ ap (number_of n) h)) refl) (at_token s.is (on_character c s.word (drop (at + 1) ws.words) (s.kind ∙ h)))

pub sign_deep : (c : Context) (deep : ℕ) (ws : Readable) (at : ℕ) (n : Numbered) (op : Prefix) → c.deep ≡ deep → StandsAt ws at n → (n.token.kind ≡ k.Plus ⊎ n.token.kind ≡ k.Minus) → prefix_of n.token.kind ≡ Some op → ws.limits.trees ≤ deep → IsRefused ws.limits {X = Placed Expr} closed (pattern_value_in c) (drop at ws.words) (drop at ws.words) TooDeep
sign_deep c deep ws at n op q s h p b = refused_at s.is (sign_too_deep c s.word (drop (at + 1) ws.words) op (subst (λ v. v ≡ k.Plus ⊎ v ≡ k.Minus) (sym s.kind) h) (ap prefix_of s.kind ∙ p) (omega arith))

pub sign_end : (c : Context) (deep : ℕ) (ws : Readable) (at : ℕ) (n : Numbered) (op : Prefix) → c.deep ≡ deep → StandsAt ws at n → (n.token.kind ≡ k.Plus ⊎ n.token.kind ≡ k.Minus) → prefix_of n.token.kind ≡ Some op → deep < ws.limits.trees → NoMark k.Integer (drop (at + 1) ws.words) → IsRefused ws.limits {X = Placed Expr} closed (pattern_value_in c) (drop at ws.words) (drop (at + 1) ws.words) Syntax
sign_end c deep ws at n op q s h p b m = subst (λ v. IsRefused ws.limits {X = Placed Expr} closed (pattern_value_in c) v (drop (at + 1) ws.words) Syntax) (sym s.is) (sign_alone c s.word (drop (at + 1) ws.words) op (subst (λ v. v ≡ k.Plus ⊎ v ≡ k.Minus) (sym s.kind) h) (ap prefix_of s.kind ∙ p) (omega arith) m)

pub sign_ok : (c : Context) (deep : ℕ) (ws : Readable) (at : ℕ) (n i : Numbered) (op : Prefix) (part : List Expr) (number : Expr) (z : ℤ) → c.deep ≡ deep → StandsAt ws at n → StandsAt ws (at + 1) i → (n.token.kind ≡ k.Plus ⊎ n.token.kind ≡ k.Minus) → prefix_of n.token.kind ≡ Some op → deep < ws.limits.trees → i.token.kind ≡ k.Integer → part ≡ number ∷ [] → number ≡ x.Int i.token.span z → z ≡ pos i.value → Gives closed (pattern_value_in c) ws at (Ok (record { at = n.token.span; tree = x.Unary n.token.span op part; height = 2 }, at + 2))
sign_ok c deep ws at n i op part number z q s t h p b g a y m =
    let e : at + 1 + 1 ≡ at + 2 = omega arith in
    let r : drop at ws.words ≡ s.word ∷ (t.word ∷ drop (at + 2) ws.words) = s.is ∙ ap (λ v. s.word ∷ v) (t.is ∙ ap (λ v. t.word ∷ drop v ws.words) e) in
    let v : t.word.number ≡ i.value = t.number ∙ ap (number_of i) g in
    let w : x.Int t.word.at (pos t.word.number) ≡ number = ap (λ u. x.Int u (pos t.word.number)) t.place ∙ ap (λ u. x.Int i.token.span (pos u)) v ∙ ap (λ u. x.Int i.token.span u) (sym m) ∙ sym y in
    remade (λ u. same_placed s.place (ap (λ l. x.Unary l op (x.Int t.word.at (pos t.word.number) ∷ [])) s.place ∙ ap (λ l. x.Unary n.token.span op (l ∷ [])) w ∙ ap (λ l. x.Unary n.token.span op l) (sym a)) refl)
    (at_token r (on_signed c s.word t.word (drop (at + 2) ws.words) op (subst (λ u. u ≡ k.Plus ⊎ u ≡ k.Minus) (sym s.kind) h) (ap prefix_of s.kind ∙ p) (omega arith) (t.kind ∙ g)))

begins_none : (kind : TokenKind) → (kind ≡ k.Variable → ⊥) → (kind ≡ k.Underscore → ⊥) → (kind ≡ k.Integer → ⊥) → (kind ≡ k.Plus → ⊥) → (kind ≡ k.Minus → ⊥) → (kind ≡ k.Character → ⊥) → (kind ≡ k.Str → ⊥) → begins_value kind ≡ false
begins_none k.Variable a b c d e o g = absurd (a refl)
begins_none k.Underscore a b c d e o g = absurd (b refl)
begins_none k.Integer a b c d e o g = absurd (c refl)
begins_none k.Plus a b c d e o g = absurd (d refl)
begins_none k.Minus a b c d e o g = absurd (e refl)
begins_none k.Character a b c d e o g = absurd (o refl)
begins_none k.Str a b c d e o g = absurd (g refl)
begins_none _ a b c d e o g = refl

pub ends_none : (c : Context) (ws : Readable) (at : ℕ) (n : Numbered) → StandsAt ws at n → (n.token.kind ≡ k.Variable → ⊥) → (n.token.kind ≡ k.Underscore → ⊥) → (n.token.kind ≡ k.Integer → ⊥) → (n.token.kind ≡ k.Plus → ⊥) → (n.token.kind ≡ k.Minus → ⊥) → (n.token.kind ≡ k.Character → ⊥) → (n.token.kind ≡ k.Str → ⊥) → IsRefused ws.limits {X = Placed Expr} closed (pattern_value_in c) (drop at ws.words) (drop at ws.words) Syntax
ends_none c ws at n s v u i pl mi ch st = refused_at s.is (value_refused c (s.word ∷ drop (at + 1) ws.words) (no_value s.word (drop (at + 1) ws.words) (ap begins_value s.kind ∙ begins_none n.token.kind v u i pl mi ch st)))

pub ends_there : (c : Context) (ws : Readable) (at : ℕ) → drop at ws.words ≡ [] → IsRefused ws.limits {X = Placed Expr} closed (pattern_value_in c) (drop at ws.words) (drop at ws.words) Syntax
ends_there c ws at e = refused_at e (value_refused c [] no_value_there)
