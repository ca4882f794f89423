-- The laws of what may stand as an operand and as a segment's value, in bodies and guards.
use Rattle.std.proofs.Common.{◌≡◌, ℕ, ◌+◌, ◌≤◌, ◌<◌, List, [], ◌∷◌, ◌++◌, refl, sym, ap, subst, ◌∙◌, arith, pos, ◌⊎◌, inl, inr}
use Rattle.erl_syntax.specs.declared.span.Span.{Span}
use Rattle.erl_syntax.specs.declared.token.TokenKind.{TokenKind}
use Rattle.erl_syntax.specs.declared.token.TokenKind.TheVariants as k
use Rattle.erl_syntax.specs.declared.expr.Expr.{Expr}
use Rattle.erl_syntax.specs.declared.expr.Expr.TheVariants as x
use Rattle.erl_syntax.specs.Word.{Word}
use Rattle.erl_syntax.specs.Grammar.{InSize, Context, inside, Limits, Goal, Mark, Of, Level, Common, BitsRest, variable, integer, character, string, bits, paren, Spells, begins, this, expands}
use Rattle.pattern_read.specs.declared.placed.Placed.{Placed}
use Rattle.pattern_read.specs.declared.fault.Cause.TheVariants.{Syntax, TooDeep}
use Rattle.pattern_read.specs.Reading.{Passes, IsRefused, SameHead, closed, nothing}
use Rattle.body_read.specs.WantedExprs.{common_in, bits_in}
use Rattle.pattern_read.proofs.Levels.{same_placed}
use Rattle.pattern_read.proofs.Operands.{some_word, some_expr, in_paren, deeper, deeper_wide}
use Rattle.body_read.proofs.BodiedBegins.{BegunCommon, begun_bits, begun_paren}

common_spells : (l : Limits) (c : Context) (gs : List Goal) (w : List Word) → Spells l gs w → Spells l (common_in c some_expr ++ gs) (some_word ∷ w)
common_spells l c gs w d = expands _ (variable c _ _ _ some_word refl refl refl refl) (this d)

variable_forth : (l : Limits) (c : Context) (at : Span) (e : Expr) (d : ℕ) (gs : List Goal) (j : Word) (w : List Word) → j.kind ≡ k.Variable → Spells l (Of (Common c at e d) ∷ gs) (j ∷ w) → (at ≡ j.at) × (e ≡ x.Var j.at j.chars) × (d ≡ 1) × Spells l gs w
variable_forth l c at e d gs j w h (expands _ (variable c_1 at_1 e_1 d_1 t_1 q1_0 q1_1 q1_2 q1_3) (this z)) = (q1_1, q1_2 ∙ ap (λ v. x.Var v j.chars) q1_1, q1_3, z)
variable_forth l c at e d gs j w h (expands _ (integer c_1 at_1 e_1 d_1 t_1 q1_0 q1_1 q1_2 q1_3) (this z)) = cc
variable_forth l c at e d gs j w h (expands _ (character c_1 at_1 e_1 d_1 t_1 q1_0 q1_1 q1_2 q1_3) (this z)) = cc
variable_forth l c at e d gs j w h (expands _ (string c_1 at_1 e_1 d_1 t_1 q1_0 q1_1 q1_2 q1_3 q1_4) (this z)) = cc
variable_forth l c at e d gs j w h (expands _ (bits c_1 at_1 e_1 d_1 q1_0 q1_1) (begins t kk ka z)) = cc
variable_forth l c at e d gs j w h (expands _ (paren c_1 at_1 e_1 d_1 ay_1 q1_0) (begins t kk ka z)) = cc

pub only_variable : {most : Limits} (c : Context) (j : Word) (rest : List Word) → j.kind ≡ k.Variable → Passes most {X = Placed Expr} closed (common_in c) (j ∷ rest) nothing rest (λ u. record { at = j.at; tree = x.Var j.at j.chars; height = 1 })
only_variable c j rest h = record {
  front = j ∷ [];
  whole = refl;
  back = λ l i u gs w d. expands _ (variable c _ _ _ j h refl refl refl) (this d);
  forth = λ l r gs w f s d. let m = variable_forth l c r.at r.tree r.height gs j w h d in (tt, same_placed m.0 m.1 m.2, m.3);
}

integer_forth : (l : Limits) (c : Context) (at : Span) (e : Expr) (d : ℕ) (gs : List Goal) (j : Word) (w : List Word) → j.kind ≡ k.Integer → Spells l (Of (Common c at e d) ∷ gs) (j ∷ w) → (at ≡ j.at) × (e ≡ x.Int j.at (pos j.number)) × (d ≡ 1) × Spells l gs w
integer_forth l c at e d gs j w h (expands _ (variable c_1 at_1 e_1 d_1 t_1 q1_0 q1_1 q1_2 q1_3) (this z)) = cc
integer_forth l c at e d gs j w h (expands _ (integer c_1 at_1 e_1 d_1 t_1 q1_0 q1_1 q1_2 q1_3) (this z)) = (q1_1, q1_2 ∙ ap (λ v. x.Int v (pos j.number)) q1_1, q1_3, z)
integer_forth l c at e d gs j w h (expands _ (character c_1 at_1 e_1 d_1 t_1 q1_0 q1_1 q1_2 q1_3) (this z)) = cc
integer_forth l c at e d gs j w h (expands _ (string c_1 at_1 e_1 d_1 t_1 q1_0 q1_1 q1_2 q1_3 q1_4) (this z)) = cc
integer_forth l c at e d gs j w h (expands _ (bits c_1 at_1 e_1 d_1 q1_0 q1_1) (begins t kk ka z)) = cc
integer_forth l c at e d gs j w h (expands _ (paren c_1 at_1 e_1 d_1 ay_1 q1_0) (begins t kk ka z)) = cc

pub only_integer : {most : Limits} (c : Context) (j : Word) (rest : List Word) → j.kind ≡ k.Integer → Passes most {X = Placed Expr} closed (common_in c) (j ∷ rest) nothing rest (λ u. record { at = j.at; tree = x.Int j.at (pos j.number); height = 1 })
only_integer c j rest h = record {
  front = j ∷ [];
  whole = refl;
  back = λ l i u gs w d. expands _ (integer c _ _ _ j h refl refl refl) (this d);
  forth = λ l r gs w f s d. let m = integer_forth l c r.at r.tree r.height gs j w h d in (tt, same_placed m.0 m.1 m.2, m.3);
}

character_forth : (l : Limits) (c : Context) (at : Span) (e : Expr) (d : ℕ) (gs : List Goal) (j : Word) (w : List Word) → j.kind ≡ k.Character → Spells l (Of (Common c at e d) ∷ gs) (j ∷ w) → (at ≡ j.at) × (e ≡ x.Char j.at j.number) × (d ≡ 1) × Spells l gs w
character_forth l c at e d gs j w h (expands _ (variable c_1 at_1 e_1 d_1 t_1 q1_0 q1_1 q1_2 q1_3) (this z)) = cc
character_forth l c at e d gs j w h (expands _ (integer c_1 at_1 e_1 d_1 t_1 q1_0 q1_1 q1_2 q1_3) (this z)) = cc
character_forth l c at e d gs j w h (expands _ (character c_1 at_1 e_1 d_1 t_1 q1_0 q1_1 q1_2 q1_3) (this z)) = (q1_1, q1_2 ∙ ap (λ v. x.Char v j.number) q1_1, q1_3, z)
character_forth l c at e d gs j w h (expands _ (string c_1 at_1 e_1 d_1 t_1 q1_0 q1_1 q1_2 q1_3 q1_4) (this z)) = cc
character_forth l c at e d gs j w h (expands _ (bits c_1 at_1 e_1 d_1 q1_0 q1_1) (begins t kk ka z)) = cc
character_forth l c at e d gs j w h (expands _ (paren c_1 at_1 e_1 d_1 ay_1 q1_0) (begins t kk ka z)) = cc

pub only_character : {most : Limits} (c : Context) (j : Word) (rest : List Word) → j.kind ≡ k.Character → Passes most {X = Placed Expr} closed (common_in c) (j ∷ rest) nothing rest (λ u. record { at = j.at; tree = x.Char j.at j.number; height = 1 })
only_character c j rest h = record {
  front = j ∷ [];
  whole = refl;
  back = λ l i u gs w d. expands _ (character c _ _ _ j h refl refl refl) (this d);
  forth = λ l r gs w f s d. let m = character_forth l c r.at r.tree r.height gs j w h d in (tt, same_placed m.0 m.1 m.2, m.3);
}

string_forth : (l : Limits) (c : Context) (at : Span) (e : Expr) (d : ℕ) (gs : List Goal) (j : Word) (w : List Word) → j.kind ≡ k.Str → Spells l (Of (Common c at e d) ∷ gs) (j ∷ w) → (at ≡ j.at) × (e ≡ x.Str j.at j.chars) × (d ≡ 1) × Spells l gs w
string_forth l c at e d gs j w h (expands _ (variable c_1 at_1 e_1 d_1 t_1 q1_0 q1_1 q1_2 q1_3) (this z)) = cc
string_forth l c at e d gs j w h (expands _ (integer c_1 at_1 e_1 d_1 t_1 q1_0 q1_1 q1_2 q1_3) (this z)) = cc
string_forth l c at e d gs j w h (expands _ (character c_1 at_1 e_1 d_1 t_1 q1_0 q1_1 q1_2 q1_3) (this z)) = cc
string_forth l c at e d gs j w h (expands _ (string c_1 at_1 e_1 d_1 t_1 q1_0 q1_1 q1_2 q1_3 q1_4) (this z)) = (q1_2, q1_3 ∙ ap (λ v. x.Str v j.chars) q1_2, q1_4, z)
string_forth l c at e d gs j w h (expands _ (bits c_1 at_1 e_1 d_1 q1_0 q1_1) (begins t kk ka z)) = cc
string_forth l c at e d gs j w h (expands _ (paren c_1 at_1 e_1 d_1 ay_1 q1_0) (begins t kk ka z)) = cc

pub only_string : {most : Limits} (c : Context) (j : Word) (rest : List Word) → (c.mode ≡ InSize → ⊥) → j.kind ≡ k.Str → Passes most {X = Placed Expr} closed (common_in c) (j ∷ rest) nothing rest (λ u. record { at = j.at; tree = x.Str j.at j.chars; height = 1 })
only_string c j rest m h = record {
  front = j ∷ [];
  whole = refl;
  back = λ l i u gs w d. expands _ (string c _ _ _ j m h refl refl refl) (this d);
  forth = λ l r gs w f s d. let m = string_forth l c r.at r.tree r.height gs j w h d in (tt, same_placed m.0 m.1 m.2, m.3);
}

bits_forth : (l : Limits) (c : Context) (at : Span) (e : Expr) (d : ℕ) (gs : List Goal) (j : Word) (w : List Word) → j.kind ≡ k.LeftBits → Spells l (Of (Common c at e d) ∷ gs) (j ∷ w) → (c.open_ < l.brackets) × (at ≡ j.at) × Spells l (Of (BitsRest c j.at e d) ∷ gs) w
bits_forth l c at e d gs j w h (expands _ (variable c_1 at_1 e_1 d_1 t_1 q1_0 q1_1 q1_2 q1_3) (this z)) = cc
bits_forth l c at e d gs j w h (expands _ (integer c_1 at_1 e_1 d_1 t_1 q1_0 q1_1 q1_2 q1_3) (this z)) = cc
bits_forth l c at e d gs j w h (expands _ (character c_1 at_1 e_1 d_1 t_1 q1_0 q1_1 q1_2 q1_3) (this z)) = cc
bits_forth l c at e d gs j w h (expands _ (string c_1 at_1 e_1 d_1 t_1 q1_0 q1_1 q1_2 q1_3 q1_4) (this z)) = cc
bits_forth l c at e d gs j w h (expands _ (bits c_1 at_1 e_1 d_1 q1_0 q1_1) (begins t kk ka z)) = let P : Span → Type 0 = λ v. Spells l (Of (BitsRest c v e d) ∷ gs) w in (q1_1, ka, subst P ka z)
bits_forth l c at e d gs j w h (expands _ (paren c_1 at_1 e_1 d_1 ay_1 q1_0) (begins t kk ka z)) = cc

pub only_bits : {most : Limits} (c : Context) (j : Word) (rest : List Word) → (c.mode ≡ InSize → ⊥) → j.kind ≡ k.LeftBits → c.open_ < most.brackets → Passes most {X = Placed Expr} {Y = Expr × ℕ} closed (common_in c) (j ∷ rest) (bits_in c j.at) rest (λ r. record { at = j.at; tree = r.0; height = r.1 })
only_bits c j rest m h b = record {
  front = j ∷ [];
  whole = refl;
  back = λ l v r gs w d. let room : c.open_ < l.brackets = omega (arith, v.brackets) in expands _ (bits c j.at _ _ m room) (begins j h refl d);
  forth = λ l r gs w f s d. let m = bits_forth l c r.at r.tree r.height gs j w h d in ((r.tree, r.height), same_placed m.1 refl refl, m.2);
}

paren_forth : (l : Limits) (c : Context) (at : Span) (e : Expr) (d : ℕ) (gs : List Goal) (j : Word) (w : List Word) → j.kind ≡ k.LeftParen → Spells l (Of (Common c at e d) ∷ gs) (j ∷ w) → (c.open_ < l.brackets) × (at ≡ j.at) × (ay : Span) × Spells l (Of (Level 0 (inside c) ay e d) ∷ Mark k.RightParen ∷ gs) w
paren_forth l c at e d gs j w h (expands _ (variable c_1 at_1 e_1 d_1 t_1 q1_0 q1_1 q1_2 q1_3) (this z)) = cc
paren_forth l c at e d gs j w h (expands _ (integer c_1 at_1 e_1 d_1 t_1 q1_0 q1_1 q1_2 q1_3) (this z)) = cc
paren_forth l c at e d gs j w h (expands _ (character c_1 at_1 e_1 d_1 t_1 q1_0 q1_1 q1_2 q1_3) (this z)) = cc
paren_forth l c at e d gs j w h (expands _ (string c_1 at_1 e_1 d_1 t_1 q1_0 q1_1 q1_2 q1_3 q1_4) (this z)) = cc
paren_forth l c at e d gs j w h (expands _ (bits c_1 at_1 e_1 d_1 q1_0 q1_1) (begins t kk ka z)) = cc
paren_forth l c at e d gs j w h (expands _ (paren c_1 at_1 e_1 d_1 ay_1 q1_0) (begins t kk ka z)) = (q1_0, ka, ay_1, z)

pub only_paren : {most : Limits} (c : Context) (j : Word) (rest : List Word) → j.kind ≡ k.LeftParen → c.open_ < most.brackets → Passes most {X = Placed Expr} {Y = Placed Expr × Unit {0}} closed (common_in c) (j ∷ rest) (in_paren c) rest (λ p. record { at = j.at; tree = p.0.tree; height = p.0.height })
only_paren c j rest h b = record {
  front = j ∷ [];
  whole = refl;
  back = λ l v p gs w d. let room : c.open_ < l.brackets = omega (arith, v.brackets) in expands _ (paren c _ _ _ _ room) (begins j h refl d);
  forth = λ l r gs w f s d. let m = paren_forth l c r.at r.tree r.height gs j w h d in ((record { at = m.2; tree = r.tree; height = r.height }, tt), same_placed m.1 refl refl, m.3);
}

-- ---- Refusals

abbrev Opens : TokenKind → Type 0
Opens kind = kind ≡ k.LeftBits ⊎ kind ≡ k.LeftParen

room : (l : Limits) (c : Context) (at : Span) (e : Expr) (d : ℕ) (gs : List Goal) (j : Word) (w : List Word) → Opens j.kind → Spells l (Of (Common c at e d) ∷ gs) (j ∷ w) → c.open_ < l.brackets
room l c at e d gs j w (inl h) z = (bits_forth l c at e d gs j w h z).0
room l c at e d gs j w (inr h) z = (paren_forth l c at e d gs j w h z).0

stops_open : (most : Limits) (c : Context) (j : Word) (rest : List Word) → Opens j.kind → most.brackets ≤ c.open_ → (l : Limits) → l.brackets ≡ most.brackets → (r : Placed Expr) (gs : List Goal) (w : List Word) → SameHead w (j ∷ rest) → Spells l (common_in c r ++ gs) w → ⊥
stops_open most c j rest h b l i r gs [] s d = s
stops_open most c j rest h b l i r gs (t ∷ w) s d = let P : Word → Type 0 = λ v. Opens v.kind in let a : c.open_ < l.brackets = room l c r.at r.tree r.height gs t w (subst P (sym s) h) d in omega arith

open_deep : {most : Limits} (c : Context) (j : Word) (rest : List Word) → Opens j.kind → BegunCommon most c j → most.brackets ≤ c.open_ → IsRefused most {X = Placed Expr} closed (common_in c) (j ∷ rest) (j ∷ rest) TooDeep
open_deep {most = most} c j rest h g b = record {
  front = [];
  whole = refl;
  tree = some_expr;
  more = some_word ∷ [];
  goes_on = λ l v gs w d. common_spells l c gs w d;
  stops = λ l i r gs w f s d. stops_open most c j rest h b l i.brackets r gs w s d;
  excused = record {
    limits = deeper most (c.deep + 1) (c.open_ + 1);
    wide = deeper_wide most (c.deep + 1) (c.open_ + 1);
    allows = (refl, refl);
    first = j;
    behind = rest;
    begins = refl;
    tree = g.tree;
    more = g.more;
    goes_on = λ gs w d. g.spelled gs w d;
  };
}

pub bits_deep : {most : Limits} (c : Context) (j : Word) (rest : List Word) → (c.mode ≡ InSize → ⊥) → j.kind ≡ k.LeftBits → most.brackets ≤ c.open_ → IsRefused most {X = Placed Expr} closed (common_in c) (j ∷ rest) (j ∷ rest) TooDeep
bits_deep c j rest m h b = open_deep c j rest (inl h) (begun_bits c j m h) b

pub paren_deep : {most : Limits} (c : Context) (j : Word) (rest : List Word) → j.kind ≡ k.LeftParen → most.brackets ≤ c.open_ → IsRefused most {X = Placed Expr} closed (common_in c) (j ∷ rest) (j ∷ rest) TooDeep
paren_deep c j rest h b = open_deep c j rest (inr h) (begun_paren c j h) b

-- none of them begins so
pub record NoneCommon (j : Word) : Type 0 where
  pub variable : j.kind ≡ k.Variable → ⊥
  pub integer : j.kind ≡ k.Integer → ⊥
  pub character : j.kind ≡ k.Character → ⊥
  pub string : j.kind ≡ k.Str → ⊥
  pub bits : j.kind ≡ k.LeftBits → ⊥
  pub paren : j.kind ≡ k.LeftParen → ⊥

pub data NoCommon : List Word → Type 0 where
  no_common_end : NoCommon []
  no_common : (j : Word) (rest : List Word) → NoneCommon j → NoCommon (j ∷ rest)

none_stops : (l : Limits) (c : Context) (at : Span) (e : Expr) (d : ℕ) (gs : List Goal) (rest w : List Word) → NoCommon rest → SameHead w rest → Spells l (Of (Common c at e d) ∷ gs) w → ⊥
none_stops l c at e d gs _ w no_common_end s (expands _ (variable c_1 at_1 e_1 d_1 t_1 q1_0 q1_1 q1_2 q1_3) (this z)) = s
none_stops l c at e d gs _ w no_common_end s (expands _ (integer c_1 at_1 e_1 d_1 t_1 q1_0 q1_1 q1_2 q1_3) (this z)) = s
none_stops l c at e d gs _ w no_common_end s (expands _ (character c_1 at_1 e_1 d_1 t_1 q1_0 q1_1 q1_2 q1_3) (this z)) = s
none_stops l c at e d gs _ w no_common_end s (expands _ (string c_1 at_1 e_1 d_1 t_1 q1_0 q1_1 q1_2 q1_3 q1_4) (this z)) = s
none_stops l c at e d gs _ w no_common_end s (expands _ (bits c_1 at_1 e_1 d_1 q1_0 q1_1) (begins t kk ka z)) = s
none_stops l c at e d gs _ w no_common_end s (expands _ (paren c_1 at_1 e_1 d_1 ay_1 q1_0) (begins t kk ka z)) = s
none_stops l c at e d gs _ w (no_common j rest n) s (expands _ (variable c_1 at_1 e_1 d_1 t_1 q1_0 q1_1 q1_2 q1_3) (this z)) = n.variable (ap (λ v. v.kind) (sym s) ∙ q1_0)
none_stops l c at e d gs _ w (no_common j rest n) s (expands _ (integer c_1 at_1 e_1 d_1 t_1 q1_0 q1_1 q1_2 q1_3) (this z)) = n.integer (ap (λ v. v.kind) (sym s) ∙ q1_0)
none_stops l c at e d gs _ w (no_common j rest n) s (expands _ (character c_1 at_1 e_1 d_1 t_1 q1_0 q1_1 q1_2 q1_3) (this z)) = n.character (ap (λ v. v.kind) (sym s) ∙ q1_0)
none_stops l c at e d gs _ w (no_common j rest n) s (expands _ (string c_1 at_1 e_1 d_1 t_1 q1_0 q1_1 q1_2 q1_3 q1_4) (this z)) = n.string (ap (λ v. v.kind) (sym s) ∙ q1_1)
none_stops l c at e d gs _ w (no_common j rest n) s (expands _ (bits c_1 at_1 e_1 d_1 q1_0 q1_1) (begins t kk ka z)) = n.bits (ap (λ v. v.kind) (sym s) ∙ kk)
none_stops l c at e d gs _ w (no_common j rest n) s (expands _ (paren c_1 at_1 e_1 d_1 ay_1 q1_0) (begins t kk ka z)) = n.paren (ap (λ v. v.kind) (sym s) ∙ kk)

pub common_none : {most : Limits} (c : Context) (rest : List Word) → NoCommon rest → IsRefused most {X = Placed Expr} closed (common_in c) rest rest Syntax
common_none c rest n = record {
  front = [];
  whole = refl;
  tree = some_expr;
  more = some_word ∷ [];
  goes_on = λ l v gs w d. common_spells l c gs w d;
  stops = λ l i r gs w f s d. none_stops l c r.at r.tree r.height gs rest w n s d;
  excused = tt;
}
