-- The laws of patterns: what each token does where a pattern is wanted.
use Rattle.std.proofs.Common.{◌≡◌, ℕ, ℤ, ◌+◌, ◌<◌, List, [], ◌∷◌, refl, sym, ap, ◌∙◌, arith, pos}
use Rattle.erl_syntax.specs.declared.span.Span.{Span}
use Rattle.erl_syntax.specs.declared.token.TokenKind.{TokenKind}
use Rattle.erl_syntax.specs.declared.token.TokenKind.TheVariants as k
use Rattle.erl_syntax.specs.declared.pattern.Pattern.{Pattern}
use Rattle.erl_syntax.specs.declared.pattern.Pattern.TheVariants as p
use Rattle.erl_syntax.specs.declared.segment.Segment.{Segment}
use Rattle.erl_syntax.specs.Word.{Word}
use Rattle.erl_syntax.specs.Names.{Signed, plus, minus}
use Rattle.erl_syntax.specs.Grammar.{Context, under, inside, Limits, Goal, Of, Pat, Patterns, PatternList, PatternBits, pat_variable, pat_wild, pat_integer, pat_signed, pat_character, pat_atom, pat_string, pat_paren, pat_tuple, pat_list, pat_bits, Spells, begins, this, expands}
use Rattle.pattern_read.specs.declared.placed.Placed.{Placed}
use Rattle.pattern_read.specs.Reading.{Passes, closed, nothing}
use Rattle.pattern_read.specs.WantedPatterns.{pat_in, patterns_in, pattern_bits_in, pattern_list_in}

pub same_pat : {a b : Span} {e f : Pattern} {d g : ℕ} → a ≡ b → e ≡ f → d ≡ g → (let P : Placed Pattern = record { at = a; tree = e; height = d } in P) ≡ (let P : Placed Pattern = record { at = b; tree = f; height = g } in P)
same_pat {a = a} {b = b} {e = e} {f = f} {d = d} {g = g} p q r = ap (λ v. record { at = v; tree = e; height = d }) p ∙ ap (λ v. record { at = b; tree = v; height = d }) q ∙ ap (λ v. record { at = b; tree = f; height = v }) r

-- no sign
no_sign : {kind other : TokenKind} {n : ℕ} {z : ℤ} → kind ≡ other → (other ≡ k.Plus → ⊥) → (other ≡ k.Minus → ⊥) → Signed kind n z → ⊥
no_sign h a b (plus kind n z e f) = a (sym h ∙ e)
no_sign h a b (minus kind n z e f) = b (sym h ∙ e)

variable_forth : (l : Limits) (c : Context) (at : Span) (e : Pattern) (d : ℕ) (gs : List Goal) (j : Word) (w : List Word) → j.kind ≡ k.Variable → Spells l (Of (Pat c at e d) ∷ gs) (j ∷ w) → (at ≡ j.at) × (e ≡ p.Var j.at j.chars) × (d ≡ 1) × Spells l gs w
variable_forth l c at e d gs j w h (expands _ (pat_variable c_0 at_0 e_0 d_0 t_0 q0_0 q0_1 q0_2 q0_3) (this z)) = (q0_1, q0_2 ∙ ap (λ v. p.Var v j.chars) q0_1, q0_3, z)
variable_forth l c at e d gs j w h (expands _ (pat_wild c_0 at_0 e_0 d_0 q0_0 q0_1) (begins t kk ka z)) = cc
variable_forth l c at e d gs j w h (expands _ (pat_integer c_0 at_0 e_0 d_0 t_0 q0_0 q0_1 q0_2 q0_3) (this z)) = cc
variable_forth l c at e d gs j w h (expands _ (pat_signed c_0 at_0 e_0 d_0 t_0 n_0 z_0 q0_0 q0_1 q0_2 q0_3 q0_4) (this z)) = absurd (no_sign h (λ i. cc) (λ i. cc) q0_2)
variable_forth l c at e d gs j w h (expands _ (pat_character c_0 at_0 e_0 d_0 t_0 q0_0 q0_1 q0_2 q0_3) (this z)) = cc
variable_forth l c at e d gs j w h (expands _ (pat_atom c_0 at_0 e_0 d_0 t_0 q0_0 q0_1 q0_2 q0_3) (this z)) = cc
variable_forth l c at e d gs j w h (expands _ (pat_string c_0 at_0 e_0 d_0 t_0 q0_0 q0_1 q0_2 q0_3) (this z)) = cc
variable_forth l c at e d gs j w h (expands _ (pat_paren c_0 at_0 e_0 d_0 ay_0 q0_0) (begins t kk ka z)) = cc
variable_forth l c at e d gs j w h (expands _ (pat_tuple c_0 at_0 e_0 d_0 ys_0 dys_0 q0_0 q0_1 q0_2) (begins t kk ka z)) = cc
variable_forth l c at e d gs j w h (expands _ (pat_list c_0 at_0 e_0 d_0 ys_0 tail_0 dys_0 q0_0 q0_1 q0_2) (begins t kk ka z)) = cc
variable_forth l c at e d gs j w h (expands _ (pat_bits c_0 at_0 e_0 d_0 sgs_0 q0_0 q0_1) (begins t kk ka z)) = cc

pub on_variable : {most : Limits} (c : Context) (j : Word) (rest : List Word) → j.kind ≡ k.Variable → Passes most {X = Placed Pattern} closed (pat_in c) (j ∷ rest) nothing rest (λ u. record { at = j.at; tree = p.Var j.at j.chars; height = 1 })
on_variable c j rest h = record {
  front = j ∷ [];
  whole = refl;
  back = λ l i u gs w d. expands _ (pat_variable c _ _ _ j h refl refl refl) (this d);
  forth = λ l r gs w f s d. let m = variable_forth l c r.at r.tree r.height gs j w h d in (tt, same_pat m.0 m.1 m.2, m.3);
}

integer_forth : (l : Limits) (c : Context) (at : Span) (e : Pattern) (d : ℕ) (gs : List Goal) (j : Word) (w : List Word) → j.kind ≡ k.Integer → Spells l (Of (Pat c at e d) ∷ gs) (j ∷ w) → (at ≡ j.at) × (e ≡ p.Int j.at (pos j.number)) × (d ≡ 1) × Spells l gs w
integer_forth l c at e d gs j w h (expands _ (pat_variable c_0 at_0 e_0 d_0 t_0 q0_0 q0_1 q0_2 q0_3) (this z)) = cc
integer_forth l c at e d gs j w h (expands _ (pat_wild c_0 at_0 e_0 d_0 q0_0 q0_1) (begins t kk ka z)) = cc
integer_forth l c at e d gs j w h (expands _ (pat_integer c_0 at_0 e_0 d_0 t_0 q0_0 q0_1 q0_2 q0_3) (this z)) = (q0_1, q0_2 ∙ ap (λ v. p.Int v (pos j.number)) q0_1, q0_3, z)
integer_forth l c at e d gs j w h (expands _ (pat_signed c_0 at_0 e_0 d_0 t_0 n_0 z_0 q0_0 q0_1 q0_2 q0_3 q0_4) (this z)) = absurd (no_sign h (λ i. cc) (λ i. cc) q0_2)
integer_forth l c at e d gs j w h (expands _ (pat_character c_0 at_0 e_0 d_0 t_0 q0_0 q0_1 q0_2 q0_3) (this z)) = cc
integer_forth l c at e d gs j w h (expands _ (pat_atom c_0 at_0 e_0 d_0 t_0 q0_0 q0_1 q0_2 q0_3) (this z)) = cc
integer_forth l c at e d gs j w h (expands _ (pat_string c_0 at_0 e_0 d_0 t_0 q0_0 q0_1 q0_2 q0_3) (this z)) = cc
integer_forth l c at e d gs j w h (expands _ (pat_paren c_0 at_0 e_0 d_0 ay_0 q0_0) (begins t kk ka z)) = cc
integer_forth l c at e d gs j w h (expands _ (pat_tuple c_0 at_0 e_0 d_0 ys_0 dys_0 q0_0 q0_1 q0_2) (begins t kk ka z)) = cc
integer_forth l c at e d gs j w h (expands _ (pat_list c_0 at_0 e_0 d_0 ys_0 tail_0 dys_0 q0_0 q0_1 q0_2) (begins t kk ka z)) = cc
integer_forth l c at e d gs j w h (expands _ (pat_bits c_0 at_0 e_0 d_0 sgs_0 q0_0 q0_1) (begins t kk ka z)) = cc

pub on_integer : {most : Limits} (c : Context) (j : Word) (rest : List Word) → j.kind ≡ k.Integer → Passes most {X = Placed Pattern} closed (pat_in c) (j ∷ rest) nothing rest (λ u. record { at = j.at; tree = p.Int j.at (pos j.number); height = 1 })
on_integer c j rest h = record {
  front = j ∷ [];
  whole = refl;
  back = λ l i u gs w d. expands _ (pat_integer c _ _ _ j h refl refl refl) (this d);
  forth = λ l r gs w f s d. let m = integer_forth l c r.at r.tree r.height gs j w h d in (tt, same_pat m.0 m.1 m.2, m.3);
}

character_forth : (l : Limits) (c : Context) (at : Span) (e : Pattern) (d : ℕ) (gs : List Goal) (j : Word) (w : List Word) → j.kind ≡ k.Character → Spells l (Of (Pat c at e d) ∷ gs) (j ∷ w) → (at ≡ j.at) × (e ≡ p.Char j.at j.number) × (d ≡ 1) × Spells l gs w
character_forth l c at e d gs j w h (expands _ (pat_variable c_0 at_0 e_0 d_0 t_0 q0_0 q0_1 q0_2 q0_3) (this z)) = cc
character_forth l c at e d gs j w h (expands _ (pat_wild c_0 at_0 e_0 d_0 q0_0 q0_1) (begins t kk ka z)) = cc
character_forth l c at e d gs j w h (expands _ (pat_integer c_0 at_0 e_0 d_0 t_0 q0_0 q0_1 q0_2 q0_3) (this z)) = cc
character_forth l c at e d gs j w h (expands _ (pat_signed c_0 at_0 e_0 d_0 t_0 n_0 z_0 q0_0 q0_1 q0_2 q0_3 q0_4) (this z)) = absurd (no_sign h (λ i. cc) (λ i. cc) q0_2)
character_forth l c at e d gs j w h (expands _ (pat_character c_0 at_0 e_0 d_0 t_0 q0_0 q0_1 q0_2 q0_3) (this z)) = (q0_1, q0_2 ∙ ap (λ v. p.Char v j.number) q0_1, q0_3, z)
character_forth l c at e d gs j w h (expands _ (pat_atom c_0 at_0 e_0 d_0 t_0 q0_0 q0_1 q0_2 q0_3) (this z)) = cc
character_forth l c at e d gs j w h (expands _ (pat_string c_0 at_0 e_0 d_0 t_0 q0_0 q0_1 q0_2 q0_3) (this z)) = cc
character_forth l c at e d gs j w h (expands _ (pat_paren c_0 at_0 e_0 d_0 ay_0 q0_0) (begins t kk ka z)) = cc
character_forth l c at e d gs j w h (expands _ (pat_tuple c_0 at_0 e_0 d_0 ys_0 dys_0 q0_0 q0_1 q0_2) (begins t kk ka z)) = cc
character_forth l c at e d gs j w h (expands _ (pat_list c_0 at_0 e_0 d_0 ys_0 tail_0 dys_0 q0_0 q0_1 q0_2) (begins t kk ka z)) = cc
character_forth l c at e d gs j w h (expands _ (pat_bits c_0 at_0 e_0 d_0 sgs_0 q0_0 q0_1) (begins t kk ka z)) = cc

pub on_character : {most : Limits} (c : Context) (j : Word) (rest : List Word) → j.kind ≡ k.Character → Passes most {X = Placed Pattern} closed (pat_in c) (j ∷ rest) nothing rest (λ u. record { at = j.at; tree = p.Char j.at j.number; height = 1 })
on_character c j rest h = record {
  front = j ∷ [];
  whole = refl;
  back = λ l i u gs w d. expands _ (pat_character c _ _ _ j h refl refl refl) (this d);
  forth = λ l r gs w f s d. let m = character_forth l c r.at r.tree r.height gs j w h d in (tt, same_pat m.0 m.1 m.2, m.3);
}

atom_forth : (l : Limits) (c : Context) (at : Span) (e : Pattern) (d : ℕ) (gs : List Goal) (j : Word) (w : List Word) → j.kind ≡ k.Atom → Spells l (Of (Pat c at e d) ∷ gs) (j ∷ w) → (at ≡ j.at) × (e ≡ p.Atom j.at j.number) × (d ≡ 1) × Spells l gs w
atom_forth l c at e d gs j w h (expands _ (pat_variable c_0 at_0 e_0 d_0 t_0 q0_0 q0_1 q0_2 q0_3) (this z)) = cc
atom_forth l c at e d gs j w h (expands _ (pat_wild c_0 at_0 e_0 d_0 q0_0 q0_1) (begins t kk ka z)) = cc
atom_forth l c at e d gs j w h (expands _ (pat_integer c_0 at_0 e_0 d_0 t_0 q0_0 q0_1 q0_2 q0_3) (this z)) = cc
atom_forth l c at e d gs j w h (expands _ (pat_signed c_0 at_0 e_0 d_0 t_0 n_0 z_0 q0_0 q0_1 q0_2 q0_3 q0_4) (this z)) = absurd (no_sign h (λ i. cc) (λ i. cc) q0_2)
atom_forth l c at e d gs j w h (expands _ (pat_character c_0 at_0 e_0 d_0 t_0 q0_0 q0_1 q0_2 q0_3) (this z)) = cc
atom_forth l c at e d gs j w h (expands _ (pat_atom c_0 at_0 e_0 d_0 t_0 q0_0 q0_1 q0_2 q0_3) (this z)) = (q0_1, q0_2 ∙ ap (λ v. p.Atom v j.number) q0_1, q0_3, z)
atom_forth l c at e d gs j w h (expands _ (pat_string c_0 at_0 e_0 d_0 t_0 q0_0 q0_1 q0_2 q0_3) (this z)) = cc
atom_forth l c at e d gs j w h (expands _ (pat_paren c_0 at_0 e_0 d_0 ay_0 q0_0) (begins t kk ka z)) = cc
atom_forth l c at e d gs j w h (expands _ (pat_tuple c_0 at_0 e_0 d_0 ys_0 dys_0 q0_0 q0_1 q0_2) (begins t kk ka z)) = cc
atom_forth l c at e d gs j w h (expands _ (pat_list c_0 at_0 e_0 d_0 ys_0 tail_0 dys_0 q0_0 q0_1 q0_2) (begins t kk ka z)) = cc
atom_forth l c at e d gs j w h (expands _ (pat_bits c_0 at_0 e_0 d_0 sgs_0 q0_0 q0_1) (begins t kk ka z)) = cc

pub on_atom : {most : Limits} (c : Context) (j : Word) (rest : List Word) → j.kind ≡ k.Atom → Passes most {X = Placed Pattern} closed (pat_in c) (j ∷ rest) nothing rest (λ u. record { at = j.at; tree = p.Atom j.at j.number; height = 1 })
on_atom c j rest h = record {
  front = j ∷ [];
  whole = refl;
  back = λ l i u gs w d. expands _ (pat_atom c _ _ _ j h refl refl refl) (this d);
  forth = λ l r gs w f s d. let m = atom_forth l c r.at r.tree r.height gs j w h d in (tt, same_pat m.0 m.1 m.2, m.3);
}

string_forth : (l : Limits) (c : Context) (at : Span) (e : Pattern) (d : ℕ) (gs : List Goal) (j : Word) (w : List Word) → j.kind ≡ k.Str → Spells l (Of (Pat c at e d) ∷ gs) (j ∷ w) → (at ≡ j.at) × (e ≡ p.Str j.at j.chars) × (d ≡ 1) × Spells l gs w
string_forth l c at e d gs j w h (expands _ (pat_variable c_0 at_0 e_0 d_0 t_0 q0_0 q0_1 q0_2 q0_3) (this z)) = cc
string_forth l c at e d gs j w h (expands _ (pat_wild c_0 at_0 e_0 d_0 q0_0 q0_1) (begins t kk ka z)) = cc
string_forth l c at e d gs j w h (expands _ (pat_integer c_0 at_0 e_0 d_0 t_0 q0_0 q0_1 q0_2 q0_3) (this z)) = cc
string_forth l c at e d gs j w h (expands _ (pat_signed c_0 at_0 e_0 d_0 t_0 n_0 z_0 q0_0 q0_1 q0_2 q0_3 q0_4) (this z)) = absurd (no_sign h (λ i. cc) (λ i. cc) q0_2)
string_forth l c at e d gs j w h (expands _ (pat_character c_0 at_0 e_0 d_0 t_0 q0_0 q0_1 q0_2 q0_3) (this z)) = cc
string_forth l c at e d gs j w h (expands _ (pat_atom c_0 at_0 e_0 d_0 t_0 q0_0 q0_1 q0_2 q0_3) (this z)) = cc
string_forth l c at e d gs j w h (expands _ (pat_string c_0 at_0 e_0 d_0 t_0 q0_0 q0_1 q0_2 q0_3) (this z)) = (q0_1, q0_2 ∙ ap (λ v. p.Str v j.chars) q0_1, q0_3, z)
string_forth l c at e d gs j w h (expands _ (pat_paren c_0 at_0 e_0 d_0 ay_0 q0_0) (begins t kk ka z)) = cc
string_forth l c at e d gs j w h (expands _ (pat_tuple c_0 at_0 e_0 d_0 ys_0 dys_0 q0_0 q0_1 q0_2) (begins t kk ka z)) = cc
string_forth l c at e d gs j w h (expands _ (pat_list c_0 at_0 e_0 d_0 ys_0 tail_0 dys_0 q0_0 q0_1 q0_2) (begins t kk ka z)) = cc
string_forth l c at e d gs j w h (expands _ (pat_bits c_0 at_0 e_0 d_0 sgs_0 q0_0 q0_1) (begins t kk ka z)) = cc

pub on_string : {most : Limits} (c : Context) (j : Word) (rest : List Word) → j.kind ≡ k.Str → Passes most {X = Placed Pattern} closed (pat_in c) (j ∷ rest) nothing rest (λ u. record { at = j.at; tree = p.Str j.at j.chars; height = 1 })
on_string c j rest h = record {
  front = j ∷ [];
  whole = refl;
  back = λ l i u gs w d. expands _ (pat_string c _ _ _ j h refl refl refl) (this d);
  forth = λ l r gs w f s d. let m = string_forth l c r.at r.tree r.height gs j w h d in (tt, same_pat m.0 m.1 m.2, m.3);
}

wild_forth : (l : Limits) (c : Context) (at : Span) (e : Pattern) (d : ℕ) (gs : List Goal) (j : Word) (w : List Word) → j.kind ≡ k.Underscore → Spells l (Of (Pat c at e d) ∷ gs) (j ∷ w) → (at ≡ j.at) × (e ≡ p.Wild j.at) × (d ≡ 1) × Spells l gs w
wild_forth l c at e d gs j w h (expands _ (pat_variable c_0 at_0 e_0 d_0 t_0 q0_0 q0_1 q0_2 q0_3) (this z)) = cc
wild_forth l c at e d gs j w h (expands _ (pat_wild c_0 at_0 e_0 d_0 q0_0 q0_1) (begins t kk ka z)) = (ka, q0_0 ∙ ap (λ v. p.Wild v) ka, q0_1, z)
wild_forth l c at e d gs j w h (expands _ (pat_integer c_0 at_0 e_0 d_0 t_0 q0_0 q0_1 q0_2 q0_3) (this z)) = cc
wild_forth l c at e d gs j w h (expands _ (pat_signed c_0 at_0 e_0 d_0 t_0 n_0 z_0 q0_0 q0_1 q0_2 q0_3 q0_4) (this z)) = absurd (no_sign h (λ i. cc) (λ i. cc) q0_2)
wild_forth l c at e d gs j w h (expands _ (pat_character c_0 at_0 e_0 d_0 t_0 q0_0 q0_1 q0_2 q0_3) (this z)) = cc
wild_forth l c at e d gs j w h (expands _ (pat_atom c_0 at_0 e_0 d_0 t_0 q0_0 q0_1 q0_2 q0_3) (this z)) = cc
wild_forth l c at e d gs j w h (expands _ (pat_string c_0 at_0 e_0 d_0 t_0 q0_0 q0_1 q0_2 q0_3) (this z)) = cc
wild_forth l c at e d gs j w h (expands _ (pat_paren c_0 at_0 e_0 d_0 ay_0 q0_0) (begins t kk ka z)) = cc
wild_forth l c at e d gs j w h (expands _ (pat_tuple c_0 at_0 e_0 d_0 ys_0 dys_0 q0_0 q0_1 q0_2) (begins t kk ka z)) = cc
wild_forth l c at e d gs j w h (expands _ (pat_list c_0 at_0 e_0 d_0 ys_0 tail_0 dys_0 q0_0 q0_1 q0_2) (begins t kk ka z)) = cc
wild_forth l c at e d gs j w h (expands _ (pat_bits c_0 at_0 e_0 d_0 sgs_0 q0_0 q0_1) (begins t kk ka z)) = cc

pub on_wild : {most : Limits} (c : Context) (j : Word) (rest : List Word) → j.kind ≡ k.Underscore → Passes most {X = Placed Pattern} closed (pat_in c) (j ∷ rest) nothing rest (λ u. record { at = j.at; tree = p.Wild j.at; height = 1 })
on_wild c j rest h = record {
  front = j ∷ [];
  whole = refl;
  back = λ l i u gs w d. expands _ (pat_wild c _ _ _ refl refl) (begins j h refl d);
  forth = λ l r gs w f s d. let m = wild_forth l c r.at r.tree r.height gs j w h d in (tt, same_pat m.0 m.1 m.2, m.3);
}

tuple_forth : (l : Limits) (c : Context) (at : Span) (e : Pattern) (d : ℕ) (gs : List Goal) (j : Word) (w : List Word) → j.kind ≡ k.LeftBrace → Spells l (Of (Pat c at e d) ∷ gs) (j ∷ w) → (at ≡ j.at) × (r : List Pattern × ℕ) × (e ≡ p.Tuple j.at r.0) × (d ≡ r.1 + 1) × Spells l (Of (Patterns k.RightBrace (inside (under c)) r.0 r.1) ∷ gs) w
tuple_forth l c at e d gs j w h (expands _ (pat_variable c_0 at_0 e_0 d_0 t_0 q0_0 q0_1 q0_2 q0_3) (this z)) = cc
tuple_forth l c at e d gs j w h (expands _ (pat_wild c_0 at_0 e_0 d_0 q0_0 q0_1) (begins t kk ka z)) = cc
tuple_forth l c at e d gs j w h (expands _ (pat_integer c_0 at_0 e_0 d_0 t_0 q0_0 q0_1 q0_2 q0_3) (this z)) = cc
tuple_forth l c at e d gs j w h (expands _ (pat_signed c_0 at_0 e_0 d_0 t_0 n_0 z_0 q0_0 q0_1 q0_2 q0_3 q0_4) (this z)) = absurd (no_sign h (λ i. cc) (λ i. cc) q0_2)
tuple_forth l c at e d gs j w h (expands _ (pat_character c_0 at_0 e_0 d_0 t_0 q0_0 q0_1 q0_2 q0_3) (this z)) = cc
tuple_forth l c at e d gs j w h (expands _ (pat_atom c_0 at_0 e_0 d_0 t_0 q0_0 q0_1 q0_2 q0_3) (this z)) = cc
tuple_forth l c at e d gs j w h (expands _ (pat_string c_0 at_0 e_0 d_0 t_0 q0_0 q0_1 q0_2 q0_3) (this z)) = cc
tuple_forth l c at e d gs j w h (expands _ (pat_paren c_0 at_0 e_0 d_0 ay_0 q0_0) (begins t kk ka z)) = cc
tuple_forth l c at e d gs j w h (expands _ (pat_tuple c_0 at_0 e_0 d_0 ys_0 dys_0 q0_0 q0_1 q0_2) (begins t kk ka z)) = (ka, (ys_0, dys_0), q0_1 ∙ ap (λ v. p.Tuple v ys_0) ka, q0_2, z)
tuple_forth l c at e d gs j w h (expands _ (pat_list c_0 at_0 e_0 d_0 ys_0 tail_0 dys_0 q0_0 q0_1 q0_2) (begins t kk ka z)) = cc
tuple_forth l c at e d gs j w h (expands _ (pat_bits c_0 at_0 e_0 d_0 sgs_0 q0_0 q0_1) (begins t kk ka z)) = cc

pub on_brace : {most : Limits} (c : Context) (j : Word) (rest : List Word) → j.kind ≡ k.LeftBrace → c.open_ < most.brackets → Passes most {X = Placed Pattern} {Y = List Pattern × ℕ} closed (pat_in c) (j ∷ rest) (patterns_in k.RightBrace (inside (under c))) rest (λ r. record { at = j.at; tree = p.Tuple j.at r.0; height = r.1 + 1 })
on_brace c j rest h b = record {
  front = j ∷ [];
  whole = refl;
  back = λ l v r gs w d. let room : c.open_ < l.brackets = omega (arith, v.brackets) in expands _ (pat_tuple c _ _ _ _ _ room refl refl) (begins j h refl d);
  forth = λ l r gs w f s d. let m = tuple_forth l c r.at r.tree r.height gs j w h d in (m.1, same_pat m.0 m.2 m.3, m.4);
}

bits_forth : (l : Limits) (c : Context) (at : Span) (e : Pattern) (d : ℕ) (gs : List Goal) (j : Word) (w : List Word) → j.kind ≡ k.LeftBits → Spells l (Of (Pat c at e d) ∷ gs) (j ∷ w) → (at ≡ j.at) × (sgs : List Segment) × (e ≡ p.Bits j.at sgs) × Spells l (Of (PatternBits c sgs d) ∷ gs) w
bits_forth l c at e d gs j w h (expands _ (pat_variable c_0 at_0 e_0 d_0 t_0 q0_0 q0_1 q0_2 q0_3) (this z)) = cc
bits_forth l c at e d gs j w h (expands _ (pat_wild c_0 at_0 e_0 d_0 q0_0 q0_1) (begins t kk ka z)) = cc
bits_forth l c at e d gs j w h (expands _ (pat_integer c_0 at_0 e_0 d_0 t_0 q0_0 q0_1 q0_2 q0_3) (this z)) = cc
bits_forth l c at e d gs j w h (expands _ (pat_signed c_0 at_0 e_0 d_0 t_0 n_0 z_0 q0_0 q0_1 q0_2 q0_3 q0_4) (this z)) = absurd (no_sign h (λ i. cc) (λ i. cc) q0_2)
bits_forth l c at e d gs j w h (expands _ (pat_character c_0 at_0 e_0 d_0 t_0 q0_0 q0_1 q0_2 q0_3) (this z)) = cc
bits_forth l c at e d gs j w h (expands _ (pat_atom c_0 at_0 e_0 d_0 t_0 q0_0 q0_1 q0_2 q0_3) (this z)) = cc
bits_forth l c at e d gs j w h (expands _ (pat_string c_0 at_0 e_0 d_0 t_0 q0_0 q0_1 q0_2 q0_3) (this z)) = cc
bits_forth l c at e d gs j w h (expands _ (pat_paren c_0 at_0 e_0 d_0 ay_0 q0_0) (begins t kk ka z)) = cc
bits_forth l c at e d gs j w h (expands _ (pat_tuple c_0 at_0 e_0 d_0 ys_0 dys_0 q0_0 q0_1 q0_2) (begins t kk ka z)) = cc
bits_forth l c at e d gs j w h (expands _ (pat_list c_0 at_0 e_0 d_0 ys_0 tail_0 dys_0 q0_0 q0_1 q0_2) (begins t kk ka z)) = cc
bits_forth l c at e d gs j w h (expands _ (pat_bits c_0 at_0 e_0 d_0 sgs_0 q0_0 q0_1) (begins t kk ka z)) = (ka, sgs_0, q0_1 ∙ ap (λ v. p.Bits v sgs_0) ka, z)

pub on_bits : {most : Limits} (c : Context) (j : Word) (rest : List Word) → j.kind ≡ k.LeftBits → c.open_ < most.brackets → Passes most {X = Placed Pattern} {Y = List Segment × ℕ} closed (pat_in c) (j ∷ rest) (pattern_bits_in c) rest (λ r. record { at = j.at; tree = p.Bits j.at r.0; height = r.1 })
on_bits c j rest h b = record {
  front = j ∷ [];
  whole = refl;
  back = λ l v r gs w d. let room : c.open_ < l.brackets = omega (arith, v.brackets) in expands _ (pat_bits c _ _ _ _ room refl) (begins j h refl d);
  forth = λ l r gs w f s d. let m = bits_forth l c r.at r.tree r.height gs j w h d in ((m.1, r.height), same_pat m.0 m.2 refl, m.3);
}

list_forth : (l : Limits) (c : Context) (at : Span) (e : Pattern) (d : ℕ) (gs : List Goal) (j : Word) (w : List Word) → j.kind ≡ k.LeftBracket → Spells l (Of (Pat c at e d) ∷ gs) (j ∷ w) → (at ≡ j.at) × (ys : List Pattern) × (tail : List Pattern) × (dys : ℕ) × (e ≡ p.List j.at ys tail) × (d ≡ dys + 1) × Spells l (Of (PatternList (inside (under c)) ys tail dys) ∷ gs) w
list_forth l c at e d gs j w h (expands _ (pat_variable c_0 at_0 e_0 d_0 t_0 q0_0 q0_1 q0_2 q0_3) (this z)) = cc
list_forth l c at e d gs j w h (expands _ (pat_wild c_0 at_0 e_0 d_0 q0_0 q0_1) (begins t kk ka z)) = cc
list_forth l c at e d gs j w h (expands _ (pat_integer c_0 at_0 e_0 d_0 t_0 q0_0 q0_1 q0_2 q0_3) (this z)) = cc
list_forth l c at e d gs j w h (expands _ (pat_signed c_0 at_0 e_0 d_0 t_0 n_0 z_0 q0_0 q0_1 q0_2 q0_3 q0_4) (this z)) = absurd (no_sign h (λ i. cc) (λ i. cc) q0_2)
list_forth l c at e d gs j w h (expands _ (pat_character c_0 at_0 e_0 d_0 t_0 q0_0 q0_1 q0_2 q0_3) (this z)) = cc
list_forth l c at e d gs j w h (expands _ (pat_atom c_0 at_0 e_0 d_0 t_0 q0_0 q0_1 q0_2 q0_3) (this z)) = cc
list_forth l c at e d gs j w h (expands _ (pat_string c_0 at_0 e_0 d_0 t_0 q0_0 q0_1 q0_2 q0_3) (this z)) = cc
list_forth l c at e d gs j w h (expands _ (pat_paren c_0 at_0 e_0 d_0 ay_0 q0_0) (begins t kk ka z)) = cc
list_forth l c at e d gs j w h (expands _ (pat_tuple c_0 at_0 e_0 d_0 ys_0 dys_0 q0_0 q0_1 q0_2) (begins t kk ka z)) = cc
list_forth l c at e d gs j w h (expands _ (pat_list c_0 at_0 e_0 d_0 ys_0 tail_0 dys_0 q0_0 q0_1 q0_2) (begins t kk ka z)) = (ka, ys_0, tail_0, dys_0, q0_1 ∙ ap (λ v. p.List v ys_0 tail_0) ka, q0_2, z)
list_forth l c at e d gs j w h (expands _ (pat_bits c_0 at_0 e_0 d_0 sgs_0 q0_0 q0_1) (begins t kk ka z)) = cc

pub on_bracket : {most : Limits} (c : Context) (j : Word) (rest : List Word) → j.kind ≡ k.LeftBracket → c.open_ < most.brackets → Passes most {X = Placed Pattern} {Y = (List Pattern × List Pattern) × ℕ} closed (pat_in c) (j ∷ rest) (pattern_list_in (inside (under c))) rest (λ r. record { at = j.at; tree = p.List j.at r.0.0 r.0.1; height = r.1 + 1 })
on_bracket c j rest h b = record {
  front = j ∷ [];
  whole = refl;
  back = λ l v r gs w d. let room : c.open_ < l.brackets = omega (arith, v.brackets) in expands _ (pat_list c _ _ _ _ _ _ room refl refl) (begins j h refl d);
  forth = λ l r gs w f s d. let m = list_forth l c r.at r.tree r.height gs j w h d in (((m.1, m.2), m.3), same_pat m.0 m.4 m.5, m.6);
}
