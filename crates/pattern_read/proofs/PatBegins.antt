-- The laws of patterns that begin with a sign or a bracket, and where no pattern begins.
use Rattle.std.proofs.Common.{◌≡◌, ℕ, ℤ, ◌+◌, ◌≤◌, ◌<◌, Bool, true, false, IsTrue, List, [], ◌∷◌, ◌++◌, refl, sym, ap, subst, ◌∙◌, arith, pos}
use Rattle.std.specs.Prelude.{◌-ℤ◌}
use Rattle.erl_syntax.specs.declared.span.Span.{Span}
use Rattle.erl_syntax.specs.declared.token.TokenKind.{TokenKind}
use Rattle.erl_syntax.specs.declared.token.TokenKind.TheVariants as k
use Rattle.erl_syntax.specs.declared.pattern.Pattern.{Pattern}
use Rattle.erl_syntax.specs.declared.pattern.Pattern.TheVariants as p
use Rattle.erl_syntax.specs.Word.{Word}
use Rattle.erl_syntax.specs.Names.{Signed, plus, minus}
use Rattle.erl_syntax.specs.Grammar.{Context, inside, Limits, Goal, Mark, The, Of, APattern, Pat, pattern, not_same, pat_variable, pat_wild, pat_integer, pat_signed, pat_character, pat_atom, pat_string, pat_paren, pat_tuple, pat_list, pat_bits, no_patterns, no_pattern_list, no_pattern_bits, Spells, takes, begins, this, expands}
use Rattle.pattern_read.specs.declared.placed.Placed.{Placed}
use Rattle.pattern_read.specs.declared.fault.Cause.TheVariants.{Syntax, TooDeep}
use Rattle.pattern_read.specs.Reading.{Passes, IsRefused, SameHead, closed, nothing}
use Rattle.pattern_read.specs.Wanted.{NoMark, no_mark_end, no_mark, mark_in}
use Rattle.pattern_read.specs.WantedPatterns.{begins_pattern, opens_pattern, pat_in, pattern_in}
use Rattle.pattern_read.proofs.Operands.{mark_word, some_place, deeper, deeper_wide}
use Rattle.pattern_read.proofs.Pats.{same_pat}
use Rattle.pattern_read.proofs.PatLists.{first_pat}

-- ---- Signs

abbrev pub is_sign : TokenKind → Bool
is_sign k.Plus = true
is_sign k.Minus = true
is_sign _ = false

one_sign : {kind : TokenKind} {n : ℕ} {a b : ℤ} → Signed kind n a → Signed kind n b → a ≡ b
one_sign (plus kind n z e f) (plus kind_1 n_1 z_1 g h) = f ∙ sym h
one_sign (minus kind n z e f) (minus kind_1 n_1 z_1 g h) = f ∙ sym h
one_sign (plus kind n z e f) (minus kind_1 n_1 z_1 g h) = cc
one_sign (minus kind n z e f) (plus kind_1 n_1 z_1 g h) = cc

signed_forth : (l : Limits) (c : Context) (at : Span) (e : Pattern) (d : ℕ) (gs : List Goal) (j : Word) (w : List Word) → is_sign j.kind ≡ true → Spells l (Of (Pat c at e d) ∷ gs) (j ∷ w) → (at ≡ j.at) × (n : Word) × (z : ℤ) × (n.kind ≡ k.Integer) × Signed j.kind n.number z × (e ≡ p.Int j.at z) × (d ≡ 1) × Spells l (The n ∷ gs) w
signed_forth l c at e d gs j w h (expands _ (pat_variable c_0 at_0 e_0 d_0 t_0 q0 q1 q2 q3) (this z)) = let a : is_sign j.kind ≡ false = ap is_sign q0 in cc
signed_forth l c at e d gs j w h (expands _ (pat_wild c_0 at_0 e_0 d_0 q0 q1) (begins t kk ka z)) = let a : is_sign j.kind ≡ false = ap is_sign kk in cc
signed_forth l c at e d gs j w h (expands _ (pat_integer c_0 at_0 e_0 d_0 t_0 q0 q1 q2 q3) (this z)) = let a : is_sign j.kind ≡ false = ap is_sign q0 in cc
signed_forth l c at e d gs j w h (expands _ (pat_signed c_0 at_0 e_0 d_0 t_0 n_0 z_0 q0 q1 q2 q3 q4) (this z)) = (q0, n_0, z_0, q1, q2, q3 ∙ ap (λ v. p.Int v z_0) q0, q4, z)
signed_forth l c at e d gs j w h (expands _ (pat_character c_0 at_0 e_0 d_0 t_0 q0 q1 q2 q3) (this z)) = let a : is_sign j.kind ≡ false = ap is_sign q0 in cc
signed_forth l c at e d gs j w h (expands _ (pat_atom c_0 at_0 e_0 d_0 t_0 q0 q1 q2 q3) (this z)) = let a : is_sign j.kind ≡ false = ap is_sign q0 in cc
signed_forth l c at e d gs j w h (expands _ (pat_string c_0 at_0 e_0 d_0 t_0 q0 q1 q2 q3) (this z)) = let a : is_sign j.kind ≡ false = ap is_sign q0 in cc
signed_forth l c at e d gs j w h (expands _ (pat_paren c_0 at_0 e_0 d_0 ay_0 q0) (begins t kk ka z)) = let a : is_sign j.kind ≡ false = ap is_sign kk in cc
signed_forth l c at e d gs j w h (expands _ (pat_tuple c_0 at_0 e_0 d_0 ys_0 dys_0 q0 q1 q2) (begins t kk ka z)) = let a : is_sign j.kind ≡ false = ap is_sign kk in cc
signed_forth l c at e d gs j w h (expands _ (pat_list c_0 at_0 e_0 d_0 ys_0 tail_0 dys_0 q0 q1 q2) (begins t kk ka z)) = let a : is_sign j.kind ≡ false = ap is_sign kk in cc
signed_forth l c at e d gs j w h (expands _ (pat_bits c_0 at_0 e_0 d_0 sgs_0 q0 q1) (begins t kk ka z)) = let a : is_sign j.kind ≡ false = ap is_sign kk in cc

number_forth : {l : Limits} {n : Word} {gs : List Goal} {i : Word} {w : List Word} → Spells l (The n ∷ gs) (i ∷ w) → (i ≡ n) × Spells l gs w
number_forth (this z) = (refl, z)

pub on_signed : {most : Limits} (c : Context) (j i : Word) (rest : List Word) (z : ℤ) → is_sign j.kind ≡ true → i.kind ≡ k.Integer → Signed j.kind i.number z → Passes most {X = Placed Pattern} closed (pat_in c) (j ∷ (i ∷ rest)) nothing rest (λ u. record { at = j.at; tree = p.Int j.at z; height = 1 })
on_signed c j i rest z h b s = record {
  front = j ∷ (i ∷ []);
  whole = refl;
  back = λ l v u gs w d. expands _ (pat_signed c _ _ _ j i z refl b s refl refl) (this (this d));
  forth = λ l r gs w f t d.
      let m = signed_forth l c r.at r.tree r.height gs j (i ∷ w) h d in
      let q = number_forth m.7 in
      (tt, same_pat m.0 (m.5 ∙ ap (λ v. p.Int j.at v) (one_sign (subst (λ v. Signed j.kind v.number m.2) (sym q.0) m.4) s)) m.6, q.1);
}

-- a number with which a sign may be completed
abbrev pub some_number : Word
some_number = mark_word k.Integer

signed_some : (kind other : TokenKind) → kind ≡ other → is_sign other ≡ true → (z : ℤ) × Signed kind 0 z
signed_some kind k.Plus e h = (pos 0, plus kind 0 (pos 0) e refl)
signed_some kind k.Minus e h = (pos 0 -ℤ pos 0, minus kind 0 (pos 0 -ℤ pos 0) e refl)
signed_some kind _ e h = cc

no_number : (l : Limits) (n : Word) (gs : List Goal) (rest w : List Word) → n.kind ≡ k.Integer → NoMark k.Integer rest → SameHead w rest → Spells l (The n ∷ gs) w → ⊥
no_number l n gs _ w i no_mark_end s (this z) = s
no_number l n gs _ w i (no_mark j rest f) s (this z) = f (ap (λ v. v.kind) (sym s) ∙ i)

pub sign_alone : {most : Limits} (c : Context) (j : Word) (rest : List Word) → is_sign j.kind ≡ true → NoMark k.Integer rest → IsRefused most {X = Placed Pattern} closed (pat_in c) (j ∷ rest) rest Syntax
sign_alone c j rest h n = let a = signed_some j.kind j.kind refl h in record {
  front = j ∷ [];
  whole = refl;
  tree = record { at = j.at; tree = p.Int j.at a.0; height = 1 };
  more = some_number ∷ [];
  goes_on = λ l v gs w d. expands _ (pat_signed c _ _ _ j some_number a.0 refl refl a.1 refl refl) (this (this d));
  stops = λ l v r gs w f s d. let m = signed_forth l c r.at r.tree r.height gs j w h d in no_number l m.1 gs rest w m.3 n s m.7;
  excused = tt;
}

-- ---- Parentheses

sign_opens : {kind : TokenKind} {n : ℕ} {z : ℤ} → Signed kind n z → opens_pattern kind ≡ false
sign_opens (plus kind n z e f) = ap opens_pattern e
sign_opens (minus kind n z e f) = ap opens_pattern e

paren_forth : (l : Limits) (c : Context) (at : Span) (e : Pattern) (d : ℕ) (gs : List Goal) (j : Word) (w : List Word) → j.kind ≡ k.LeftParen → Spells l (Of (Pat c at e d) ∷ gs) (j ∷ w) → (at ≡ j.at) × (ay : Span) × Spells l (Of (APattern (inside c) ay e d) ∷ Mark k.RightParen ∷ gs) w
paren_forth l c at e d gs j w h (expands _ (pat_variable c_0 at_0 e_0 d_0 t_0 q0 q1 q2 q3) (this z)) = cc
paren_forth l c at e d gs j w h (expands _ (pat_wild c_0 at_0 e_0 d_0 q0 q1) (begins t kk ka z)) = cc
paren_forth l c at e d gs j w h (expands _ (pat_integer c_0 at_0 e_0 d_0 t_0 q0 q1 q2 q3) (this z)) = cc
paren_forth l c at e d gs j w h (expands _ (pat_signed c_0 at_0 e_0 d_0 t_0 n_0 z_0 q0 q1 q2 q3 q4) (this z)) = let a : opens_pattern j.kind ≡ false = sign_opens q2 in let b : opens_pattern j.kind ≡ true = ap opens_pattern h in cc
paren_forth l c at e d gs j w h (expands _ (pat_character c_0 at_0 e_0 d_0 t_0 q0 q1 q2 q3) (this z)) = cc
paren_forth l c at e d gs j w h (expands _ (pat_atom c_0 at_0 e_0 d_0 t_0 q0 q1 q2 q3) (this z)) = cc
paren_forth l c at e d gs j w h (expands _ (pat_string c_0 at_0 e_0 d_0 t_0 q0 q1 q2 q3) (this z)) = cc
paren_forth l c at e d gs j w h (expands _ (pat_paren c_0 at_0 e_0 d_0 ay_0 q0) (begins t kk ka z)) = (ka, ay_0, z)
paren_forth l c at e d gs j w h (expands _ (pat_tuple c_0 at_0 e_0 d_0 ys_0 dys_0 q0 q1 q2) (begins t kk ka z)) = cc
paren_forth l c at e d gs j w h (expands _ (pat_list c_0 at_0 e_0 d_0 ys_0 tail_0 dys_0 q0 q1 q2) (begins t kk ka z)) = cc
paren_forth l c at e d gs j w h (expands _ (pat_bits c_0 at_0 e_0 d_0 sgs_0 q0 q1) (begins t kk ka z)) = cc

pub on_paren : {most : Limits} (c : Context) (j : Word) (rest : List Word) → j.kind ≡ k.LeftParen → c.open_ < most.brackets →
    Passes most {X = Placed Pattern} {Y = Placed Pattern × Unit {0}} closed (pat_in c) (j ∷ rest) (λ q. pattern_in (inside c) q.0 ++ mark_in k.RightParen q.1) rest (λ q. record { at = j.at; tree = q.0.tree; height = q.0.height })
on_paren c j rest h b = record {
  front = j ∷ [];
  whole = refl;
  back = λ l v q gs w d. let room : c.open_ < l.brackets = omega (arith, v.brackets) in expands _ (pat_paren c _ _ _ _ room) (begins j h refl d);
  forth = λ l r gs w f s d. let m = paren_forth l c r.at r.tree r.height gs j w h d in ((record { at = m.1; tree = r.tree; height = r.height }, tt), same_pat m.0 refl refl, m.2);
}

-- ---- Where no pattern begins

no_pat_end : (l : Limits) (c : Context) (at : Span) (e : Pattern) (d : ℕ) (gs : List Goal) → Spells l (Of (Pat c at e d) ∷ gs) [] → ⊥
no_pat_end l c at e d gs (expands _ (pat_variable c_0 at_0 e_0 d_0 t_0 q0 q1 q2 q3) z) = elim z [ ]
no_pat_end l c at e d gs (expands _ (pat_wild c_0 at_0 e_0 d_0 q0 q1) z) = elim z [ ]
no_pat_end l c at e d gs (expands _ (pat_integer c_0 at_0 e_0 d_0 t_0 q0 q1 q2 q3) z) = elim z [ ]
no_pat_end l c at e d gs (expands _ (pat_signed c_0 at_0 e_0 d_0 t_0 n_0 z_0 q0 q1 q2 q3 q4) z) = elim z [ ]
no_pat_end l c at e d gs (expands _ (pat_character c_0 at_0 e_0 d_0 t_0 q0 q1 q2 q3) z) = elim z [ ]
no_pat_end l c at e d gs (expands _ (pat_atom c_0 at_0 e_0 d_0 t_0 q0 q1 q2 q3) z) = elim z [ ]
no_pat_end l c at e d gs (expands _ (pat_string c_0 at_0 e_0 d_0 t_0 q0 q1 q2 q3) z) = elim z [ ]
no_pat_end l c at e d gs (expands _ (pat_paren c_0 at_0 e_0 d_0 ay_0 q0) z) = elim z [ ]
no_pat_end l c at e d gs (expands _ (pat_tuple c_0 at_0 e_0 d_0 ys_0 dys_0 q0 q1 q2) z) = elim z [ ]
no_pat_end l c at e d gs (expands _ (pat_list c_0 at_0 e_0 d_0 ys_0 tail_0 dys_0 q0 q1 q2) z) = elim z [ ]
no_pat_end l c at e d gs (expands _ (pat_bits c_0 at_0 e_0 d_0 sgs_0 q0 q1) z) = elim z [ ]

-- the tokens begin with none with which a pattern begins
pub data NoPattern : List Word → Type 0 where
  no_pattern_end : NoPattern []
  no_pattern : (j : Word) (rest : List Word) → begins_pattern j.kind ≡ false → NoPattern (j ∷ rest)

pub pat_none : (l : Limits) (c : Context) (at : Span) (e : Pattern) (d : ℕ) (gs : List Goal) (rest w : List Word) → NoPattern rest → SameHead w rest → Spells l (Of (Pat c at e d) ∷ gs) w → ⊥
pat_none l c at e d gs _ [] no_pattern_end s z = no_pat_end l c at e d gs z
pat_none l c at e d gs _ (t ∷ w) no_pattern_end s z = s
pat_none l c at e d gs _ [] (no_pattern j rest n) s z = s
pat_none l c at e d gs _ (t ∷ w) (no_pattern j rest n) s z = let a : begins_pattern t.kind ≡ true = first_pat l c at e d gs t w z in let b : begins_pattern t.kind ≡ begins_pattern j.kind = ap (λ v. begins_pattern v.kind) s in cc

-- a pattern with which others may be completed
abbrev pub some_pattern : Placed Pattern
some_pattern = record { at = some_place; tree = p.Wild some_place; height = 1 }

pub pat_spells : (l : Limits) (c : Context) (gs : List Goal) (w : List Word) → Spells l gs w → Spells l (pat_in c some_pattern ++ gs) (mark_word k.Underscore ∷ w)
pat_spells l c gs w d = expands _ (pat_wild c _ _ _ refl refl) (begins (mark_word k.Underscore) refl refl d)

pub pattern_spells : (l : Limits) (c : Context) (gs : List Goal) (w : List Word) → Spells l gs w → Spells l (pattern_in c some_pattern ++ gs) (mark_word k.Underscore ∷ w)
pattern_spells l c gs w d = expands _ (pattern c _ _ _ _ _) (pat_spells l c _ w (expands _ (not_same c _ _ _ _ _ refl refl) d))

pub pat_refused : {most : Limits} (c : Context) (rest : List Word) → NoPattern rest → IsRefused most {X = Placed Pattern} closed (pat_in c) rest rest Syntax
pat_refused c rest n = record {
  front = [];
  whole = refl;
  tree = some_pattern;
  more = mark_word k.Underscore ∷ [];
  goes_on = λ l v gs w d. pat_spells l c gs w d;
  stops = λ l v r gs w f s d. pat_none l c r.at r.tree r.height gs rest w n s d;
  excused = tt;
}

-- ---- Too many open brackets

bracket_depth : (l : Limits) (c : Context) (at : Span) (e : Pattern) (d : ℕ) (gs : List Goal) (j : Word) (w : List Word) → opens_pattern j.kind ≡ true → Spells l (Of (Pat c at e d) ∷ gs) (j ∷ w) → c.open_ < l.brackets
bracket_depth l c at e d gs j w h (expands _ (pat_variable c_0 at_0 e_0 d_0 t_0 q0 q1 q2 q3) (this z)) = let a : opens_pattern j.kind ≡ false = ap opens_pattern q0 in cc
bracket_depth l c at e d gs j w h (expands _ (pat_wild c_0 at_0 e_0 d_0 q0 q1) (begins t kk ka z)) = let a : opens_pattern j.kind ≡ false = ap opens_pattern kk in cc
bracket_depth l c at e d gs j w h (expands _ (pat_integer c_0 at_0 e_0 d_0 t_0 q0 q1 q2 q3) (this z)) = let a : opens_pattern j.kind ≡ false = ap opens_pattern q0 in cc
bracket_depth l c at e d gs j w h (expands _ (pat_signed c_0 at_0 e_0 d_0 t_0 n_0 z_0 q0 q1 q2 q3 q4) (this z)) = let a : opens_pattern j.kind ≡ false = sign_opens q2 in cc
bracket_depth l c at e d gs j w h (expands _ (pat_character c_0 at_0 e_0 d_0 t_0 q0 q1 q2 q3) (this z)) = let a : opens_pattern j.kind ≡ false = ap opens_pattern q0 in cc
bracket_depth l c at e d gs j w h (expands _ (pat_atom c_0 at_0 e_0 d_0 t_0 q0 q1 q2 q3) (this z)) = let a : opens_pattern j.kind ≡ false = ap opens_pattern q0 in cc
bracket_depth l c at e d gs j w h (expands _ (pat_string c_0 at_0 e_0 d_0 t_0 q0 q1 q2 q3) (this z)) = let a : opens_pattern j.kind ≡ false = ap opens_pattern q0 in cc
bracket_depth l c at e d gs j w h (expands _ (pat_paren c_0 at_0 e_0 d_0 ay_0 q0) (begins t kk ka z)) = q0
bracket_depth l c at e d gs j w h (expands _ (pat_tuple c_0 at_0 e_0 d_0 ys_0 dys_0 q0 q1 q2) (begins t kk ka z)) = q0
bracket_depth l c at e d gs j w h (expands _ (pat_list c_0 at_0 e_0 d_0 ys_0 tail_0 dys_0 q0 q1 q2) (begins t kk ka z)) = q0
bracket_depth l c at e d gs j w h (expands _ (pat_bits c_0 at_0 e_0 d_0 sgs_0 q0 q1) (begins t kk ka z)) = q0

stops_bracket : (most : Limits) (c : Context) (j : Word) (rest : List Word) → opens_pattern j.kind ≡ true → most.brackets ≤ c.open_ → (l : Limits) → l.brackets ≡ most.brackets → (r : Placed Pattern) (gs : List Goal) (w : List Word) → SameHead w (j ∷ rest) → Spells l (pat_in c r ++ gs) w → ⊥
stops_bracket most c j rest h b l i r gs [] s d = s
stops_bracket most c j rest h b l i r gs (t ∷ w) s d = let a : c.open_ < l.brackets = bracket_depth l c r.at r.tree r.height gs t w (ap (λ v. opens_pattern v.kind) s ∙ h) d in omega arith

-- A token with which a pattern begins, at limits where it fits.
pub record Begun (most : Limits) (c : Context) (j : Word) : Type 0 where
  pub tree : Placed Pattern
  pub more : List Word
  pub spelled : (gs : List Goal) (w : List Word) → Spells (deeper most (c.deep + 1) (c.open_ + 1)) gs w → Spells (deeper most (c.deep + 1) (c.open_ + 1)) (pat_in c tree ++ gs) (j ∷ (more ++ w))

begun_sign : {most : Limits} (c : Context) (j : Word) → is_sign j.kind ≡ true → Begun most c j
begun_sign c j h = let a = signed_some j.kind j.kind refl h in record {
  tree = record { at = j.at; tree = p.Int j.at a.0; height = 1 };
  more = some_number ∷ [];
  spelled = λ gs w d. expands _ (pat_signed c _ _ _ j some_number a.0 refl refl a.1 refl refl) (this (this d));
}

pub begun : {most : Limits} (c : Context) (j : Word) (kind : TokenKind) → j.kind ≡ kind → IsTrue (begins_pattern kind) → Begun most c j
begun {most = most} c j k.Variable h b = record { tree = record { at = j.at; tree = p.Var j.at j.chars; height = 1 }; more = []; spelled = λ gs w d. expands _ (pat_variable c _ _ _ j h refl refl refl) (this d) }
begun {most = most} c j k.Underscore h b = record { tree = record { at = j.at; tree = p.Wild j.at; height = 1 }; more = []; spelled = λ gs w d. expands _ (pat_wild c _ _ _ refl refl) (begins j h refl d) }
begun {most = most} c j k.Integer h b = record { tree = record { at = j.at; tree = p.Int j.at (pos j.number); height = 1 }; more = []; spelled = λ gs w d. expands _ (pat_integer c _ _ _ j h refl refl refl) (this d) }
begun {most = most} c j k.Plus h b = begun_sign c j (ap is_sign h)
begun {most = most} c j k.Minus h b = begun_sign c j (ap is_sign h)
begun {most = most} c j k.Character h b = record { tree = record { at = j.at; tree = p.Char j.at j.number; height = 1 }; more = []; spelled = λ gs w d. expands _ (pat_character c _ _ _ j h refl refl refl) (this d) }
begun {most = most} c j k.Atom h b = record { tree = record { at = j.at; tree = p.Atom j.at j.number; height = 1 }; more = []; spelled = λ gs w d. expands _ (pat_atom c _ _ _ j h refl refl refl) (this d) }
begun {most = most} c j k.Str h b = record { tree = record { at = j.at; tree = p.Str j.at j.chars; height = 1 }; more = []; spelled = λ gs w d. expands _ (pat_string c _ _ _ j h refl refl refl) (this d) }
begun {most = most} c j k.LeftParen h b = record { tree = record { at = j.at; tree = p.Wild some_place; height = 1 }; more = mark_word k.Underscore ∷ (mark_word k.RightParen ∷ []); spelled = λ gs w d. expands _ (pat_paren c _ _ _ some_place (omega arith)) (begins j h refl (pattern_spells (deeper most (c.deep + 1) (c.open_ + 1)) (inside c) (Mark k.RightParen ∷ gs) (mark_word k.RightParen ∷ w) (takes (mark_word k.RightParen) refl d))) }
begun {most = most} c j k.LeftBrace h b = record { tree = record { at = j.at; tree = p.Tuple j.at []; height = 0 + 1 }; more = mark_word k.RightBrace ∷ []; spelled = λ gs w d. expands _ (pat_tuple c _ _ _ [] 0 (omega arith) refl refl) (begins j h refl (expands _ (no_patterns k.RightBrace _ 0 refl) (takes (mark_word k.RightBrace) refl d))) }
begun {most = most} c j k.LeftBracket h b = record { tree = record { at = j.at; tree = p.List j.at [] []; height = 0 + 1 }; more = mark_word k.RightBracket ∷ []; spelled = λ gs w d. expands _ (pat_list c _ _ _ [] [] 0 (omega arith) refl refl) (begins j h refl (expands _ (no_pattern_list _ 0 refl) (takes (mark_word k.RightBracket) refl d))) }
begun {most = most} c j k.LeftBits h b = record { tree = record { at = j.at; tree = p.Bits j.at []; height = 1 }; more = mark_word k.RightBits ∷ []; spelled = λ gs w d. expands _ (pat_bits c _ _ _ [] (omega arith) refl) (begins j h refl (expands _ (no_pattern_bits c 1 refl) (takes (mark_word k.RightBits) refl d))) }
begun {most = most} c j _ h b = cc

opens_begins : (kind : TokenKind) → opens_pattern kind ≡ true → IsTrue (begins_pattern kind)
opens_begins k.LeftParen h = refl
opens_begins k.LeftBrace h = refl
opens_begins k.LeftBracket h = refl
opens_begins k.LeftBits h = refl
opens_begins _ h = cc

pub bracket_too_deep : {most : Limits} (c : Context) (j : Word) (rest : List Word) → opens_pattern j.kind ≡ true → most.brackets ≤ c.open_ → IsRefused most {X = Placed Pattern} closed (pat_in c) (j ∷ rest) (j ∷ rest) TooDeep
bracket_too_deep {most = most} c j rest h b = let g : Begun most c j = begun c j j.kind refl (opens_begins j.kind h) in record {
  front = [];
  whole = refl;
  tree = some_pattern;
  more = mark_word k.Underscore ∷ [];
  goes_on = λ l v gs w d. pat_spells l c gs w d;
  stops = λ l i r gs w f s d. stops_bracket most c j rest h b l i.brackets r gs w s d;
  excused = record {
    limits = deeper most (c.deep + 1) (c.open_ + 1);
    wide = deeper_wide most (c.deep + 1) (c.open_ + 1);
    allows = (refl, refl);
    first = j;
    behind = rest;
    begins = refl;
    tree = g.tree;
    more = g.more;
    goes_on = λ gs w d. g.spelled gs w d;
  };
}
