-- The laws of lists of patterns up to a closing bracket.
use Rattle.std.proofs.Common.{◌≡◌, ℕ, ℤ, ◌≤◌, max, false, IsTrue, List, [], ◌∷◌, ◌++◌, refl, sym, ap, ◌∙◌, arith}
use Rattle.erl_syntax.specs.declared.span.Span.{Span}
use Rattle.erl_syntax.specs.declared.token.TokenKind.{TokenKind}
use Rattle.erl_syntax.specs.declared.token.TokenKind.TheVariants as k
use Rattle.erl_syntax.specs.declared.pattern.Pattern.{Pattern}
use Rattle.erl_syntax.specs.Word.{Word}
use Rattle.erl_syntax.specs.Names.{Signed, plus, minus}
use Rattle.erl_syntax.specs.Grammar.{Context, Limits, Goal, Of, APattern, Pat, SameTail, Patterns, MorePatterns, pattern, pat_variable, pat_wild, pat_integer, pat_signed, pat_character, pat_atom, pat_string, pat_paren, pat_tuple, pat_list, pat_bits, no_patterns, patterns, more_patterns, end_patterns, Spells, takes, begins, this, expands}
use Rattle.pattern_read.specs.declared.placed.Placed.{Placed}
use Rattle.pattern_read.specs.declared.fault.Cause.TheVariants.{Syntax}
use Rattle.pattern_read.specs.Reading.{Passes, IsRefused, SameHead, closed, nothing}
use Rattle.pattern_read.specs.Wanted.{NoMark, no_mark_end, no_mark}
use Rattle.pattern_read.proofs.Passing.{Behind, Spelled}
use Rattle.pattern_read.proofs.Levels.{same_pair}
use Rattle.pattern_read.proofs.Operands.{mark_word}
use Rattle.pattern_read.specs.WantedPatterns.{begins_pattern, goes_same, pattern_in, patterns_in, ClosesPatterns}

abbrev pub more_patterns_in : TokenKind → Context → List Pattern × ℕ → List Goal
more_patterns_in close c r = Of (MorePatterns close c r.0 r.1) ∷ []

sign_begins : {kind : TokenKind} {n : ℕ} {z : ℤ} → Signed kind n z → IsTrue (begins_pattern kind)
sign_begins (plus kind n z e f) = ap begins_pattern e
sign_begins (minus kind n z e f) = ap begins_pattern e

pub first_pat : (l : Limits) (c : Context) (at : Span) (e : Pattern) (d : ℕ) (gs : List Goal) (j : Word) (w : List Word) → Spells l (Of (Pat c at e d) ∷ gs) (j ∷ w) → IsTrue (begins_pattern j.kind)
first_pat l c at e d gs j w (expands _ (pat_variable c_0 at_0 e_0 d_0 t_0 q0_0 q0_1 q0_2 q0_3) (this z)) = ap begins_pattern q0_0
first_pat l c at e d gs j w (expands _ (pat_wild c_0 at_0 e_0 d_0 q0_0 q0_1) (begins t kk ka z)) = ap begins_pattern kk
first_pat l c at e d gs j w (expands _ (pat_integer c_0 at_0 e_0 d_0 t_0 q0_0 q0_1 q0_2 q0_3) (this z)) = ap begins_pattern q0_0
first_pat l c at e d gs j w (expands _ (pat_signed c_0 at_0 e_0 d_0 t_0 n_0 z_0 q0_0 q0_1 q0_2 q0_3 q0_4) (this z)) = sign_begins q0_2
first_pat l c at e d gs j w (expands _ (pat_character c_0 at_0 e_0 d_0 t_0 q0_0 q0_1 q0_2 q0_3) (this z)) = ap begins_pattern q0_0
first_pat l c at e d gs j w (expands _ (pat_atom c_0 at_0 e_0 d_0 t_0 q0_0 q0_1 q0_2 q0_3) (this z)) = ap begins_pattern q0_0
first_pat l c at e d gs j w (expands _ (pat_string c_0 at_0 e_0 d_0 t_0 q0_0 q0_1 q0_2 q0_3) (this z)) = ap begins_pattern q0_0
first_pat l c at e d gs j w (expands _ (pat_paren c_0 at_0 e_0 d_0 ay_0 q0_0) (begins t kk ka z)) = ap begins_pattern kk
first_pat l c at e d gs j w (expands _ (pat_tuple c_0 at_0 e_0 d_0 ys_0 dys_0 q0_0 q0_1 q0_2) (begins t kk ka z)) = ap begins_pattern kk
first_pat l c at e d gs j w (expands _ (pat_list c_0 at_0 e_0 d_0 ys_0 tail_0 dys_0 q0_0 q0_1 q0_2) (begins t kk ka z)) = ap begins_pattern kk
first_pat l c at e d gs j w (expands _ (pat_bits c_0 at_0 e_0 d_0 sgs_0 q0_0 q0_1) (begins t kk ka z)) = ap begins_pattern kk

pub first_pattern : (l : Limits) (c : Context) (at : Span) (e : Pattern) (d : ℕ) (gs : List Goal) (j : Word) (w : List Word) → Spells l (Of (APattern c at e d) ∷ gs) (j ∷ w) → IsTrue (begins_pattern j.kind)
first_pattern l c at e d gs j w (expands _ (pattern c_0 at_0 e_0 d_0 y dy) z) = first_pat l c at y dy (Of (SameTail c at y dy e d) ∷ gs) j w z

no_first : {kind close : TokenKind} → begins_pattern close ≡ false → kind ≡ close → IsTrue (begins_pattern kind) → ⊥
no_first n h f = let a : _ ≡ _ = ap begins_pattern h in cc

end_forth : (l : Limits) (close : TokenKind) (c : Context) (ys : List Pattern) (d : ℕ) (gs : List Goal) (j : Word) (w : List Word) → ClosesPatterns close → j.kind ≡ close → Spells l (Of (Patterns close c ys d) ∷ gs) (j ∷ w) → (ys ≡ []) × (d ≡ 0) × Spells l gs w
end_forth l close c _ d gs j w n h (expands _ (no_patterns close_0 c_0 d_0 q0) (takes t kk z)) = (refl, q0, z)
end_forth l close c _ d gs j w n h (expands _ (patterns close_0 c_0 ay y dy ys dys d_0 q0 q1) z) = absurd (no_first n.begins h (first_pattern l c ay y dy (Of (MorePatterns close c ys dys) ∷ gs) j w z))

pub on_no_patterns : {most : Limits} (close : TokenKind) (c : Context) (j : Word) (rest : List Word) → ClosesPatterns close → j.kind ≡ close → Passes most {X = List Pattern × ℕ} closed (patterns_in close c) (j ∷ rest) nothing rest (λ u. ([], 0))
on_no_patterns close c j rest n h = record {
  front = j ∷ [];
  whole = refl;
  back = λ l v u gs w d. expands _ (no_patterns close c 0 refl) (takes j h d);
  forth = λ l r gs w f s d. let m = end_forth l close c r.0 r.1 gs j w n h d in (tt, same_pair m.0 m.1, m.2);
}

-- a first expression, and more behind it
abbrev pub pattern_and_more : TokenKind → Context → Placed Pattern × (List Pattern × ℕ) → List Goal
pattern_and_more close c p = pattern_in c p.0 ++ more_patterns_in close c p.1

abbrev pub with_more : Placed Pattern × (List Pattern × ℕ) → List Pattern × ℕ
with_more p = (p.0.tree ∷ p.1.0, max p.0.height p.1.1)

patterns_forth : (l : Limits) (close : TokenKind) (c : Context) (ys : List Pattern) (d : ℕ) (gs : List Goal) (rest w : List Word) → NoMark close rest → SameHead w rest → Spells l (Of (Patterns close c ys d) ∷ gs) w →
    (c.deep ≤ l.trees) × (p : Placed Pattern × (List Pattern × ℕ)) × (ys ≡ p.0.tree ∷ p.1.0) × (d ≡ max p.0.height p.1.1) × Spells l (pattern_and_more close c p ++ gs) w
patterns_forth l close c _ d gs rest w n s (expands _ (patterns close_0 c_0 ay y dy ys dys d_0 q0 q1) z) = (q0, (record { at = ay; tree = y; height = dy }, (ys, dys)), refl, q1, z)
patterns_forth l close c _ d gs _ w no_mark_end s (expands _ (no_patterns close_0 c_0 d_0 q0) (takes t kk z)) = absurd s
patterns_forth l close c _ d gs _ w (no_mark j rest n) s (expands _ (no_patterns close_0 c_0 d_0 q0) (takes t kk z)) = absurd (n (ap (λ v. v.kind) (sym s) ∙ kk))

pub on_patterns : {most : Limits} (close : TokenKind) (c : Context) (rest : List Word) → c.deep ≤ most.trees → NoMark close rest → Passes most {X = List Pattern × ℕ} {Y = Placed Pattern × (List Pattern × ℕ)} closed (patterns_in close c) rest (pattern_and_more close c) rest with_more
on_patterns close c rest b n = record {
  front = [];
  whole = refl;
  back = λ l v p gs w d. let room : c.deep ≤ l.trees = omega (arith, v.trees) in expands _ (patterns close c _ _ _ _ _ _ room refl) d;
  forth = λ l r gs w f s d. let m = patterns_forth l close c r.0 r.1 gs rest w n s d in (m.1, same_pair m.2 m.3, m.4);
}

comma_forth : (l : Limits) (close : TokenKind) (c : Context) (ys : List Pattern) (d : ℕ) (gs : List Goal) (j : Word) (w : List Word) → ClosesPatterns close → j.kind ≡ k.Comma → Spells l (Of (MorePatterns close c ys d) ∷ gs) (j ∷ w) →
    (p : Placed Pattern × (List Pattern × ℕ)) × (ys ≡ p.0.tree ∷ p.1.0) × (d ≡ max p.0.height p.1.1) × Spells l (pattern_and_more close c p ++ gs) w
comma_forth l close c _ d gs j w n h (expands _ (more_patterns close_0 c_0 ay y dy ys dys d_0 q0) (takes t kk z)) = ((record { at = ay; tree = y; height = dy }, (ys, dys)), refl, q0, z)
comma_forth l close c _ d gs j w n h (expands _ (end_patterns close_0 c_0 d_0 q0) (takes t kk z)) = absurd (n.comma (sym kk ∙ h))

pub on_comma : {most : Limits} (close : TokenKind) (c : Context) (j : Word) (rest : List Word) → ClosesPatterns close → j.kind ≡ k.Comma → Passes most {X = List Pattern × ℕ} {Y = Placed Pattern × (List Pattern × ℕ)} closed (more_patterns_in close c) (j ∷ rest) (pattern_and_more close c) rest with_more
on_comma close c j rest n h = record {
  front = j ∷ [];
  whole = refl;
  back = λ l v p gs w d. expands _ (more_patterns close c _ _ _ _ _ _ refl) (takes j h d);
  forth = λ l r gs w f s d. let m = comma_forth l close c r.0 r.1 gs j w n h d in (m.0, same_pair m.1 m.2, m.3);
}

close_forth : (l : Limits) (close : TokenKind) (c : Context) (ys : List Pattern) (d : ℕ) (gs : List Goal) (j : Word) (w : List Word) → ClosesPatterns close → j.kind ≡ close → Spells l (Of (MorePatterns close c ys d) ∷ gs) (j ∷ w) → (ys ≡ []) × (d ≡ 0) × Spells l gs w
close_forth l close c _ d gs j w n h (expands _ (more_patterns close_0 c_0 ay y dy ys dys d_0 q0) (takes t kk z)) = absurd (n.comma (sym h ∙ kk))
close_forth l close c _ d gs j w n h (expands _ (end_patterns close_0 c_0 d_0 q0) (takes t kk z)) = (refl, q0, z)

pub on_end : {most : Limits} (close : TokenKind) (c : Context) (j : Word) (rest : List Word) → ClosesPatterns close → j.kind ≡ close → Passes most {X = List Pattern × ℕ} closed (more_patterns_in close c) (j ∷ rest) nothing rest (λ u. ([], 0))
on_end close c j rest n h = record {
  front = j ∷ [];
  whole = refl;
  back = λ l v u gs w d. expands _ (end_patterns close c 0 refl) (takes j h d);
  forth = λ l r gs w f s d. let m = close_forth l close c r.0 r.1 gs j w n h d in (tt, same_pair m.0 m.1, m.2);
}

more_stops : (l : Limits) (close : TokenKind) (c : Context) (ys : List Pattern) (d : ℕ) (gs : List Goal) (rest w : List Word) → NoMark k.Comma rest → NoMark close rest → SameHead w rest → Spells l (Of (MorePatterns close c ys d) ∷ gs) w → ⊥
more_stops l close c _ d gs _ w no_mark_end b s (expands _ (more_patterns close_0 c_0 ay y dy ys dys d_0 q0) (takes t kk z)) = s
more_stops l close c _ d gs _ w (no_mark j rest a) b s (expands _ (more_patterns close_0 c_0 ay y dy ys dys d_0 q0) (takes t kk z)) = a (ap (λ v. v.kind) (sym s) ∙ kk)
more_stops l close c _ d gs _ w a no_mark_end s (expands _ (end_patterns close_0 c_0 d_0 q0) (takes t kk z)) = s
more_stops l close c _ d gs _ w a (no_mark j rest b) s (expands _ (end_patterns close_0 c_0 d_0 q0) (takes t kk z)) = b (ap (λ v. v.kind) (sym s) ∙ kk)

pub more_refused : {most : Limits} (close : TokenKind) (c : Context) (rest : List Word) → NoMark k.Comma rest → NoMark close rest → IsRefused most {X = List Pattern × ℕ} closed (more_patterns_in close c) rest rest Syntax
more_refused close c rest a b = record {
  front = [];
  whole = refl;
  tree = ([], 0);
  more = mark_word close ∷ [];
  goes_on = λ l v gs w d. expands _ (end_patterns close c 0 refl) (takes (mark_word close) refl d);
  stops = λ l i r gs w f s d. more_stops l close c r.0 r.1 gs rest w a b s d;
  excused = tt;
}

more_lengthens : (l : Limits) (close : TokenKind) (c : Context) (ys : List Pattern) (d : ℕ) (gs : List Goal) (t : Word) (w : List Word) → ClosesPatterns close → IsTrue (goes_same t.kind) → Spells l (Of (MorePatterns close c ys d) ∷ gs) (t ∷ w) → ⊥
more_lengthens l close c _ d gs j w n h (expands _ (more_patterns close_0 c_0 ay y dy ys dys d_0 q0) (takes t kk z)) = let a : goes_same j.kind ≡ false = ap (goes_same) kk in cc
more_lengthens l close c _ d gs j w n h (expands _ (end_patterns close_0 c_0 d_0 q0) (takes t kk z)) = let a : goes_same j.kind ≡ false = ap (goes_same) kk ∙ n.extends in cc

pub behind_pattern : (close : TokenKind) (c : Context) → ClosesPatterns close → Behind {X = Placed Pattern} {Y = List Pattern × ℕ} (goes_same) closed (λ p. more_patterns_in close c)
behind_pattern close c n = record { behind = λ l p q gs f t w h d. more_lengthens l close c q.0 q.1 gs t w n h d }

pub more_spelled : {most : Limits} (close : TokenKind) (c : Context) → Spelled most {X = Placed Pattern} {Y = List Pattern × ℕ} (λ p. more_patterns_in close c) (mark_word close ∷ [])
more_spelled close c = record { tree = λ p. ([], 0); spelled = λ l v p gs w d. expands _ (end_patterns close c 0 refl) (takes (mark_word close) refl d) }
