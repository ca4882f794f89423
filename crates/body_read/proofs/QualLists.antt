-- The laws and exits of lists of qualifiers up to a closing bracket, and of a qualifier that opens a bracket too many.
use Rattle.std.proofs.Common.{◌≡◌, ◌≢◌, ℕ, ℤ, ◌+◌, ◌≤◌, max, false, IsTrue, List, [], ◌∷◌, ◌++◌, drop, refl, sym, ap, ◌∙◌, append_assoc, arith, Ok, Err}
use Rattle.erl_syntax.specs.declared.span.Span.{Span}
use Rattle.erl_syntax.specs.declared.token.TokenKind.{TokenKind}
use Rattle.erl_syntax.specs.declared.token.TokenKind.TheVariants as k
use Rattle.erl_syntax.specs.declared.expr.Expr.{Expr}
use Rattle.erl_syntax.specs.declared.pattern.Pattern.{Pattern}
use Rattle.erl_syntax.specs.declared.qual.Qual.{Qual}
use Rattle.erl_syntax.specs.declared.qual.Qual.TheVariants as q
use Rattle.erl_syntax.specs.Word.{Word}
use Rattle.erl_syntax.specs.Operators.{prefix_of}
use Rattle.erl_syntax.specs.Names.{Signed, plus, minus}
use Rattle.erl_syntax.specs.Grammar.{Context, InSize, in_mode, Limits, Goal, Of, Level, Operand, Pat, AQual, Quals, MoreQuals, quals, more_quals, end_quals, generator, bits_generator, filter, pattern, level, operand, prefix, atom, macro, tuple, list, case, receive, if_, common, variable, integer, character, string, bits, paren, pat_variable, pat_wild, pat_integer, pat_signed, pat_character, pat_atom, pat_string, pat_paren, pat_tuple, pat_list, pat_bits, no_pattern_bits, Spells, takes, begins, this, expands}
use Rattle.pattern_read.specs.declared.fault.Fault.{Fault}
use Rattle.pattern_read.specs.declared.fault.Cause.TheVariants.{Syntax, TooDeep}
use Rattle.pattern_read.specs.Reading.{Passes, IsRefused, IsStrict, SameHead, closed, nothing, Gives}
use Rattle.pattern_read.specs.Wanted.{Closes, NoMark, no_mark_end, no_mark, IsAt}
use Rattle.body_read.specs.WantedExprs.{qual_longer, qual_in, quals_in}
use Rattle.pattern_read.proofs.Passing.{Behind, Spelled, same_kinds, and_then, first_of_two, fault_after, fault_first, refused_after, refused_at, at_token, remade}
use Rattle.pattern_read.proofs.Levels.{same_pair, no_prefix}
use Rattle.pattern_read.proofs.Operands.{some_word, some_expr, level_completed, deeper, deeper_wide, mark_word}
use Rattle.pattern_read.specs.Cursor.{Readable}

-- ---- Qualifiers up to a closing bracket

abbrev pub more_quals_in : TokenKind → Context → List Qual × ℕ → List Goal
more_quals_in close c r = Of (MoreQuals close c r.0 r.1) ∷ []

abbrev pub qual_and_more : TokenKind → Context → (Qual × ℕ) × (List Qual × ℕ) → List Goal
qual_and_more close c p = qual_in c p.0 ++ more_quals_in close c p.1

abbrev pub with_more : (Qual × ℕ) × (List Qual × ℕ) → List Qual × ℕ
with_more p = (p.0.0 ∷ p.1.0, max p.0.1 p.1.1)

-- a bracket that closes, with which no qualifier goes on
pub record Ends (close : TokenKind) : Type 0 where
  pub longer : qual_longer close ≡ false
  pub comma : close ≢ k.Comma

quals_forth : (l : Limits) (close : TokenKind) (c : Context) (qs : List Qual) (d : ℕ) (gs : List Goal) (w : List Word) → Spells l (Of (Quals close c qs d) ∷ gs) w →
    (p : (Qual × ℕ) × (List Qual × ℕ)) × (qs ≡ p.0.0 ∷ p.1.0) × (d ≡ max p.0.1 p.1.1) × Spells l (qual_and_more close c p ++ gs) w
quals_forth l close c _ d gs w (expands _ (quals close_0 c_0 ql dq qs dqs d_0 q0) z) = (((ql, dq), (qs, dqs)), refl, q0, z)

on_quals : {most : Limits} (close : TokenKind) (c : Context) (from : List Word) → Passes most {X = List Qual × ℕ} {Y = (Qual × ℕ) × (List Qual × ℕ)} closed (quals_in close c) from (qual_and_more close c) from with_more
on_quals close c from = record {
  front = [];
  whole = refl;
  back = λ l v p gs w d. expands _ (quals close c _ _ _ _ _ refl) d;
  forth = λ l r gs w f s d. let m = quals_forth l close c r.0 r.1 gs w d in (m.0, same_pair m.1 m.2, m.3);
}

comma_forth : (l : Limits) (close : TokenKind) (c : Context) (qs : List Qual) (d : ℕ) (gs : List Goal) (j : Word) (w : List Word) → Ends close → j.kind ≡ k.Comma → Spells l (Of (MoreQuals close c qs d) ∷ gs) (j ∷ w) →
    (p : (Qual × ℕ) × (List Qual × ℕ)) × (qs ≡ p.0.0 ∷ p.1.0) × (d ≡ max p.0.1 p.1.1) × Spells l (qual_and_more close c p ++ gs) w
comma_forth l close c _ d gs j w n h (expands _ (more_quals close_0 c_0 ql dq qs dqs d_0 q0) (takes t kk z)) = (((ql, dq), (qs, dqs)), refl, q0, z)
comma_forth l close c _ d gs j w n h (expands _ (end_quals close_0 c_0 d_0 q0) (takes t kk z)) = absurd (n.comma (sym kk ∙ h))

on_comma : {most : Limits} (close : TokenKind) (c : Context) (j : Word) (rest : List Word) → Ends close → j.kind ≡ k.Comma → Passes most {X = List Qual × ℕ} {Y = (Qual × ℕ) × (List Qual × ℕ)} closed (more_quals_in close c) (j ∷ rest) (qual_and_more close c) rest with_more
on_comma close c j rest n h = record {
  front = j ∷ [];
  whole = refl;
  back = λ l v p gs w d. expands _ (more_quals close c _ _ _ _ _ refl) (takes j h d);
  forth = λ l r gs w f s d. let m = comma_forth l close c r.0 r.1 gs j w n h d in (m.0, same_pair m.1 m.2, m.3);
}

close_forth : (l : Limits) (close : TokenKind) (c : Context) (qs : List Qual) (d : ℕ) (gs : List Goal) (j : Word) (w : List Word) → Ends close → j.kind ≡ close → Spells l (Of (MoreQuals close c qs d) ∷ gs) (j ∷ w) → (qs ≡ []) × (d ≡ 0) × Spells l gs w
close_forth l close c _ d gs j w n h (expands _ (more_quals close_0 c_0 ql dq qs dqs d_0 q0) (takes t kk z)) = absurd (n.comma (sym h ∙ kk))
close_forth l close c _ d gs j w n h (expands _ (end_quals close_0 c_0 d_0 q0) (takes t kk z)) = (refl, q0, z)

on_end : {most : Limits} (close : TokenKind) (c : Context) (j : Word) (rest : List Word) → Ends close → j.kind ≡ close → Passes most {X = List Qual × ℕ} closed (more_quals_in close c) (j ∷ rest) nothing rest (λ u. ([], 0))
on_end close c j rest n h = record {
  front = j ∷ [];
  whole = refl;
  back = λ l v u gs w d. expands _ (end_quals close c 0 refl) (takes j h d);
  forth = λ l r gs w f s d. let m = close_forth l close c r.0 r.1 gs j w n h d in (tt, same_pair m.0 m.1, m.2);
}

more_stops : (l : Limits) (close : TokenKind) (c : Context) (qs : List Qual) (d : ℕ) (gs : List Goal) (rest w : List Word) → NoMark k.Comma rest → NoMark close rest → SameHead w rest → Spells l (Of (MoreQuals close c qs d) ∷ gs) w → ⊥
more_stops l close c _ d gs _ w no_mark_end b s (expands _ (more_quals close_0 c_0 ql dq qs dqs d_0 q0) (takes t kk z)) = s
more_stops l close c _ d gs _ w (no_mark j rest a) b s (expands _ (more_quals close_0 c_0 ql dq qs dqs d_0 q0) (takes t kk z)) = a (ap (λ v. v.kind) (sym s) ∙ kk)
more_stops l close c _ d gs _ w a no_mark_end s (expands _ (end_quals close_0 c_0 d_0 q0) (takes t kk z)) = s
more_stops l close c _ d gs _ w a (no_mark j rest b) s (expands _ (end_quals close_0 c_0 d_0 q0) (takes t kk z)) = b (ap (λ v. v.kind) (sym s) ∙ kk)

more_refused : {most : Limits} (close : TokenKind) (c : Context) (rest : List Word) → NoMark k.Comma rest → NoMark close rest → IsRefused most {X = List Qual × ℕ} closed (more_quals_in close c) rest rest Syntax
more_refused close c rest a b = record {
  front = [];
  whole = refl;
  tree = ([], 0);
  more = mark_word close ∷ [];
  goes_on = λ l v gs w d. expands _ (end_quals close c 0 refl) (takes (mark_word close) refl d);
  stops = λ l i r gs w f s d. more_stops l close c r.0 r.1 gs rest w a b s d;
  excused = tt;
}

more_lengthens : (l : Limits) (close : TokenKind) (c : Context) (qs : List Qual) (d : ℕ) (gs : List Goal) (t : Word) (w : List Word) → Ends close → IsTrue (qual_longer t.kind) → Spells l (Of (MoreQuals close c qs d) ∷ gs) (t ∷ w) → ⊥
more_lengthens l close c _ d gs j w n h (expands _ (more_quals close_0 c_0 ql dq qs dqs d_0 q0) (takes t kk z)) = let a : qual_longer j.kind ≡ false = ap qual_longer kk in cc
more_lengthens l close c _ d gs j w n h (expands _ (end_quals close_0 c_0 d_0 q0) (takes t kk z)) = let a : qual_longer j.kind ≡ false = ap qual_longer kk ∙ n.longer in cc

behind_qual : (close : TokenKind) (c : Context) → Ends close → Behind {X = Qual × ℕ} {Y = List Qual × ℕ} qual_longer closed (λ p. more_quals_in close c)
behind_qual close c n = record { behind = λ l p r gs f t w h d. more_lengthens l close c r.0 r.1 gs t w n h d }

more_spelled : {most : Limits} (close : TokenKind) (c : Context) → Spelled most {X = Qual × ℕ} {Y = List Qual × ℕ} (λ p. more_quals_in close c) (mark_word close ∷ [])
more_spelled close c = record { tree = λ p. ([], 0); spelled = λ l v p gs w d. expands _ (end_quals close c 0 refl) (takes (mark_word close) refl d) }

-- ---- Exits

pub ends : (close : TokenKind) → Closes close → qual_longer close ≡ false → Ends close
ends close n e = record { longer = e; comma = n.comma }

-- what was read so far
abbrev pub QualsRead : TokenKind → Context → Readable → ℕ → ℕ → List Qual → ℕ → Type 0
QualsRead close c ws at next items h = Passes ws.limits closed (quals_in close c) (drop at ws.words) (qual_and_more close c) (drop next ws.words) (λ p. (items ++ (p.0.0 ∷ p.1.0), max h (max p.0.1 p.1.1)))

pub quals_begin : (close : TokenKind) (c : Context) (ws : Readable) (at : ℕ) (items : List Qual) → items ≡ [] → QualsRead close c ws at at items 0
quals_begin close c ws at items e = remade (λ p. same_pair (ap (λ v. v ++ (p.0.0 ∷ p.1.0)) (sym e)) (omega arith)) (on_quals close c (drop at ws.words))

pub quals_err : (close : TokenKind) (c : Context) (ws : Readable) (at next : ℕ) (items : List Qual) (h : ℕ) (f : Fault) → Ends close → QualsRead close c ws at next items h → Gives qual_longer (qual_in c) ws next (Err f) → Gives closed (quals_in close c) ws at (Err f)
quals_err close c ws at next items h f n r g = fault_after ws at next f (same_kinds closed) r (fault_first (qual_in c) ws next f (behind_qual close c n) (more_spelled close c) g)

then_more : (close : TokenKind) (c : Context) (ws : Readable) (at next after : ℕ) (items : List Qual) (h : ℕ) (y : Qual × ℕ) → Ends close → QualsRead close c ws at next items h → Gives qual_longer (qual_in c) ws next (Ok (y, after)) → Passes ws.limits {X = List Qual × ℕ} {Y = List Qual × ℕ} closed (quals_in close c) (drop at ws.words) (more_quals_in close c) (drop after ws.words) (λ r. (items ++ (y.0 ∷ r.0), max h (max y.1 r.1)))
then_more close c ws at next after items h y n r g = and_then (same_kinds closed) r (first_of_two (behind_qual close c n) g)

pub quals_end : (close : TokenKind) (c : Context) (ws : Readable) (at next after : ℕ) (items all : List Qual) (h g : ℕ) (y : Qual × ℕ) → Ends close → QualsRead close c ws at next items h → Gives qual_longer (qual_in c) ws next (Ok (y, after)) → IsAt ws after close → all ≡ items ++ (y.0 ∷ []) → g ≡ max h y.1 → Gives closed (quals_in close c) ws at (Ok ((all, g), after + 1))
quals_end close c ws at next after items all h g y n r v s e i = remade (λ u. same_pair (sym e) (omega (arith, i))) (and_then (same_kinds closed) (then_more close c ws at next after items h y n r v) (at_token s.is (on_end close c s.word (drop (after + 1) ws.words) n s.kind_is)))

pub quals_more : (close : TokenKind) (c : Context) (ws : Readable) (at next after : ℕ) (items all : List Qual) (h g : ℕ) (y : Qual × ℕ) → Ends close → QualsRead close c ws at next items h → Gives qual_longer (qual_in c) ws next (Ok (y, after)) → IsAt ws after k.Comma → all ≡ items ++ (y.0 ∷ []) → g ≡ max h y.1 → QualsRead close c ws at (after + 1) all g
quals_more close c ws at next after items all h g y n r v s e i = remade (λ p. same_pair (sym (append_assoc items (y.0 ∷ []) (p.0.0 ∷ p.1.0)) ∙ ap (λ u. u ++ (p.0.0 ∷ p.1.0)) (sym e)) (omega (arith, i))) (and_then (same_kinds closed) (then_more close c ws at next after items h y n r v) (at_token s.is (on_comma close c s.word (drop (after + 1) ws.words) n s.kind_is)))

pub quals_other : (close : TokenKind) (c : Context) (ws : Readable) (at next after : ℕ) (items : List Qual) (h : ℕ) (y : Qual × ℕ) → Ends close → QualsRead close c ws at next items h → Gives qual_longer (qual_in c) ws next (Ok (y, after)) → NoMark k.Comma (drop after ws.words) → NoMark close (drop after ws.words) → IsRefused ws.limits {X = List Qual × ℕ} closed (quals_in close c) (drop at ws.words) (drop after ws.words) Syntax
quals_other close c ws at next after items h y n r v a b = refused_after (same_kinds closed) (then_more close c ws at next after items h y n r v) (more_refused close c (drop after ws.words) a b)

-- ---- A `<<` that opens a bracket too many

operand_full : (l : Limits) (c : Context) (at : Span) (e : Expr) (d : ℕ) (gs : List Goal) (j : Word) (w : List Word) → j.kind ≡ k.LeftBits → l.brackets ≤ c.open_ → Spells l (Of (Operand c at e d) ∷ gs) (j ∷ w) → ⊥
operand_full l c at e d gs j w h b (expands _ (prefix c_0 at_0 e_0 d_0 t_0 op_0 ay_0 y_0 dy_0 q0_0 q0_1 q0_2 q0_3 q0_4) (this z)) = no_prefix (ap prefix_of h) q0_0
operand_full l c at e d gs j w h b (expands _ (atom c_0 at_0 e_0 d_0 t_0 q0_0 q0_1) (this z)) = cc
operand_full l c at e d gs j w h b (expands _ (macro c_0 at_0 e_0 d_0 t_0 q0_0 q0_1) (begins t kk ka z)) = cc
operand_full l c at e d gs j w h b (expands _ (tuple c_0 at_0 e_0 d_0 ys_0 dys_0 q0_0 q0_1 q0_2 q0_3) (begins t kk ka z)) = cc
operand_full l c at e d gs j w h b (expands _ (list c_0 at_0 e_0 d_0 q0_0 q0_1) (begins t kk ka z)) = cc
operand_full l c at e d gs j w h b (expands _ (case c_0 at_0 e_0 d_0 ay_0 y_0 dy_0 alts_0 da_0 q0_0 q0_1 q0_2 q0_3 q0_4) (begins t kk ka z)) = cc
operand_full l c at e d gs j w h b (expands _ (receive c_0 at_0 e_0 d_0 alts_0 da_0 q0_0 q0_1 q0_2 q0_3 q0_4) (begins t kk ka z)) = cc
operand_full l c at e d gs j w h b (expands _ (if_ c_0 at_0 e_0 d_0 bs_0 db_0 q0_0 q0_1 q0_2 q0_3 q0_4) (begins t kk ka z)) = cc
operand_full l c at e d gs j w h b (expands _ (common c_0 at_0 e_0 d_0) (expands _ (variable c_1 at_1 e_1 d_1 t_1 q1_0 q1_1 q1_2 q1_3) (this z))) = cc
operand_full l c at e d gs j w h b (expands _ (common c_0 at_0 e_0 d_0) (expands _ (integer c_1 at_1 e_1 d_1 t_1 q1_0 q1_1 q1_2 q1_3) (this z))) = cc
operand_full l c at e d gs j w h b (expands _ (common c_0 at_0 e_0 d_0) (expands _ (character c_1 at_1 e_1 d_1 t_1 q1_0 q1_1 q1_2 q1_3) (this z))) = cc
operand_full l c at e d gs j w h b (expands _ (common c_0 at_0 e_0 d_0) (expands _ (string c_1 at_1 e_1 d_1 t_1 q1_0 q1_1 q1_2 q1_3 q1_4) (this z))) = cc
operand_full l c at e d gs j w h b (expands _ (common c_0 at_0 e_0 d_0) (expands _ (bits c_1 at_1 e_1 d_1 q1_0 q1_1) (begins t kk ka z))) = omega arith
operand_full l c at e d gs j w h b (expands _ (common c_0 at_0 e_0 d_0) (expands _ (paren c_1 at_1 e_1 d_1 ay_1 q1_0) (begins t kk ka z))) = cc

level_full : (l : Limits) (n : ℕ) (c : Context) (at : Span) (e : Expr) (d : ℕ) (gs : List Goal) (j : Word) (w : List Word) → j.kind ≡ k.LeftBits → l.brackets ≤ c.open_ → Spells l (Of (Level n c at e d) ∷ gs) (j ∷ w) → ⊥
level_full l n c at e d gs j w h b (expands _ (level n_0 c_0 at_0 y dy e_0 d_0 i) z) = level_full l _ c at y dy _ j w h b z
level_full l n c at e d gs j w h b (expands _ (operand n_0 c_0 at_0 e_0 d_0 i) z) = operand_full l c at e d gs j w h b z

no_sign : {kind other : TokenKind} {n : ℕ} {z : ℤ} → kind ≡ other → (other ≡ k.Plus → ⊥) → (other ≡ k.Minus → ⊥) → Signed kind n z → ⊥
no_sign h a b (plus kind n z e f) = a (sym h ∙ e)
no_sign h a b (minus kind n z e f) = b (sym h ∙ e)

pat_full : (l : Limits) (c : Context) (at : Span) (e : Pattern) (d : ℕ) (gs : List Goal) (j : Word) (w : List Word) → j.kind ≡ k.LeftBits → l.brackets ≤ c.open_ → Spells l (Of (Pat c at e d) ∷ gs) (j ∷ w) → ⊥
pat_full l c at e d gs j w h b (expands _ (pat_variable c_0 at_0 e_0 d_0 t_0 q0_0 q0_1 q0_2 q0_3) (this z)) = cc
pat_full l c at e d gs j w h b (expands _ (pat_wild c_0 at_0 e_0 d_0 q0_0 q0_1) (begins t kk ka z)) = cc
pat_full l c at e d gs j w h b (expands _ (pat_integer c_0 at_0 e_0 d_0 t_0 q0_0 q0_1 q0_2 q0_3) (this z)) = cc
pat_full l c at e d gs j w h b (expands _ (pat_signed c_0 at_0 e_0 d_0 t_0 n_0 z_0 q0_0 q0_1 q0_2 q0_3 q0_4) (this z)) = no_sign h (λ i. cc) (λ i. cc) q0_2
pat_full l c at e d gs j w h b (expands _ (pat_character c_0 at_0 e_0 d_0 t_0 q0_0 q0_1 q0_2 q0_3) (this z)) = cc
pat_full l c at e d gs j w h b (expands _ (pat_atom c_0 at_0 e_0 d_0 t_0 q0_0 q0_1 q0_2 q0_3) (this z)) = cc
pat_full l c at e d gs j w h b (expands _ (pat_string c_0 at_0 e_0 d_0 t_0 q0_0 q0_1 q0_2 q0_3) (this z)) = cc
pat_full l c at e d gs j w h b (expands _ (pat_paren c_0 at_0 e_0 d_0 ay_0 q0_0) (begins t kk ka z)) = cc
pat_full l c at e d gs j w h b (expands _ (pat_tuple c_0 at_0 e_0 d_0 ys_0 dys_0 q0_0 q0_1 q0_2) (begins t kk ka z)) = cc
pat_full l c at e d gs j w h b (expands _ (pat_list c_0 at_0 e_0 d_0 ys_0 tail_0 dys_0 q0_0 q0_1 q0_2) (begins t kk ka z)) = cc
pat_full l c at e d gs j w h b (expands _ (pat_bits c_0 at_0 e_0 d_0 sgs_0 q0_0 q0_1) (begins t kk ka z)) = omega arith

qual_full : (l : Limits) (c : Context) (i : Qual) (d : ℕ) (gs : List Goal) (j : Word) (w : List Word) → j.kind ≡ k.LeftBits → l.brackets ≤ c.open_ → Spells l (Of (AQual c i d) ∷ gs) (j ∷ w) → ⊥
qual_full l c i d gs j w h b (expands _ (generator c_0 ql d_0 at pt dp az z dz q0 q1) (expands _ (pattern c_1 at_1 e_1 d_1 y dy) m)) = pat_full l (in_mode InSize c) at y dy _ j w h b m
qual_full l c i d gs j w h b (expands _ (bits_generator c_0 ql d_0 at sgs ds az z dz q0 q1 q2) m) = omega arith
qual_full l c i d gs j w h b (expands _ (filter c_0 ql d_0 at y q0) m) = level_full l 0 c at y d gs j w h b m

stops_full : {most : Limits} (l : Limits) (c : Context) (i : Qual) (d : ℕ) (gs : List Goal) (j : Word) (rest w : List Word) → j.kind ≡ k.LeftBits → most.brackets ≤ c.open_ → IsStrict most l → SameHead w (j ∷ rest) → Spells l (Of (AQual c i d) ∷ gs) w → ⊥
stops_full l c i d gs j rest [] h b s m z = m
stops_full l c i d gs j rest (t ∷ w) h b s m z = qual_full l c i d gs t w (ap (λ v. v.kind) m ∙ h) (omega (arith, s.brackets)) z

full : {most : Limits} (c : Context) (j : Word) (rest : List Word) → j.kind ≡ k.LeftBits → most.brackets ≤ c.open_ → IsRefused most {X = Qual × ℕ} qual_longer (qual_in c) (j ∷ rest) (j ∷ rest) TooDeep
full {most = most} c j rest h b = record {
  front = [];
  whole = refl;
  tree = (q.Filter some_expr.at some_expr.tree, some_expr.height);
  more = some_word ∷ [];
  goes_on = λ l i gs w d. expands _ (filter c _ _ _ _ refl) (level_completed 0 l c gs w d);
  stops = λ l s x gs w f m d. stops_full l c x.0 x.1 gs j rest w h b s m d;
  excused = record {
    limits = deeper most 0 (c.open_ + 1);
    wide = deeper_wide most 0 (c.open_ + 1);
    allows = (refl, refl);
    first = j;
    behind = rest;
    begins = refl;
    tree = (q.Bits j.at [] some_expr.tree, max 1 some_expr.height);
    more = mark_word k.RightBits ∷ (mark_word k.DoubleLeftArrow ∷ (some_word ∷ []));
    goes_on = λ gs w d. expands _ (bits_generator c _ _ j.at [] 1 some_expr.at some_expr.tree some_expr.height (omega arith) refl refl) (begins j h refl (expands _ (no_pattern_bits (in_mode InSize c) 1 refl) (takes (mark_word k.RightBits) refl (takes (mark_word k.DoubleLeftArrow) refl (level_completed 0 (deeper most 0 (c.open_ + 1)) c gs w d)))));
  };
}

pub qual_full_at : (c : Context) (ws : Readable) (at : ℕ) → IsAt ws at k.LeftBits → ws.limits.brackets ≤ c.open_ → IsRefused ws.limits {X = Qual × ℕ} qual_longer (qual_in c) (drop at ws.words) (drop at ws.words) TooDeep
qual_full_at c ws at s b = refused_at s.is (full c s.word (drop (at + 1) ws.words) s.kind_is b)
