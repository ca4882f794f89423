-- The laws of bit expressions, behind `<<`.
use Rattle.std.proofs.Common.{◌≡◌, ℕ, ◌+◌, ◌≤◌, ◌<◌, max, false, IsTrue, List, [], ◌∷◌, ◌++◌, append_assoc, Some, None, refl, sym, ap, ◌∙◌, arith, pos}
use Rattle.erl_syntax.specs.declared.span.Span.{Span}
use Rattle.erl_syntax.specs.declared.token.TokenKind.{TokenKind}
use Rattle.erl_syntax.specs.declared.token.TokenKind.TheVariants as k
use Rattle.erl_syntax.specs.declared.expr.Expr.{Expr}
use Rattle.erl_syntax.specs.declared.expr.Expr.TheVariants as x
use Rattle.erl_syntax.specs.declared.expr.Prefix.{Prefix}
use Rattle.erl_syntax.specs.declared.segment.Segment.{Segment}
use Rattle.erl_syntax.specs.declared.qual.Qual.{Qual}
use Rattle.erl_syntax.specs.Word.{Word}
use Rattle.erl_syntax.specs.Operators.{prefix_of}
use Rattle.erl_syntax.specs.Grammar.{InBody, InSize, Context, under, inside, Limits, Goal, Mark, Of, Simple, SegmentRest, ASegment, Prefixed, BitsRest, AfterValue, MoreSegments, Quals, simple_atom, simple, variable, integer, character, string, bits, paren, sized, unsized, typed, untyped, prefixed, no_bits, bits_prefixed, bits_first, bits_for, bits_segments, more_segments, end_segments, Spells, takes, begins, this, expands}
use Rattle.pattern_read.specs.declared.placed.Placed.{Placed}
use Rattle.pattern_read.specs.declared.fault.Cause.TheVariants.{Syntax, TooDeep}
use Rattle.pattern_read.specs.Reading.{Passes, IsRefused, SameHead, closed, nothing}
use Rattle.pattern_read.specs.Wanted.{NoMark, no_mark_end, no_mark}
use Rattle.body_read.specs.WantedExprs.{bits_in, quals_in, segment_in, segment_longer, segment_rest_in, simple_in}
use Rattle.body_read.specs.WantedSegments.{prefixed_in, more_segments_in, after_value_in, begins_simple, NoPrefix, no_prefix_end, no_prefix_word, NoRow}
use Rattle.pattern_read.proofs.Passing.{Behind, Spelled, spells_at}
use Rattle.pattern_read.proofs.Levels.{same_pair, no_prefix}
use Rattle.pattern_read.proofs.Operands.{some_place, some_word, deeper, deeper_wide, mark_word, close_paren, level_completed}
use Rattle.body_read.proofs.SegmentLaws.{first_value, value_ends, no_signed_value, value_spelled, prefixed_forth}

no_value_is : {kind other : TokenKind} → begins_simple other ≡ false → kind ≡ other → IsTrue (begins_simple kind) → ⊥
no_value_is n h f = let a : _ ≡ _ = ap begins_simple h in cc

-- ---- `>>`

no_bits_forth : (l : Limits) (c : Context) (at : Span) (e : Expr) (d : ℕ) (gs : List Goal) (j : Word) (w : List Word) → j.kind ≡ k.RightBits → Spells l (Of (BitsRest c at e d) ∷ gs) (j ∷ w) → (e ≡ x.Bits at []) × (d ≡ 1) × Spells l gs w
no_bits_forth l c at e d gs j w h (expands _ (no_bits c_0 at_0 e_0 d_0 q0 q1) (takes t kk z)) = (q0, q1, z)
no_bits_forth l c at e d gs j w h (expands _ (bits_prefixed c_0 at_0 e_0 d_0 sg ds sgs dss q0 q1 q2) (expands _ (prefixed c_1 sg_1 d_1 t op ay y dy q3 q4) (this z))) = absurd (no_prefix (ap prefix_of h) q3)
no_bits_forth l c at e d gs j w h (expands _ (bits_first c_0 at_0 e_0 d_0 ay y dy q0) z) = absurd (no_value_is refl h (first_value l (inside (under c)) ay y dy (Of (AfterValue c at ay y dy e d) ∷ gs) j w z))

pub on_no_bits : {most : Limits} (c : Context) (at : Span) (j : Word) (rest : List Word) → j.kind ≡ k.RightBits → Passes most {X = Expr × ℕ} closed (bits_in c at) (j ∷ rest) nothing rest (λ u. (x.Bits at [], 1))
on_no_bits c at j rest h = record {
  front = j ∷ [];
  whole = refl;
  back = λ l v u gs w d. expands _ (no_bits c at _ _ refl refl) (takes j h d);
  forth = λ l r gs w f s d. let m = no_bits_forth l c at r.0 r.1 gs j w h d in (tt, same_pair m.0 m.1, m.2);
}

bits_empty : (l : Limits) (c : Context) (at : Span) (gs : List Goal) (w : List Word) → Spells l gs w → Spells l (Of (BitsRest c at (x.Bits at []) 1) ∷ gs) (mark_word k.RightBits ∷ w)
bits_empty l c at gs w d = expands _ (no_bits c at _ _ refl refl) (takes (mark_word k.RightBits) refl d)

-- ---- A first segment with an operator before its value

abbrev pub with_segments : Span → (Segment × ℕ) × (List Segment × ℕ) → Expr × ℕ
with_segments at p = (x.Bits at (p.0.0 ∷ p.1.0), max p.0.1 p.1.1 + 1)

signed_forth : (l : Limits) (c : Context) (at : Span) (e : Expr) (d : ℕ) (gs : List Goal) (j : Word) (w : List Word) (op : Prefix) → prefix_of j.kind ≡ Some op → Spells l (Of (BitsRest c at e d) ∷ gs) (j ∷ w) →
    (p : (Segment × ℕ) × (List Segment × ℕ)) × (e ≡ x.Bits at (p.0.0 ∷ p.1.0)) × (d ≡ max p.0.1 p.1.1 + 1) × Spells l (Of (Prefixed (inside (under c)) p.0.0 p.0.1) ∷ Of (MoreSegments (inside (under c)) p.1.0 p.1.1) ∷ gs) (j ∷ w)
signed_forth l c at e d gs j w op h (expands _ (no_bits c_0 at_0 e_0 d_0 q0 q1) (takes t kk z)) = absurd (no_prefix (ap prefix_of kk) h)
signed_forth l c at e d gs j w op h (expands _ (bits_prefixed c_0 at_0 e_0 d_0 sg ds sgs dss q0 q1 q2) z) = (((sg, ds), (sgs, dss)), q1, q2, z)
signed_forth l c at e d gs j w op h (expands _ (bits_first c_0 at_0 e_0 d_0 ay y dy q0) z) = absurd (no_signed_value l (inside (under c)) ay y dy (Of (AfterValue c at ay y dy e d) ∷ gs) j w op h z)

signed_by : (l : Limits) (c : Context) (at : Span) (e : Expr) (d : ℕ) (gs : List Goal) (j : Word) (rest w : List Word) (op : Prefix) → prefix_of j.kind ≡ Some op → SameHead w (j ∷ rest) → Spells l (Of (BitsRest c at e d) ∷ gs) w →
    (p : (Segment × ℕ) × (List Segment × ℕ)) × (e ≡ x.Bits at (p.0.0 ∷ p.1.0)) × (d ≡ max p.0.1 p.1.1 + 1) × Spells l (Of (Prefixed (inside (under c)) p.0.0 p.0.1) ∷ Of (MoreSegments (inside (under c)) p.1.0 p.1.1) ∷ gs) w
signed_by l c at e d gs j rest [] op h s z = absurd s
signed_by l c at e d gs j rest (t ∷ w) op h s z = signed_forth l c at e d gs t w op (ap (λ v. prefix_of v.kind) s ∙ h) z

pub on_signed_bits : {most : Limits} (c : Context) (at : Span) (j : Word) (rest : List Word) (op : Prefix) → prefix_of j.kind ≡ Some op → c.deep + 1 ≤ most.trees →
    Passes most {X = Expr × ℕ} {Y = (Segment × ℕ) × (List Segment × ℕ)} closed (bits_in c at) (j ∷ rest) (λ p. prefixed_in (inside (under c)) p.0 ++ more_segments_in (inside (under c)) p.1) (j ∷ rest) (with_segments at)
on_signed_bits c at j rest op h b = record {
  front = [];
  whole = refl;
  back = λ l v p gs w d. let room : c.deep + 1 ≤ l.trees = omega (arith, v.trees) in expands _ (bits_prefixed c at _ _ _ _ _ _ room refl refl) d;
  forth = λ l r gs w f s d. let m = signed_by l c at r.0 r.1 gs j rest w op h s d in (m.0, same_pair m.1 m.2, m.3);
}

stops_signed_bits : (most : Limits) (c : Context) (at : Span) (j : Word) (rest : List Word) (op : Prefix) → prefix_of j.kind ≡ Some op → most.trees < c.deep + 2 → (l : Limits) → l.trees ≡ most.trees → (r : Expr × ℕ) (gs : List Goal) (w : List Word) → SameHead w (j ∷ rest) → Spells l (bits_in c at r ++ gs) w → ⊥
stops_signed_bits most c at j rest op h b l i r gs [] s d = s
stops_signed_bits most c at j rest op h b l i r gs (t ∷ w) s d =
    let o : prefix_of t.kind ≡ Some op = ap (λ v. prefix_of v.kind) s ∙ h in
    let m = signed_forth l c at r.0 r.1 gs t w op o d in
    let n = prefixed_forth l (inside (under c)) m.0.0.0 m.0.0.1 (Of (MoreSegments (inside (under c)) m.0.1.0 m.0.1.1) ∷ gs) t w op o m.3 in
    let a : c.deep + 1 + 1 ≤ l.trees = n.0 in omega arith

-- with room for one more level the operator, a variable and `>>` go on
pub signed_bits_deep : {most : Limits} (c : Context) (at : Span) (j : Word) (rest : List Word) (op : Prefix) → prefix_of j.kind ≡ Some op → most.trees < c.deep + 2 → IsRefused most {X = Expr × ℕ} closed (bits_in c at) (j ∷ rest) (j ∷ rest) TooDeep
signed_bits_deep {most = most} c at j rest op h b = record {
  front = [];
  whole = refl;
  tree = (x.Bits at [], 1);
  more = mark_word k.RightBits ∷ [];
  goes_on = λ l v gs w d. bits_empty l c at gs w d;
  stops = λ l i r gs w f s d. stops_signed_bits most c at j rest op h b l i.trees r gs w s d;
  excused = record {
    limits = deeper most (c.deep + 2) 0;
    wide = deeper_wide most (c.deep + 2) 0;
    allows = (refl, refl);
    first = j;
    behind = rest;
    begins = refl;
    tree = (x.Bits at (record { at = j.at; value = x.Unary j.at op (x.Var some_place [] ∷ []); size = None; specs = [] } ∷ []), max 2 0 + 1);
    more = some_word ∷ (mark_word k.RightBits ∷ []);
    goes_on = λ gs w d.
        let one : c.deep + 1 ≤ most.trees + (c.deep + 2) = omega arith in
        let two : c.deep + 1 + 1 ≤ most.trees + (c.deep + 2) = omega arith in
        expands _ (bits_prefixed c at _ _ _ 2 [] 0 one refl refl) (expands _ (prefixed (inside (under c)) _ _ j op some_place (x.Var some_place []) 1 h two)
        (this (value_spelled (deeper most (c.deep + 2) 0) (under (inside (under c))) _ _ (expands _ (unsized (inside (under c)) _ _ _ _ _ refl) (expands _ (untyped _ _ _ _ refl)
        (expands _ (end_segments (inside (under c)) 0 refl) (takes (mark_word k.RightBits) refl d)))))));
  };
}

-- ---- A first value

first_value_forth : (l : Limits) (c : Context) (at : Span) (e : Expr) (d : ℕ) (gs : List Goal) (rest w : List Word) → NoMark k.RightBits rest → NoPrefix rest → SameHead w rest → Spells l (Of (BitsRest c at e d) ∷ gs) w →
    (c.deep + 1 ≤ l.trees) × (y : Placed Expr) × Spells l (Of (Simple (inside (under c)) y.at y.tree y.height) ∷ Of (AfterValue c at y.at y.tree y.height e d) ∷ gs) w
first_value_forth l c at e d gs rest w m n s (expands _ (bits_first c_0 at_0 e_0 d_0 ay y dy q0) z) = (q0, record { at = ay; tree = y; height = dy }, z)
first_value_forth l c at e d gs _ w no_mark_end n s (expands _ (no_bits c_0 at_0 e_0 d_0 q0 q1) (takes t kk z)) = absurd s
first_value_forth l c at e d gs _ w (no_mark j rest m) n s (expands _ (no_bits c_0 at_0 e_0 d_0 q0 q1) (takes t kk z)) = absurd (m (ap (λ v. v.kind) (sym s) ∙ kk))
first_value_forth l c at e d gs _ w m no_prefix_end s (expands _ (bits_prefixed c_0 at_0 e_0 d_0 sg ds sgs dss q0 q1 q2) (expands _ (prefixed c_1 sg_1 d_1 t op ay y dy q3 q4) (this z))) = absurd s
first_value_forth l c at e d gs _ w m (no_prefix_word j rest n) s (expands _ (bits_prefixed c_0 at_0 e_0 d_0 sg ds sgs dss q0 q1 q2) (expands _ (prefixed c_1 sg_1 d_1 t op ay y dy q3 q4) (this z))) = absurd (no_prefix n (ap (λ v. prefix_of v.kind) (sym s) ∙ q3))

pub on_bits_value : {most : Limits} (c : Context) (at : Span) (rest : List Word) → c.deep + 1 ≤ most.trees → NoMark k.RightBits rest → NoPrefix rest →
    Passes most {X = Expr × ℕ} {Y = Placed Expr × (Expr × ℕ)} closed (bits_in c at) rest (λ p. simple_in (inside (under c)) p.0 ++ after_value_in c at p.0 p.1) rest (λ p. p.1)
on_bits_value c at rest b m n = record {
  front = [];
  whole = refl;
  back = λ l v p gs w d. let room : c.deep + 1 ≤ l.trees = omega (arith, v.trees) in expands _ (bits_first c at _ _ _ _ _ room) d;
  forth = λ l r gs w f s d. let q = first_value_forth l c at r.0 r.1 gs rest w m n s d in ((q.1, r), refl, q.2);
}

closed_value : (l : Limits) (c : Context) (at : Span) (y : Placed Expr) (gs : List Goal) (w : List Word) → Spells l gs w → Spells l (after_value_in c at y (x.Bits at (record { at = y.at; value = y.tree; size = None; specs = [] } ∷ []), max y.height 0 + 1) ++ gs) (mark_word k.RightBits ∷ w)
closed_value l c at y gs w d = expands _ (bits_segments c at _ _ _ _ _ _ y.height [] 0 refl refl) (expands _ (unsized (inside (under c)) _ _ _ _ _ refl) (expands _ (untyped _ _ _ _ refl) (expands _ (end_segments (inside (under c)) 0 refl) (takes (mark_word k.RightBits) refl d))))

-- what goes on with `>>` behind a first value
pub value_completed : {most : Limits} (c : Context) (at : Span) → Spelled most {X = Placed Expr} {Y = Expr × ℕ} (after_value_in c at) (mark_word k.RightBits ∷ [])
value_completed c at = record { tree = λ y. (x.Bits at (record { at = y.at; value = y.tree; size = None; specs = [] } ∷ []), max y.height 0 + 1); spelled = λ l v y gs w d. closed_value l c at y gs w d }

stops_value : (most : Limits) (c : Context) (at : Span) (rest : List Word) → most.trees < c.deep + 1 → NoMark k.RightBits rest → NoPrefix rest → (l : Limits) → l.trees ≡ most.trees → (r : Expr × ℕ) (gs : List Goal) (w : List Word) → SameHead w rest → Spells l (bits_in c at r ++ gs) w → ⊥
stops_value most c at rest b m n l i r gs w s d = let q = first_value_forth l c at r.0 r.1 gs rest w m n s d in let a : c.deep + 1 ≤ l.trees = q.0 in omega arith

-- A token with which a value begins, at limits where it fits.
record Begun (most : Limits) (c : Context) (j : Word) : Type 0 where
  pub tree : Placed Expr
  pub more : List Word
  pub spelled : (gs : List Goal) (w : List Word) → Spells (deeper most (c.deep + 1) (c.open_ + 1)) gs w → Spells (deeper most (c.deep + 1) (c.open_ + 1)) (simple_in c tree ++ gs) (j ∷ (more ++ w))

begun : {most : Limits} (c : Context) (j : Word) (kind : TokenKind) → (c.mode ≡ InSize → ⊥) → j.kind ≡ kind → IsTrue (begins_simple kind) → Begun most c j
begun {most = most} c j k.Atom m h b = record { tree = record { at = j.at; tree = x.Atom j.at j.number; height = 1 }; more = []; spelled = λ gs w d. expands _ (simple_atom c _ _ _ j h refl refl refl) (this d) }
begun {most = most} c j k.Variable m h b = record { tree = record { at = j.at; tree = x.Var j.at j.chars; height = 1 }; more = []; spelled = λ gs w d. expands _ (simple c _ _ _) (expands _ (variable c _ _ _ j h refl refl refl) (this d)) }
begun {most = most} c j k.Integer m h b = record { tree = record { at = j.at; tree = x.Int j.at (pos j.number); height = 1 }; more = []; spelled = λ gs w d. expands _ (simple c _ _ _) (expands _ (integer c _ _ _ j h refl refl refl) (this d)) }
begun {most = most} c j k.Character m h b = record { tree = record { at = j.at; tree = x.Char j.at j.number; height = 1 }; more = []; spelled = λ gs w d. expands _ (simple c _ _ _) (expands _ (character c _ _ _ j h refl refl refl) (this d)) }
begun {most = most} c j k.Str m h b = record { tree = record { at = j.at; tree = x.Str j.at j.chars; height = 1 }; more = []; spelled = λ gs w d. expands _ (simple c _ _ _) (expands _ (string c _ _ _ j m h refl refl refl) (this d)) }
begun {most = most} c j k.LeftBits m h b = record { tree = record { at = j.at; tree = x.Bits j.at []; height = 1 }; more = mark_word k.RightBits ∷ []; spelled = λ gs w d. expands _ (simple c _ _ _) (expands _ (bits c _ _ _ m (omega arith)) (begins j h refl (bits_empty (deeper most (c.deep + 1) (c.open_ + 1)) c j.at gs w d))) }
begun {most = most} c j k.LeftParen m h b = record { tree = record { at = j.at; tree = x.Var some_place []; height = 1 }; more = some_word ∷ (close_paren ∷ []); spelled = λ gs w d. expands _ (simple c _ _ _) (expands _ (paren c _ _ _ some_place (omega arith)) (begins j h refl (level_completed 0 (deeper most (c.deep + 1) (c.open_ + 1)) (inside c) (Mark k.RightParen ∷ gs) (close_paren ∷ w) (takes close_paren refl d)))) }
begun {most = most} c j _ m h b = cc

pub value_too_deep : {most : Limits} (c : Context) (at : Span) (j : Word) (rest : List Word) → (c.mode ≡ InSize → ⊥) → most.trees < c.deep + 1 → NoMark k.RightBits (j ∷ rest) → NoPrefix (j ∷ rest) → IsTrue (begins_simple j.kind) → IsRefused most {X = Expr × ℕ} closed (bits_in c at) (j ∷ rest) (j ∷ rest) TooDeep
value_too_deep {most = most} c at j rest i b m n v = let g : Begun most (inside (under c)) j = begun (inside (under c)) j j.kind i refl v in record {
  front = [];
  whole = refl;
  tree = (x.Bits at [], 1);
  more = mark_word k.RightBits ∷ [];
  goes_on = λ l v gs w d. bits_empty l c at gs w d;
  stops = λ l i r gs w f s d. stops_value most c at (j ∷ rest) b m n l i.trees r gs w s d;
  excused = record {
    limits = deeper most (c.deep + 1 + 1) (c.open_ + 1 + 1);
    wide = deeper_wide most (c.deep + 1 + 1) (c.open_ + 1 + 1);
    allows = (refl, refl);
    first = j;
    behind = rest;
    begins = refl;
    tree = (x.Bits at (record { at = g.tree.at; value = g.tree.tree; size = None; specs = [] } ∷ []), max g.tree.height 0 + 1);
    more = g.more ++ (mark_word k.RightBits ∷ []);
    goes_on = λ gs w d.
        let one : c.deep + 1 ≤ most.trees + (c.deep + 1 + 1) = omega arith in
        expands _ (bits_first c at _ _ g.tree.at g.tree.tree g.tree.height one)
        (spells_at (ap (λ v. j ∷ v) (sym (append_assoc g.more (mark_word k.RightBits ∷ []) w)))
        (g.spelled _ _ (closed_value (deeper most (c.deep + 1 + 1) (c.open_ + 1 + 1)) c at g.tree gs w d)));
  };
}

first_none : (l : Limits) (c : Context) (at : Span) (e : Expr) (d : ℕ) (gs : List Goal) (j : Word) (w : List Word) → begins_simple j.kind ≡ false → Spells l (Of (Simple c at e d) ∷ gs) (j ∷ w) → ⊥
first_none l c at e d gs j w n z = let a : IsTrue (begins_simple j.kind) = first_value l c at e d gs j w z in cc

none_forth : (l : Limits) (c : Context) (at : Span) (e : Expr) (d : ℕ) (gs : List Goal) (j : Word) (rest w : List Word) → begins_simple j.kind ≡ false → SameHead w (j ∷ rest) → Spells l (Of (Simple c at e d) ∷ gs) w → ⊥
none_forth l c at e d gs j rest [] n s z = s
none_forth l c at e d gs j rest (t ∷ w) n s z = first_none l c at e d gs t w (ap (λ v. begins_simple v.kind) s ∙ n) z

end_forth : (l : Limits) (c : Context) (at : Span) (e : Expr) (d : ℕ) (gs : List Goal) (w : List Word) → SameHead w [] → Spells l (Of (Simple c at e d) ∷ gs) w → ⊥
end_forth l c at e d gs [] s z = value_ends l c at e d gs z
end_forth l c at e d gs (t ∷ w) s z = s

pub no_value_there : {most : Limits} (c : Context) (at : Span) (j : Word) (rest : List Word) → NoMark k.RightBits (j ∷ rest) → NoPrefix (j ∷ rest) → begins_simple j.kind ≡ false → IsRefused most {X = Expr × ℕ} closed (bits_in c at) (j ∷ rest) (j ∷ rest) Syntax
no_value_there c at j rest m n v = record {
  front = [];
  whole = refl;
  tree = (x.Bits at [], 1);
  more = mark_word k.RightBits ∷ [];
  goes_on = λ l v gs w d. bits_empty l c at gs w d;
  stops = λ l i r gs w f s d. let q = first_value_forth l c at r.0 r.1 gs (j ∷ rest) w m n s d in none_forth l (inside (under c)) q.1.at q.1.tree q.1.height (Of (AfterValue c at q.1.at q.1.tree q.1.height r.0 r.1) ∷ gs) j rest w v s q.2;
  excused = tt;
}

pub no_value_at_end : {most : Limits} (c : Context) (at : Span) → NoMark k.RightBits [] → NoPrefix [] → IsRefused most {X = Expr × ℕ} closed (bits_in c at) [] [] Syntax
no_value_at_end c at m n = record {
  front = [];
  whole = refl;
  tree = (x.Bits at [], 1);
  more = mark_word k.RightBits ∷ [];
  goes_on = λ l v gs w d. bits_empty l c at gs w d;
  stops = λ l i r gs w f s d. let q = first_value_forth l c at r.0 r.1 gs [] w m n s d in end_forth l (inside (under c)) q.1.at q.1.tree q.1.height (Of (AfterValue c at q.1.at q.1.tree q.1.height r.0 r.1) ∷ gs) w s q.2;
  excused = tt;
}

-- ---- More segments

comma_forth : (l : Limits) (c : Context) (sgs : List Segment) (d : ℕ) (gs : List Goal) (j : Word) (w : List Word) → j.kind ≡ k.Comma → Spells l (Of (MoreSegments c sgs d) ∷ gs) (j ∷ w) →
    (p : (Segment × ℕ) × (List Segment × ℕ)) × (sgs ≡ p.0.0 ∷ p.1.0) × (d ≡ max p.0.1 p.1.1) × Spells l (Of (ASegment c p.0.0 p.0.1) ∷ Of (MoreSegments c p.1.0 p.1.1) ∷ gs) w
comma_forth l c _ d gs j w h (expands _ (more_segments c_0 sg ds sgs dss d_0 q0) (takes t kk z)) = (((sg, ds), (sgs, dss)), refl, q0, z)
comma_forth l c _ d gs j w h (expands _ (end_segments c_0 d_0 q0) (takes t kk z)) = cc

pub on_more_segments : {most : Limits} (c : Context) (j : Word) (rest : List Word) → j.kind ≡ k.Comma → Passes most {X = List Segment × ℕ} {Y = (Segment × ℕ) × (List Segment × ℕ)} closed (more_segments_in c) (j ∷ rest) (λ p. segment_in c p.0 ++ more_segments_in c p.1) rest (λ p. (p.0.0 ∷ p.1.0, max p.0.1 p.1.1))
on_more_segments c j rest h = record {
  front = j ∷ [];
  whole = refl;
  back = λ l v p gs w d. expands _ (more_segments c _ _ _ _ _ refl) (takes j h d);
  forth = λ l r gs w f s d. let m = comma_forth l c r.0 r.1 gs j w h d in (m.0, same_pair m.1 m.2, m.3);
}

close_forth : (l : Limits) (c : Context) (sgs : List Segment) (d : ℕ) (gs : List Goal) (j : Word) (w : List Word) → j.kind ≡ k.RightBits → Spells l (Of (MoreSegments c sgs d) ∷ gs) (j ∷ w) → (sgs ≡ []) × (d ≡ 0) × Spells l gs w
close_forth l c _ d gs j w h (expands _ (more_segments c_0 sg ds sgs dss d_0 q0) (takes t kk z)) = cc
close_forth l c _ d gs j w h (expands _ (end_segments c_0 d_0 q0) (takes t kk z)) = (refl, q0, z)

pub on_end_segments : {most : Limits} (c : Context) (j : Word) (rest : List Word) → j.kind ≡ k.RightBits → Passes most {X = List Segment × ℕ} closed (more_segments_in c) (j ∷ rest) nothing rest (λ u. ([], 0))
on_end_segments c j rest h = record {
  front = j ∷ [];
  whole = refl;
  back = λ l v u gs w d. expands _ (end_segments c 0 refl) (takes j h d);
  forth = λ l r gs w f s d. let m = close_forth l c r.0 r.1 gs j w h d in (tt, same_pair m.0 m.1, m.2);
}

segments_stop : (l : Limits) (c : Context) (sgs : List Segment) (d : ℕ) (gs : List Goal) (rest w : List Word) → NoMark k.Comma rest → NoMark k.RightBits rest → SameHead w rest → Spells l (Of (MoreSegments c sgs d) ∷ gs) w → ⊥
segments_stop l c _ d gs _ w no_mark_end b s (expands _ (more_segments c_0 sg ds sgs dss d_0 q0) (takes t kk z)) = s
segments_stop l c _ d gs _ w (no_mark j rest a) b s (expands _ (more_segments c_0 sg ds sgs dss d_0 q0) (takes t kk z)) = a (ap (λ v. v.kind) (sym s) ∙ kk)
segments_stop l c _ d gs _ w a no_mark_end s (expands _ (end_segments c_0 d_0 q0) (takes t kk z)) = s
segments_stop l c _ d gs _ w a (no_mark j rest b) s (expands _ (end_segments c_0 d_0 q0) (takes t kk z)) = b (ap (λ v. v.kind) (sym s) ∙ kk)

pub segments_refused : {most : Limits} (c : Context) (rest : List Word) → NoMark k.Comma rest → NoMark k.RightBits rest → IsRefused most {X = List Segment × ℕ} closed (more_segments_in c) rest rest Syntax
segments_refused c rest a b = record {
  front = [];
  whole = refl;
  tree = ([], 0);
  more = mark_word k.RightBits ∷ [];
  goes_on = λ l v gs w d. expands _ (end_segments c 0 refl) (takes (mark_word k.RightBits) refl d);
  stops = λ l i r gs w f s d. segments_stop l c r.0 r.1 gs rest w a b s d;
  excused = tt;
}

segments_lengthen : (l : Limits) (c : Context) (sgs : List Segment) (d : ℕ) (gs : List Goal) (j : Word) (w : List Word) → IsTrue (segment_longer j.kind) → Spells l (Of (MoreSegments c sgs d) ∷ gs) (j ∷ w) → ⊥
segments_lengthen l c _ d gs j w h (expands _ (more_segments c_0 sg ds sgs dss d_0 q0) (takes t kk z)) = let a : segment_longer j.kind ≡ false = ap segment_longer kk in cc
segments_lengthen l c _ d gs j w h (expands _ (end_segments c_0 d_0 q0) (takes t kk z)) = let a : segment_longer j.kind ≡ false = ap segment_longer kk in cc

pub behind_segment : (c : Context) → Behind {X = Segment × ℕ} {Y = List Segment × ℕ} segment_longer closed (λ p. more_segments_in c)
behind_segment c = record { behind = λ l p q gs f t w h d. segments_lengthen l c q.0 q.1 gs t w h d }

pub segments_spelled : {most : Limits} (c : Context) → Spelled most {X = Segment × ℕ} {Y = List Segment × ℕ} (λ p. more_segments_in c) (mark_word k.RightBits ∷ [])
segments_spelled c = record { tree = λ p. ([], 0); spelled = λ l v p gs w d. expands _ (end_segments c 0 refl) (takes (mark_word k.RightBits) refl d) }

-- ---- Behind a first value

no_bar : (l : Limits) (c : Context) (sgs : List Segment) (d : ℕ) (gs : List Goal) (j : Word) (w : List Word) → j.kind ≡ k.DoubleBar → Spells l (Of (MoreSegments c sgs d) ∷ gs) (j ∷ w) → ⊥
no_bar l c _ d gs j w h (expands _ (more_segments c_0 sg ds sgs dss d_0 q0) (takes t kk z)) = cc
no_bar l c _ d gs j w h (expands _ (end_segments c_0 d_0 q0) (takes t kk z)) = cc

no_bar_rest : (l : Limits) (c : Context) (at : Span) (y : Expr) (dy : ℕ) (sg : Segment) (ds : ℕ) (sgs : List Segment) (d : ℕ) (gs : List Goal) (j : Word) (w : List Word) → j.kind ≡ k.DoubleBar → Spells l (Of (SegmentRest c at y dy sg ds) ∷ Of (MoreSegments c sgs d) ∷ gs) (j ∷ w) → ⊥
no_bar_rest l c at y dy sg ds sgs d gs j w h (expands _ (sized c_0 at_0 y_0 dy_0 sg_0 d_0 az z_0 dz q0) (takes t kk z)) = cc
no_bar_rest l c at y dy sg ds sgs d gs j w h (expands _ (unsized c_0 at_0 y_0 dy_0 sg_0 d_0 q0) (expands _ (typed at_1 y_1 size_1 sg_1 sp_1 sps_1 q1) (takes t kk z))) = cc
no_bar_rest l c at y dy sg ds sgs d gs j w h (expands _ (unsized c_0 at_0 y_0 dy_0 sg_0 d_0 q0) (expands _ (untyped at_1 y_1 size_1 sg_1 q1) z)) = no_bar l c sgs d gs j w h z

row_forth : (l : Limits) (c : Context) (at ay : Span) (y : Expr) (dy : ℕ) (e : Expr) (d : ℕ) (gs : List Goal) (j : Word) (w : List Word) → j.kind ≡ k.DoubleBar → Spells l (Of (AfterValue c at ay y dy e d) ∷ gs) (j ∷ w) →
    (r : List Qual × ℕ) × (e ≡ x.BitsFor at (y ∷ []) r.0) × (d ≡ max dy r.1 + 1) × Spells l (Of (Quals k.RightBits (inside (under c)) r.0 r.1) ∷ gs) w
row_forth l c at ay y dy e d gs j w h (expands _ (bits_for c_0 at_0 ay_0 y_0 dy_0 e_0 d_0 qs dq q0 q1 q2) (takes t kk z)) = ((qs, dq), q1, q2, z)
row_forth l c at ay y dy e d gs j w h (expands _ (bits_segments c_0 at_0 ay_0 y_0 dy_0 e_0 d_0 sg ds sgs dss q0 q1) z) = absurd (no_bar_rest l (inside (under c)) ay y dy sg ds sgs dss gs j w h z)

pub on_bits_row : {most : Limits} (c : Context) (at : Span) (y : Placed Expr) (j : Word) (rest : List Word) → c.mode ≡ InBody → j.kind ≡ k.DoubleBar →
    Passes most {X = Expr × ℕ} {Y = List Qual × ℕ} closed (after_value_in c at y) (j ∷ rest) (quals_in k.RightBits (inside (under c))) rest (λ r. (x.BitsFor at (y.tree ∷ []) r.0, max y.height r.1 + 1))
on_bits_row c at y j rest m h = record {
  front = j ∷ [];
  whole = refl;
  back = λ l v r gs w d. expands _ (bits_for c at _ _ _ _ _ _ _ m refl refl) (takes j h d);
  forth = λ l r gs w f s d. let q = row_forth l c at y.at y.tree y.height r.0 r.1 gs j w h d in (q.0, same_pair q.1 q.2, q.3);
}

no_bar_head : (rest : List Word) (t : Word) (w : List Word) → NoMark k.DoubleBar rest → SameHead (t ∷ w) rest → t.kind ≡ k.DoubleBar → ⊥
no_bar_head _ t w no_mark_end s h = s
no_bar_head _ t w (no_mark j rest n) s h = n (ap (λ v. v.kind) (sym s) ∙ h)

segments_forth : (l : Limits) (c : Context) (at ay : Span) (y : Expr) (dy : ℕ) (e : Expr) (d : ℕ) (gs : List Goal) (rest w : List Word) → NoRow c.mode rest → SameHead w rest → Spells l (Of (AfterValue c at ay y dy e d) ∷ gs) w →
    (p : (Segment × ℕ) × (List Segment × ℕ)) × (e ≡ x.Bits at (p.0.0 ∷ p.1.0)) × (d ≡ max p.0.1 p.1.1 + 1) × Spells l (Of (SegmentRest (inside (under c)) ay y dy p.0.0 p.0.1) ∷ Of (MoreSegments (inside (under c)) p.1.0 p.1.1) ∷ gs) w
segments_forth l c at ay y dy e d gs rest w n s (expands _ (bits_segments c_0 at_0 ay_0 y_0 dy_0 e_0 d_0 sg ds sgs dss q0 q1) z) = (((sg, ds), (sgs, dss)), q0, q1, z)
segments_forth l c at ay y dy e d gs rest _ n s (expands _ (bits_for c_0 at_0 ay_0 y_0 dy_0 e_0 d_0 qs dq q0 q1 q2) (takes {w = u} t kk z)) = absurd (no_bar_head rest t u (n q0) s kk)

pub on_bits_segments : {most : Limits} (c : Context) (at : Span) (y : Placed Expr) (rest : List Word) → NoRow c.mode rest →
    Passes most {X = Expr × ℕ} {Y = (Segment × ℕ) × (List Segment × ℕ)} closed (after_value_in c at y) rest (λ p. segment_rest_in (inside (under c)) y p.0 ++ more_segments_in (inside (under c)) p.1) rest (with_segments at)
on_bits_segments c at y rest n = record {
  front = [];
  whole = refl;
  back = λ l v p gs w d. expands _ (bits_segments c at _ _ _ _ _ _ _ _ _ refl refl) d;
  forth = λ l r gs w f s d. let m = segments_forth l c at y.at y.tree y.height r.0 r.1 gs rest w n s d in (m.0, same_pair m.1 m.2, m.3);
}
