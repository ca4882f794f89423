-- The laws of segments: what each token does where one, its value or what stands behind its value is wanted.
use Rattle.std.proofs.Common.{◌≡◌, ℕ, ◌+◌, ◌≤◌, ◌<◌, max, IsTrue, List, [], ◌∷◌, ◌++◌, Option, Some, None, refl, sym, ap, subst, ◌∙◌, arith}
use Rattle.erl_syntax.specs.declared.span.Span.{Span}
use Rattle.erl_syntax.specs.declared.token.TokenKind.{TokenKind}
use Rattle.erl_syntax.specs.declared.token.TokenKind.TheVariants as k
use Rattle.erl_syntax.specs.declared.expr.Expr.{Expr}
use Rattle.erl_syntax.specs.declared.expr.Expr.TheVariants as x
use Rattle.erl_syntax.specs.declared.expr.Prefix.{Prefix}
use Rattle.erl_syntax.specs.declared.segment.Segment.{Segment}
use Rattle.erl_syntax.specs.Word.{Word}
use Rattle.erl_syntax.specs.Operators.{prefix_of}
use Rattle.erl_syntax.specs.Grammar.{Context, under, Limits, Goal, Of, Common, Simple, SegmentRest, SegmentType, ASegment, Prefixed, variable, integer, character, string, bits, paren, simple_atom, simple, sized, unsized, typed, untyped, segment_prefixed, segment, prefixed, Spells, takes, begins, this, expands}
use Rattle.pattern_read.specs.declared.placed.Placed.{Placed}
use Rattle.pattern_read.specs.declared.fault.Cause.TheVariants.{TooDeep}
use Rattle.pattern_read.specs.Reading.{Passes, IsRefused, Follows, SameHead, closed, nothing}
use Rattle.pattern_read.specs.Wanted.{NoMark, no_mark_end, no_mark}
use Rattle.body_read.specs.WantedExprs.{common_in, segment_in, segment_longer, segment_rest_in, simple_in}
use Rattle.pattern_read.specs.WantedPatterns.{segment_type_in, goes_typed}
use Rattle.body_read.specs.WantedSegments.{prefixed_in, begins_simple, NoPrefix, no_prefix_end, no_prefix_word}
use Rattle.pattern_read.proofs.Passing.{Within, Spelled}
use Rattle.pattern_read.proofs.Levels.{same_placed, same_pair, no_prefix}
use Rattle.pattern_read.proofs.Operands.{some_place, some_word, deeper, deeper_wide}

-- ---- How a value begins

pub first_value : (l : Limits) (c : Context) (at : Span) (e : Expr) (d : ℕ) (gs : List Goal) (j : Word) (w : List Word) → Spells l (Of (Simple c at e d) ∷ gs) (j ∷ w) → IsTrue (begins_simple j.kind)
first_value l c at e d gs j w (expands _ (simple_atom c_0 at_0 e_0 d_0 t_0 q0 q1 q2 q3) (this z)) = ap begins_simple q0
first_value l c at e d gs j w (expands _ (simple c_0 at_0 e_0 d_0) (expands _ (variable c_1 at_1 e_1 d_1 t_1 q1_0 q1_1 q1_2 q1_3) (this z))) = ap begins_simple q1_0
first_value l c at e d gs j w (expands _ (simple c_0 at_0 e_0 d_0) (expands _ (integer c_1 at_1 e_1 d_1 t_1 q1_0 q1_1 q1_2 q1_3) (this z))) = ap begins_simple q1_0
first_value l c at e d gs j w (expands _ (simple c_0 at_0 e_0 d_0) (expands _ (character c_1 at_1 e_1 d_1 t_1 q1_0 q1_1 q1_2 q1_3) (this z))) = ap begins_simple q1_0
first_value l c at e d gs j w (expands _ (simple c_0 at_0 e_0 d_0) (expands _ (string c_1 at_1 e_1 d_1 t_1 q1_0 q1_1 q1_2 q1_3 q1_4) (this z))) = ap begins_simple q1_1
first_value l c at e d gs j w (expands _ (simple c_0 at_0 e_0 d_0) (expands _ (bits c_1 at_1 e_1 d_1 q1_0 q1_1) (begins t kk ka z))) = ap begins_simple kk
first_value l c at e d gs j w (expands _ (simple c_0 at_0 e_0 d_0) (expands _ (paren c_1 at_1 e_1 d_1 ay_1 q1_0) (begins t kk ka z))) = ap begins_simple kk

pub value_ends : (l : Limits) (c : Context) (at : Span) (e : Expr) (d : ℕ) (gs : List Goal) → Spells l (Of (Simple c at e d) ∷ gs) [] → ⊥
value_ends l c at e d gs (expands _ (simple_atom c_0 at_0 e_0 d_0 t_0 q0 q1 q2 q3) z) = elim z [ ]
value_ends l c at e d gs (expands _ (simple c_0 at_0 e_0 d_0) (expands _ (variable c_1 at_1 e_1 d_1 t_1 q1_0 q1_1 q1_2 q1_3) z)) = elim z [ ]
value_ends l c at e d gs (expands _ (simple c_0 at_0 e_0 d_0) (expands _ (integer c_1 at_1 e_1 d_1 t_1 q1_0 q1_1 q1_2 q1_3) z)) = elim z [ ]
value_ends l c at e d gs (expands _ (simple c_0 at_0 e_0 d_0) (expands _ (character c_1 at_1 e_1 d_1 t_1 q1_0 q1_1 q1_2 q1_3) z)) = elim z [ ]
value_ends l c at e d gs (expands _ (simple c_0 at_0 e_0 d_0) (expands _ (string c_1 at_1 e_1 d_1 t_1 q1_0 q1_1 q1_2 q1_3 q1_4) z)) = elim z [ ]
value_ends l c at e d gs (expands _ (simple c_0 at_0 e_0 d_0) (expands _ (bits c_1 at_1 e_1 d_1 q1_0 q1_1) z)) = elim z [ ]
value_ends l c at e d gs (expands _ (simple c_0 at_0 e_0 d_0) (expands _ (paren c_1 at_1 e_1 d_1 ay_1 q1_0) z)) = elim z [ ]

-- no value begins with an operator
value_no_operator : (kind : TokenKind) (op : Prefix) → prefix_of kind ≡ Some op → IsTrue (begins_simple kind) → ⊥
value_no_operator k.Plus op h b = cc
value_no_operator k.Minus op h b = cc
value_no_operator k.Bnot op h b = cc
value_no_operator k.Not op h b = cc
value_no_operator _ op h b = cc

pub no_signed_value : (l : Limits) (c : Context) (at : Span) (e : Expr) (d : ℕ) (gs : List Goal) (j : Word) (w : List Word) (op : Prefix) → prefix_of j.kind ≡ Some op → Spells l (Of (Simple c at e d) ∷ gs) (j ∷ w) → ⊥
no_signed_value l c at e d gs j w op h z = value_no_operator j.kind op h (first_value l c at e d gs j w z)

-- a segment that is one word
pub value_spelled : (l : Limits) (c : Context) (gs : List Goal) (w : List Word) → Spells l gs w → Spells l (Of (Simple c some_place (x.Var some_place []) 1) ∷ gs) (some_word ∷ w)
value_spelled l c gs w d = expands _ (simple c _ _ _) (expands _ (variable c _ _ _ some_word refl refl refl refl) (this d))

-- ---- A value

simple_atom_forth : (l : Limits) (c : Context) (at : Span) (e : Expr) (d : ℕ) (gs : List Goal) (j : Word) (w : List Word) → j.kind ≡ k.Atom → Spells l (Of (Simple c at e d) ∷ gs) (j ∷ w) → (at ≡ j.at) × (e ≡ x.Atom j.at j.number) × (d ≡ 1) × Spells l gs w
simple_atom_forth l c at e d gs j w h (expands _ (simple_atom c_0 at_0 e_0 d_0 t_0 q0 q1 q2 q3) (this z)) = (q1, q2 ∙ ap (λ v. x.Atom v j.number) q1, q3, z)
simple_atom_forth l c at e d gs j w h (expands _ (simple c_0 at_0 e_0 d_0) (expands _ (variable c_1 at_1 e_1 d_1 t_1 q1_0 q1_1 q1_2 q1_3) (this z))) = cc
simple_atom_forth l c at e d gs j w h (expands _ (simple c_0 at_0 e_0 d_0) (expands _ (integer c_1 at_1 e_1 d_1 t_1 q1_0 q1_1 q1_2 q1_3) (this z))) = cc
simple_atom_forth l c at e d gs j w h (expands _ (simple c_0 at_0 e_0 d_0) (expands _ (character c_1 at_1 e_1 d_1 t_1 q1_0 q1_1 q1_2 q1_3) (this z))) = cc
simple_atom_forth l c at e d gs j w h (expands _ (simple c_0 at_0 e_0 d_0) (expands _ (string c_1 at_1 e_1 d_1 t_1 q1_0 q1_1 q1_2 q1_3 q1_4) (this z))) = cc
simple_atom_forth l c at e d gs j w h (expands _ (simple c_0 at_0 e_0 d_0) (expands _ (bits c_1 at_1 e_1 d_1 q1_0 q1_1) (begins t kk ka z))) = cc
simple_atom_forth l c at e d gs j w h (expands _ (simple c_0 at_0 e_0 d_0) (expands _ (paren c_1 at_1 e_1 d_1 ay_1 q1_0) (begins t kk ka z))) = cc

pub on_simple_atom : {most : Limits} (c : Context) (j : Word) (rest : List Word) → j.kind ≡ k.Atom → Passes most {X = Placed Expr} closed (simple_in c) (j ∷ rest) nothing rest (λ u. record { at = j.at; tree = x.Atom j.at j.number; height = 1 })
on_simple_atom c j rest h = record {
  front = j ∷ [];
  whole = refl;
  back = λ l v u gs w d. expands _ (simple_atom c _ _ _ j h refl refl refl) (this d);
  forth = λ l r gs w f s d. let m = simple_atom_forth l c r.at r.tree r.height gs j w h d in (tt, same_placed m.0 m.1 m.2, m.3);
}

simple_forth : (l : Limits) (c : Context) (at : Span) (e : Expr) (d : ℕ) (gs : List Goal) (rest w : List Word) → NoMark k.Atom rest → SameHead w rest → Spells l (Of (Simple c at e d) ∷ gs) w → Spells l (Of (Common c at e d) ∷ gs) w
simple_forth l c at e d gs rest w n s (expands _ (simple c_0 at_0 e_0 d_0) z) = z
simple_forth l c at e d gs _ w no_mark_end s (expands _ (simple_atom c_0 at_0 e_0 d_0 t_0 q0 q1 q2 q3) (this z)) = absurd s
simple_forth l c at e d gs _ w (no_mark j rest n) s (expands _ (simple_atom c_0 at_0 e_0 d_0 t_0 q0 q1 q2 q3) (this z)) = absurd (n (ap (λ v. v.kind) (sym s) ∙ q0))

pub on_simple : {most : Limits} (c : Context) (rest : List Word) → NoMark k.Atom rest → Passes most {X = Placed Expr} {Y = Placed Expr} closed (simple_in c) rest (common_in c) rest (λ p. p)
on_simple c rest n = record {
  front = [];
  whole = refl;
  back = λ l v p gs w d. expands _ (simple c _ _ _) d;
  forth = λ l r gs w f s d. (r, refl, simple_forth l c r.at r.tree r.height gs rest w n s d);
}

-- ---- Behind a value

types_lengthen : (kind : TokenKind) → IsTrue (goes_typed kind) → IsTrue (segment_longer kind)
types_lengthen k.Slash h = refl
types_lengthen k.Minus h = refl
types_lengthen _ h = cc

pub types_within : Within goes_typed segment_longer
types_within = record { within = λ kind h. types_lengthen kind h }

unsized_forth : (l : Limits) (c : Context) (at : Span) (y : Expr) (dy : ℕ) (sg : Segment) (d : ℕ) (gs : List Goal) (rest w : List Word) → NoMark k.Colon rest → SameHead w rest → Spells l (Of (SegmentRest c at y dy sg d) ∷ gs) w → (d ≡ dy) × Spells l (Of (SegmentType at y None sg) ∷ gs) w
unsized_forth l c at y dy sg d gs rest w n s (expands _ (unsized c_0 at_0 y_0 dy_0 sg_0 d_0 q0) z) = (q0, z)
unsized_forth l c at y dy sg d gs _ w no_mark_end s (expands _ (sized c_0 at_0 y_0 dy_0 sg_0 d_0 az z_0 dz q0) (takes t kk z)) = absurd s
unsized_forth l c at y dy sg d gs _ w (no_mark j rest n) s (expands _ (sized c_0 at_0 y_0 dy_0 sg_0 d_0 az z_0 dz q0) (takes t kk z)) = absurd (n (ap (λ v. v.kind) (sym s) ∙ kk))

pub on_unsized : {most : Limits} (c : Context) (y : Placed Expr) (rest : List Word) → NoMark k.Colon rest → Passes most {X = Segment × ℕ} {Y = Segment} segment_longer (segment_rest_in c y) rest (segment_type_in y.at y.tree None) rest (λ sg. (sg, y.height))
on_unsized c y rest n = record {
  front = [];
  whole = refl;
  back = λ l v sg gs w d. expands _ (unsized c _ _ _ _ _ refl) d;
  forth = λ l r gs w f s d. let m = unsized_forth l c y.at y.tree y.height r.0 r.1 gs rest w n s d in (r.0, same_pair refl m.0, m.1);
}

sized_forth : (l : Limits) (c : Context) (at : Span) (y : Expr) (dy : ℕ) (sg : Segment) (d : ℕ) (gs : List Goal) (j : Word) (w : List Word) → j.kind ≡ k.Colon → Follows l segment_longer gs → Spells l (Of (SegmentRest c at y dy sg d) ∷ gs) (j ∷ w) →
    (z : Placed Expr) × (d ≡ max dy z.height) × Spells l (Of (Simple c z.at z.tree z.height) ∷ Of (SegmentType at y (Some z.tree) sg) ∷ gs) w
sized_forth l c at y dy sg d gs j w h f (expands _ (sized c_0 at_0 y_0 dy_0 sg_0 d_0 az z_0 dz q0) (takes t kk z)) = (record { at = az; tree = z_0; height = dz }, q0, z)
sized_forth l c at y dy sg d gs j w h f (expands _ (unsized c_0 at_0 y_0 dy_0 sg_0 d_0 q0) (expands _ (typed at_1 y_1 size_1 sg_1 sp_1 sps_1 q1) (takes t kk z))) = cc
sized_forth l c at y dy sg d gs j w h f (expands _ (unsized c_0 at_0 y_0 dy_0 sg_0 d_0 q0) (expands _ (untyped at_1 y_1 size_1 sg_1 q1) z)) = absurd (f j w (ap segment_longer h) z)

pub on_sized : {most : Limits} (c : Context) (y : Placed Expr) (j : Word) (rest : List Word) → j.kind ≡ k.Colon → Passes most {X = Segment × ℕ} {Y = Placed Expr × Segment} segment_longer (segment_rest_in c y) (j ∷ rest) (λ p. simple_in c p.0 ++ segment_type_in y.at y.tree (Some p.0.tree) p.1) rest (λ p. (p.1, max y.height p.0.height))
on_sized c y j rest h = record {
  front = j ∷ [];
  whole = refl;
  back = λ l v p gs w d. expands _ (sized c _ _ _ _ _ _ _ _ refl) (takes j h d);
  forth = λ l r gs w f s d. let m = sized_forth l c y.at y.tree y.height r.0 r.1 gs j w h f d in ((m.0, r.0), same_pair refl m.1, m.2);
}

pub type_spelled : {most : Limits} (y : Placed Expr) → Spelled most {X = Placed Expr} {Y = Segment} (λ z. segment_type_in y.at y.tree (Some z.tree)) []
type_spelled y = record { tree = λ z. record { at = y.at; value = y.tree; size = Some z.tree; specs = [] }; spelled = λ l v z gs w d. expands _ (untyped _ _ _ _ refl) d }

pub rest_spelled : {most : Limits} (c : Context) → Spelled most {X = Placed Expr} {Y = Segment × ℕ} (segment_rest_in c) []
rest_spelled c = record { tree = λ y. (record { at = y.at; value = y.tree; size = None; specs = [] }, y.height); spelled = λ l v y gs w d. expands _ (unsized c _ _ _ _ _ refl) (expands _ (untyped _ _ _ _ refl) d) }

-- ---- A segment with an operator before its value

abbrev pub signed : Span → Prefix → Placed Expr → Placed Expr
signed at op y = record { at = at; tree = x.Unary at op (y.tree ∷ []); height = y.height + 1 }

same_prefix : {found : Option Prefix} {p q : Prefix} → found ≡ Some p → found ≡ Some q → p ≡ q
same_prefix a b = cc

pub prefixed_forth : (l : Limits) (c : Context) (sg : Segment) (d : ℕ) (gs : List Goal) (j : Word) (w : List Word) (op : Prefix) → prefix_of j.kind ≡ Some op → Spells l (Of (Prefixed c sg d) ∷ gs) (j ∷ w) →
    (c.deep + 1 ≤ l.trees) × (y : Placed Expr) × Spells l (Of (Simple (under c) y.at y.tree y.height) ∷ Of (SegmentRest c j.at (x.Unary j.at op (y.tree ∷ [])) (y.height + 1) sg d) ∷ gs) w
prefixed_forth l c sg d gs j w op h (expands _ (prefixed c_0 sg_0 d_0 t op_0 ay y dy q0 q1) (this z)) =
    let P : Prefix → Type 0 = λ v. Spells l (Of (Simple (under c) ay y dy) ∷ Of (SegmentRest c j.at (x.Unary j.at v (y ∷ [])) (dy + 1) sg d) ∷ gs) w in
    (q1, record { at = ay; tree = y; height = dy }, subst P (same_prefix q0 h) z)

pub on_prefixed : {most : Limits} (c : Context) (j : Word) (rest : List Word) (op : Prefix) → prefix_of j.kind ≡ Some op → c.deep + 1 ≤ most.trees →
    Passes most {X = Segment × ℕ} {Y = Placed Expr × (Segment × ℕ)} segment_longer (prefixed_in c) (j ∷ rest) (λ p. simple_in (under c) p.0 ++ segment_rest_in c (signed j.at op p.0) p.1) rest (λ p. p.1)
on_prefixed c j rest op h b = record {
  front = j ∷ [];
  whole = refl;
  back = λ l v p gs w d. let room : c.deep + 1 ≤ l.trees = omega (arith, v.trees) in expands _ (prefixed c _ _ j op _ _ _ h room) (this d);
  forth = λ l r gs w f s d. let m = prefixed_forth l c r.0 r.1 gs j w op h d in ((m.1, r), refl, m.2);
}

pub signed_spelled : {most : Limits} (c : Context) (at : Span) (op : Prefix) → Spelled most {X = Placed Expr} {Y = Segment × ℕ} (λ y. segment_rest_in c (signed at op y)) []
signed_spelled c at op = record { tree = λ y. (record { at = at; value = x.Unary at op (y.tree ∷ []); size = None; specs = [] }, y.height + 1); spelled = λ l v y gs w d. expands _ (unsized c _ _ _ _ _ refl) (expands _ (untyped _ _ _ _ refl) d) }

-- ---- A segment

segment_value_forth : (l : Limits) (c : Context) (sg : Segment) (d : ℕ) (gs : List Goal) (rest w : List Word) → NoPrefix rest → SameHead w rest → Spells l (Of (ASegment c sg d) ∷ gs) w →
    (y : Placed Expr) × Spells l (Of (Simple c y.at y.tree y.height) ∷ Of (SegmentRest c y.at y.tree y.height sg d) ∷ gs) w
segment_value_forth l c sg d gs rest w n s (expands _ (segment c_0 sg_0 d_0 ay y dy) z) = (record { at = ay; tree = y; height = dy }, z)
segment_value_forth l c sg d gs _ w no_prefix_end s (expands _ (segment_prefixed c_0 sg_0 d_0) (expands _ (prefixed c_1 sg_1 d_1 t op ay y dy q0 q1) (this z))) = absurd s
segment_value_forth l c sg d gs _ w (no_prefix_word j rest n) s (expands _ (segment_prefixed c_0 sg_0 d_0) (expands _ (prefixed c_1 sg_1 d_1 t op ay y dy q0 q1) (this z))) = absurd (no_prefix n (ap (λ v. prefix_of v.kind) (sym s) ∙ q0))

pub on_segment_value : {most : Limits} (c : Context) (rest : List Word) → NoPrefix rest → Passes most {X = Segment × ℕ} {Y = Placed Expr × (Segment × ℕ)} segment_longer (segment_in c) rest (λ p. simple_in c p.0 ++ segment_rest_in c p.0 p.1) rest (λ p. p.1)
on_segment_value c rest n = record {
  front = [];
  whole = refl;
  back = λ l v p gs w d. expands _ (segment c _ _ _ _ _) d;
  forth = λ l r gs w f s d. let m = segment_value_forth l c r.0 r.1 gs rest w n s d in ((m.0, r), refl, m.1);
}

segment_prefixed_forth : (l : Limits) (c : Context) (sg : Segment) (d : ℕ) (gs : List Goal) (j : Word) (w : List Word) (op : Prefix) → prefix_of j.kind ≡ Some op → Spells l (Of (ASegment c sg d) ∷ gs) (j ∷ w) → Spells l (Of (Prefixed c sg d) ∷ gs) (j ∷ w)
segment_prefixed_forth l c sg d gs j w op h (expands _ (segment_prefixed c_0 sg_0 d_0) z) = z
segment_prefixed_forth l c sg d gs j w op h (expands _ (segment c_0 sg_0 d_0 ay y dy) z) = absurd (no_signed_value l c ay y dy (Of (SegmentRest c ay y dy sg d) ∷ gs) j w op h z)

segment_prefixed_by : (l : Limits) (c : Context) (sg : Segment) (d : ℕ) (gs : List Goal) (j : Word) (rest w : List Word) (op : Prefix) → prefix_of j.kind ≡ Some op → SameHead w (j ∷ rest) → Spells l (Of (ASegment c sg d) ∷ gs) w → Spells l (Of (Prefixed c sg d) ∷ gs) w
segment_prefixed_by l c sg d gs j rest [] op h s z = absurd s
segment_prefixed_by l c sg d gs j rest (t ∷ w) op h s z = segment_prefixed_forth l c sg d gs t w op (ap (λ v. prefix_of v.kind) s ∙ h) z

pub on_segment_prefixed : {most : Limits} (c : Context) (j : Word) (rest : List Word) (op : Prefix) → prefix_of j.kind ≡ Some op → Passes most {X = Segment × ℕ} {Y = Segment × ℕ} segment_longer (segment_in c) (j ∷ rest) (prefixed_in c) (j ∷ rest) (λ p. p)
on_segment_prefixed c j rest op h = record {
  front = [];
  whole = refl;
  back = λ l v p gs w d. expands _ (segment_prefixed c _ _) d;
  forth = λ l r gs w f s d. (r, refl, segment_prefixed_by l c r.0 r.1 gs j rest w op h s d);
}

abbrev some_segment : Segment
some_segment = record { at = some_place; value = x.Var some_place []; size = None; specs = [] }

stops_signed : (most : Limits) (c : Context) (j : Word) (rest : List Word) (op : Prefix) → prefix_of j.kind ≡ Some op → most.trees < c.deep + 1 → (l : Limits) → l.trees ≡ most.trees → (r : Segment × ℕ) (gs : List Goal) (w : List Word) → SameHead w (j ∷ rest) → Spells l (segment_in c r ++ gs) w → ⊥
stops_signed most c j rest op h b l i r gs [] s d = s
stops_signed most c j rest op h b l i r gs (t ∷ w) s d =
    let o : prefix_of t.kind ≡ Some op = ap (λ v. prefix_of v.kind) s ∙ h in
    let m = prefixed_forth l c r.0 r.1 gs t w op o (segment_prefixed_forth l c r.0 r.1 gs t w op o d) in
    let a : c.deep + 1 ≤ l.trees = m.0 in omega arith

pub signed_too_deep : {most : Limits} (c : Context) (j : Word) (rest : List Word) (op : Prefix) → prefix_of j.kind ≡ Some op → most.trees < c.deep + 1 → IsRefused most {X = Segment × ℕ} segment_longer (segment_in c) (j ∷ rest) (j ∷ rest) TooDeep
signed_too_deep {most = most} c j rest op h b = record {
  front = [];
  whole = refl;
  tree = (some_segment, 1);
  more = some_word ∷ [];
  goes_on = λ l v gs w d. expands _ (segment c some_segment 1 some_place (x.Var some_place []) 1) (value_spelled l c (Of (SegmentRest c some_place (x.Var some_place []) 1 some_segment 1) ∷ gs) w (expands _ (unsized c _ _ _ _ _ refl) (expands _ (untyped _ _ _ _ refl) d)));
  stops = λ l i r gs w f s d. stops_signed most c j rest op h b l i.trees r gs w s d;
  excused = record {
    limits = deeper most (c.deep + 1) 0;
    wide = deeper_wide most (c.deep + 1) 0;
    allows = (refl, refl);
    first = j;
    behind = rest;
    begins = refl;
    tree = (record { at = j.at; value = x.Unary j.at op (x.Var some_place [] ∷ []); size = None; specs = [] }, 2);
    more = some_word ∷ [];
    goes_on = λ gs w d. let room : c.deep + 1 ≤ most.trees + (c.deep + 1) = omega arith in
        expands _ (segment_prefixed c _ _) (expands _ (prefixed c _ _ j op some_place (x.Var some_place []) 1 h room) (this (value_spelled (deeper most (c.deep + 1) 0) (under c) _ w (expands _ (unsized c _ _ _ _ _ refl) (expands _ (untyped _ _ _ _ refl) d)))));
  };
}
