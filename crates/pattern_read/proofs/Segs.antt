-- The laws of sizes and segments of patterns, and what each exit of their readers says.
use Rattle.std.proofs.Common.{◌≡◌, ℕ, ℤ, ◌+◌, ◌≤◌, ◌<◌, max, false, IsTrue, List, [], ◌∷◌, ◌++◌, append_assoc, drop, Some, None, Result, Ok, Err, refl, sym, ap, ◌∙◌, arith, pos}
use Rattle.erl_syntax.specs.declared.span.Span.{Span}
use Rattle.erl_syntax.specs.declared.token.TokenKind.{TokenKind}
use Rattle.erl_syntax.specs.declared.token.TokenKind.TheVariants as k
use Rattle.erl_syntax.specs.declared.expr.Expr.{Expr}
use Rattle.erl_syntax.specs.declared.expr.Expr.TheVariants as x
use Rattle.erl_syntax.specs.declared.segment.Segment.{Segment}
use Rattle.erl_syntax.specs.Word.{Word}
use Rattle.erl_syntax.specs.Grammar.{Context, under, inside, Limits, Goal, Mark, Of, Level, SegmentType, PatternBits, MorePatternSegments, PatternSegment, PatternSegmentRest, PatternSize, typed, untyped, no_pattern_bits, pattern_bits, more_pattern_segments, end_pattern_segments, pattern_segment, pattern_sized, pattern_unsized, size_integer, size_variable, size_paren, Spells, takes, this, expands}
use Rattle.pattern_read.specs.Cursor.{StandsAt, number_of}
use Rattle.pattern_read.specs.declared.cursor.Numbered.{Numbered}
use Rattle.pattern_read.specs.declared.placed.Placed.{Placed}
use Rattle.pattern_read.specs.declared.fault.Fault.{Fault}
use Rattle.pattern_read.specs.declared.fault.Cause.{Cause}
use Rattle.pattern_read.specs.declared.fault.Cause.TheVariants.{Syntax, TooDeep}
use Rattle.pattern_read.specs.Reading.{Passes, IsRefused, Follows, SameHead, Gives, closed, nothing}
use Rattle.pattern_read.specs.Wanted.{IsAt, NoMark, no_mark_end, no_mark, extends, level_in, mark_in}
use Rattle.pattern_read.specs.WantedPatterns.{begins_value, goes_typed, goes_sized, pattern_value_in, pattern_size_in, pattern_rest_in, pattern_segment_in, pattern_bits_in, segment_type_in, FirstToken, only_deeper, at_end, at_other}
use Rattle.pattern_read.proofs.Passing.{Within, same_kinds, Behind, behind_closed, Spelled, spells_at, and_then, refused_after, first_of_two, at_token, refused_at, remade, fault_after, fault_first}
use Rattle.pattern_read.proofs.Levels.{same_pair}
use Rattle.pattern_read.proofs.Operands.{behind_mark, mark_spelled, mark_word, some_place, some_word, level_completed, deeper, deeper_wide}
use Rattle.pattern_read.proofs.Values.{value_none, NoValue, no_value, no_value_there, Begun, begun}
use Rattle.pattern_read.specs.Cursor.{Readable}

-- ---- Sizes

size_variable_forth : (l : Limits) (c : Context) (e : Expr) (d : ℕ) (gs : List Goal) (j : Word) (w : List Word) → j.kind ≡ k.Variable → Spells l (Of (PatternSize c e d) ∷ gs) (j ∷ w) → (e ≡ x.Var j.at j.chars) × (d ≡ 1) × Spells l gs w
size_variable_forth l c e d gs j w h (expands _ (size_integer c_0 e_0 d_0 t q0 q1 q2) (this z)) = cc
size_variable_forth l c e d gs j w h (expands _ (size_variable c_0 e_0 d_0 t q0 q1 q2) (this z)) = (q1, q2, z)
size_variable_forth l c e d gs j w h (expands _ (size_paren c_0 e_0 d_0 ay q0) (takes t kk z)) = cc

on_size_variable : {most : Limits} (c : Context) (j : Word) (rest : List Word) → j.kind ≡ k.Variable → Passes most {X = Expr × ℕ} closed (pattern_size_in c) (j ∷ rest) nothing rest (λ u. (x.Var j.at j.chars, 1))
on_size_variable c j rest h = record {
  front = j ∷ [];
  whole = refl;
  back = λ l v u gs w d. expands _ (size_variable c _ _ j h refl refl) (this d);
  forth = λ l r gs w o s d. let m = size_variable_forth l c r.0 r.1 gs j w h d in (tt, same_pair m.0 m.1, m.2);
}

size_integer_forth : (l : Limits) (c : Context) (e : Expr) (d : ℕ) (gs : List Goal) (j : Word) (w : List Word) → j.kind ≡ k.Integer → Spells l (Of (PatternSize c e d) ∷ gs) (j ∷ w) → (e ≡ x.Int j.at (pos j.number)) × (d ≡ 1) × Spells l gs w
size_integer_forth l c e d gs j w h (expands _ (size_integer c_0 e_0 d_0 t q0 q1 q2) (this z)) = (q1, q2, z)
size_integer_forth l c e d gs j w h (expands _ (size_variable c_0 e_0 d_0 t q0 q1 q2) (this z)) = cc
size_integer_forth l c e d gs j w h (expands _ (size_paren c_0 e_0 d_0 ay q0) (takes t kk z)) = cc

on_size_integer : {most : Limits} (c : Context) (j : Word) (rest : List Word) → j.kind ≡ k.Integer → Passes most {X = Expr × ℕ} closed (pattern_size_in c) (j ∷ rest) nothing rest (λ u. (x.Int j.at (pos j.number), 1))
on_size_integer c j rest h = record {
  front = j ∷ [];
  whole = refl;
  back = λ l v u gs w d. expands _ (size_integer c _ _ j h refl refl) (this d);
  forth = λ l r gs w o s d. let m = size_integer_forth l c r.0 r.1 gs j w h d in (tt, same_pair m.0 m.1, m.2);
}

size_paren_forth : (l : Limits) (c : Context) (e : Expr) (d : ℕ) (gs : List Goal) (j : Word) (w : List Word) → j.kind ≡ k.LeftParen → Spells l (Of (PatternSize c e d) ∷ gs) (j ∷ w) → (c.open_ < l.brackets) × (ay : Span) × Spells l (Of (Level 0 (inside c) ay e d) ∷ Mark k.RightParen ∷ gs) w
size_paren_forth l c e d gs j w h (expands _ (size_integer c_0 e_0 d_0 t q0 q1 q2) (this z)) = cc
size_paren_forth l c e d gs j w h (expands _ (size_variable c_0 e_0 d_0 t q0 q1 q2) (this z)) = cc
size_paren_forth l c e d gs j w h (expands _ (size_paren c_0 e_0 d_0 ay q0) (takes t kk z)) = (q0, ay, z)

on_size_paren : {most : Limits} (c : Context) (j : Word) (rest : List Word) → j.kind ≡ k.LeftParen → c.open_ < most.brackets →
    Passes most {X = Expr × ℕ} {Y = Placed Expr × Unit {0}} closed (pattern_size_in c) (j ∷ rest) (λ q. level_in 0 (inside c) q.0 ++ mark_in k.RightParen q.1) rest (λ q. (q.0.tree, q.0.height))
on_size_paren c j rest h b = record {
  front = j ∷ [];
  whole = refl;
  back = λ l v q gs w d. let room : c.open_ < l.brackets = omega (arith, v.brackets) in expands _ (size_paren c _ _ _ room) (takes j h d);
  forth = λ l r gs w o s d. let m = size_paren_forth l c r.0 r.1 gs j w h d in ((record { at = m.1; tree = r.0; height = r.1 }, tt), same_pair refl refl, m.2);
}

size_spells : (l : Limits) (c : Context) (gs : List Goal) (w : List Word) → Spells l gs w → Spells l (Of (PatternSize c (x.Var some_place []) 1) ∷ gs) (some_word ∷ w)
size_spells l c gs w d = expands _ (size_variable c _ _ some_word refl refl refl) (this d)

stops_paren : (most : Limits) (c : Context) (j : Word) (rest : List Word) → j.kind ≡ k.LeftParen → most.brackets ≤ c.open_ → (l : Limits) → l.brackets ≡ most.brackets → (r : Expr × ℕ) (gs : List Goal) (w : List Word) → SameHead w (j ∷ rest) → Spells l (pattern_size_in c r ++ gs) w → ⊥
stops_paren most c j rest h b l i r gs [] s d = s
stops_paren most c j rest h b l i r gs (t ∷ w) s d = let m = size_paren_forth l c r.0 r.1 gs t w (ap (λ v. v.kind) s ∙ h) d in let a : c.open_ < l.brackets = m.0 in omega arith

size_too_deep : {most : Limits} (c : Context) (j : Word) (rest : List Word) → j.kind ≡ k.LeftParen → most.brackets ≤ c.open_ → IsRefused most {X = Expr × ℕ} closed (pattern_size_in c) (j ∷ rest) (j ∷ rest) TooDeep
size_too_deep {most = most} c j rest h b = record {
  front = [];
  whole = refl;
  tree = (x.Var some_place [], 1);
  more = some_word ∷ [];
  goes_on = λ l v gs w d. size_spells l c gs w d;
  stops = λ l i r gs w o s d. stops_paren most c j rest h b l i.brackets r gs w s d;
  excused = record {
    limits = deeper most 0 (c.open_ + 1);
    wide = deeper_wide most 0 (c.open_ + 1);
    allows = (refl, refl);
    first = j;
    behind = rest;
    begins = refl;
    tree = (x.Var some_place [], 1);
    more = some_word ∷ (mark_word k.RightParen ∷ []);
    goes_on = λ gs w d. expands _ (size_paren c _ _ some_place (omega arith)) (takes j h (level_completed 0 (deeper most 0 (c.open_ + 1)) (inside c) (Mark k.RightParen ∷ gs) (mark_word k.RightParen ∷ w) (takes (mark_word k.RightParen) refl d)));
  };
}

size_none : (l : Limits) (c : Context) (e : Expr) (d : ℕ) (gs : List Goal) (rest w : List Word) → NoMark k.Integer rest → NoMark k.Variable rest → NoMark k.LeftParen rest → SameHead w rest → Spells l (Of (PatternSize c e d) ∷ gs) w → ⊥
size_none l c e d gs _ w no_mark_end b o s (expands _ (size_integer c_0 e_0 d_0 t q0 q1 q2) (this z)) = s
size_none l c e d gs _ w (no_mark j rest a) b o s (expands _ (size_integer c_0 e_0 d_0 t q0 q1 q2) (this z)) = a (ap (λ v. v.kind) (sym s) ∙ q0)
size_none l c e d gs _ w a no_mark_end o s (expands _ (size_variable c_0 e_0 d_0 t q0 q1 q2) (this z)) = s
size_none l c e d gs _ w a (no_mark j rest b) o s (expands _ (size_variable c_0 e_0 d_0 t q0 q1 q2) (this z)) = b (ap (λ v. v.kind) (sym s) ∙ q0)
size_none l c e d gs _ w a b no_mark_end s (expands _ (size_paren c_0 e_0 d_0 ay q0) (takes t kk z)) = s
size_none l c e d gs _ w a b (no_mark j rest o) s (expands _ (size_paren c_0 e_0 d_0 ay q0) (takes t kk z)) = o (ap (λ v. v.kind) (sym s) ∙ kk)

size_refused : {most : Limits} (c : Context) (rest : List Word) → NoMark k.Integer rest → NoMark k.Variable rest → NoMark k.LeftParen rest → IsRefused most {X = Expr × ℕ} closed (pattern_size_in c) rest rest Syntax
size_refused c rest a b o = record {
  front = [];
  whole = refl;
  tree = (x.Var some_place [], 1);
  more = some_word ∷ [];
  goes_on = λ l v gs w d. size_spells l c gs w d;
  stops = λ l v r gs w p s d. size_none l c r.0 r.1 gs rest w a b o s d;
  excused = tt;
}

pub size_integer_ok : (c : Context) (ws : Readable) (at : ℕ) (n : Numbered) (z : ℤ) → (s : StandsAt ws at n) → n.token.kind ≡ k.Integer → z ≡ pos n.value → Gives closed (pattern_size_in c) ws at (Ok ((x.Int n.token.span z, 1), at + 1))
size_integer_ok c ws at n z s h e = remade (λ u. same_pair (ap (λ v. x.Int v (pos s.word.number)) s.place ∙ ap (λ v. x.Int n.token.span (pos v)) (s.number ∙ ap (number_of n) h) ∙ ap (λ v. x.Int n.token.span v) (sym e)) refl) (at_token s.is (on_size_integer c s.word (drop (at + 1) ws.words) (s.kind ∙ h)))

pub size_variable_ok : (c : Context) (ws : Readable) (at : ℕ) (n : Numbered) (name : List ℕ) → (s : StandsAt ws at n) → n.token.kind ≡ k.Variable → name ≡ s.word.chars → Gives closed (pattern_size_in c) ws at (Ok ((x.Var n.token.span name, 1), at + 1))
size_variable_ok c ws at n name s h e = remade (λ u. same_pair (ap (λ v. x.Var v s.word.chars) s.place ∙ ap (λ v. x.Var n.token.span v) (sym e)) refl) (at_token s.is (on_size_variable c s.word (drop (at + 1) ws.words) (s.kind ∙ h)))

pub size_paren_deep : (c : Context) (ws : Readable) (at : ℕ) (n : Numbered) → StandsAt ws at n → n.token.kind ≡ k.LeftParen → ws.limits.brackets ≤ c.open_ → IsRefused ws.limits {X = Expr × ℕ} closed (pattern_size_in c) (drop at ws.words) (drop at ws.words) TooDeep
size_paren_deep c ws at n s h b = refused_at s.is (size_too_deep c s.word (drop (at + 1) ws.words) (s.kind ∙ h) b)

paren_behind : Behind {X = Placed Expr} {Y = Unit {0}} (extends 0) closed (λ q. mark_in k.RightParen)
paren_behind = behind_mark k.RightParen (extends 0) closed refl

size_inside : (c : Context) (ws : Readable) (at : ℕ) (n : Numbered) → StandsAt ws at n → n.token.kind ≡ k.LeftParen → c.open_ < ws.limits.brackets → Passes ws.limits {X = Expr × ℕ} {Y = Placed Expr × Unit {0}} closed (pattern_size_in c) (drop at ws.words) (λ q. level_in 0 (inside c) q.0 ++ mark_in k.RightParen q.1) (drop (at + 1) ws.words) (λ q. (q.0.tree, q.0.height))
size_inside c ws at n s h b = at_token s.is (on_size_paren c s.word (drop (at + 1) ws.words) (s.kind ∙ h) b)

pub size_paren_err : (c : Context) (ws : Readable) (at : ℕ) (n : Numbered) (f : Fault) → StandsAt ws at n → n.token.kind ≡ k.LeftParen → c.open_ < ws.limits.brackets → Gives (extends 0) (level_in 0 (inside c)) ws (at + 1) (Err f) → Gives closed (pattern_size_in c) ws at (Err f)
size_paren_err c ws at n f s h b g = fault_after ws at (at + 1) f (same_kinds closed) (size_inside c ws at n s h b) (fault_first (level_in 0 (inside c)) ws (at + 1) f paren_behind (mark_spelled k.RightParen) g)

size_then : (c : Context) (ws : Readable) (at after : ℕ) (n : Numbered) (y : Placed Expr) → StandsAt ws at n → n.token.kind ≡ k.LeftParen → c.open_ < ws.limits.brackets → Gives (extends 0) (level_in 0 (inside c)) ws (at + 1) (Ok (y, after)) → Passes ws.limits {X = Expr × ℕ} {Y = Unit {0}} closed (pattern_size_in c) (drop at ws.words) (mark_in k.RightParen) (drop after ws.words) (λ u. (y.tree, y.height))
size_then c ws at after n y s h b g = and_then (same_kinds closed) (size_inside c ws at n s h b) (first_of_two paren_behind g)

pub size_close_err : (c : Context) (ws : Readable) (at after : ℕ) (n : Numbered) (y : Placed Expr) (f : Fault) → StandsAt ws at n → n.token.kind ≡ k.LeftParen → c.open_ < ws.limits.brackets → Gives (extends 0) (level_in 0 (inside c)) ws (at + 1) (Ok (y, after)) → Gives closed (mark_in k.RightParen) ws after (Err f) → Gives closed (pattern_size_in c) ws at (Err f)
size_close_err c ws at after n y f s h b g m = fault_after ws at after f (same_kinds closed) (size_then c ws at after n y s h b g) m

pub size_close : (c : Context) (ws : Readable) (at after next : ℕ) (n : Numbered) (y : Placed Expr) (u : Unit {0}) → StandsAt ws at n → n.token.kind ≡ k.LeftParen → c.open_ < ws.limits.brackets → Gives (extends 0) (level_in 0 (inside c)) ws (at + 1) (Ok (y, after)) → Gives closed (mark_in k.RightParen) ws after (Ok (u, next)) → Gives closed (pattern_size_in c) ws at (Ok ((y.tree, y.height), next))
size_close c ws at after next n y u s h b g m = and_then (same_kinds closed) (size_then c ws at after n y s h b g) m

pub size_there : (c : Context) (ws : Readable) (at : ℕ) → drop at ws.words ≡ [] → IsRefused ws.limits {X = Expr × ℕ} closed (pattern_size_in c) (drop at ws.words) (drop at ws.words) Syntax
size_there c ws at e = refused_at e (size_refused c [] no_mark_end no_mark_end no_mark_end)

pub size_other : (c : Context) (ws : Readable) (at : ℕ) (n : Numbered) → StandsAt ws at n → (n.token.kind ≡ k.Integer → ⊥) → (n.token.kind ≡ k.Variable → ⊥) → (n.token.kind ≡ k.LeftParen → ⊥) → IsRefused ws.limits {X = Expr × ℕ} closed (pattern_size_in c) (drop at ws.words) (drop at ws.words) Syntax
size_other c ws at n s a b o = refused_at s.is (size_refused c (s.word ∷ drop (at + 1) ws.words) (no_mark s.word _ (λ e. a (sym s.kind ∙ e))) (no_mark s.word _ (λ e. b (sym s.kind ∙ e))) (no_mark s.word _ (λ e. o (sym s.kind ∙ e))))

-- ---- Behind a value

typed_sized : (kind : TokenKind) → IsTrue (goes_typed kind) → IsTrue (goes_sized kind)
typed_sized k.Slash h = refl
typed_sized k.Minus h = refl
typed_sized _ h = cc

typed_within : Within goes_typed goes_sized
typed_within = record { within = typed_sized }

abbrev pub size_and_type : Context → Placed Expr → (Expr × ℕ) × Segment → List Goal
size_and_type c y q = pattern_size_in c q.0 ++ segment_type_in y.at y.tree (Some q.0.0) q.1

no_type : (l : Limits) (at : Span) (y : Expr) (sg : Segment) (gs : List Goal) (j : Word) (w : List Word) → j.kind ≡ k.Colon → Follows l goes_sized gs → Spells l (Of (SegmentType at y None sg) ∷ gs) (j ∷ w) → ⊥
no_type l at y sg gs j w h o (expands _ (untyped at_0 y_0 size_0 sg_0 e) z) = o j w (ap goes_sized h) z
no_type l at y sg gs j w h o (expands _ (typed at_0 y_0 size_0 sg_0 sp sps e) (takes t i z)) = cc

colon_forth : (l : Limits) (c : Context) (at : Span) (y : Expr) (dy : ℕ) (sg : Segment) (d : ℕ) (gs : List Goal) (j : Word) (w : List Word) → j.kind ≡ k.Colon → Follows l goes_sized gs → Spells l (Of (PatternSegmentRest c at y dy sg d) ∷ gs) (j ∷ w) → (q : (Expr × ℕ) × Segment) × (sg ≡ q.1) × (d ≡ max dy q.0.1) × Spells l (pattern_size_in c q.0 ++ (segment_type_in at y (Some q.0.0) q.1 ++ gs)) w
colon_forth l c at y dy sg d gs j w h o (expands _ (pattern_sized c_0 at_0 y_0 dy_0 sg_0 d_0 z dz q0) (takes t i r)) = (((z, dz), sg), refl, q0, r)
colon_forth l c at y dy sg d gs j w h o (expands _ (pattern_unsized c_0 at_0 y_0 dy_0 sg_0 d_0 q0) r) = absurd (no_type l at y sg gs j w h o r)

on_colon : {most : Limits} (c : Context) (y : Placed Expr) (j : Word) (rest : List Word) → j.kind ≡ k.Colon → Passes most {X = Segment × ℕ} {Y = (Expr × ℕ) × Segment} goes_sized (pattern_rest_in c y) (j ∷ rest) (size_and_type c y) rest (λ q. (q.1, max y.height q.0.1))
on_colon c y j rest h = record {
  front = j ∷ [];
  whole = refl;
  back = λ l v q gs w d. expands _ (pattern_sized c _ _ _ _ _ q.0.0 q.0.1 refl) (takes j h d);
  forth = λ l r gs w o s d. let m = colon_forth l c y.at y.tree y.height r.0 r.1 gs j w h o d in (m.0, same_pair m.1 m.2, m.3);
}

unsized_forth : (l : Limits) (c : Context) (at : Span) (y : Expr) (dy : ℕ) (sg : Segment) (d : ℕ) (gs : List Goal) (rest w : List Word) → NoMark k.Colon rest → SameHead w rest → Spells l (Of (PatternSegmentRest c at y dy sg d) ∷ gs) w → (d ≡ dy) × Spells l (Of (SegmentType at y None sg) ∷ gs) w
unsized_forth l c at y dy sg d gs rest w n s (expands _ (pattern_unsized c_0 at_0 y_0 dy_0 sg_0 d_0 q0) r) = (q0, r)
unsized_forth l c at y dy sg d gs _ w no_mark_end s (expands _ (pattern_sized c_0 at_0 y_0 dy_0 sg_0 d_0 z dz q0) (takes t i r)) = absurd s
unsized_forth l c at y dy sg d gs _ w (no_mark j rest n) s (expands _ (pattern_sized c_0 at_0 y_0 dy_0 sg_0 d_0 z dz q0) (takes t i r)) = absurd (n (ap (λ v. v.kind) (sym s) ∙ i))

on_unsized : {most : Limits} (c : Context) (y : Placed Expr) (rest : List Word) → NoMark k.Colon rest → Passes most {X = Segment × ℕ} {Y = Segment} goes_sized (pattern_rest_in c y) rest (segment_type_in y.at y.tree None) rest (λ sg. (sg, y.height))
on_unsized c y rest n = record {
  front = [];
  whole = refl;
  back = λ l v sg gs w d. expands _ (pattern_unsized c _ _ _ _ _ refl) d;
  forth = λ l r gs w o s d. let m = unsized_forth l c y.at y.tree y.height r.0 r.1 gs rest w n s d in (r.0, same_pair refl m.0, m.1);
}

behind_size : (y : Placed Expr) → Behind {X = Expr × ℕ} {Y = Segment} closed goes_sized (λ q. segment_type_in y.at y.tree (Some q.0))
behind_size y = behind_closed goes_sized (λ q. segment_type_in y.at y.tree (Some q.0))

type_spelled : {most : Limits} (y : Placed Expr) → Spelled most {X = Expr × ℕ} {Y = Segment} (λ q. segment_type_in y.at y.tree (Some q.0)) []
type_spelled y = record { tree = λ q. record { at = y.at; value = y.tree; size = Some q.0; specs = [] }; spelled = λ l v q gs w d. expands _ (untyped y.at y.tree (Some q.0) _ refl) d }

pub rest_unsized_err : (c : Context) (ws : Readable) (at : ℕ) (y : Placed Expr) (f : Fault) → NoMark k.Colon (drop at ws.words) → Gives goes_typed (segment_type_in y.at y.tree None) ws at (Err f) → Gives goes_sized (pattern_rest_in c y) ws at (Err f)
rest_unsized_err c ws at y f n g = fault_after ws at at f typed_within (on_unsized c y (drop at ws.words) n) g

pub rest_unsized : (c : Context) (ws : Readable) (at next : ℕ) (y : Placed Expr) (sg : Segment) → NoMark k.Colon (drop at ws.words) → Gives goes_typed (segment_type_in y.at y.tree None) ws at (Ok (sg, next)) → Gives goes_sized (pattern_rest_in c y) ws at (Ok ((sg, y.height), next))
rest_unsized c ws at next y sg n g = and_then typed_within (on_unsized c y (drop at ws.words) n) g

rest_colon : (c : Context) (ws : Readable) (at : ℕ) (y : Placed Expr) → IsAt ws at k.Colon → Passes ws.limits {X = Segment × ℕ} {Y = (Expr × ℕ) × Segment} goes_sized (pattern_rest_in c y) (drop at ws.words) (size_and_type c y) (drop (at + 1) ws.words) (λ q. (q.1, max y.height q.0.1))
rest_colon c ws at y s = at_token s.is (on_colon c y s.word (drop (at + 1) ws.words) s.kind_is)

pub rest_size_err : (c : Context) (ws : Readable) (at : ℕ) (y : Placed Expr) (f : Fault) → IsAt ws at k.Colon → Gives closed (pattern_size_in c) ws (at + 1) (Err f) → Gives goes_sized (pattern_rest_in c y) ws at (Err f)
rest_size_err c ws at y f s g = fault_after ws at (at + 1) f (same_kinds goes_sized) (rest_colon c ws at y s) (fault_first (pattern_size_in c) ws (at + 1) f (behind_size y) (type_spelled y) g)

rest_size : (c : Context) (ws : Readable) (at after : ℕ) (y : Placed Expr) (z : Expr) (dz : ℕ) → IsAt ws at k.Colon → Gives closed (pattern_size_in c) ws (at + 1) (Ok ((z, dz), after)) → Passes ws.limits {X = Segment × ℕ} {Y = Segment} goes_sized (pattern_rest_in c y) (drop at ws.words) (segment_type_in y.at y.tree (Some z)) (drop after ws.words) (λ sg. (sg, max y.height dz))
rest_size c ws at after y z dz s g = and_then (same_kinds goes_sized) (rest_colon c ws at y s) (first_of_two (behind_size y) g)

pub rest_type_err : (c : Context) (ws : Readable) (at after : ℕ) (y : Placed Expr) (z : Expr) (dz : ℕ) (f : Fault) → IsAt ws at k.Colon → Gives closed (pattern_size_in c) ws (at + 1) (Ok ((z, dz), after)) → Gives goes_typed (segment_type_in y.at y.tree (Some z)) ws after (Err f) → Gives goes_sized (pattern_rest_in c y) ws at (Err f)
rest_type_err c ws at after y z dz f s g h = fault_after ws at after f typed_within (rest_size c ws at after y z dz s g) h

pub rest_sized : (c : Context) (ws : Readable) (at after next : ℕ) (y : Placed Expr) (z : Expr) (dz h : ℕ) (sg : Segment) → IsAt ws at k.Colon → h ≡ max y.height dz → Gives closed (pattern_size_in c) ws (at + 1) (Ok ((z, dz), after)) → Gives goes_typed (segment_type_in y.at y.tree (Some z)) ws after (Ok (sg, next)) → Gives goes_sized (pattern_rest_in c y) ws at (Ok ((sg, h), next))
rest_sized c ws at after next y z dz h sg s e g t = remade (λ u. same_pair refl (sym e)) (and_then typed_within (rest_size c ws at after y z dz s g) t)

-- ---- A segment

abbrev pub value_and_rest : Context → Placed Expr × (Segment × ℕ) → List Goal
value_and_rest c q = pattern_value_in c q.0 ++ pattern_rest_in c q.0 q.1

segment_forth : (l : Limits) (c : Context) (sg : Segment) (d : ℕ) (gs : List Goal) (w : List Word) → Spells l (Of (PatternSegment c sg d) ∷ gs) w → (y : Placed Expr) × Spells l (pattern_value_in c y ++ (pattern_rest_in c y (sg, d) ++ gs)) w
segment_forth l c sg d gs w (expands _ (pattern_segment c_0 sg_0 d_0 ay y dy) z) = (record { at = ay; tree = y; height = dy }, z)

on_segment : {most : Limits} (c : Context) (rest : List Word) → Passes most {X = Segment × ℕ} {Y = Placed Expr × (Segment × ℕ)} goes_sized (pattern_segment_in c) rest (value_and_rest c) rest (λ q. q.1)
on_segment c rest = record {
  front = [];
  whole = refl;
  back = λ l v q gs w d. expands _ (pattern_segment c q.1.0 q.1.1 q.0.at q.0.tree q.0.height) d;
  forth = λ l r gs w o s d. let m = segment_forth l c r.0 r.1 gs w d in ((m.0, r), refl, m.1);
}

behind_value : (c : Context) → Behind {X = Placed Expr} {Y = Segment × ℕ} closed goes_sized (λ y. pattern_rest_in c y)
behind_value c = behind_closed goes_sized (λ y. pattern_rest_in c y)

rest_spelled : {most : Limits} (c : Context) → Spelled most {X = Placed Expr} {Y = Segment × ℕ} (λ y. pattern_rest_in c y) []
rest_spelled c = record { tree = λ y. (record { at = y.at; value = y.tree; size = None; specs = [] }, y.height); spelled = λ l v y gs w d. expands _ (pattern_unsized c _ _ _ _ _ refl) (expands _ (untyped y.at y.tree None _ refl) d) }

pub segment_value_err : (c : Context) (ws : Readable) (at : ℕ) (f : Fault) → Gives closed (pattern_value_in c) ws at (Err f) → Gives goes_sized (pattern_segment_in c) ws at (Err f)
segment_value_err c ws at f g = fault_after ws at at f (same_kinds goes_sized) (on_segment c (drop at ws.words)) (fault_first (pattern_value_in c) ws at f (behind_value c) (rest_spelled c) g)

pub segment_whole : (c : Context) (ws : Readable) (at after : ℕ) (y : Placed Expr) (r : Result ((Segment × ℕ) × ℕ) Fault) → Gives closed (pattern_value_in c) ws at (Ok (y, after)) → Gives goes_sized (pattern_rest_in c y) ws after r → Gives goes_sized (pattern_segment_in c) ws at r
segment_whole c ws at after y (Ok r) g h = and_then (same_kinds goes_sized) (and_then (same_kinds goes_sized) (on_segment c (drop at ws.words)) (first_of_two (behind_value c) g)) h
segment_whole c ws at after y (Err f) g h = fault_after ws at after f (same_kinds goes_sized) (and_then (same_kinds goes_sized) (on_segment c (drop at ws.words)) (first_of_two (behind_value c) g)) h

segment_none : (l : Limits) (c : Context) (sg : Segment) (d : ℕ) (gs : List Goal) (rest w : List Word) → NoValue rest → SameHead w rest → Spells l (Of (PatternSegment c sg d) ∷ gs) w → ⊥
segment_none l c sg d gs rest w n s (expands _ (pattern_segment c_0 sg_0 d_0 ay y dy) z) = value_none l c ay y dy (Of (PatternSegmentRest c ay y dy sg d) ∷ gs) rest w n s z

-- ---- Segments up to `>>`

abbrev pub more_segments_in : Context → List Segment × ℕ → List Goal
more_segments_in c r = Of (MorePatternSegments c r.0 r.1) ∷ []

abbrev pub segment_and_more : Context → (Segment × ℕ) × (List Segment × ℕ) → List Goal
segment_and_more c q = pattern_segment_in c q.0 ++ more_segments_in c q.1

no_bits_forth : (l : Limits) (c : Context) (sgs : List Segment) (d : ℕ) (gs : List Goal) (j : Word) (w : List Word) → j.kind ≡ k.RightBits → Spells l (Of (PatternBits c sgs d) ∷ gs) (j ∷ w) → (sgs ≡ []) × (d ≡ 1) × Spells l gs w
no_bits_forth l c _ d gs j w h (expands _ (no_pattern_bits c_0 d_0 q0) (takes t i z)) = (refl, q0, z)
no_bits_forth l c _ d gs j w h (expands _ (pattern_bits c_0 sg ds sgs dss d_0 q0 q1) z) = absurd (segment_none l (inside (under c)) sg ds (Of (MorePatternSegments (inside (under c)) sgs dss) ∷ gs) (j ∷ w) (j ∷ w) (no_value j w (ap begins_value h)) refl z)

on_no_bits : {most : Limits} (c : Context) (j : Word) (rest : List Word) → j.kind ≡ k.RightBits → Passes most {X = List Segment × ℕ} closed (pattern_bits_in c) (j ∷ rest) nothing rest (λ u. ([], 1))
on_no_bits c j rest h = record {
  front = j ∷ [];
  whole = refl;
  back = λ l v u gs w d. expands _ (no_pattern_bits c 1 refl) (takes j h d);
  forth = λ l r gs w o s d. let m = no_bits_forth l c r.0 r.1 gs j w h d in (tt, same_pair m.0 m.1, m.2);
}

bits_forth : (l : Limits) (c : Context) (sgs : List Segment) (d : ℕ) (gs : List Goal) (rest w : List Word) → NoMark k.RightBits rest → SameHead w rest → Spells l (Of (PatternBits c sgs d) ∷ gs) w → (c.deep + 1 ≤ l.trees) × (q : (Segment × ℕ) × (List Segment × ℕ)) × (sgs ≡ q.0.0 ∷ q.1.0) × (d ≡ max q.0.1 q.1.1 + 1) × Spells l (segment_and_more (inside (under c)) q ++ gs) w
bits_forth l c _ d gs rest w n s (expands _ (pattern_bits c_0 sg ds sgs dss d_0 q0 q1) z) = (q0, ((sg, ds), (sgs, dss)), refl, q1, z)
bits_forth l c _ d gs _ w no_mark_end s (expands _ (no_pattern_bits c_0 d_0 q0) (takes t i z)) = absurd s
bits_forth l c _ d gs _ w (no_mark j rest n) s (expands _ (no_pattern_bits c_0 d_0 q0) (takes t i z)) = absurd (n (ap (λ v. v.kind) (sym s) ∙ i))

on_first : {most : Limits} (c : Context) (rest : List Word) → c.deep + 1 ≤ most.trees → NoMark k.RightBits rest → Passes most {X = List Segment × ℕ} {Y = (Segment × ℕ) × (List Segment × ℕ)} closed (pattern_bits_in c) rest (segment_and_more (inside (under c))) rest (λ q. (q.0.0 ∷ q.1.0, max q.0.1 q.1.1 + 1))
on_first c rest b n = record {
  front = [];
  whole = refl;
  back = λ l v q gs w d. let room : c.deep + 1 ≤ l.trees = omega (arith, v.trees) in expands _ (pattern_bits c q.0.0 q.0.1 q.1.0 q.1.1 _ room refl) d;
  forth = λ l r gs w o s d. let m = bits_forth l c r.0 r.1 gs rest w n s d in (m.1, same_pair m.2 m.3, m.4);
}

comma_forth : (l : Limits) (c : Context) (sgs : List Segment) (d : ℕ) (gs : List Goal) (j : Word) (w : List Word) → j.kind ≡ k.Comma → Spells l (Of (MorePatternSegments c sgs d) ∷ gs) (j ∷ w) → (q : (Segment × ℕ) × (List Segment × ℕ)) × (sgs ≡ q.0.0 ∷ q.1.0) × (d ≡ max q.0.1 q.1.1) × Spells l (segment_and_more c q ++ gs) w
comma_forth l c _ d gs j w h (expands _ (more_pattern_segments c_0 sg ds sgs dss d_0 q0) (takes t i z)) = (((sg, ds), (sgs, dss)), refl, q0, z)
comma_forth l c _ d gs j w h (expands _ (end_pattern_segments c_0 d_0 q0) (takes t i z)) = cc

on_comma : {most : Limits} (c : Context) (j : Word) (rest : List Word) → j.kind ≡ k.Comma → Passes most {X = List Segment × ℕ} {Y = (Segment × ℕ) × (List Segment × ℕ)} closed (more_segments_in c) (j ∷ rest) (segment_and_more c) rest (λ q. (q.0.0 ∷ q.1.0, max q.0.1 q.1.1))
on_comma c j rest h = record {
  front = j ∷ [];
  whole = refl;
  back = λ l v q gs w d. expands _ (more_pattern_segments c q.0.0 q.0.1 q.1.0 q.1.1 _ refl) (takes j h d);
  forth = λ l r gs w o s d. let m = comma_forth l c r.0 r.1 gs j w h d in (m.0, same_pair m.1 m.2, m.3);
}

end_forth : (l : Limits) (c : Context) (sgs : List Segment) (d : ℕ) (gs : List Goal) (j : Word) (w : List Word) → j.kind ≡ k.RightBits → Spells l (Of (MorePatternSegments c sgs d) ∷ gs) (j ∷ w) → (sgs ≡ []) × (d ≡ 0) × Spells l gs w
end_forth l c _ d gs j w h (expands _ (more_pattern_segments c_0 sg ds sgs dss d_0 q0) (takes t i z)) = cc
end_forth l c _ d gs j w h (expands _ (end_pattern_segments c_0 d_0 q0) (takes t i z)) = (refl, q0, z)

on_end : {most : Limits} (c : Context) (j : Word) (rest : List Word) → j.kind ≡ k.RightBits → Passes most {X = List Segment × ℕ} closed (more_segments_in c) (j ∷ rest) nothing rest (λ u. ([], 0))
on_end c j rest h = record {
  front = j ∷ [];
  whole = refl;
  back = λ l v u gs w d. expands _ (end_pattern_segments c 0 refl) (takes j h d);
  forth = λ l r gs w o s d. let m = end_forth l c r.0 r.1 gs j w h d in (tt, same_pair m.0 m.1, m.2);
}

more_stops : (l : Limits) (c : Context) (sgs : List Segment) (d : ℕ) (gs : List Goal) (rest w : List Word) → NoMark k.Comma rest → NoMark k.RightBits rest → SameHead w rest → Spells l (Of (MorePatternSegments c sgs d) ∷ gs) w → ⊥
more_stops l c _ d gs _ w no_mark_end b s (expands _ (more_pattern_segments c_0 sg ds sgs dss d_0 q0) (takes t i z)) = s
more_stops l c _ d gs _ w (no_mark j rest a) b s (expands _ (more_pattern_segments c_0 sg ds sgs dss d_0 q0) (takes t i z)) = a (ap (λ v. v.kind) (sym s) ∙ i)
more_stops l c _ d gs _ w a no_mark_end s (expands _ (end_pattern_segments c_0 d_0 q0) (takes t i z)) = s
more_stops l c _ d gs _ w a (no_mark j rest b) s (expands _ (end_pattern_segments c_0 d_0 q0) (takes t i z)) = b (ap (λ v. v.kind) (sym s) ∙ i)

more_refused : {most : Limits} (c : Context) (rest : List Word) → NoMark k.Comma rest → NoMark k.RightBits rest → IsRefused most {X = List Segment × ℕ} closed (more_segments_in c) rest rest Syntax
more_refused c rest a b = record {
  front = [];
  whole = refl;
  tree = ([], 0);
  more = mark_word k.RightBits ∷ [];
  goes_on = λ l v gs w d. expands _ (end_pattern_segments c 0 refl) (takes (mark_word k.RightBits) refl d);
  stops = λ l i r gs w o s d. more_stops l c r.0 r.1 gs rest w a b s d;
  excused = tt;
}

more_lengthens : (l : Limits) (c : Context) (sgs : List Segment) (d : ℕ) (gs : List Goal) (j : Word) (w : List Word) → IsTrue (goes_sized j.kind) → Spells l (Of (MorePatternSegments c sgs d) ∷ gs) (j ∷ w) → ⊥
more_lengthens l c _ d gs j w h (expands _ (more_pattern_segments c_0 sg ds sgs dss d_0 q0) (takes t i z)) = let a : goes_sized j.kind ≡ false = ap goes_sized i in cc
more_lengthens l c _ d gs j w h (expands _ (end_pattern_segments c_0 d_0 q0) (takes t i z)) = let a : goes_sized j.kind ≡ false = ap goes_sized i in cc

behind_segment : (c : Context) → Behind {X = Segment × ℕ} {Y = List Segment × ℕ} goes_sized closed (λ q. more_segments_in c)
behind_segment c = record { behind = λ l p q gs o t w h d. more_lengthens l c q.0 q.1 gs t w h d }

more_spelled : {most : Limits} (c : Context) → Spelled most {X = Segment × ℕ} {Y = List Segment × ℕ} (λ q. more_segments_in c) (mark_word k.RightBits ∷ [])
more_spelled c = record { tree = λ q. ([], 0); spelled = λ l v q gs w d. expands _ (end_pattern_segments c 0 refl) (takes (mark_word k.RightBits) refl d) }

-- ---- A first segment that is too deep

stops_bits : (most : Limits) (l : Limits) (c : Context) (sgs : List Segment) (d : ℕ) (gs : List Goal) (j : Word) (rest w : List Word) → (j.kind ≡ k.RightBits → ⊥) → most.trees < c.deep + 1 → l.trees ≡ most.trees → SameHead w (j ∷ rest) → Spells l (Of (PatternBits c sgs d) ∷ gs) w → ⊥
stops_bits most l c sgs d gs j rest w n b i s z = let m = bits_forth l c sgs d gs (j ∷ rest) w (no_mark j rest n) s z in let a : c.deep + 1 ≤ l.trees = m.0 in omega arith

bits_too_deep : {most : Limits} (c : Context) (j : Word) (rest : List Word) → (j.kind ≡ k.RightBits → ⊥) → IsTrue (begins_value j.kind) → most.trees < c.deep + 1 → IsRefused most {X = List Segment × ℕ} closed (pattern_bits_in c) (j ∷ rest) (j ∷ rest) TooDeep
bits_too_deep {most = most} c j rest n b h = let g : Begun most (inside (under c)) j = begun (inside (under c)) j j.kind refl b in record {
  front = [];
  whole = refl;
  tree = ([], 1);
  more = mark_word k.RightBits ∷ [];
  goes_on = λ l v gs w d. expands _ (no_pattern_bits c 1 refl) (takes (mark_word k.RightBits) refl d);
  stops = λ l i r gs w o s d. stops_bits most l c r.0 r.1 gs j rest w n h i.trees s d;
  excused = record {
    limits = deeper most (c.deep + 1 + 1) 0;
    wide = deeper_wide most (c.deep + 1 + 1) 0;
    allows = (refl, refl);
    first = j;
    behind = rest;
    begins = refl;
    tree = (record { at = g.tree.at; value = g.tree.tree; size = None; specs = [] } ∷ [], max g.tree.height 0 + 1);
    more = g.more ++ (mark_word k.RightBits ∷ []);
    goes_on = λ gs w d.
        let end : Spells (deeper most (c.deep + 1 + 1) 0) (Of (MorePatternSegments (inside (under c)) [] 0) ∷ gs) (mark_word k.RightBits ∷ w) = expands _ (end_pattern_segments (inside (under c)) 0 refl) (takes (mark_word k.RightBits) refl d) in
        let sg : Segment = record { at = g.tree.at; value = g.tree.tree; size = None; specs = [] } in
        expands _ (pattern_bits c sg g.tree.height [] 0 (max g.tree.height 0 + 1) (omega arith) refl)
        (spells_at (ap (λ v. j ∷ v) (sym (append_assoc g.more (mark_word k.RightBits ∷ []) w)))
        (expands _ (pattern_segment (inside (under c)) sg g.tree.height g.tree.at g.tree.tree g.tree.height)
        (g.spelled 0 (Of (PatternSegmentRest (inside (under c)) g.tree.at g.tree.tree g.tree.height sg g.tree.height) ∷ Of (MorePatternSegments (inside (under c)) [] 0) ∷ gs) (mark_word k.RightBits ∷ w)
        (expands _ (pattern_unsized (inside (under c)) _ _ _ _ _ refl) (expands _ (untyped g.tree.at g.tree.tree None _ refl) end)))));
  };
}

bits_none : (l : Limits) (c : Context) (sgs : List Segment) (d : ℕ) (gs : List Goal) (rest w : List Word) → NoMark k.RightBits rest → NoValue rest → SameHead w rest → Spells l (Of (PatternBits c sgs d) ∷ gs) w → ⊥
bits_none l c sgs d gs rest w n b s z = let m = bits_forth l c sgs d gs rest w n s z in segment_none l (inside (under c)) m.1.0.0 m.1.0.1 (more_segments_in (inside (under c)) m.1.1 ++ gs) rest w b s m.4

bits_refused : {most : Limits} (c : Context) (rest : List Word) → NoMark k.RightBits rest → NoValue rest → IsRefused most {X = List Segment × ℕ} closed (pattern_bits_in c) rest rest Syntax
bits_refused c rest n b = record {
  front = [];
  whole = refl;
  tree = ([], 1);
  more = mark_word k.RightBits ∷ [];
  goes_on = λ l v gs w d. expands _ (no_pattern_bits c 1 refl) (takes (mark_word k.RightBits) refl d);
  stops = λ l i r gs w o s d. bits_none l c r.0 r.1 gs rest w n b s d;
  excused = tt;
}

head_not : {kind : TokenKind} {j : Word} {rest : List Word} → NoMark kind (j ∷ rest) → j.kind ≡ kind → ⊥
head_not (no_mark j rest o) = o

pub bits_first : {most : Limits} (c : Context) (rest : List Word) (why : Cause) → FirstToken begins_value rest why → NoMark k.RightBits rest → most.trees < c.deep + 1 → IsRefused most {X = List Segment × ℕ} closed (pattern_bits_in c) rest rest why
bits_first c _ _ (only_deeper j rest b) n h = bits_too_deep c j rest (head_not n) b h
bits_first c _ _ at_end n h = bits_refused c [] n no_value_there
bits_first c _ _ (at_other j rest b) n h = bits_refused c (j ∷ rest) n (no_value j rest b)

-- ---- Exits of the loop

pub bits_empty : (c : Context) (ws : Readable) (at : ℕ) (items : List Segment) → IsAt ws at k.RightBits → items ≡ [] → Gives closed (pattern_bits_in c) ws at (Ok ((items, 1), at + 1))
bits_empty c ws at items s e = remade (λ u. same_pair (sym e) refl) (at_token s.is (on_no_bits c s.word (drop (at + 1) ws.words) s.kind_is))

-- what was read so far
abbrev pub SegmentsRead : Context → Readable → ℕ → ℕ → List Segment → ℕ → Type 0
SegmentsRead c ws at next items h = Passes ws.limits {X = List Segment × ℕ} {Y = (Segment × ℕ) × (List Segment × ℕ)} closed (pattern_bits_in c) (drop at ws.words) (segment_and_more (inside (under c))) (drop next ws.words) (λ q. (items ++ (q.0.0 ∷ q.1.0), max h (max q.0.1 q.1.1) + 1))

pub bits_begin : (c : Context) (ws : Readable) (at : ℕ) (items : List Segment) → c.deep + 1 ≤ ws.limits.trees → NoMark k.RightBits (drop at ws.words) → items ≡ [] → SegmentsRead c ws at at items 0
bits_begin c ws at items b n e = remade (λ q. same_pair (ap (λ v. v ++ (q.0.0 ∷ q.1.0)) (sym e)) (omega arith)) (on_first c (drop at ws.words) b n)

pub bits_err : (c : Context) (ws : Readable) (at next : ℕ) (items : List Segment) (h : ℕ) (f : Fault) → SegmentsRead c ws at next items h → Gives goes_sized (pattern_segment_in (inside (under c))) ws next (Err f) → Gives closed (pattern_bits_in c) ws at (Err f)
bits_err c ws at next items h f r g = fault_after ws at next f (same_kinds closed) r (fault_first (pattern_segment_in (inside (under c))) ws next f (behind_segment (inside (under c))) (more_spelled (inside (under c))) g)

then_more : (c : Context) (ws : Readable) (at next after : ℕ) (items : List Segment) (h : ℕ) (sg : Segment) (ds : ℕ) → SegmentsRead c ws at next items h → Gives goes_sized (pattern_segment_in (inside (under c))) ws next (Ok ((sg, ds), after)) → Passes ws.limits {X = List Segment × ℕ} {Y = List Segment × ℕ} closed (pattern_bits_in c) (drop at ws.words) (more_segments_in (inside (under c))) (drop after ws.words) (λ q. (items ++ (sg ∷ q.0), max h (max ds q.1) + 1))
then_more c ws at next after items h sg ds r g = and_then (same_kinds closed) r (first_of_two (behind_segment (inside (under c))) g)

pub bits_end : (c : Context) (ws : Readable) (at next after : ℕ) (items all : List Segment) (h g : ℕ) (sg : Segment) (ds : ℕ) → SegmentsRead c ws at next items h → Gives goes_sized (pattern_segment_in (inside (under c))) ws next (Ok ((sg, ds), after)) → IsAt ws after k.RightBits → all ≡ items ++ (sg ∷ []) → g ≡ max h ds → Gives closed (pattern_bits_in c) ws at (Ok ((all, g + 1), after + 1))
bits_end c ws at next after items all h g sg ds r v s e i = remade (λ u. same_pair (sym e) (omega (arith, i))) (and_then (same_kinds closed) (then_more c ws at next after items h sg ds r v) (at_token s.is (on_end (inside (under c)) s.word (drop (after + 1) ws.words) s.kind_is)))

pub bits_more : (c : Context) (ws : Readable) (at next after : ℕ) (items all : List Segment) (h g : ℕ) (sg : Segment) (ds : ℕ) → SegmentsRead c ws at next items h → Gives goes_sized (pattern_segment_in (inside (under c))) ws next (Ok ((sg, ds), after)) → IsAt ws after k.Comma → all ≡ items ++ (sg ∷ []) → g ≡ max h ds → SegmentsRead c ws at (after + 1) all g
bits_more c ws at next after items all h g sg ds r v s e i = remade (λ q. same_pair (sym (append_assoc items (sg ∷ []) (q.0.0 ∷ q.1.0)) ∙ ap (λ u. u ++ (q.0.0 ∷ q.1.0)) (sym e)) (omega (arith, i))) (and_then (same_kinds closed) (then_more c ws at next after items h sg ds r v) (at_token s.is (on_comma (inside (under c)) s.word (drop (after + 1) ws.words) s.kind_is)))

pub bits_other : (c : Context) (ws : Readable) (at next after : ℕ) (items : List Segment) (h : ℕ) (sg : Segment) (ds : ℕ) → SegmentsRead c ws at next items h → Gives goes_sized (pattern_segment_in (inside (under c))) ws next (Ok ((sg, ds), after)) → NoMark k.Comma (drop after ws.words) → NoMark k.RightBits (drop after ws.words) → IsRefused ws.limits {X = List Segment × ℕ} closed (pattern_bits_in c) (drop at ws.words) (drop after ws.words) Syntax
bits_other c ws at next after items h sg ds r v a b = refused_after (same_kinds closed) (then_more c ws at next after items h sg ds r v) (more_refused (inside (under c)) (drop after ws.words) a b)
