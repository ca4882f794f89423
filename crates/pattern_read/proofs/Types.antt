-- The laws of segments' types, and what each exit of their readers says.
use Rattle.std.proofs.Common.{◌≡◌, ◌≢◌, ℕ, ℤ, ◌+◌, Bool, true, false, List, [], ◌∷◌, ◌++◌, append_assoc, drop, codes, Option, Ok, Err, refl, sym, ap, subst, ◌∙◌, arith, pos}
use Rattle.erl_syntax.specs.declared.span.Span.{Span}
use Rattle.erl_syntax.specs.declared.token.TokenKind.{TokenKind}
use Rattle.erl_syntax.specs.declared.token.TokenKind.TheVariants as k
use Rattle.erl_syntax.specs.declared.expr.Expr.{Expr}
use Rattle.erl_syntax.specs.declared.segment.Segment.{Segment}
use Rattle.erl_syntax.specs.declared.segment.Spec.{Spec}
use Rattle.erl_syntax.specs.declared.segment.Spec.TheVariants as sx
use Rattle.erl_syntax.specs.Word.{Word}
use Rattle.erl_syntax.specs.Names.{Names, integer, unit_word}
use Rattle.erl_syntax.specs.Grammar.{Limits, Goal, Mark, The, Of, SegmentType, ASpec, MoreSpecs, typed, untyped, more_specs, end_specs, spec, unit, any_spec, Spells, takes, this, expands}
use Rattle.pattern_read.specs.Cursor.{StandsAt, number_of}
use Rattle.pattern_read.specs.declared.cursor.Numbered.{Numbered}
use Rattle.pattern_read.specs.declared.fault.Fault.{Fault}
use Rattle.pattern_read.specs.declared.fault.Cause.TheVariants.{Syntax, UnknownSegmentType}
use Rattle.pattern_read.specs.Reading.{Passes, IsRefused, Follows, SameHead, Gives, closed, nothing}
use Rattle.pattern_read.specs.Wanted.{IsAt, NoMark, no_mark_end, no_mark}
use Rattle.pattern_read.specs.WantedPatterns.{UnitAt, goes_typed, segment_type_in, spec_in}
use Rattle.pattern_read.proofs.Passing.{Behind, behind_closed, Spelled, same_kinds, and_then, first_of_two, at_token, refused_at, remade, fault_after, fault_first}
use Rattle.pattern_read.proofs.Operands.{mark_word, some_place}
use Rattle.pattern_read.proofs.SpecWords.{one_word, not_unit}
use Rattle.pattern_read.specs.Cursor.{Readable}

-- ---- Words

spec_forth : (l : Limits) (a b : Spec) (gs : List Goal) (j : Word) (w : List Word) → Names j.chars b → Spells l (Of (ASpec a) ∷ gs) (j ∷ w) → (a ≡ b) × Spells l gs w
spec_forth l a b gs j w n (expands _ (spec sp t e m) (this z)) = (one_word j.chars a b m n, z)
spec_forth l a b gs j w n (expands _ (unit sp t i e u f g) (this z)) = absurd (not_unit j.chars b u n)
spec_forth l a b gs j w n (expands _ (any_spec sp t h e u f) (this z)) = absurd (f b n)

pub on_spec : {most : Limits} (j : Word) (rest : List Word) (sp : Spec) → j.kind ≡ k.Atom → Names j.chars sp → Passes most {X = Spec} closed spec_in (j ∷ rest) nothing rest (λ u. sp)
on_spec j rest sp h n = record {
  front = j ∷ [];
  whole = refl;
  back = λ l i u gs w d. expands _ (spec sp j h n) (this d);
  forth = λ l r gs w f s d. let m = spec_forth l r sp gs j w n d in (tt, m.0, m.1);
}

unit_forth : (l : Limits) (a : Spec) (gs : List Goal) (j : Word) (w : List Word) → j.chars ≡ unit_word → Spells l (Of (ASpec a) ∷ gs) (j ∷ w) → (n : Word) × (n.kind ≡ k.Integer) × (a ≡ sx.Unit (pos n.number)) × Spells l (Mark k.Colon ∷ The n ∷ gs) w
unit_forth l a gs j w u (expands _ (spec sp t e m) (this z)) = absurd (not_unit j.chars a u m)
unit_forth l a gs j w u (expands _ (unit sp t i e v f g) (this z)) = (i, f, g, z)
unit_forth l a gs j w u (expands _ (any_spec sp t h e v f) (this z)) = absurd (v u)

number_forth : {l : Limits} {n : Word} {gs : List Goal} {m i : Word} {w : List Word} → Spells l (Mark k.Colon ∷ The n ∷ gs) (m ∷ (i ∷ w)) → (i ≡ n) × Spells l gs w
number_forth (takes t e (this z)) = (refl, z)

pub on_unit : {most : Limits} (j m i : Word) (rest : List Word) → j.kind ≡ k.Atom → j.chars ≡ unit_word → m.kind ≡ k.Colon → i.kind ≡ k.Integer → Passes most {X = Spec} closed spec_in (j ∷ (m ∷ (i ∷ rest))) nothing rest (λ u. sx.Unit (pos i.number))
on_unit j m i rest h u a b = record {
  front = j ∷ (m ∷ (i ∷ []));
  whole = refl;
  back = λ l v e gs w d. expands _ (unit _ j i h u b refl) (this (takes m a (this d)));
  forth = λ l r gs w f s d. let p = unit_forth l r gs j (m ∷ (i ∷ w)) u d in let q = number_forth p.3 in (tt, p.2 ∙ ap (λ v. sx.Unit (pos v.number)) (sym q.0), q.1);
}

-- a number with which a word may be completed
abbrev some_number : Word
some_number = mark_word k.Integer

abbrev some_spec : Word
some_spec = record { kind = k.Atom; at = some_place; number = 0; chars = codes "integer" }

no_colon : (l : Limits) (n : Word) (gs : List Goal) (rest w : List Word) → NoMark k.Colon rest → SameHead w rest → Spells l (Mark k.Colon ∷ The n ∷ gs) w → ⊥
no_colon l n gs _ w no_mark_end s (takes t e z) = s
no_colon l n gs _ w (no_mark j rest f) s (takes t e z) = f (ap (λ v. v.kind) (sym s) ∙ e)

pub unit_alone : {most : Limits} (j : Word) (rest : List Word) → j.kind ≡ k.Atom → j.chars ≡ unit_word → NoMark k.Colon rest → IsRefused most {X = Spec} closed spec_in (j ∷ rest) rest Syntax
unit_alone j rest h u n = record {
  front = j ∷ [];
  whole = refl;
  tree = sx.Unit (pos 0);
  more = mark_word k.Colon ∷ (some_number ∷ []);
  goes_on = λ l v gs w d. expands _ (unit _ j some_number h u refl refl) (this (takes (mark_word k.Colon) refl (this d)));
  stops = λ l v r gs w f s d. let p = unit_forth l r gs j w u d in no_colon l p.0 gs rest w n s p.3;
  excused = tt;
}

no_number : (l : Limits) (n m : Word) (gs : List Goal) (rest w : List Word) → n.kind ≡ k.Integer → NoMark k.Integer rest → SameHead w rest → Spells l (Mark k.Colon ∷ The n ∷ gs) (m ∷ w) → ⊥
no_number l n m gs _ w i no_mark_end s (takes t e (this z)) = s
no_number l n m gs _ w i (no_mark j rest f) s (takes t e (this z)) = f (ap (λ v. v.kind) (sym s) ∙ i)

pub unit_unnumbered : {most : Limits} (j m : Word) (rest : List Word) → j.kind ≡ k.Atom → j.chars ≡ unit_word → m.kind ≡ k.Colon → NoMark k.Integer rest → IsRefused most {X = Spec} closed spec_in (j ∷ (m ∷ rest)) rest Syntax
unit_unnumbered j m rest h u a n = record {
  front = j ∷ (m ∷ []);
  whole = refl;
  tree = sx.Unit (pos 0);
  more = some_number ∷ [];
  goes_on = λ l v gs w d. expands _ (unit _ j some_number h u refl refl) (this (takes m a (this d)));
  stops = λ l v r gs w f s d. let p = unit_forth l r gs j (m ∷ w) u d in no_number l p.0 m gs rest w p.1 n s p.3;
  excused = tt;
}

no_spec : (l : Limits) (a : Spec) (gs : List Goal) (rest w : List Word) → NoMark k.Atom rest → SameHead w rest → Spells l (Of (ASpec a) ∷ gs) w → ⊥
no_spec l a gs _ w no_mark_end s (expands _ (spec sp t e m) (this z)) = s
no_spec l a gs _ w no_mark_end s (expands _ (unit sp t i e u f g) (this z)) = s
no_spec l a gs _ w no_mark_end s (expands _ (any_spec sp t h e u f) (this z)) = s
no_spec l a gs _ w (no_mark j rest n) s (expands _ (spec sp t e m) (this z)) = n (ap (λ v. v.kind) (sym s) ∙ e)
no_spec l a gs _ w (no_mark j rest n) s (expands _ (unit sp t i e u f g) (this z)) = n (ap (λ v. v.kind) (sym s) ∙ e)
no_spec l a gs _ w (no_mark j rest n) s (expands _ (any_spec sp t h e u f) (this z)) = n (ap (λ v. v.kind) (sym s) ∙ e)

pub spec_refused : {most : Limits} (rest : List Word) → NoMark k.Atom rest → IsRefused most {X = Spec} closed spec_in rest rest Syntax
spec_refused rest n = record {
  front = [];
  whole = refl;
  tree = sx.Integer;
  more = some_spec ∷ [];
  goes_on = λ l v gs w d. expands _ (spec _ some_spec refl (integer _ _ refl refl)) (this d);
  stops = λ l v r gs w f s d. no_spec l r gs rest w n s d;
  excused = tt;
}

unknown_stops : (l : Limits) (a : Spec) (gs : List Goal) (j : Word) (rest w : List Word) → l.any_type ≡ false → j.chars ≢ unit_word → ((sp : Spec) → Names j.chars sp → ⊥) → SameHead w (j ∷ rest) → Spells l (Of (ASpec a) ∷ gs) w → ⊥
unknown_stops l a gs j rest w i u n s (expands _ (spec sp t e m) (this z)) = n a (subst (λ v. Names v.chars a) s m)
unknown_stops l a gs j rest w i u n s (expands _ (unit sp t d e v f g) (this z)) = u (ap (λ v. v.chars) (sym s) ∙ v)
unknown_stops l a gs j rest w i u n s (expands _ (any_spec sp t h e v f) (this z)) = cc

pub spec_unknown : {most : Limits} (j : Word) (rest : List Word) → j.kind ≡ k.Atom → j.chars ≢ unit_word → ((sp : Spec) → Names j.chars sp → ⊥) → IsRefused most {X = Spec} closed spec_in (j ∷ rest) (j ∷ rest) UnknownSegmentType
spec_unknown {most = most} j rest h u n = record {
  front = [];
  whole = refl;
  tree = sx.Integer;
  more = some_spec ∷ [];
  goes_on = λ l v gs w d. expands _ (spec _ some_spec refl (integer _ _ refl refl)) (this d);
  stops = λ l i r gs w f s d. unknown_stops l r gs j rest w i u n s d;
  excused = record {
    limits = record { trees = most.trees; brackets = most.brackets; any_attribute = false; any_type = true };
    wide = record { trees = omega arith; brackets = omega arith };
    allows = refl;
    first = j;
    behind = rest;
    begins = refl;
    tree = sx.Integer;
    more = [];
    goes_on = λ gs w d. expands _ (any_spec _ j refl h u n) (this d);
  };
}

-- ---- The words of a type

abbrev pub more_specs_in : List Spec → List Goal
more_specs_in sps = Of (MoreSpecs sps) ∷ []

abbrev pub spec_and_more : Spec × List Spec → List Goal
spec_and_more p = spec_in p.0 ++ more_specs_in p.1

no_slash : (l : Limits) (at : Span) (y : Expr) (size : Option Expr) (sg : Segment) (gs : List Goal) (rest w : List Word) → NoMark k.Slash rest → SameHead w rest → Spells l (Of (SegmentType at y size sg) ∷ gs) w → (sg ≡ record { at = at; value = y; size = size; specs = [] }) × Spells l gs w
no_slash l at y size sg gs rest w n s (expands _ (untyped at_0 y_0 size_0 sg_0 e) z) = (e, z)
no_slash l at y size sg gs _ w no_mark_end s (expands _ (typed at_0 y_0 size_0 sg_0 sp sps e) (takes t h z)) = absurd s
no_slash l at y size sg gs _ w (no_mark j rest n) s (expands _ (typed at_0 y_0 size_0 sg_0 sp sps e) (takes t h z)) = absurd (n (ap (λ v. v.kind) (sym s) ∙ h))

pub on_untyped : {most : Limits} (at : Span) (y : Expr) (size : Option Expr) (rest : List Word) → NoMark k.Slash rest → Passes most {X = Segment} goes_typed (segment_type_in at y size) rest nothing rest (λ u. record { at = at; value = y; size = size; specs = [] })
on_untyped at y size rest n = record {
  front = [];
  whole = refl;
  back = λ l v u gs w d. expands _ (untyped at y size _ refl) d;
  forth = λ l r gs w f s d. let m = no_slash l at y size r gs rest w n s d in (tt, m.0, m.1);
}

slash_forth : (l : Limits) (at : Span) (y : Expr) (size : Option Expr) (sg : Segment) (gs : List Goal) (j : Word) (w : List Word) → j.kind ≡ k.Slash → Follows l goes_typed gs → Spells l (Of (SegmentType at y size sg) ∷ gs) (j ∷ w) → (p : Spec × List Spec) × (sg ≡ record { at = at; value = y; size = size; specs = p.0 ∷ p.1 }) × Spells l (spec_and_more p ++ gs) w
slash_forth l at y size sg gs j w h f (expands _ (untyped at_0 y_0 size_0 sg_0 e) z) = absurd (f j w (ap goes_typed h) z)
slash_forth l at y size sg gs j w h f (expands _ (typed at_0 y_0 size_0 sg_0 sp sps e) (takes t i z)) = ((sp, sps), e, z)

pub on_slash : {most : Limits} (at : Span) (y : Expr) (size : Option Expr) (j : Word) (rest : List Word) → j.kind ≡ k.Slash → Passes most {X = Segment} {Y = Spec × List Spec} goes_typed (segment_type_in at y size) (j ∷ rest) spec_and_more rest (λ p. record { at = at; value = y; size = size; specs = p.0 ∷ p.1 })
on_slash at y size j rest h = record {
  front = j ∷ [];
  whole = refl;
  back = λ l v p gs w d. expands _ (typed at y size _ p.0 p.1 refl) (takes j h d);
  forth = λ l r gs w f s d. slash_forth l at y size r gs j w h f d;
}

dash_forth : (l : Limits) (sps : List Spec) (gs : List Goal) (j : Word) (w : List Word) → j.kind ≡ k.Minus → Follows l goes_typed gs → Spells l (Of (MoreSpecs sps) ∷ gs) (j ∷ w) → (p : Spec × List Spec) × (sps ≡ p.0 ∷ p.1) × Spells l (spec_and_more p ++ gs) w
dash_forth l _ gs j w h f (expands _ end_specs z) = absurd (f j w (ap goes_typed h) z)
dash_forth l _ gs j w h f (expands _ (more_specs sp sps) (takes t i z)) = ((sp, sps), refl, z)

pub on_dash : {most : Limits} (j : Word) (rest : List Word) → j.kind ≡ k.Minus → Passes most {X = List Spec} {Y = Spec × List Spec} goes_typed more_specs_in (j ∷ rest) spec_and_more rest (λ p. p.0 ∷ p.1)
on_dash j rest h = record {
  front = j ∷ [];
  whole = refl;
  back = λ l v p gs w d. expands _ (more_specs p.0 p.1) (takes j h d);
  forth = λ l r gs w f s d. dash_forth l r gs j w h f d;
}

no_dash : (l : Limits) (sps : List Spec) (gs : List Goal) (rest w : List Word) → NoMark k.Minus rest → SameHead w rest → Spells l (Of (MoreSpecs sps) ∷ gs) w → (sps ≡ []) × Spells l gs w
no_dash l _ gs rest w n s (expands _ end_specs z) = (refl, z)
no_dash l _ gs _ w no_mark_end s (expands _ (more_specs sp sps) (takes t h z)) = absurd s
no_dash l _ gs _ w (no_mark j rest n) s (expands _ (more_specs sp sps) (takes t h z)) = absurd (n (ap (λ v. v.kind) (sym s) ∙ h))

pub on_no_dash : {most : Limits} (rest : List Word) → NoMark k.Minus rest → Passes most {X = List Spec} goes_typed more_specs_in rest nothing rest (λ u. [])
on_no_dash rest n = record {
  front = [];
  whole = refl;
  back = λ l v u gs w d. expands _ end_specs d;
  forth = λ l r gs w f s d. let m = no_dash l r gs rest w n s d in (tt, m.0, m.1);
}

behind_spec : Behind {X = Spec} {Y = List Spec} closed goes_typed (λ p. more_specs_in)
behind_spec = behind_closed goes_typed (λ p. more_specs_in)

specs_spelled : {most : Limits} → Spelled most {X = Spec} {Y = List Spec} (λ p. more_specs_in) []
specs_spelled = record { tree = λ p. []; spelled = λ l v p gs w d. expands _ end_specs d }

-- ---- Exits

pub spec_none : (ws : Readable) (at : ℕ) → NoMark k.Atom (drop at ws.words) → IsRefused ws.limits {X = Spec} closed spec_in (drop at ws.words) (drop at ws.words) Syntax
spec_none ws at n = spec_refused (drop at ws.words) n

pub spec_ok : (ws : Readable) (at : ℕ) (chars : List ℕ) (sp : Spec) → (s : IsAt ws at k.Atom) → chars ≡ s.word.chars → Names chars sp → Gives closed spec_in ws at (Ok (sp, at + 1))
spec_ok ws at chars sp s e n = at_token s.is (on_spec s.word (drop (at + 1) ws.words) sp s.kind_is (subst (λ v. Names v sp) e n))

pub spec_other : (ws : Readable) (at : ℕ) (chars : List ℕ) → (s : IsAt ws at k.Atom) → chars ≡ s.word.chars → chars ≢ unit_word → ((sp : Spec) → Names chars sp → ⊥) → IsRefused ws.limits {X = Spec} closed spec_in (drop at ws.words) (drop at ws.words) UnknownSegmentType
spec_other ws at chars s e u n = refused_at s.is (spec_unknown s.word (drop (at + 1) ws.words) s.kind_is (λ i. u (e ∙ i)) (λ sp m. n sp (subst (λ v. Names v sp) (sym e) m)))

pub unit_at : (ws : Readable) (at : ℕ) (chars : List ℕ) → (s : IsAt ws at k.Atom) → chars ≡ s.word.chars → chars ≡ unit_word → UnitAt ws at
unit_at ws at chars s e u = record { word = s.word; is = s.is; kind = s.kind_is; chars = sym e ∙ u }

refused_from : {most : Limits} {longer : TokenKind → Bool} {X : Type 0} {a : X → List Goal} {from to rest : List Word} → from ≡ to → IsRefused most longer a to rest Syntax → IsRefused most longer a from rest Syntax
refused_from {most = most} {longer = longer} {a = a} {rest = rest} e r = subst (λ v. IsRefused most longer a v rest Syntax) (sym e) r

pub unit_no_colon : (ws : Readable) (at : ℕ) → UnitAt ws at → NoMark k.Colon (drop (at + 1) ws.words) → IsRefused ws.limits {X = Spec} closed spec_in (drop at ws.words) (drop (at + 1) ws.words) Syntax
unit_no_colon ws at u n = refused_from u.is (unit_alone u.word (drop (at + 1) ws.words) u.kind u.chars n)

unit_colon : (ws : Readable) (at : ℕ) → (u : UnitAt ws at) → (s : IsAt ws (at + 1) k.Colon) → drop at ws.words ≡ u.word ∷ (s.word ∷ drop (at + 2) ws.words)
unit_colon ws at u s = let e : at + 1 + 1 ≡ at + 2 = omega arith in u.is ∙ ap (λ v. u.word ∷ v) (s.is ∙ ap (λ v. s.word ∷ drop v ws.words) e)

pub unit_no_number : (ws : Readable) (at : ℕ) → UnitAt ws at → IsAt ws (at + 1) k.Colon → NoMark k.Integer (drop (at + 2) ws.words) → IsRefused ws.limits {X = Spec} closed spec_in (drop at ws.words) (drop (at + 2) ws.words) Syntax
unit_no_number ws at u s n = refused_from (unit_colon ws at u s) (unit_unnumbered u.word s.word (drop (at + 2) ws.words) u.kind u.chars s.kind_is n)

pub unit_ok : (ws : Readable) (at : ℕ) (n : Numbered) (z : ℤ) → UnitAt ws at → IsAt ws (at + 1) k.Colon → StandsAt ws (at + 2) n → n.token.kind ≡ k.Integer → z ≡ pos n.value → Gives closed spec_in ws at (Ok (sx.Unit z, at + 3))
unit_ok ws at n z u s t h e =
    let i : at + 2 + 1 ≡ at + 3 = omega arith in
    let f : drop at ws.words ≡ u.word ∷ (s.word ∷ (t.word ∷ drop (at + 3) ws.words)) = unit_colon ws at u s ∙ ap (λ v. u.word ∷ (s.word ∷ v)) (t.is ∙ ap (λ v. t.word ∷ drop v ws.words) i) in
    remade (λ v. ap (λ q. sx.Unit (pos q)) (t.number ∙ ap (number_of n) h) ∙ ap sx.Unit (sym e)) (at_token f (on_unit u.word s.word t.word (drop (at + 3) ws.words) u.kind u.chars s.kind_is (t.kind ∙ h)))

pub type_none : (ws : Readable) (at : ℕ) (place : Span) (y : Expr) (size : Option Expr) (specs : List Spec) → NoMark k.Slash (drop at ws.words) → specs ≡ [] → Gives goes_typed (segment_type_in place y size) ws at (Ok (record { at = place; value = y; size = size; specs = specs }, at))
type_none ws at place y size specs n e = remade (λ u. ap (λ v. record { at = place; value = y; size = size; specs = v }) (sym e)) (on_untyped place y size (drop at ws.words) n)

-- what was read so far
abbrev pub SpecsRead : Readable → ℕ → Span → Expr → Option Expr → ℕ → List Spec → Type 0
SpecsRead ws at place y size next specs = Passes ws.limits {X = Segment} goes_typed (segment_type_in place y size) (drop at ws.words) spec_and_more (drop next ws.words) (λ p. record { at = place; value = y; size = size; specs = specs ++ (p.0 ∷ p.1) })

pub type_begin : (ws : Readable) (at : ℕ) (place : Span) (y : Expr) (size : Option Expr) (specs : List Spec) → IsAt ws at k.Slash → specs ≡ [] → SpecsRead ws at place y size (at + 1) specs
type_begin ws at place y size specs s e = remade (λ p. ap (λ v. record { at = place; value = y; size = size; specs = v ++ (p.0 ∷ p.1) }) (sym e)) (at_token s.is (on_slash place y size s.word (drop (at + 1) ws.words) s.kind_is))

pub type_err : (ws : Readable) (at next : ℕ) (place : Span) (y : Expr) (size : Option Expr) (specs : List Spec) (f : Fault) → SpecsRead ws at place y size next specs → Gives closed spec_in ws next (Err f) → Gives goes_typed (segment_type_in place y size) ws at (Err f)
type_err ws at next place y size specs f r g = fault_after ws at next f (same_kinds goes_typed) r (fault_first spec_in ws next f behind_spec specs_spelled g)

then_specs : (ws : Readable) (at next after : ℕ) (place : Span) (y : Expr) (size : Option Expr) (specs : List Spec) (sp : Spec) → SpecsRead ws at place y size next specs → Gives closed spec_in ws next (Ok (sp, after)) → Passes ws.limits {X = Segment} {Y = List Spec} goes_typed (segment_type_in place y size) (drop at ws.words) more_specs_in (drop after ws.words) (λ q. record { at = place; value = y; size = size; specs = specs ++ (sp ∷ q) })
then_specs ws at next after place y size specs sp r g = and_then (same_kinds goes_typed) r (first_of_two behind_spec g)

pub type_end : (ws : Readable) (at next after : ℕ) (place : Span) (y z : Expr) (size length : Option Expr) (specs all : List Spec) (sp : Spec) → SpecsRead ws at place y size next specs → Gives closed spec_in ws next (Ok (sp, after)) → NoMark k.Minus (drop after ws.words) → all ≡ specs ++ (sp ∷ []) → z ≡ y → length ≡ size → Gives goes_typed (segment_type_in place y size) ws at (Ok (record { at = place; value = z; size = length; specs = all }, after))
type_end ws at next after place y z size length specs all sp r g n e f h = remade (λ u. ap (λ v. record { at = place; value = y; size = size; specs = v }) (sym e) ∙ ap (λ v. record { at = place; value = v; size = size; specs = all }) (sym f) ∙ ap (λ v. record { at = place; value = z; size = v; specs = all }) (sym h)) (and_then (same_kinds goes_typed) (then_specs ws at next after place y size specs sp r g) (on_no_dash (drop after ws.words) n))

pub type_more : (ws : Readable) (at next after : ℕ) (place : Span) (y : Expr) (size : Option Expr) (specs all : List Spec) (sp : Spec) → SpecsRead ws at place y size next specs → Gives closed spec_in ws next (Ok (sp, after)) → IsAt ws after k.Minus → all ≡ specs ++ (sp ∷ []) → SpecsRead ws at place y size (after + 1) all
type_more ws at next after place y size specs all sp r g s e = remade (λ p. ap (λ v. record { at = place; value = y; size = size; specs = v }) (sym (append_assoc specs (sp ∷ []) (p.0 ∷ p.1)) ∙ ap (λ u. u ++ (p.0 ∷ p.1)) (sym e))) (and_then (same_kinds goes_typed) (then_specs ws at next after place y size specs sp r g) (at_token s.is (on_dash s.word (drop (after + 1) ws.words) s.kind_is)))
