-- What each exit of the readers of segments says.
use Rattle.std.proofs.Common.{◌≡◌, ℕ, ◌+◌, ◌≤◌, ◌<◌, max, List, [], ◌∷◌, ◌++◌, drop, Option, Some, None, Result, Ok, Err, refl, sym, ap, subst, ◌∙◌}
use Rattle.erl_syntax.specs.declared.span.Span.{Span}
use Rattle.erl_syntax.specs.declared.token.TokenKind.TheVariants as k
use Rattle.erl_syntax.specs.declared.expr.Expr.{Expr}
use Rattle.erl_syntax.specs.declared.expr.Expr.TheVariants as x
use Rattle.erl_syntax.specs.declared.expr.Prefix.{Prefix}
use Rattle.erl_syntax.specs.declared.segment.Segment.{Segment}
use Rattle.erl_syntax.specs.Word.{Word}
use Rattle.erl_syntax.specs.Operators.{prefix_of}
use Rattle.erl_syntax.specs.Grammar.{Context, under}
use Rattle.pattern_read.specs.Cursor.{StandsAt, number_of}
use Rattle.pattern_read.specs.declared.cursor.Numbered.{Numbered}
use Rattle.pattern_read.specs.declared.placed.Placed.{Placed}
use Rattle.pattern_read.specs.declared.fault.Cause.TheVariants.{TooDeep}
use Rattle.pattern_read.specs.declared.fault.Fault.{Fault}
use Rattle.pattern_read.specs.Reading.{Passes, IsRefused, Gives, closed}
use Rattle.pattern_read.specs.Wanted.{IsAt, NoMark}
use Rattle.body_read.specs.WantedExprs.{common_in, segment_in, segment_longer, segment_rest_in, simple_in}
use Rattle.pattern_read.specs.WantedPatterns.{segment_type_in, goes_typed}
use Rattle.body_read.specs.WantedSegments.{prefixed_in, PrefixAt, NoPrefix, no_prefix_end, no_prefix_word}
use Rattle.pattern_read.proofs.Passing.{same_kinds, closed_within, behind_closed, and_then, first_of_two, at_token, at_place, refused_at, remade, fault_after, fault_first}
use Rattle.pattern_read.proofs.Levels.{same_placed}
use Rattle.pattern_read.proofs.Words.{is_none, is_no}
use Rattle.pattern_read.proofs.Exits.{gives_on}
use Rattle.body_read.proofs.SegmentLaws.{on_simple_atom, on_simple, types_within, on_unsized, on_sized, type_spelled, rest_spelled, signed, on_prefixed, signed_spelled, on_segment_value, on_segment_prefixed, signed_too_deep}
use Rattle.pattern_read.specs.Cursor.{Readable}

-- ---- A value

pub simple_atom_ok : (c : Context) (ws : Readable) (at : ℕ) (n : Numbered) → StandsAt ws at n → n.token.kind ≡ k.Atom → Gives closed (simple_in c) ws at (Ok (record { at = n.token.span; tree = x.Atom n.token.span n.number; height = 1 }, at + 1))
simple_atom_ok c ws at n s h = remade (λ u. same_placed s.place (ap (λ v. x.Atom v s.word.number) s.place ∙ ap (λ v. x.Atom n.token.span v) (s.number ∙ ap (number_of n) h)) refl) (at_token s.is (on_simple_atom c s.word (drop (at + 1) ws.words) (s.kind ∙ h)))

simple_other : (c : Context) (ws : Readable) (at : ℕ) (r : Result (Placed Expr × ℕ) Fault) → NoMark k.Atom (drop at ws.words) → Gives closed (common_in c) ws at r → Gives closed (simple_in c) ws at r
simple_other c ws at r n g = gives_on ws at at r (same_kinds closed) (on_simple c (drop at ws.words) n) g

pub simple_at_end : (c : Context) (ws : Readable) (at : ℕ) (r : Result (Placed Expr × ℕ) Fault) → drop at ws.words ≡ [] → Gives closed (common_in c) ws at r → Gives closed (simple_in c) ws at r
simple_at_end c ws at r e g = simple_other c ws at r (is_none ws at k.Atom e) g

pub simple_common : (c : Context) (ws : Readable) (at : ℕ) (n : Numbered) (r : Result (Placed Expr × ℕ) Fault) → StandsAt ws at n → (n.token.kind ≡ k.Atom → ⊥) → Gives closed (common_in c) ws at r → Gives closed (simple_in c) ws at r
simple_common c ws at n r s f g = simple_other c ws at r (is_no ws at n k.Atom s f) g

-- ---- Behind a value

pub unsized_err : (c : Context) (ws : Readable) (at : ℕ) (y : Placed Expr) (f : Fault) → NoMark k.Colon (drop at ws.words) → Gives goes_typed (segment_type_in y.at y.tree None) ws at (Err f) → Gives segment_longer (segment_rest_in c y) ws at (Err f)
unsized_err c ws at y f n g = fault_after ws at at f types_within (on_unsized c y (drop at ws.words) n) g

pub unsized_ok : (c : Context) (ws : Readable) (at next : ℕ) (y : Placed Expr) (sg : Segment) → NoMark k.Colon (drop at ws.words) → Gives goes_typed (segment_type_in y.at y.tree None) ws at (Ok (sg, next)) → Gives segment_longer (segment_rest_in c y) ws at (Ok ((sg, y.height), next))
unsized_ok c ws at next y sg n g = and_then types_within (on_unsized c y (drop at ws.words) n) g

pub size_err : (c : Context) (ws : Readable) (at : ℕ) (y : Placed Expr) (f : Fault) → IsAt ws at k.Colon → Gives closed (simple_in c) ws (at + 1) (Err f) → Gives segment_longer (segment_rest_in c y) ws at (Err f)
size_err c ws at y f s g = fault_after ws at (at + 1) f (closed_within segment_longer) (at_token s.is (on_sized c y s.word (drop (at + 1) ws.words) s.kind_is)) (fault_first (simple_in c) ws (at + 1) f (behind_closed closed _) (type_spelled y) g)

sized_then : (c : Context) (ws : Readable) (at after : ℕ) (y z : Placed Expr) → IsAt ws at k.Colon → Gives closed (simple_in c) ws (at + 1) (Ok (z, after)) → Passes ws.limits {X = Segment × ℕ} {Y = Segment} segment_longer (segment_rest_in c y) (drop at ws.words) (segment_type_in y.at y.tree (Some z.tree)) (drop after ws.words) (λ sg. (sg, max y.height z.height))
sized_then c ws at after y z s g = and_then (same_kinds segment_longer) (at_token s.is (on_sized c y s.word (drop (at + 1) ws.words) s.kind_is)) (first_of_two (behind_closed segment_longer _) g)

pub sized_err : (c : Context) (ws : Readable) (at after : ℕ) (y z : Placed Expr) (f : Fault) → IsAt ws at k.Colon → Gives closed (simple_in c) ws (at + 1) (Ok (z, after)) → Gives goes_typed (segment_type_in y.at y.tree (Some z.tree)) ws after (Err f) → Gives segment_longer (segment_rest_in c y) ws at (Err f)
sized_err c ws at after y z f s g t = fault_after ws at after f types_within (sized_then c ws at after y z s g) t

pub sized_ok : (c : Context) (ws : Readable) (at after next : ℕ) (y z : Placed Expr) (sg : Segment) (h : ℕ) → IsAt ws at k.Colon → Gives closed (simple_in c) ws (at + 1) (Ok (z, after)) → Gives goes_typed (segment_type_in y.at y.tree (Some z.tree)) ws after (Ok (sg, next)) → h ≡ max y.height z.height → Gives segment_longer (segment_rest_in c y) ws at (Ok ((sg, h), next))
sized_ok c ws at after next y z sg h s g t e = remade (λ u. ap (λ v. (sg, v)) (sym e)) (and_then types_within (sized_then c ws at after y z s g) t)

-- ---- A segment with an operator before its value

prefixed_begun : (c : Context) (ws : Readable) (at : ℕ) (span : Span) (op : Prefix) → PrefixAt ws at span op → c.deep + 1 ≤ ws.limits.trees →
    Passes ws.limits {X = Segment × ℕ} {Y = Placed Expr × (Segment × ℕ)} segment_longer (prefixed_in c) (drop at ws.words) (λ p. simple_in (under c) p.0 ++ segment_rest_in c (signed span op p.0) p.1) (drop (at + 1) ws.words) (λ p. p.1)
prefixed_begun c ws at span op s b =
    let P : Span → Type 0 = λ v. Passes ws.limits {X = Segment × ℕ} {Y = Placed Expr × (Segment × ℕ)} segment_longer (prefixed_in c) (drop at ws.words) (λ p. simple_in (under c) p.0 ++ segment_rest_in c (signed v op p.0) p.1) (drop (at + 1) ws.words) (λ p. p.1) in
    subst P s.place (at_token s.is (on_prefixed c s.word (drop (at + 1) ws.words) op s.prefix b))

pub prefixed_err : (c : Context) (ws : Readable) (at : ℕ) (span : Span) (op : Prefix) (f : Fault) → PrefixAt ws at span op → c.deep + 1 ≤ ws.limits.trees → Gives closed (simple_in (under c)) ws (at + 1) (Err f) → Gives segment_longer (prefixed_in c) ws at (Err f)
prefixed_err c ws at span op f s b g = fault_after ws at (at + 1) f (same_kinds segment_longer) (prefixed_begun c ws at span op s b) (fault_first (simple_in (under c)) ws (at + 1) f (behind_closed segment_longer _) (signed_spelled c span op) g)

pub prefixed_then : (c : Context) (ws : Readable) (at next : ℕ) (span : Span) (op : Prefix) (y : Placed Expr) (part : List Expr) (r : Result ((Segment × ℕ) × ℕ) Fault) → PrefixAt ws at span op → c.deep + 1 ≤ ws.limits.trees → Gives closed (simple_in (under c)) ws (at + 1) (Ok (y, next)) → part ≡ y.tree ∷ [] →
    Gives segment_longer (segment_rest_in c (record { at = span; tree = x.Unary span op part; height = y.height + 1 })) ws next r → Gives segment_longer (prefixed_in c) ws at r
prefixed_then c ws at next span op y part r s b g e t =
    let P : List Expr → Type 0 = λ v. Gives segment_longer (segment_rest_in c (record { at = span; tree = x.Unary span op v; height = y.height + 1 })) ws next r in
    gives_on ws at next r (same_kinds segment_longer) (and_then (same_kinds segment_longer) (prefixed_begun c ws at span op s b) (first_of_two (behind_closed segment_longer _) g)) (subst P e t)

-- ---- A segment

pub segment_deep : (c : Context) (ws : Readable) (at : ℕ) (span : Span) (op : Prefix) → PrefixAt ws at span op → ws.limits.trees < c.deep + 1 → IsRefused ws.limits {X = Segment × ℕ} segment_longer (segment_in c) (drop at ws.words) (drop at ws.words) TooDeep
segment_deep c ws at span op s b = refused_at s.is (signed_too_deep c s.word (drop (at + 1) ws.words) op s.prefix b)

pub segment_signed : (c : Context) (ws : Readable) (at : ℕ) (span : Span) (op : Prefix) (r : Result ((Segment × ℕ) × ℕ) Fault) → PrefixAt ws at span op → Gives segment_longer (prefixed_in c) ws at r → Gives segment_longer (segment_in c) ws at r
segment_signed c ws at span op r s g = gives_on ws at at r (same_kinds segment_longer) (at_place s.is (on_segment_prefixed c s.word (drop (at + 1) ws.words) op s.prefix)) g

pub segment_value_err : (c : Context) (ws : Readable) (at : ℕ) (f : Fault) → NoPrefix (drop at ws.words) → Gives closed (simple_in c) ws at (Err f) → Gives segment_longer (segment_in c) ws at (Err f)
segment_value_err c ws at f n g = fault_after ws at at f (same_kinds segment_longer) (on_segment_value c (drop at ws.words) n) (fault_first (simple_in c) ws at f (behind_closed segment_longer _) (rest_spelled c) g)

pub segment_then : (c : Context) (ws : Readable) (at next : ℕ) (y : Placed Expr) (r : Result ((Segment × ℕ) × ℕ) Fault) → NoPrefix (drop at ws.words) → Gives closed (simple_in c) ws at (Ok (y, next)) → Gives segment_longer (segment_rest_in c y) ws next r → Gives segment_longer (segment_in c) ws at r
segment_then c ws at next y r n g t = gives_on ws at next r (same_kinds segment_longer) (and_then (same_kinds segment_longer) (on_segment_value c (drop at ws.words) n) (first_of_two (behind_closed segment_longer _) g)) t

-- ---- Which operator stands there

pub prefix_none : (rest : List Word) → rest ≡ [] → NoPrefix rest
prefix_none rest e = let P : List Word → Type 0 = λ v. NoPrefix v in subst P (sym e) no_prefix_end

no_op : (found : Option Prefix) → ((op : Prefix) → found ≡ Some op → ⊥) → found ≡ None
no_op None f = refl
no_op (Some op) f = absurd (f op refl)

pub prefix_other : (ws : Readable) (at : ℕ) (n : Numbered) → StandsAt ws at n → ((op : Prefix) → prefix_of n.token.kind ≡ Some op → ⊥) → NoPrefix (drop at ws.words)
prefix_other ws at n s f = let P : List Word → Type 0 = λ v. NoPrefix v in subst P (sym s.is) (no_prefix_word s.word (drop (at + 1) ws.words) (no_op (prefix_of s.word.kind) (λ op j. f op (ap prefix_of (sym s.kind) ∙ j))))

pub prefix_there : (ws : Readable) (at : ℕ) (n : Numbered) (op : Prefix) → StandsAt ws at n → prefix_of n.token.kind ≡ Some op → PrefixAt ws at n.token.span op
prefix_there ws at n op s h = record { word = s.word; is = s.is; prefix = ap prefix_of s.kind ∙ h; place = s.place }
