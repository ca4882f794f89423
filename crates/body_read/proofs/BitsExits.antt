-- What each exit of the readers of bit expressions says.
use Rattle.std.proofs.Common.{◌≡◌, ℕ, ◌+◌, ◌≤◌, ◌<◌, max, true, false, List, [], ◌∷◌, ◌++◌, append_assoc, drop, Result, Ok, Err, refl, sym, ap, subst, ◌∙◌, arith}
use Rattle.std.proofs.lemmas.List.{append-nil}
use Rattle.erl_syntax.specs.declared.span.Span.{Span}
use Rattle.erl_syntax.specs.declared.token.TokenKind.TheVariants as k
use Rattle.erl_syntax.specs.declared.expr.Expr.{Expr}
use Rattle.erl_syntax.specs.declared.expr.Expr.TheVariants as x
use Rattle.erl_syntax.specs.declared.expr.Prefix.{Prefix}
use Rattle.erl_syntax.specs.declared.segment.Segment.{Segment}
use Rattle.erl_syntax.specs.declared.qual.Qual.{Qual}
use Rattle.erl_syntax.specs.Word.{Word}
use Rattle.erl_syntax.specs.Grammar.{InBody, InSize, Context, under, inside}
use Rattle.pattern_read.specs.Cursor.{StandsAt}
use Rattle.pattern_read.specs.declared.cursor.Numbered.{Numbered}
use Rattle.pattern_read.specs.declared.placed.Placed.{Placed}
use Rattle.pattern_read.specs.declared.fault.Cause.{Cause}
use Rattle.pattern_read.specs.declared.fault.Cause.TheVariants.{Syntax, TooDeep}
use Rattle.pattern_read.specs.declared.fault.Fault.{Fault}
use Rattle.pattern_read.specs.Reading.{Passes, IsRefused, Gives, closed}
use Rattle.pattern_read.specs.Wanted.{IsAt, NoMark}
use Rattle.body_read.specs.declared.site.Site.{Site}
use Rattle.body_read.specs.declared.site.Site.TheVariants.{Body as AsBody, Guard as AsGuard}
use Rattle.body_read.specs.WantedExprs.{bits_in, in_body, mode_of, quals_in, segment_in, segment_longer, segment_rest_in, simple_in}
use Rattle.body_read.specs.WantedSegments.{prefixed_in, more_segments_in, after_value_in, begins_simple, PrefixAt, NoPrefix, NoRow, GivesBehind}
use Rattle.pattern_read.specs.WantedPatterns.{FirstToken, only_deeper, at_end, at_other}
use Rattle.pattern_read.proofs.Passing.{same_kinds, behind_closed, and_then, refused_after, first_of_two, at_token, at_place, refused_at, remade, fault_after, fault_first}
use Rattle.pattern_read.proofs.Levels.{same_pair}
use Rattle.body_read.proofs.BitsLaws.{on_no_bits, with_segments, on_signed_bits, signed_bits_deep, on_bits_value, value_completed, value_too_deep, no_value_there, no_value_at_end, on_more_segments, on_end_segments, segments_refused, behind_segment, segments_spelled, on_bits_row, on_bits_segments}
use Rattle.pattern_read.specs.Cursor.{Readable}
use Rattle.erl_syntax.specs.Grammar.{Limits}

-- ---- Behind `<<`

pub bits_empty_ok : (c : Context) (ws : Readable) (at : ℕ) (place : Span) (sgs : List Segment) → IsAt ws at k.RightBits → sgs ≡ [] → Gives closed (bits_in c place) ws at (Ok ((x.Bits place sgs, 1), at + 1))
bits_empty_ok c ws at place sgs s e = remade (λ u. same_pair (ap (λ v. x.Bits place v) (sym e)) refl) (at_token s.is (on_no_bits c place s.word (drop (at + 1) ws.words) s.kind_is))

pub bits_signed_deep : (c : Context) (ws : Readable) (at : ℕ) (place span : Span) (op : Prefix) → PrefixAt ws at span op → ws.limits.trees < c.deep + 2 → IsRefused ws.limits {X = Expr × ℕ} closed (bits_in c place) (drop at ws.words) (drop at ws.words) TooDeep
bits_signed_deep c ws at place span op s b = refused_at s.is (signed_bits_deep c place s.word (drop (at + 1) ws.words) op s.prefix b)

bits_signed : (c : Context) (ws : Readable) (at : ℕ) (place span : Span) (op : Prefix) → PrefixAt ws at span op → c.deep + 1 ≤ ws.limits.trees →
    Passes ws.limits {X = Expr × ℕ} {Y = (Segment × ℕ) × (List Segment × ℕ)} closed (bits_in c place) (drop at ws.words) (λ p. prefixed_in (inside (under c)) p.0 ++ more_segments_in (inside (under c)) p.1) (drop at ws.words) (with_segments place)
bits_signed c ws at place span op s b = at_place s.is (on_signed_bits c place s.word (drop (at + 1) ws.words) op s.prefix b)

pub bits_signed_err : (c : Context) (ws : Readable) (at : ℕ) (place span : Span) (op : Prefix) (f : Fault) → PrefixAt ws at span op → c.deep + 1 ≤ ws.limits.trees → Gives segment_longer (prefixed_in (inside (under c))) ws at (Err f) → Gives closed (bits_in c place) ws at (Err f)
bits_signed_err c ws at place span op f s b g = fault_after ws at at f (same_kinds closed) (bits_signed c ws at place span op s b) (fault_first (prefixed_in (inside (under c))) ws at f (behind_segment (inside (under c))) (segments_spelled (inside (under c))) g)

-- a bit expression whose first segment was read
abbrev pub BehindSegment : Context → Readable → ℕ → Span → Segment → ℕ → Result ((Expr × ℕ) × ℕ) Fault → Type 0
BehindSegment c ws next place sg h r = GivesBehind (bits_in c place) (more_segments_in (inside (under c))) (λ q. (x.Bits place (sg ∷ q.0), max h q.1 + 1)) ws next r

pub bits_signed_then : (c : Context) (ws : Readable) (at next : ℕ) (place span : Span) (op : Prefix) (sg : Segment) (h : ℕ) (r : Result ((Expr × ℕ) × ℕ) Fault) → PrefixAt ws at span op → c.deep + 1 ≤ ws.limits.trees → Gives segment_longer (prefixed_in (inside (under c))) ws at (Ok ((sg, h), next)) → BehindSegment c ws next place sg h r → Gives closed (bits_in c place) ws at r
bits_signed_then c ws at next place span op sg h r s b g m = m at (and_then (same_kinds closed) (bits_signed c ws at place span op s b) (first_of_two (behind_segment (inside (under c))) g))

refused_value : {most : Limits} (c : Context) (place : Span) (rest : List Word) (why : Cause) → (c.mode ≡ InSize → ⊥) → most.trees < c.deep + 1 → NoMark k.RightBits rest → NoPrefix rest → FirstToken begins_simple rest why → IsRefused most {X = Expr × ℕ} closed (bits_in c place) rest rest why
refused_value c place _ _ i b m n (only_deeper j rest v) = value_too_deep c place j rest i b m n v
refused_value c place _ _ i b m n (at_other j rest v) = no_value_there c place j rest m n v
refused_value c place _ _ i b m n at_end = no_value_at_end c place m n

pub bits_deep : (c : Context) (ws : Readable) (at : ℕ) (place : Span) (why : Cause) → (c.mode ≡ InSize → ⊥) → ws.limits.trees < c.deep + 1 → NoMark k.RightBits (drop at ws.words) → NoPrefix (drop at ws.words) → FirstToken begins_simple (drop at ws.words) why → IsRefused ws.limits {X = Expr × ℕ} closed (bits_in c place) (drop at ws.words) (drop at ws.words) why
bits_deep c ws at place why i b m n v = refused_value c place (drop at ws.words) why i b m n v

pub bits_value_err : (c : Context) (ws : Readable) (at : ℕ) (place : Span) (f : Fault) → c.deep + 1 ≤ ws.limits.trees → NoMark k.RightBits (drop at ws.words) → NoPrefix (drop at ws.words) → Gives closed (simple_in (inside (under c))) ws at (Err f) → Gives closed (bits_in c place) ws at (Err f)
bits_value_err c ws at place f b m n g = fault_after ws at at f (same_kinds closed) (on_bits_value c place (drop at ws.words) b m n) (fault_first (simple_in (inside (under c))) ws at f (behind_closed closed _) (value_completed c place) g)

pub bits_value_then : (c : Context) (ws : Readable) (at next : ℕ) (place : Span) (y : Placed Expr) (r : Result ((Expr × ℕ) × ℕ) Fault) → c.deep + 1 ≤ ws.limits.trees → NoMark k.RightBits (drop at ws.words) → NoPrefix (drop at ws.words) → Gives closed (simple_in (inside (under c))) ws at (Ok (y, next)) → GivesBehind (bits_in c place) (after_value_in c place y) (λ v. v) ws next r → Gives closed (bits_in c place) ws at r
bits_value_then c ws at next place y r b m n g t = t at (and_then (same_kinds closed) (on_bits_value c place (drop at ws.words) b m n) (first_of_two (behind_closed closed _) g))

-- ---- Behind a first value

pub value_rest_err : (c : Context) (ws : Readable) (at : ℕ) (place : Span) (y : Placed Expr) (f : Fault) → NoRow c.mode (drop at ws.words) → Gives segment_longer (segment_rest_in (inside (under c)) y) ws at (Err f) → GivesBehind (bits_in c place) (after_value_in c place y) (λ v. v) ws at (Err f)
value_rest_err c ws at place y f n g = λ start p. fault_after ws start at f (same_kinds closed) (and_then (same_kinds closed) p (on_bits_segments c place y (drop at ws.words) n)) (fault_first (segment_rest_in (inside (under c)) y) ws at f (behind_segment (inside (under c))) (segments_spelled (inside (under c))) g)

pub value_rest_then : (c : Context) (ws : Readable) (at next : ℕ) (place : Span) (y : Placed Expr) (sg : Segment) (h : ℕ) (r : Result ((Expr × ℕ) × ℕ) Fault) → NoRow c.mode (drop at ws.words) → Gives segment_longer (segment_rest_in (inside (under c)) y) ws at (Ok ((sg, h), next)) → BehindSegment c ws next place sg h r → GivesBehind (bits_in c place) (after_value_in c place y) (λ v. v) ws at r
value_rest_then c ws at next place y sg h r n g m = λ start p. m start (and_then (same_kinds closed) (and_then (same_kinds closed) p (on_bits_segments c place y (drop at ws.words) n)) (first_of_two (behind_segment (inside (under c))) g))

pub body_context : (c : Context) → c.mode ≡ InBody → inside (under c) ≡ in_body (c.deep + 1) (c.open_ + 1)
body_context c m = ap (λ v. record { mode = v; deep = c.deep + 1; open_ = c.open_ + 1 }) m

value_row : (c : Context) (ws : Readable) (at : ℕ) (place : Span) (y : Placed Expr) → c.mode ≡ InBody → IsAt ws at k.DoubleBar →
    Passes ws.limits {X = Expr × ℕ} {Y = List Qual × ℕ} closed (after_value_in c place y) (drop at ws.words) (quals_in k.RightBits (in_body (c.deep + 1) (c.open_ + 1))) (drop (at + 1) ws.words) (λ r. (x.BitsFor place (y.tree ∷ []) r.0, max y.height r.1 + 1))
value_row c ws at place y m s =
    let P : Context → Type 0 = λ v. Passes ws.limits {X = Expr × ℕ} {Y = List Qual × ℕ} closed (after_value_in c place y) (drop at ws.words) (quals_in k.RightBits v) (drop (at + 1) ws.words) (λ r. (x.BitsFor place (y.tree ∷ []) r.0, max y.height r.1 + 1)) in
    subst P (body_context c m) (at_token s.is (on_bits_row c place y s.word (drop (at + 1) ws.words) m s.kind_is))

pub value_row_err : (c : Context) (ws : Readable) (at : ℕ) (place : Span) (y : Placed Expr) (f : Fault) → c.mode ≡ InBody → IsAt ws at k.DoubleBar → Gives closed (quals_in k.RightBits (in_body (c.deep + 1) (c.open_ + 1))) ws (at + 1) (Err f) → GivesBehind (bits_in c place) (after_value_in c place y) (λ v. v) ws at (Err f)
value_row_err c ws at place y f m s g = λ start p. fault_after ws start (at + 1) f (same_kinds closed) (and_then (same_kinds closed) p (value_row c ws at place y m s)) g

pub value_row_ok : (c : Context) (ws : Readable) (at next : ℕ) (place : Span) (y : Placed Expr) (row : List Expr) (qs : List Qual) (d h : ℕ) → c.mode ≡ InBody → IsAt ws at k.DoubleBar → Gives closed (quals_in k.RightBits (in_body (c.deep + 1) (c.open_ + 1))) ws (at + 1) (Ok ((qs, d), next)) → row ≡ y.tree ∷ [] → h ≡ max y.height d + 1 → GivesBehind (bits_in c place) (after_value_in c place y) (λ v. v) ws at (Ok ((x.BitsFor place row qs, h), next))
value_row_ok c ws at next place y row qs d h m s g e i = λ start p. remade (λ u. same_pair (ap (λ v. x.BitsFor place v qs) (sym e)) (sym i)) (and_then (same_kinds closed) (and_then (same_kinds closed) p (value_row c ws at place y m s)) g)

-- ---- More segments

-- what was read so far of the bit expression that begins at `start`
abbrev pub ReadSegments : Context → Span → Readable → ℕ → ℕ → List Segment → ℕ → Type 0
ReadSegments c place ws start next items h = Passes ws.limits {X = Expr × ℕ} {Y = List Segment × ℕ} closed (bits_in c place) (drop start ws.words) (more_segments_in (inside (under c))) (drop next ws.words) (λ q. (x.Bits place (items ++ q.0), max h q.1 + 1))

-- what was read from the first segment on
abbrev pub ReadOn : Context → Span → Readable → ℕ → ℕ → Segment → ℕ → List Segment → ℕ → Type 0
ReadOn c place ws at next first d items h = (start : ℕ) → ReadSegments c place ws start at (first ∷ []) d → ReadSegments c place ws start next items h

pub segments_begin : (c : Context) (place : Span) (ws : Readable) (at : ℕ) (first : Segment) (d : ℕ) (items : List Segment) → items ≡ first ∷ [] → ReadOn c place ws at at first d items d
segments_begin c place ws at first d items e = λ start p. remade (λ q. same_pair (ap (λ v. x.Bits place (v ++ q.0)) (sym e)) refl) p

pub segments_end : (c : Context) (place : Span) (ws : Readable) (at next : ℕ) (first : Segment) (d : ℕ) (items all : List Segment) (h : ℕ) → ReadOn c place ws at next first d items h → IsAt ws next k.RightBits → all ≡ items → BehindSegment c ws at place first d (Ok ((x.Bits place all, h + 1), next + 1))
segments_end c place ws at next first d items all h r s e = λ start p. remade (λ u. same_pair (ap (λ v. x.Bits place v) (append-nil items ∙ sym e)) (omega arith)) (and_then (same_kinds closed) (r start p) (at_token s.is (on_end_segments (inside (under c)) s.word (drop (next + 1) ws.words) s.kind_is)))

pub segments_other : (c : Context) (place : Span) (ws : Readable) (at next : ℕ) (first : Segment) (d : ℕ) (items : List Segment) (h : ℕ) → ReadOn c place ws at next first d items h → NoMark k.Comma (drop next ws.words) → NoMark k.RightBits (drop next ws.words) → (start : ℕ) → ReadSegments c place ws start at (first ∷ []) d → IsRefused ws.limits {X = Expr × ℕ} closed (bits_in c place) (drop start ws.words) (drop next ws.words) Syntax
segments_other c place ws at next first d items h r a b start p = refused_after (same_kinds closed) (r start p) (segments_refused (inside (under c)) (drop next ws.words) a b)

segments_on : (c : Context) (place : Span) (ws : Readable) (start next : ℕ) (items : List Segment) (h : ℕ) → ReadSegments c place ws start next items h → IsAt ws next k.Comma →
    Passes ws.limits {X = Expr × ℕ} {Y = (Segment × ℕ) × (List Segment × ℕ)} closed (bits_in c place) (drop start ws.words) (λ p. segment_in (inside (under c)) p.0 ++ more_segments_in (inside (under c)) p.1) (drop (next + 1) ws.words) (λ p. (x.Bits place (items ++ (p.0.0 ∷ p.1.0)), max h (max p.0.1 p.1.1) + 1))
segments_on c place ws start next items h r s = and_then (same_kinds closed) r (at_token s.is (on_more_segments (inside (under c)) s.word (drop (next + 1) ws.words) s.kind_is))

pub segments_err : (c : Context) (place : Span) (ws : Readable) (at next : ℕ) (first : Segment) (d : ℕ) (items : List Segment) (h : ℕ) (f : Fault) → ReadOn c place ws at next first d items h → IsAt ws next k.Comma → Gives segment_longer (segment_in (inside (under c))) ws (next + 1) (Err f) → BehindSegment c ws at place first d (Err f)
segments_err c place ws at next first d items h f r s g = λ start p. fault_after ws start (next + 1) f (same_kinds closed) (segments_on c place ws start next items h (r start p) s) (fault_first (segment_in (inside (under c))) ws (next + 1) f (behind_segment (inside (under c))) (segments_spelled (inside (under c))) g)

pub segments_next : (c : Context) (place : Span) (ws : Readable) (at next after : ℕ) (first : Segment) (d : ℕ) (items all : List Segment) (h g : ℕ) (sg : Segment) (t : ℕ) → ReadOn c place ws at next first d items h → IsAt ws next k.Comma → Gives segment_longer (segment_in (inside (under c))) ws (next + 1) (Ok ((sg, t), after)) → all ≡ items ++ (sg ∷ []) → g ≡ max h t → ReadOn c place ws at after first d all g
segments_next c place ws at next after first d items all h g sg t r s v e i = λ start p. remade (λ q. same_pair (ap (λ u. x.Bits place u) (sym (append_assoc items (sg ∷ []) q.0) ∙ ap (λ u. u ++ q.0) (sym e))) (omega (arith, i))) (and_then (same_kinds closed) (segments_on c place ws start next items h (r start p) s) (first_of_two (behind_segment (inside (under c))) v))

-- ---- Why no value stands where it would be too deep

pub cause_end : (rest : List Word) → rest ≡ [] → FirstToken begins_simple rest Syntax
cause_end rest e = let P : List Word → Type 0 = λ v. FirstToken begins_simple v Syntax in subst P (sym e) at_end

pub cause_deeper : (all : Readable) (at : ℕ) (n : Numbered) → StandsAt all at n → begins_simple n.token.kind ≡ true → FirstToken begins_simple (drop at all.words) TooDeep
cause_deeper all at n s h = let P : List Word → Type 0 = λ v. FirstToken begins_simple v TooDeep in subst P (sym s.is) (only_deeper s.word (drop (at + 1) all.words) (ap begins_simple s.kind ∙ h))

pub cause_none : (all : Readable) (at : ℕ) (n : Numbered) → StandsAt all at n → begins_simple n.token.kind ≡ false → FirstToken begins_simple (drop at all.words) Syntax
cause_none all at n s h = let P : List Word → Type 0 = λ v. FirstToken begins_simple v Syntax in subst P (sym s.is) (at_other s.word (drop (at + 1) all.words) (ap begins_simple s.kind ∙ h))

-- bodies and guards are no sizes
pub no_size_mode : (site : Site) → mode_of site ≡ InSize → ⊥
no_size_mode AsBody e = cc
no_size_mode AsGuard e = cc
