-- The exits of the readers of qualifiers.
use Rattle.std.proofs.Common.{◌≡◌, ℕ, ◌+◌, ◌<◌, max, false, IsTrue, List, [], ◌∷◌, ◌++◌, drop, refl, sym, ap, subst, ◌∙◌, Ok, Err, Option, Some, None}
use Rattle.erl_syntax.specs.declared.span.Span.{Span}
use Rattle.erl_syntax.specs.declared.token.TokenKind.TheVariants as k
use Rattle.erl_syntax.specs.declared.expr.Expr.{Expr}
use Rattle.erl_syntax.specs.declared.pattern.Pattern.{Pattern}
use Rattle.erl_syntax.specs.declared.segment.Segment.{Segment}
use Rattle.erl_syntax.specs.declared.qual.Qual.TheVariants as q
use Rattle.erl_syntax.specs.Word.{Word}
use Rattle.erl_syntax.specs.Grammar.{Context, InSize, in_mode, Limits, Goal, Mark, Spells, takes, begins}
use Rattle.pattern_read.specs.declared.placed.Placed.{Placed}
use Rattle.pattern_read.specs.declared.fault.Fault.{Fault}
use Rattle.pattern_read.specs.declared.fault.Fault.TheVariants.{Memory, Refused}
use Rattle.pattern_read.specs.declared.fault.Cause.TheVariants.{Syntax}
use Rattle.pattern_read.specs.Cursor.{StandsAt}
use Rattle.pattern_read.specs.declared.cursor.Numbered.{Numbered}
use Rattle.pattern_read.specs.Reading.{Passes, closed, Gives}
use Rattle.pattern_read.specs.Wanted.{extends, level_in, mark_in, NoMark, IsAt}
use Rattle.body_read.specs.WantedExprs.{qual_longer, qual_in}
use Rattle.pattern_read.specs.WantedPatterns.{goes_same, pattern_in, pattern_bits_in}
use Rattle.body_read.specs.WantedItems.{generated_in, segments_in, bars, NoneOf, none_at_end, none_at, Joined, Joined3, BitsTried, BarStands, OpensBits}
use Rattle.pattern_read.proofs.Passing.{Behind, same_kinds, behind_closed, and_then, fault_after, at_token}
use Rattle.body_read.proofs.Choices.{refused_wider, refused_behind}
use Rattle.body_read.proofs.ItemExits.{marked_err, no_mark_err, marked_ok}
use Rattle.body_read.proofs.QualLaws.{opened_in, filter_qual, qual_within, bars_qual, filter_passes, generated_passes, opened_passes, plain_refused, ways_refused}
use Rattle.pattern_read.specs.Cursor.{Readable}

-- ---- A pattern with its arrow

no_arrow_same : {l : Limits} {gs : List Goal} {t : Word} {w : List Word} → IsTrue (goes_same t.kind) → Spells l (Mark k.LeftArrow ∷ gs) (t ∷ w) → ⊥
no_arrow_same h (takes t e d) = let a : goes_same t.kind ≡ false = ap goes_same e in cc

behind_generated : Behind {X = Placed Pattern} {Y = Unit {0}} goes_same closed (λ x. mark_in k.LeftArrow)
behind_generated = record { behind = λ l x u gs f t w h d. no_arrow_same h d }

pub generated_err : (c : Context) (ws : Readable) (at : ℕ) (f : Fault) → Gives goes_same (pattern_in (in_mode InSize c)) ws at (Err f) → Gives closed (generated_in c) ws at (Err f)
generated_err c ws at f g = marked_err goes_same (pattern_in (in_mode InSize c)) k.LeftArrow ws at f behind_generated g

pub generated_no_mark : (c : Context) (ws : Readable) (at next : ℕ) (y : Placed Pattern) (f : Fault) → Gives goes_same (pattern_in (in_mode InSize c)) ws at (Ok (y, next)) → Gives closed (mark_in k.LeftArrow) ws next (Err f) → Gives closed (generated_in c) ws at (Err f)
generated_no_mark c ws at next y f g h = no_mark_err goes_same (pattern_in (in_mode InSize c)) k.LeftArrow ws at next y f behind_generated g h

pub generated_ok : (c : Context) (ws : Readable) (at next after : ℕ) (y : Placed Pattern) → Gives goes_same (pattern_in (in_mode InSize c)) ws at (Ok (y, next)) → Gives closed (mark_in k.LeftArrow) ws next (Ok (tt, after)) → Gives closed (generated_in c) ws at (Ok (y, after))
generated_ok c ws at next after y g h = marked_ok goes_same (pattern_in (in_mode InSize c)) k.LeftArrow ws at next after y behind_generated g h

-- ---- Segments with their arrow

behind_bits : Behind {X = List Segment × ℕ} {Y = Unit {0}} closed closed (λ x. mark_in k.DoubleLeftArrow)
behind_bits = behind_closed closed (λ x. mark_in k.DoubleLeftArrow)

pub segments_err : (c : Context) (ws : Readable) (at : ℕ) (f : Fault) → Gives closed (pattern_bits_in (in_mode InSize c)) ws at (Err f) → Gives closed (segments_in c) ws at (Err f)
segments_err c ws at f g = marked_err closed (pattern_bits_in (in_mode InSize c)) k.DoubleLeftArrow ws at f behind_bits g

pub segments_no_mark : (c : Context) (ws : Readable) (at next : ℕ) (y : List Segment × ℕ) (f : Fault) → Gives closed (pattern_bits_in (in_mode InSize c)) ws at (Ok (y, next)) → Gives closed (mark_in k.DoubleLeftArrow) ws next (Err f) → Gives closed (segments_in c) ws at (Err f)
segments_no_mark c ws at next y f g h = no_mark_err closed (pattern_bits_in (in_mode InSize c)) k.DoubleLeftArrow ws at next y f behind_bits g h

pub segments_ok : (c : Context) (ws : Readable) (at next after : ℕ) (y : List Segment × ℕ) → Gives closed (pattern_bits_in (in_mode InSize c)) ws at (Ok (y, next)) → Gives closed (mark_in k.DoubleLeftArrow) ws next (Ok (tt, after)) → Gives closed (segments_in c) ws at (Ok (y, after))
segments_ok c ws at next after y g h = marked_ok closed (pattern_bits_in (in_mode InSize c)) k.DoubleLeftArrow ws at next after y behind_bits g h

same_segments : {a b : Span} {e : List Segment} {d : ℕ} → a ≡ b → (let P : Placed (List Segment) = record { at = a; tree = e; height = d } in P) ≡ (let P : Placed (List Segment) = record { at = b; tree = e; height = d } in P)
same_segments {e = e} {d = d} p = ap (λ v. record { at = v; tree = e; height = d }) p

opened_forth : (l : Limits) (c : Context) (r : Placed (List Segment)) (gs : List Goal) (j : Word) (w : List Word) → Spells l (opened_in c r ++ gs) (j ∷ w) → (r.at ≡ j.at) × Spells l (segments_in c (r.tree, r.height) ++ gs) w
opened_forth l c r gs j w (begins t kk ka z) = (ka, z)

on_opened : {most : Limits} (c : Context) (j : Word) (rest : List Word) → j.kind ≡ k.LeftBits → Passes most {X = Placed (List Segment)} {Y = List Segment × ℕ} closed (opened_in c) (j ∷ rest) (segments_in c) rest (λ r. record { at = j.at; tree = r.0; height = r.1 })
on_opened c j rest h = record {
  front = j ∷ [];
  whole = refl;
  back = λ l i r gs w d. begins j h refl d;
  forth = λ l r gs w f s d. let m = opened_forth l c r gs j w d in ((r.tree, r.height), same_segments m.0, m.1);
}

opened_err : (c : Context) (ws : Readable) (at : ℕ) (f : Fault) → IsAt ws at k.LeftBits → Gives closed (segments_in c) ws (at + 1) (Err f) → Gives closed (opened_in c) ws at (Err f)
opened_err c ws at f i g = fault_after ws at (at + 1) f (same_kinds closed) (at_token i.is (on_opened c i.word (drop (at + 1) ws.words) i.kind_is)) g

-- ---- A filter

wider_fault : (c : Context) (ws : Readable) (at : ℕ) (f : Fault) → Gives (extends 0) (level_in 0 c) ws at (Err f) → Gives qual_longer (level_in 0 c) ws at (Err f)
wider_fault c ws at Memory g = tt
wider_fault c ws at (Refused n why) g = refused_wider qual_within g

plain_joined : (c : Context) (ws : Readable) (at : ℕ) (pattern fault f : Fault) → NoMark k.LeftBits (drop at ws.words) → Gives closed (generated_in c) ws at (Err pattern) → Gives qual_longer (level_in 0 c) ws at (Err fault) → Joined pattern fault f → Gives qual_longer (qual_in c) ws at (Err f)
plain_joined c ws at pattern fault Memory n p q h = tt
plain_joined c ws at (Refused i a) (Refused j b) (Refused m why) n p q h = plain_refused c ws at i j m a b why n p q h
plain_joined c ws at Memory fault (Refused m why) n p q h = absurd h
plain_joined c ws at (Refused i a) Memory (Refused m why) n p q h = absurd h

ways_joined : (c : Context) (ws : Readable) (at : ℕ) (pattern bits fault later f : Fault) → c.open_ < ws.limits.brackets → Gives closed (generated_in c) ws at (Err pattern) → Gives closed (opened_in c) ws at (Err bits) → Gives qual_longer (level_in 0 c) ws at (Err fault) → Joined bits fault later → Joined pattern later f → Gives qual_longer (qual_in c) ws at (Err f)
ways_joined c ws at pattern bits fault later Memory r p q s g h = tt
ways_joined c ws at (Refused i a) (Refused j b) (Refused m d) (Refused n e) (Refused o why) r p q s g h = ways_refused c ws at i j m n o a b d e why r p q s g h
ways_joined c ws at Memory bits fault later (Refused o why) r p q s g h = absurd h
ways_joined c ws at (Refused i a) bits fault Memory (Refused o why) r p q s g h = absurd h
ways_joined c ws at (Refused i a) Memory fault (Refused n e) (Refused o why) r p q s g h = absurd g
ways_joined c ws at (Refused i a) (Refused j b) Memory (Refused n e) (Refused o why) r p q s g h = absurd g

qual_joined : (c : Context) (ws : Readable) (at : ℕ) (pattern : Fault) (bits : Option Fault) (fault f : Fault) → Gives closed (generated_in c) ws at (Err pattern) → BitsTried c ws at bits → Gives qual_longer (level_in 0 c) ws at (Err fault) → Joined3 pattern bits fault f → Gives qual_longer (qual_in c) ws at (Err f)
qual_joined c ws at pattern None fault f p b g h = plain_joined c ws at pattern fault f b p g h
qual_joined c ws at pattern (Some bits) fault f p b g h = ways_joined c ws at pattern bits fault h.0 f b.0 p (opened_err c ws at bits b.1 b.2) g h.1 h.2

pub filter_ok : (c : Context) (ws : Readable) (at after : ℕ) (y : Placed Expr) → NoneOf bars (drop after ws.words) → Gives (extends 0) (level_in 0 c) ws at (Ok (y, after)) → Gives qual_longer (qual_in c) ws at (Ok (filter_qual y, after))
filter_ok c ws at after y n g = filter_passes c y (drop at ws.words) (drop after ws.words) n g

pub filter_before_bar : (c : Context) (ws : Readable) (at after : ℕ) (y : Placed Expr) (pattern : Fault) (bits : Option Fault) (f : Fault) → BarStands ws after → Gives (extends 0) (level_in 0 c) ws at (Ok (y, after)) → Gives closed (generated_in c) ws at (Err pattern) → BitsTried c ws at bits → Joined3 pattern bits (Refused after Syntax) f → Gives qual_longer (qual_in c) ws at (Err f)
filter_before_bar c ws at after y pattern bits f i g p b h = qual_joined c ws at pattern bits (Refused after Syntax) f p b (refused_behind i.word (drop (after + 1) ws.words) qual_within i.is (bars_qual.within i.word.kind i.bar) g) h

pub filter_err : (c : Context) (ws : Readable) (at : ℕ) (pattern : Fault) (bits : Option Fault) (fault f : Fault) → Gives (extends 0) (level_in 0 c) ws at (Err fault) → Gives closed (generated_in c) ws at (Err pattern) → BitsTried c ws at bits → Joined3 pattern bits fault f → Gives qual_longer (qual_in c) ws at (Err f)
filter_err c ws at pattern bits fault f g p b h = qual_joined c ws at pattern bits fault f p b (wider_fault c ws at fault g) h

-- ---- Generators

pub items_err : (c : Context) (ws : Readable) (at after : ℕ) (y : Placed Pattern) (f : Fault) → Gives closed (generated_in c) ws at (Ok (y, after)) → Gives (extends 0) (level_in 0 c) ws after (Err f) → Gives qual_longer (qual_in c) ws at (Err f)
items_err c ws at after y f p g = fault_after ws at after f qual_within (generated_passes c y (drop at ws.words) (drop after ws.words) p) g

pub items_ok : (c : Context) (ws : Readable) (at after next h : ℕ) (y : Placed Pattern) (z : Placed Expr) → Gives closed (generated_in c) ws at (Ok (y, after)) → Gives (extends 0) (level_in 0 c) ws after (Ok (z, next)) → h ≡ max y.height z.height → Gives qual_longer (qual_in c) ws at (Ok ((q.Items y.at y.tree z.tree, h), next))
items_ok c ws at after next h y z p g e =
    let P : ℕ → Type 0 = λ v. Gives qual_longer (qual_in c) ws at (Ok ((q.Items y.at y.tree z.tree, v), next)) in
    subst P (sym e) (and_then qual_within (generated_passes c y (drop at ws.words) (drop after ws.words) p) g)

opened_ok : (c : Context) (ws : Readable) (at after : ℕ) (r : List Segment × ℕ) (i : IsAt ws at k.LeftBits) → Gives closed (segments_in c) ws (at + 1) (Ok (r, after)) → Gives closed (opened_in c) ws at (Ok (record { at = i.word.at; tree = r.0; height = r.1 }, after))
opened_ok c ws at after r i g = and_then (same_kinds closed) (at_token i.is (on_opened c i.word (drop (at + 1) ws.words) i.kind_is)) g

pub bits_err : (c : Context) (ws : Readable) (at after : ℕ) (r : List Segment × ℕ) (f : Fault) → c.open_ < ws.limits.brackets → IsAt ws at k.LeftBits → Gives closed (segments_in c) ws (at + 1) (Ok (r, after)) → Gives (extends 0) (level_in 0 c) ws after (Err f) → Gives qual_longer (qual_in c) ws at (Err f)
bits_err c ws at after r f b i p g = fault_after ws at after f qual_within (opened_passes c (record { at = i.word.at; tree = r.0; height = r.1 }) (drop at ws.words) (drop after ws.words) b (opened_ok c ws at after r i p)) g

pub bits_ok : (c : Context) (ws : Readable) (at after next h : ℕ) (place : Span) (sgs : List Segment) (d : ℕ) (z : Placed Expr) → c.open_ < ws.limits.brackets → (i : IsAt ws at k.LeftBits) → i.word.at ≡ place → Gives closed (segments_in c) ws (at + 1) (Ok ((sgs, d), after)) → Gives (extends 0) (level_in 0 c) ws after (Ok (z, next)) → h ≡ max d z.height → Gives qual_longer (qual_in c) ws at (Ok ((q.Bits place sgs z.tree, h), next))
bits_ok c ws at after next h place sgs d z b i s p g e =
    let P : Span → Type 0 = λ u. Gives qual_longer (qual_in c) ws at (Ok ((q.Bits u sgs z.tree, h), next)) in
    let Q : ℕ → Type 0 = λ v. Gives qual_longer (qual_in c) ws at (Ok ((q.Bits i.word.at sgs z.tree, v), next)) in
    subst P s (subst Q (sym e) (and_then qual_within (opened_passes c (record { at = i.word.at; tree = sgs; height = d }) (drop at ws.words) (drop after ws.words) b (opened_ok c ws at after (sgs, d) i p)) g))

-- ---- What stands there

pub no_bar_end : (rest : List Word) → rest ≡ [] → NoneOf bars rest
no_bar_end rest e = let P : List Word → Type 0 = λ v. NoneOf bars v in subst P (sym e) none_at_end

pub no_bar_at : (ws : Readable) (at : ℕ) (n : Numbered) → StandsAt ws at n → bars n.token.kind ≡ false → NoneOf bars (drop at ws.words)
no_bar_at ws at n s h = let P : List Word → Type 0 = λ v. NoneOf bars v in subst P (sym s.is) (none_at s.word (drop (at + 1) ws.words) (ap bars s.kind ∙ h))

abbrev pub opens_at : (ws : Readable) (at : ℕ) (place : Span) → OpensBits ws at place → IsAt ws at k.LeftBits
opens_at ws at place s = record { word = s.word; is = s.is; kind_is = s.kind }
