-- The exits of the readers of items.
use Rattle.std.proofs.Common.{◌≡◌, ℕ, ◌+◌, ◌≤◌, max, Bool, false, IsTrue, List, [], ◌∷◌, ◌++◌, drop, refl, sym, ap, subst, ◌∙◌, append_assoc, append-nil, arith, ◌<◌, length, IfOk, Result, Ok, Err}
use Rattle.erl_syntax.specs.declared.token.TokenKind.{TokenKind}
use Rattle.erl_syntax.specs.declared.token.TokenKind.TheVariants as k
use Rattle.erl_syntax.specs.declared.expr.Expr.{Expr}
use Rattle.erl_syntax.specs.declared.pattern.Pattern.{Pattern}
use Rattle.erl_syntax.specs.declared.clause.Item.{Item}
use Rattle.erl_syntax.specs.Word.{Word}
use Rattle.erl_syntax.specs.Grammar.{Context, InSize, in_mode, Goal, Mark, takes}
use Rattle.pattern_read.specs.declared.placed.Placed.{Placed}
use Rattle.pattern_read.specs.declared.fault.Fault.{Fault}
use Rattle.pattern_read.specs.declared.fault.Fault.TheVariants.{Memory, Refused}
use Rattle.pattern_read.specs.declared.fault.Cause.{Cause}
use Rattle.pattern_read.specs.declared.fault.Cause.TheVariants.{Syntax, TooDeep, UnknownAttribute, UnknownSegmentType, Undecided}
use Rattle.pattern_read.specs.Reading.{Passes, IsRefused, GoesOn, Excused, closed, nothing, Gives}
use Rattle.pattern_read.specs.Wanted.{extends, level_in, mark_in, NoMark, no_mark_end, no_mark, IsAt}
use Rattle.body_read.specs.WantedExprs.{item_longer, item_in}
use Rattle.pattern_read.specs.WantedPatterns.{goes_same, pat_in}
use Rattle.body_read.specs.WantedItems.{matched_in, NoneOf, none_at_end, none_at, Joined, GivesValue}
use Rattle.pattern_read.proofs.Passing.{Behind, Spelled, same_kinds, behind_closed, and_then, first_of_two, fault_after, fault_first, remade, spells_as}
use Rattle.pattern_read.proofs.Levels.{same_pair}
use Rattle.pattern_read.proofs.Operands.{mark_word}
use Rattle.body_read.proofs.Choices.{refused_wider, refused_behind}
use Rattle.body_read.proofs.ItemLaws.{item_within, value_passes, matched_passes, item_refused}
use Rattle.pattern_read.specs.Cursor.{Readable}
use Rattle.erl_syntax.specs.Grammar.{Limits}

-- ---- A wanted thing and a mark behind it

abbrev pub and_mark : {X : Type 0} → (X → List Goal) → TokenKind → X → List Goal
and_mark a kind x = a x ++ (Mark kind ∷ [])

unmarked : {most : Limits} {X : Type 0} {longer : TokenKind → Bool} (a : X → List Goal) (kind : TokenKind) {from rest : List Word} {y : X} → Passes most {X = X × Unit {0}} longer (λ p. a p.0 ++ mark_in kind p.1) from nothing rest (λ u. (y, tt)) → Passes most longer (and_mark a kind) from nothing rest (λ u. y)
unmarked a kind p = record {
  front = p.front;
  whole = p.whole;
  back = p.back;
  forth = λ l x gs w f h d. let m = p.forth l (x, tt) gs w f h d in (tt, ap (λ v. v.0) m.1, m.2);
}

mark_spelled : {most : Limits} {X : Type 0} (kind : TokenKind) → Spelled most {X = X} {Y = Unit {0}} (λ x. mark_in kind) (mark_word kind ∷ [])
mark_spelled kind = record { tree = λ x. tt; spelled = λ l i x gs w d. takes (mark_word kind) refl d }

unmarked_goes_on : {most : Limits} {X : Type 0} (a : X → List Goal) (kind : TokenKind) {front rest : List Word} {why : Cause} → GoesOn most {X = X × Unit {0}} (λ p. a p.0 ++ mark_in kind p.1) front rest why → GoesOn most (and_mark a kind) front rest why
unmarked_goes_on a kind g = record { limits = g.limits; wide = g.wide; allows = g.allows; first = g.first; behind = g.behind; begins = g.begins; tree = g.tree.0; more = g.more; goes_on = g.goes_on }

unmarked_excused : (most : Limits) {X : Type 0} (a : X → List Goal) (kind : TokenKind) (front rest : List Word) (why : Cause) → Excused most {X = X × Unit {0}} (λ p. a p.0 ++ mark_in kind p.1) front rest why → Excused most (and_mark a kind) front rest why
unmarked_excused most a kind front rest Syntax e = tt
unmarked_excused most a kind front rest TooDeep e = unmarked_goes_on a kind e
unmarked_excused most a kind front rest UnknownAttribute e = unmarked_goes_on a kind e
unmarked_excused most a kind front rest UnknownSegmentType e = unmarked_goes_on a kind e
unmarked_excused most a kind front rest Undecided e = tt

unmarked_refused : {most : Limits} {X : Type 0} {longer : TokenKind → Bool} (a : X → List Goal) (kind : TokenKind) {from rest : List Word} {why : Cause} → IsRefused most {X = X × Unit {0}} longer (λ p. a p.0 ++ mark_in kind p.1) from rest why → IsRefused most longer (and_mark a kind) from rest why
unmarked_refused a kind {rest = rest} {why = why} r = record {
  front = r.front;
  whole = r.whole;
  tree = r.tree.0;
  more = r.more;
  goes_on = r.goes_on;
  stops = λ l s x gs w f h d. r.stops l s (x, tt) gs w f h d;
  excused = unmarked_excused _ a kind r.front rest why r.excused;
}

unmarked_fault : {X : Type 0} (a : X → List Goal) (kind : TokenKind) (ws : Readable) (at : ℕ) (f : Fault) → Gives {X = X × Unit {0}} closed (λ p. a p.0 ++ mark_in kind p.1) ws at (Err f) → Gives closed (and_mark a kind) ws at (Err f)
unmarked_fault a kind ws at Memory g = tt
unmarked_fault a kind ws at (Refused i why) g = unmarked_refused a kind g

-- the part's own fault
pub marked_err : {X : Type 0} (inner : TokenKind → Bool) (a : X → List Goal) (kind : TokenKind) (ws : Readable) (at : ℕ) (f : Fault) → Behind {X = X} {Y = Unit {0}} inner closed (λ x. mark_in kind) → Gives inner a ws at (Err f) → Gives closed (and_mark a kind) ws at (Err f)
marked_err inner a kind ws at f n g = unmarked_fault a kind ws at f (fault_first a ws at f n (mark_spelled kind) g)

-- no mark behind the part
pub no_mark_err : {X : Type 0} (inner : TokenKind → Bool) (a : X → List Goal) (kind : TokenKind) (ws : Readable) (at next : ℕ) (y : X) (f : Fault) → Behind {X = X} {Y = Unit {0}} inner closed (λ x. mark_in kind) → Gives inner a ws at (Ok (y, next)) → Gives closed (mark_in kind) ws next (Err f) → Gives closed (and_mark a kind) ws at (Err f)
no_mark_err inner a kind ws at next y f n g h = unmarked_fault a kind ws at f (fault_after ws at next f (same_kinds closed) (first_of_two n g) h)

pub marked_ok : {X : Type 0} (inner : TokenKind → Bool) (a : X → List Goal) (kind : TokenKind) (ws : Readable) (at next after : ℕ) (y : X) → Behind {X = X} {Y = Unit {0}} inner closed (λ x. mark_in kind) → Gives inner a ws at (Ok (y, next)) → Gives closed (mark_in kind) ws next (Ok (tt, after)) → Gives closed (and_mark a kind) ws at (Ok (y, after))
marked_ok inner a kind ws at next after y n g h = unmarked a kind (and_then (same_kinds closed) (first_of_two n g) h)

pub pattern_closed : Behind {X = Placed Pattern} {Y = Unit {0}} closed closed (λ x. mark_in k.Match)
pattern_closed = behind_closed closed (λ x. mark_in k.Match)

pub matched_err : (c : Context) (ws : Readable) (at : ℕ) (f : Fault) → Gives closed (pat_in (in_mode InSize c)) ws at (Err f) → Gives closed (matched_in c) ws at (Err f)
matched_err c ws at f g = marked_err closed (pat_in (in_mode InSize c)) k.Match ws at f pattern_closed g

pub matched_no_mark : (c : Context) (ws : Readable) (at next : ℕ) (y : Placed Pattern) (f : Fault) → Gives closed (pat_in (in_mode InSize c)) ws at (Ok (y, next)) → Gives closed (mark_in k.Match) ws next (Err f) → Gives closed (matched_in c) ws at (Err f)
matched_no_mark c ws at next y f g h = no_mark_err closed (pat_in (in_mode InSize c)) k.Match ws at next y f pattern_closed g h

pub matched_ok : (c : Context) (ws : Readable) (at next after : ℕ) (y : Placed Pattern) → Gives closed (pat_in (in_mode InSize c)) ws at (Ok (y, next)) → Gives closed (mark_in k.Match) ws next (Ok (tt, after)) → Gives closed (matched_in c) ws at (Ok (y, after))
matched_ok c ws at next after y g h = marked_ok closed (pat_in (in_mode InSize c)) k.Match ws at next after y pattern_closed g h

-- ---- The expression of an item

other_kind : (kind : TokenKind) → (kind ≡ k.Match → ⊥) → goes_same kind ≡ false
other_kind k.Match f = absurd (f refl)
other_kind _ f = refl

none_of_match : (rest : List Word) → NoMark k.Match rest → NoneOf goes_same rest
none_of_match _ no_mark_end = none_at_end
none_of_match _ (no_mark j rest f) = none_at j rest (other_kind j.kind f)

pub item_joined : (c : Context) (ws : Readable) (at : ℕ) (tried fault f : Fault) → Gives closed (matched_in c) ws at (Err tried) → Gives item_longer (level_in 0 c) ws at (Err fault) → Joined tried fault f → Gives item_longer (item_in c) ws at (Err f)
item_joined c ws at tried fault Memory p q h = tt
item_joined c ws at (Refused i a) (Refused j b) (Refused n why) p q h = item_refused c ws at i j n a b why p q h
item_joined c ws at Memory fault (Refused n why) p q h = absurd h
item_joined c ws at (Refused i a) Memory (Refused n why) p q h = absurd h

wider_fault : (c : Context) (ws : Readable) (at : ℕ) (f : Fault) → Gives (extends 0) (level_in 0 c) ws at (Err f) → Gives item_longer (level_in 0 c) ws at (Err f)
wider_fault c ws at Memory g = tt
wider_fault c ws at (Refused n why) g = refused_wider item_within g

pub value_ok : (c : Context) (ws : Readable) (at after : ℕ) (y : Placed Expr) → NoMark k.Match (drop after ws.words) → Gives (extends 0) (level_in 0 c) ws at (Ok (y, after)) → GivesValue c ws at (Ok (y, after))
value_ok c ws at after y n g = value_passes c y (drop at ws.words) (drop after ws.words) (none_of_match (drop after ws.words) n) g

match_longer : {kind : TokenKind} → kind ≡ k.Match → IsTrue (item_longer kind)
match_longer e = ap item_longer e

pub value_before_match : (c : Context) (ws : Readable) (at after : ℕ) (y : Placed Expr) (tried f : Fault) → IsAt ws after k.Match → Gives (extends 0) (level_in 0 c) ws at (Ok (y, after)) → Gives closed (matched_in c) ws at (Err tried) → Joined tried (Refused after Syntax) f → GivesValue c ws at (Err f)
value_before_match c ws at after y tried f i g p h = item_joined c ws at tried (Refused after Syntax) f p (refused_behind i.word (drop (after + 1) ws.words) item_within i.is (match_longer i.kind_is) g) h

pub value_err : (c : Context) (ws : Readable) (at : ℕ) (tried fault f : Fault) → Gives (extends 0) (level_in 0 c) ws at (Err fault) → Gives closed (matched_in c) ws at (Err tried) → Joined tried fault f → GivesValue c ws at (Err f)
value_err c ws at tried fault f g p h = item_joined c ws at tried fault f p (wider_fault c ws at fault g) h

pub read_as : (c : Context) (ws : Readable) (at : ℕ) (read r : Result (Placed Expr × ℕ) Fault) → read ≡ r → Gives (extends 0) (level_in 0 c) ws at read → Gives (extends 0) (level_in 0 c) ws at r
read_as c ws at read r e g = let P : Result (Placed Expr × ℕ) Fault → Type 0 = λ v. Gives (extends 0) (level_in 0 c) ws at v in subst P e g

pub read_further : (ws : Readable) (at : ℕ) (read : Result (Placed Expr × ℕ) Fault) (r : Placed Expr × ℕ) → read ≡ Ok r → IfOk read (λ v. (at < v.1) × (v.1 ≤ length ws.words)) → (at < r.1) × (r.1 ≤ length ws.words)
read_further ws at read r e h = let P : Result (Placed Expr × ℕ) Fault → Type 0 = λ u. IfOk u (λ v. (at < v.1) × (v.1 ≤ length ws.words)) in subst P e h

pub read_bounded : (most : Limits) (deep : ℕ) (read : Result (Placed Expr × ℕ) Fault) (r : Placed Expr × ℕ) → read ≡ Ok r → IfOk read (λ v. (1 ≤ v.0.height) × (deep + v.0.height ≤ most.trees + 1)) → (1 ≤ r.0.height) × (deep + r.0.height ≤ most.trees + 1)
read_bounded most deep read r e h = let P : Result (Placed Expr × ℕ) Fault → Type 0 = λ u. IfOk u (λ v. (1 ≤ v.0.height) × (deep + v.0.height ≤ most.trees + 1)) in subst P e h

-- ---- The patterns of an item

-- what was read so far
abbrev pub ItemRead : Context → Readable → ℕ → ℕ → List Pattern → ℕ → Type 0
ItemRead c ws at next ps h = Passes ws.limits item_longer (item_in c) (drop at ws.words) (item_in c) (drop next ws.words) (λ r. (record { patterns = ps ++ r.0.patterns; value = r.0.value }, max h r.1))

same_item : {ps qs : List Pattern} {v : Expr} {d g : ℕ} → ps ≡ qs → d ≡ g → (let P : Item × ℕ = (record { patterns = ps; value = v }, d) in P) ≡ (let P : Item × ℕ = (record { patterns = qs; value = v }, g) in P)
same_item {v = v} e h = same_pair (let P : List Pattern → Item = λ u. record { patterns = u; value = v } in ap P e) h

pub item_start : (c : Context) (ws : Readable) (at : ℕ) (ps : List Pattern) → ps ≡ [] → ItemRead c ws at at ps 0
item_start c ws at ps e = record {
  front = [];
  whole = refl;
  back = λ l i r gs w d. spells_as (ap (λ v. item_in c v ++ gs) (same_item (ap (λ v. v ++ r.0.patterns) (sym e)) (omega arith))) d;
  forth = λ l r gs w f h d. (r, same_item (ap (λ v. v ++ r.0.patterns) (sym e)) (omega arith), d);
}

pub item_turn : (c : Context) (ws : Readable) (at next after : ℕ) (ps all : List Pattern) (h g : ℕ) (y : Placed Pattern) → ItemRead c ws at next ps h → Gives closed (matched_in c) ws next (Ok (y, after)) → all ≡ ps ++ (y.tree ∷ []) → g ≡ max h y.height → ItemRead c ws at after all g
item_turn c ws at next after ps all h g y r m e i = remade (λ u. same_item (sym (append_assoc ps (y.tree ∷ []) u.0.patterns) ∙ ap (λ v. v ++ u.0.patterns) (sym e)) (omega (arith, i))) (and_then (same_kinds item_longer) r (matched_passes c y (drop next ws.words) (drop after ws.words) m))

pub item_end : (c : Context) (ws : Readable) (at next after : ℕ) (ps all : List Pattern) (h g : ℕ) (y : Placed Expr) → ItemRead c ws at next ps h → GivesValue c ws next (Ok (y, after)) → all ≡ ps → g ≡ max h y.height → Gives item_longer (item_in c) ws at (Ok ((record { patterns = all; value = y.tree }, g), after))
item_end c ws at next after ps all h g y r m e i = remade (λ u. same_item (append-nil ps ∙ sym e) (sym i)) (and_then (same_kinds item_longer) r m)

pub item_err : (c : Context) (ws : Readable) (at next : ℕ) (ps : List Pattern) (h : ℕ) (f : Fault) → ItemRead c ws at next ps h → GivesValue c ws next (Err f) → Gives item_longer (item_in c) ws at (Err f)
item_err c ws at next ps h f r m = fault_after ws at next f (same_kinds item_longer) r m
