-- Single steps of readers: one more token or part of what is left of a wanted thing.
use Rattle.std.proofs.Common.{◌≡◌, ℕ, ◌+◌, List, [], ◌∷◌, ◌++◌, drop, Ok, Err, Bool, refl, sym, ap, subst, ◌∙◌}
use Rattle.erl_syntax.specs.declared.span.Span.{Span}
use Rattle.erl_syntax.specs.declared.token.TokenKind.{TokenKind}
use Rattle.erl_syntax.specs.Word.{Word}
use Rattle.erl_syntax.specs.Grammar.{Goal, Limits, Mark, The, Spells, takes, this}
use Rattle.pattern_read.specs.declared.fault.Fault.{Fault}
use Rattle.pattern_read.specs.declared.fault.Cause.TheVariants.{Syntax}
use Rattle.pattern_read.specs.Reading.{Passes, IsRefused, IsWide, SameHead, Gives}
use Rattle.pattern_read.specs.Wanted.{IsAt, NoMark, no_mark, no_mark_end}
use Rattle.pattern_read.proofs.Operands.{mark_word}
use Rattle.pattern_read.proofs.Passing.{Behind, Spelled, and_then, refused_after, first_of_two, fault_after, fault_first, same_kinds, at_token}
use Rattle.pattern_read.specs.Cursor.{Readable}

-- what is wanted has a spelling
pub record Opens (most : Limits) {Y : Type 0} (b : Y → List Goal) : Type 0 where
  pub tree : Y
  pub words : List Word
  pub spelled : (l : Limits) → IsWide most l → (gs : List Goal) (w : List Word) → Spells l gs w → Spells l (b tree ++ gs) (words ++ w)

-- ---- A mark

abbrev pub marked : {Y : Type 0} → TokenKind → (Y → List Goal) → Y → List Goal
marked kind b y = Mark kind ∷ b y

mark_behind : (kind : TokenKind) (l : Limits) (gs : List Goal) (j : Word) (w : List Word) → Spells l (Mark kind ∷ gs) (j ∷ w) → Spells l gs w
mark_behind kind l gs j w (takes t h z) = z

pub on_marked : {most : Limits} {Y : Type 0} {longer : TokenKind → Bool} (kind : TokenKind) (b : Y → List Goal) (j : Word) (rest : List Word) → j.kind ≡ kind → Passes most {X = Y} {Y = Y} longer (marked kind b) (j ∷ rest) b rest (λ y. y)
on_marked kind b j rest h = record {
  front = j ∷ [];
  whole = refl;
  back = λ l v y gs w d. takes j h d;
  forth = λ l y gs w f s d. (y, refl, mark_behind kind l (b y ++ gs) j w d);
}

marked_stops : (kind : TokenKind) (l : Limits) (gs : List Goal) (rest w : List Word) → NoMark kind rest → SameHead w rest → Spells l (Mark kind ∷ gs) w → ⊥
marked_stops kind l gs _ w no_mark_end s (takes t h z) = s
marked_stops kind l gs _ w (no_mark j rest n) s (takes t h z) = n (ap (λ v. v.kind) (sym s) ∙ h)

pub marked_refused : {most : Limits} {Y : Type 0} {longer : TokenKind → Bool} (kind : TokenKind) (b : Y → List Goal) (rest : List Word) → Opens most b → NoMark kind rest → IsRefused most {X = Y} longer (marked kind b) rest rest Syntax
marked_refused kind b rest o n = record {
  front = [];
  whole = refl;
  tree = o.tree;
  more = mark_word kind ∷ o.words;
  goes_on = λ l v gs w d. takes (mark_word kind) refl (o.spelled l v gs w d);
  stops = λ l i y gs w f s d. marked_stops kind l (b y ++ gs) rest w n s d;
  excused = tt;
}

pub opens_marked : {most : Limits} {Y : Type 0} (kind : TokenKind) (b : Y → List Goal) → Opens most b → Opens most (marked kind b)
opens_marked kind b o = record { tree = o.tree; words = mark_word kind ∷ o.words; spelled = λ l v gs w d. takes (mark_word kind) refl (o.spelled l v gs w d) }

-- the mark of the kind stands at the place
pub then_mark : {X Y : Type 0} {longer : TokenKind → Bool} {a : X → List Goal} {f : Y → X} (b : Y → List Goal) (ws : Readable) (at next : ℕ) (kind : TokenKind) →
    Passes ws.limits longer a (drop at ws.words) (marked kind b) (drop next ws.words) f → IsAt ws next kind → Passes ws.limits longer a (drop at ws.words) b (drop (next + 1) ws.words) f
then_mark {longer = longer} b ws at next kind p s = and_then (same_kinds longer) p (at_token s.is (on_marked kind b s.word (drop (next + 1) ws.words) s.kind_is))

pub then_no_mark : {X Y : Type 0} {longer : TokenKind → Bool} {a : X → List Goal} {f : Y → X} (b : Y → List Goal) (ws : Readable) (at next : ℕ) (kind : TokenKind) →
    Passes ws.limits longer a (drop at ws.words) (marked kind b) (drop next ws.words) f → Opens ws.limits b → NoMark kind (drop next ws.words) → IsRefused ws.limits longer a (drop at ws.words) (drop next ws.words) Syntax
then_no_mark {longer = longer} b ws at next kind p o n = refused_after (same_kinds longer) p (marked_refused kind b (drop next ws.words) o n)

-- ---- A token of a known kind, with what it stands for

pub record Meaning : Type 0 where
  pub at : Span
  pub number : ℕ
  pub chars : List ℕ

abbrev pub word_as : TokenKind → Meaning → Word
word_as kind m = record { kind = kind; at = m.at; number = m.number; chars = m.chars }

abbrev pub meaning : Word → Meaning
meaning t = record { at = t.at; number = t.number; chars = t.chars }

pub word_is : (t : Word) (kind : TokenKind) → t.kind ≡ kind → t ≡ word_as kind (meaning t)
word_is t kind h = ap (λ j. word_as j (meaning t)) h

abbrev pub worded : {Y : Type 0} → TokenKind → (Meaning → Y → List Goal) → Meaning × Y → List Goal
worded kind b p = The (word_as kind p.0) ∷ b p.0 p.1

word_behind : (kind : TokenKind) (l : Limits) (m : Meaning) (gs : List Goal) (j : Word) (w : List Word) → Spells l (The (word_as kind m) ∷ gs) (j ∷ w) → (m ≡ meaning j) × Spells l gs w
word_behind kind l m gs _ w (this z) = (refl, z)

pub on_worded : {most : Limits} {Y : Type 0} {longer : TokenKind → Bool} (kind : TokenKind) (b : Meaning → Y → List Goal) (j : Word) (rest : List Word) → j.kind ≡ kind →
    Passes most {X = Meaning × Y} {Y = Y} longer (worded kind b) (j ∷ rest) (b (meaning j)) rest (λ y. (meaning j, y))
on_worded {Y = Y} kind b j rest h = record {
  front = j ∷ [];
  whole = refl;
  back = λ l v y gs w d. let P : Word → Type 0 = λ t. Spells l (The t ∷ (b (meaning j) y ++ gs)) (j ∷ w) in subst P (word_is j kind h) (this d);
  forth = λ l p gs w f s d.
      let m = word_behind kind l p.0 (b p.0 p.1 ++ gs) j w d in
      let P : Meaning → Type 0 = λ n. Spells l (b n p.1 ++ gs) w in
      let Q : Meaning → Meaning × Y = λ n. (n, p.1) in
      (p.1, ap Q m.0, subst P m.0 m.1);
}

worded_stops : (kind : TokenKind) (l : Limits) (m : Meaning) (gs : List Goal) (rest w : List Word) → NoMark kind rest → SameHead w rest → Spells l (The (word_as kind m) ∷ gs) w → ⊥
worded_stops kind l m gs _ w no_mark_end s (this z) = s
worded_stops kind l m gs _ w (no_mark j rest n) s (this z) = n (ap (λ v. v.kind) (sym s))

pub record OpensFrom (most : Limits) {Y : Type 0} (b : Meaning → Y → List Goal) : Type 0 where
  pub opens : (m : Meaning) → Opens most (b m)

pub worded_refused : {most : Limits} {Y : Type 0} {longer : TokenKind → Bool} (kind : TokenKind) (b : Meaning → Y → List Goal) (rest : List Word) → OpensFrom most b → NoMark kind rest → IsRefused most {X = Meaning × Y} longer (worded kind b) rest rest Syntax
worded_refused {most = most} kind b rest o n =
    let m : Meaning = meaning (mark_word kind) in
    let p : Opens most (b m) = o.opens m in
    record {
      front = [];
      whole = refl;
      tree = (m, p.tree);
      more = mark_word kind ∷ p.words;
      goes_on = λ l v gs w d. this (p.spelled l v gs w d);
      stops = λ l i y gs w f s d. worded_stops kind l y.0 (b y.0 y.1 ++ gs) rest w n s d;
      excused = tt;
    }

pub opens_worded : {most : Limits} {Y : Type 0} (kind : TokenKind) (b : Meaning → Y → List Goal) → OpensFrom most b → Opens most (worded kind b)
opens_worded {most = most} kind b o =
    let m : Meaning = meaning (mark_word kind) in
    let p : Opens most (b m) = o.opens m in
    record { tree = (m, p.tree); words = mark_word kind ∷ p.words; spelled = λ l v gs w d. this (p.spelled l v gs w d) }

pub then_word : {X Y : Type 0} {longer : TokenKind → Bool} {a : X → List Goal} {f : Meaning × Y → X} (b : Meaning → Y → List Goal) (ws : Readable) (at next : ℕ) (kind : TokenKind) →
    Passes ws.limits longer a (drop at ws.words) (worded kind b) (drop next ws.words) f → (s : IsAt ws next kind) → Passes ws.limits longer a (drop at ws.words) (b (meaning s.word)) (drop (next + 1) ws.words) (λ y. f (meaning s.word, y))
then_word {longer = longer} b ws at next kind p s = and_then (same_kinds longer) p (at_token s.is (on_worded kind b s.word (drop (next + 1) ws.words) s.kind_is))

pub then_no_word : {X Y : Type 0} {longer : TokenKind → Bool} {a : X → List Goal} {f : Meaning × Y → X} (b : Meaning → Y → List Goal) (ws : Readable) (at next : ℕ) (kind : TokenKind) →
    Passes ws.limits longer a (drop at ws.words) (worded kind b) (drop next ws.words) f → OpensFrom ws.limits b → NoMark kind (drop next ws.words) → IsRefused ws.limits longer a (drop at ws.words) (drop next ws.words) Syntax
then_no_word {longer = longer} b ws at next kind p o n = refused_after (same_kinds longer) p (worded_refused kind b (drop next ws.words) o n)

-- ---- A part

pub then_part : {X Y Z : Type 0} {inner longer : TokenKind → Bool} {a : X → List Goal} {f : Z × Y → X} (c : Z → List Goal) (b : Z → Y → List Goal) (ws : Readable) (at next after : ℕ) (z : Z) →
    Behind inner longer b → Passes ws.limits longer a (drop at ws.words) (λ p. c p.0 ++ b p.0 p.1) (drop next ws.words) f → Gives inner c ws next (Ok (z, after)) →
    Passes ws.limits longer a (drop at ws.words) (b z) (drop after ws.words) (λ y. f (z, y))
then_part {longer = longer} c b ws at next after z n p g = and_then (same_kinds longer) p (first_of_two n g)

pub then_fault : {X Y Z : Type 0} {inner longer : TokenKind → Bool} {a : X → List Goal} {f : Z × Y → X} (c : Z → List Goal) (b : Z → Y → List Goal) {v : List Word} (ws : Readable) (at next : ℕ) (fault : Fault) →
    Behind inner longer b → Spelled ws.limits b v → Passes ws.limits longer a (drop at ws.words) (λ p. c p.0 ++ b p.0 p.1) (drop next ws.words) f → Gives inner c ws next (Err fault) → Gives longer a ws at (Err fault)
then_fault {longer = longer} c b ws at next fault n s p g = fault_after ws at next fault (same_kinds longer) p (fault_first c ws next fault n s g)
