-- The laws of items: a pattern with `=` and an item behind it, or an expression.
use Rattle.std.proofs.Common.{◌≡◌, ℕ, max, Bool, IsTrue, List, [], ◌∷◌, ◌++◌, drop, refl, sym, ap, subst, ◌∙◌, append_assoc, append-nil, ◌⊎◌, inl, inr, arith}
use Rattle.erl_syntax.specs.declared.span.Span.{Span}
use Rattle.erl_syntax.specs.declared.token.TokenKind.{TokenKind}
use Rattle.erl_syntax.specs.declared.token.TokenKind.TheVariants as k
use Rattle.erl_syntax.specs.declared.expr.Expr.{Expr}
use Rattle.erl_syntax.specs.declared.pattern.Pattern.{Pattern}
use Rattle.erl_syntax.specs.declared.clause.Item.{Item}
use Rattle.erl_syntax.specs.Word.{Word}
use Rattle.erl_syntax.specs.Grammar.{Context, Limits, Goal, Mark, Of, Level, Pat, AnItem, item_match, item_value, Spells, ends, takes, expands}
use Rattle.pattern_read.specs.declared.placed.Placed.{Placed}
use Rattle.pattern_read.specs.declared.fault.Cause.{Cause}
use Rattle.pattern_read.specs.Reading.{Passes, IsRefused, IsWide, Follows, SameHead, closed, nothing}
use Rattle.pattern_read.specs.Wanted.{extends, level_in}
use Rattle.body_read.specs.WantedExprs.{item_longer, item_in}
use Rattle.pattern_read.specs.WantedPatterns.{goes_same}
use Rattle.body_read.specs.WantedItems.{matched_in, bars, NoneOf, none_at_end, none_at, IsFarther}
use Rattle.pattern_read.proofs.Passing.{Within, same_kinds, follows_within, Spelled, behind_closed, refused_after, refused_first, spells_at}
use Rattle.pattern_read.proofs.Levels.{same_pair}
use Rattle.pattern_read.proofs.Operands.{some_word, some_expr, level_completed}
use Rattle.body_read.proofs.Walk.{Barred, shape}
use Rattle.body_read.proofs.Groups.{Whole, Group, apart, cut, level_whole, pat_group}
use Rattle.body_read.proofs.Choices.{either_of, both_refused}
use Rattle.pattern_read.specs.Cursor.{Readable}

pub itself_wide : (most : Limits) → IsWide most most
itself_wide most = record { trees = omega arith; brackets = omega arith }

-- ---- A pattern's tokens with a mark behind them

-- these tokens begin with a group and a mark of a kind
pub record BarAt (bar : TokenKind → Bool) (w : List Word) : Type 0 where
  pub group : List Word
  pub mark : Word
  pub behind : List Word
  pub both : w ≡ group ++ (mark ∷ behind)
  pub is_group : Group group
  pub is_bar : IsTrue (bar mark.kind)

barred : (kind : TokenKind) → IsTrue (bars kind) → shape kind ≡ Barred
barred k.Match h = refl
barred k.LeftArrow h = refl
barred k.DoubleLeftArrow h = refl
barred _ h = cc

pub bar_longer : {bar : TokenKind → Bool} (w x : List Word) → BarAt bar (w ++ []) → BarAt bar (w ++ x)
bar_longer w x b = record {
  group = b.group;
  mark = b.mark;
  behind = b.behind ++ x;
  both = ap (λ v. v ++ x) (sym (append-nil w) ∙ b.both) ∙ append_assoc b.group (b.mark ∷ b.behind) x;
  is_group = b.is_group;
  is_bar = b.is_bar;
}

pub after_whole : {bar : TokenKind → Bool} (e v : List Word) → Within bar bars → Whole e → BarAt bar (e ++ v) → (t : Word) × (z : List Word) × (v ≡ t ∷ z) × IsTrue (bar t.kind)
after_whole e v n h b = (b.mark, b.behind, (apart e v b.group b.behind b.mark h b.is_group (barred b.mark.kind (n.within b.mark.kind b.is_bar)) b.both).1, b.is_bar)

pub bar_behind_level : {bar : TokenKind → Bool} {l : Limits} {n : ℕ} {c : Context} {at : Span} {e : Expr} {d : ℕ} {gs : List Goal} {w : List Word} → Within bar bars → BarAt bar w → Spells l (Of (Level n c at e d) ∷ gs) w → (t : Word) × (z : List Word) × IsTrue (bar t.kind) × Spells l gs (t ∷ z)
bar_behind_level {bar = bar} {n = n} {c = c} {at = at} {e = e} {d = d} {gs = gs} m b s =
    let i = cut (Of (Level n c at e d) ∷ []) gs s in
    let P : List Word → Type 0 = λ v. BarAt bar v in
    let r = after_whole i.front i.rest m (level_whole i.first) (subst P i.both b) in
    (r.0, r.1, r.3, spells_at r.2 i.second)

pub marked : {bar : TokenKind → Bool} {l : Limits} {kind : TokenKind} {gs : List Goal} {u v w : List Word} → IsTrue (bar kind) → w ≡ u ++ v → Group u → Spells l (Mark kind ∷ gs) v → BarAt bar w
marked {bar = bar} h e g (takes t i d) = record { group = _; mark = t; behind = _; both = e; is_group = g; is_bar = ap bar i ∙ h }

pub pat_bar : {bar : TokenKind → Bool} {l : Limits} {kind : TokenKind} {c : Context} {at : Span} {e : Pattern} {d : ℕ} {gs : List Goal} {w : List Word} → IsTrue (bar kind) → Spells l (Of (Pat c at e d) ∷ Mark kind ∷ gs) w → BarAt bar w
pat_bar {kind = kind} {c = c} {at = at} {e = e} {d = d} {gs = gs} h s =
    let i = cut (Of (Pat c at e d) ∷ []) (Mark kind ∷ gs) s in
    marked h i.both (pat_group i.first) i.second

pub no_bar_there : {bar : TokenKind → Bool} (rest w : List Word) → NoneOf bar rest → SameHead w rest → (t : Word) (z : List Word) → w ≡ t ∷ z → IsTrue (bar t.kind) → ⊥
no_bar_there _ [] n s t z e h = cc
no_bar_there _ (u ∷ w) none_at_end s t z e h = s
no_bar_there {bar = bar} _ (u ∷ w) (none_at j rest f) s t z e h =
    let a : u ≡ t = cc in
    let i : bar t.kind ≡ bar j.kind = ap (λ v. bar v.kind) (sym a ∙ s) in cc

-- ---- The two ways of an item

abbrev pub match_and_more : Context → Placed Pattern × (Item × ℕ) → List Goal
match_and_more c p = matched_in c p.0 ++ item_in c p.1

abbrev pub with_pattern : Placed Pattern → Item × ℕ → Item × ℕ
with_pattern y r = (record { patterns = y.tree ∷ r.0.patterns; value = r.0.value }, max y.height r.1)

abbrev pub value_item : Placed Expr → Item × ℕ
value_item y = (record { patterns = []; value = y.tree }, y.height)

abbrev pub made_item : (Placed Pattern × (Item × ℕ)) ⊎ Placed Expr → Item × ℕ
made_item (inl p) = with_pattern p.0 p.1
made_item (inr y) = value_item y

item_ways : (l : Limits) (c : Context) (i : Item) (d : ℕ) (gs : List Goal) (w : List Word) → Spells l (Of (AnItem c i d) ∷ gs) w →
    (s : (Placed Pattern × (Item × ℕ)) ⊎ Placed Expr) × ((let P : Item × ℕ = (i, d) in P) ≡ made_item s) × Spells l (either_of (match_and_more c) (level_in 0 c) s ++ gs) w
item_ways l c i d gs w (expands _ (item_match c_0 ps value i_0 d_0 at pt dp di q0 q1) z) = (inl (record { at = at; tree = pt; height = dp }, (record { patterns = ps; value = value }, di)), same_pair q0 q1, z)
item_ways l c i d gs w (expands _ (item_value c_0 i_0 d_0 at y q0) z) = (inr (record { at = at; tree = y; height = d }), same_pair q0 refl, z)

item_made : (l : Limits) (c : Context) (s : (Placed Pattern × (Item × ℕ)) ⊎ Placed Expr) (gs : List Goal) (w : List Word) → Spells l (either_of (match_and_more c) (level_in 0 c) s ++ gs) w → Spells l (item_in c (made_item s) ++ gs) w
item_made l c (inl p) gs w d = expands _ (item_match c p.1.0.patterns p.1.0.value _ _ p.0.at p.0.tree p.0.height p.1.1 refl refl) d
item_made l c (inr y) gs w d = expands _ (item_value c _ _ y.at y.tree refl) d

on_item : {most : Limits} (c : Context) (from : List Word) → Passes most item_longer (item_in c) from (either_of (match_and_more c) (level_in 0 c)) from made_item
on_item c from = record {
  front = [];
  whole = refl;
  back = λ l i s gs w d. item_made l c s gs w d;
  forth = λ l r gs w f h d. item_ways l c r.0 r.1 gs w d;
}

extends_item : (kind : TokenKind) → IsTrue (extends 0 kind) → IsTrue (item_longer kind)
extends_item k.Match h = refl
extends_item _ h = h

pub item_within : Within (extends 0) item_longer
item_within = record { within = extends_item }

same_bars : (kind : TokenKind) → IsTrue (goes_same kind) → IsTrue (bars kind)
same_bars k.Match h = refl
same_bars _ h = cc

pub same_within : Within goes_same bars
same_within = record { within = same_bars }

same_items : (kind : TokenKind) → IsTrue (goes_same kind) → IsTrue (item_longer kind)
same_items k.Match h = refl
same_items _ h = cc

-- ---- An expression behind which no `=` stands is the item

value_forth : {most : Limits} (l : Limits) (c : Context) (y : Placed Expr) (from re : List Word) (p : Passes most (extends 0) (level_in 0 c) from nothing re (λ u. y)) → NoneOf goes_same re → (x : Item × ℕ) (gs : List Goal) (w : List Word) → Follows l item_longer gs → SameHead w re →
    (s : (Placed Pattern × (Item × ℕ)) ⊎ Placed Expr) → x ≡ made_item s → Spells l (either_of (match_and_more c) (level_in 0 c) s ++ gs) (p.front ++ w) → (u : Unit {0}) × (x ≡ value_item y) × Spells l gs w
value_forth l c y from re p n x gs w f h (inl q) e d =
    let b : BarAt goes_same (p.front ++ w) = pat_bar refl d in
    let o : Whole p.front = level_whole (spells_at (append-nil p.front) (p.back _ (itself_wide _) tt [] [] ends)) in
    let r = after_whole p.front w same_within o b in
    absurd (no_bar_there re w n h r.0 r.1 r.2 r.3)
value_forth l c y from re p n x gs w f h (inr z) e d =
    let m = p.forth l z gs w (follows_within item_within f) h d in
    (tt, e ∙ ap value_item m.1, m.2)

pub value_passes : {most : Limits} (c : Context) (y : Placed Expr) (from re : List Word) → NoneOf goes_same re → Passes most (extends 0) (level_in 0 c) from nothing re (λ u. y) → Passes most item_longer (item_in c) from nothing re (λ u. value_item y)
value_passes c y from re n p = record {
  front = p.front;
  whole = p.whole;
  back = λ l i u gs w d. expands _ (item_value c _ _ y.at y.tree refl) (p.back l i tt gs w d);
  forth = λ l x gs w f h d. let m = item_ways l c x.0 x.1 gs (p.front ++ w) d in value_forth l c y from re p n x gs w f h m.0 m.1 m.2;
}

-- ---- A pattern with its `=` is the item's own

matched_forth : {most : Limits} (l : Limits) (c : Context) (y : Placed Pattern) (from rm : List Word) (p : Passes most closed (matched_in c) from nothing rm (λ u. y)) (x : Item × ℕ) (gs : List Goal) (w : List Word) → Follows l item_longer gs → SameHead w rm →
    (s : (Placed Pattern × (Item × ℕ)) ⊎ Placed Expr) → x ≡ made_item s → Spells l (either_of (match_and_more c) (level_in 0 c) s ++ gs) (p.front ++ w) → (r : Item × ℕ) × (x ≡ with_pattern y r) × Spells l (item_in c r ++ gs) w
matched_forth l c y from rm p x gs w f h (inl q) e d =
    let m = p.forth l q.0 (item_in c q.1 ++ gs) w (λ t v i j. cc) h d in
    (q.1, e ∙ ap (λ v. with_pattern v q.1) m.1, m.2)
matched_forth l c y from rm p x gs w f h (inr z) e d =
    let b : BarAt goes_same (p.front ++ []) = pat_bar refl (p.back _ (itself_wide _) tt [] [] ends) in
    let r = bar_behind_level same_within (bar_longer p.front w b) d in
    absurd (f r.0 r.1 (same_items r.0.kind r.2) r.3)

pub matched_passes : {most : Limits} (c : Context) (y : Placed Pattern) (from rm : List Word) → Passes most closed (matched_in c) from nothing rm (λ u. y) → Passes most item_longer (item_in c) from (item_in c) rm (λ r. with_pattern y r)
matched_passes c y from rm p = record {
  front = p.front;
  whole = p.whole;
  back = λ l i r gs w d. expands _ (item_match c r.0.patterns r.0.value _ _ y.at y.tree y.height r.1 refl refl) (p.back l i tt (item_in c r ++ gs) w d);
  forth = λ l x gs w f h d. let m = item_ways l c x.0 x.1 gs (p.front ++ w) d in matched_forth l c y from rm p x gs w f h m.0 m.1 m.2;
}

-- ---- Both are refused

item_spelled : {most : Limits} (c : Context) → Spelled most {X = Placed Pattern} {Y = Item × ℕ} (λ p. item_in c) (some_word ∷ [])
item_spelled c = record { tree = λ p. value_item some_expr; spelled = λ l i p gs w d. expands _ (item_value c _ _ _ _ refl) (level_completed 0 l c gs w d) }

pub item_refused : (c : Context) (ws : Readable) (at i j n : ℕ) (a b why : Cause) → IsRefused ws.limits closed (matched_in c) (drop at ws.words) (drop i ws.words) a → IsRefused ws.limits item_longer (level_in 0 c) (drop at ws.words) (drop j ws.words) b → IsFarther i a j b n why → IsRefused ws.limits item_longer (item_in c) (drop at ws.words) (drop n ws.words) why
item_refused c ws at i j n a b why p q h =
    refused_after (same_kinds item_longer) (on_item c (drop at ws.words)) (both_refused ws (drop at ws.words) i j n a b why (refused_first (behind_closed item_longer (λ y. item_in c)) (item_spelled c) p) q h)
