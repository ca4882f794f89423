-- The laws of qualifiers: a pattern or segments of bits with an arrow and an expression behind it, or an expression.
use Rattle.std.proofs.Common.{◌≡◌, ℕ, ◌<◌, max, Bool, true, false, IsTrue, List, [], ◌∷◌, ◌++◌, drop, refl, sym, ap, subst, ◌∙◌, append-nil, ◌⊎◌, inl, inr, arith}
use Rattle.erl_syntax.specs.declared.span.Span.{Span}
use Rattle.erl_syntax.specs.declared.token.TokenKind.{TokenKind}
use Rattle.erl_syntax.specs.declared.token.TokenKind.TheVariants as k
use Rattle.erl_syntax.specs.declared.expr.Expr.{Expr}
use Rattle.erl_syntax.specs.declared.pattern.Pattern.{Pattern}
use Rattle.erl_syntax.specs.declared.segment.Segment.{Segment}
use Rattle.erl_syntax.specs.declared.qual.Qual.{Qual}
use Rattle.erl_syntax.specs.declared.qual.Qual.TheVariants as q
use Rattle.erl_syntax.specs.Word.{Word}
use Rattle.erl_syntax.specs.Grammar.{Context, Limits, Goal, Mark, At, Of, Pat, APattern, SameTail, PatternBits, AQual, pattern, same, not_same, generator, bits_generator, filter, Spells, ends, begins, expands}
use Rattle.pattern_read.specs.declared.placed.Placed.{Placed}
use Rattle.pattern_read.specs.declared.fault.Cause.{Cause}
use Rattle.pattern_read.specs.Reading.{Passes, IsRefused, Follows, SameHead, closed, nothing}
use Rattle.pattern_read.specs.Wanted.{extends, level_in, NoMark, no_mark_end, no_mark}
use Rattle.body_read.specs.WantedExprs.{qual_longer, qual_in}
use Rattle.body_read.specs.WantedItems.{generated_in, segments_in, arrows, bars, NoneOf, IsFarther}
use Rattle.pattern_read.proofs.Passing.{Within, same_kinds, follows_within, Spelled, behind_closed, refused_after, refused_first, spells_at}
use Rattle.pattern_read.proofs.Levels.{same_pair}
use Rattle.pattern_read.proofs.Operands.{some_word, some_expr, level_completed}
use Rattle.body_read.proofs.Walk.{Floor, Inside, shape, walks}
use Rattle.body_read.proofs.Groups.{Whole, Group, bracket, group_whole, cut, level_whole, pat_group}
use Rattle.body_read.proofs.Choices.{either_of, both_refused}
use Rattle.body_read.proofs.ItemLaws.{BarAt, bar_longer, after_whole, bar_behind_level, marked, no_bar_there, itself_wide}
use Rattle.pattern_read.specs.Cursor.{Readable}

-- ---- The three ways of a qualifier

abbrev pub generator_in : Context → Placed Pattern × Placed Expr → List Goal
generator_in c p = generated_in c p.0 ++ level_in 0 c p.1

abbrev pub opened_in : Context → Placed (List Segment) → List Goal
opened_in c r = At k.LeftBits r.at ∷ segments_in c (r.tree, r.height)

abbrev pub bits_generator_in : Context → Placed (List Segment) × Placed Expr → List Goal
bits_generator_in c p = opened_in c p.0 ++ level_in 0 c p.1

abbrev pub items_qual : Placed Pattern → Placed Expr → Qual × ℕ
items_qual y z = (q.Items y.at y.tree z.tree, max y.height z.height)

abbrev pub bits_qual : Placed (List Segment) → Placed Expr → Qual × ℕ
bits_qual y z = (q.Bits y.at y.tree z.tree, max y.height z.height)

abbrev pub filter_qual : Placed Expr → Qual × ℕ
filter_qual y = (q.Filter y.at y.tree, y.height)

abbrev pub Ways : Type 0
Ways = (Placed Pattern × Placed Expr) ⊎ ((Placed (List Segment) × Placed Expr) ⊎ Placed Expr)

abbrev pub ways_in : Context → Ways → List Goal
ways_in c s = either_of (generator_in c) (either_of (bits_generator_in c) (level_in 0 c)) s

abbrev pub made_qual : Ways → Qual × ℕ
made_qual (inl p) = items_qual p.0 p.1
made_qual (inr (inl p)) = bits_qual p.0 p.1
made_qual (inr (inr y)) = filter_qual y

qual_ways : (l : Limits) (c : Context) (i : Qual) (d : ℕ) (gs : List Goal) (w : List Word) → Spells l (Of (AQual c i d) ∷ gs) w → (s : Ways) × ((let P : Qual × ℕ = (i, d) in P) ≡ made_qual s) × Spells l (ways_in c s ++ gs) w
qual_ways l c i d gs w (expands _ (generator c_0 ql d_0 at pt dp az z dz q0 q1) h) = (inl (record { at = at; tree = pt; height = dp }, record { at = az; tree = z; height = dz }), same_pair q0 q1, h)
qual_ways l c i d gs w (expands _ (bits_generator c_0 ql d_0 at sgs ds az z dz q0 q1 q2) h) = (inr (inl (record { at = at; tree = sgs; height = ds }, record { at = az; tree = z; height = dz })), same_pair q1 q2, h)
qual_ways l c i d gs w (expands _ (filter c_0 ql d_0 at y q0) h) = (inr (inr (record { at = at; tree = y; height = d })), same_pair q0 refl, h)

qual_made : (l : Limits) (c : Context) (s : Ways) (gs : List Goal) (w : List Word) → c.open_ < l.brackets → Spells l (ways_in c s ++ gs) w → Spells l (qual_in c (made_qual s) ++ gs) w
qual_made l c (inl p) gs w b d = expands _ (generator c _ _ p.0.at p.0.tree p.0.height p.1.at p.1.tree p.1.height refl refl) d
qual_made l c (inr (inl p)) gs w b d = expands _ (bits_generator c _ _ p.0.at p.0.tree p.0.height p.1.at p.1.tree p.1.height b refl refl) d
qual_made l c (inr (inr y)) gs w b d = expands _ (filter c _ _ y.at y.tree refl) d

on_qual : {most : Limits} (c : Context) (from : List Word) → c.open_ < most.brackets → Passes most qual_longer (qual_in c) from (ways_in c) from made_qual
on_qual c from b = record {
  front = [];
  whole = refl;
  back = λ l i s gs w d. qual_made l c s gs w (omega (arith, i.brackets)) d;
  forth = λ l r gs w f h d. qual_ways l c r.0 r.1 gs w d;
}

-- where no `<<` stands
abbrev pub Plain : Type 0
Plain = (Placed Pattern × Placed Expr) ⊎ Placed Expr

abbrev pub plain_in : Context → Plain → List Goal
plain_in c s = either_of (generator_in c) (level_in 0 c) s

abbrev pub made_plain : Plain → Qual × ℕ
made_plain (inl p) = items_qual p.0 p.1
made_plain (inr y) = filter_qual y

no_bits : (l : Limits) (c : Context) (p : Placed (List Segment) × Placed Expr) (gs : List Goal) (rest w : List Word) → NoMark k.LeftBits rest → SameHead w rest → Spells l (bits_generator_in c p ++ gs) w → ⊥
no_bits l c p gs _ w no_mark_end h (begins t kk ka d) = h
no_bits l c p gs _ w (no_mark j rest f) h (begins t kk ka d) = f (ap (λ v. v.kind) (sym h) ∙ kk)

plain_ways : (l : Limits) (c : Context) (x : Qual × ℕ) (gs : List Goal) (rest w : List Word) → NoMark k.LeftBits rest → SameHead w rest → (s : Ways) → x ≡ made_qual s → Spells l (ways_in c s ++ gs) w → (s : Plain) × (x ≡ made_plain s) × Spells l (plain_in c s ++ gs) w
plain_ways l c x gs rest w n h (inl p) e d = (inl p, e, d)
plain_ways l c x gs rest w n h (inr (inl p)) e d = absurd (no_bits l c p gs rest w n h d)
plain_ways l c x gs rest w n h (inr (inr y)) e d = (inr y, e, d)

plain_made : (l : Limits) (c : Context) (s : Plain) (gs : List Goal) (w : List Word) → Spells l (plain_in c s ++ gs) w → Spells l (qual_in c (made_plain s) ++ gs) w
plain_made l c (inl p) gs w d = expands _ (generator c _ _ p.0.at p.0.tree p.0.height p.1.at p.1.tree p.1.height refl refl) d
plain_made l c (inr y) gs w d = expands _ (filter c _ _ y.at y.tree refl) d

on_plain : {most : Limits} (c : Context) (from : List Word) → NoMark k.LeftBits from → Passes most qual_longer (qual_in c) from (plain_in c) from made_plain
on_plain c from n = record {
  front = [];
  whole = refl;
  back = λ l i s gs w d. plain_made l c s gs w d;
  forth = λ l r gs w f h d. let m = qual_ways l c r.0 r.1 gs w d in plain_ways l c r gs from w n h m.0 m.1 m.2;
}

-- ---- The marks behind generators

extends_qual : (kind : TokenKind) → IsTrue (extends 0 kind) → IsTrue (qual_longer kind)
extends_qual k.Match h = refl
extends_qual k.LeftArrow h = refl
extends_qual k.DoubleLeftArrow h = refl
extends_qual _ h = h

pub qual_within : Within (extends 0) qual_longer
qual_within = record { within = extends_qual }

arrow_bars : (kind : TokenKind) → IsTrue (arrows kind) → IsTrue (bars kind)
arrow_bars k.Match h = refl
arrow_bars k.LeftArrow h = refl
arrow_bars _ h = cc

arrows_within : Within arrows bars
arrows_within = record { within = arrow_bars }

bars_longer : (kind : TokenKind) → IsTrue (bars kind) → IsTrue (qual_longer kind)
bars_longer k.Match h = refl
bars_longer k.LeftArrow h = refl
bars_longer k.DoubleLeftArrow h = refl
bars_longer _ h = cc

pub bars_qual : Within bars qual_longer
bars_qual = record { within = bars_longer }

behind_pat : {l : Limits} {c : Context} {at : Span} {y : Pattern} {dy : ℕ} {e : Pattern} {d : ℕ} {gs : List Goal} {u v w : List Word} → w ≡ u ++ v → Group u → Spells l (Of (SameTail c at y dy e d) ∷ Mark k.LeftArrow ∷ gs) v → BarAt arrows w
behind_pat h g (expands _ (not_same c_0 at_0 y_0 dy_0 e_0 d_0 q0 q1) z) = marked refl h g z
behind_pat h g (expands _ (same c_0 at_0 y_0 dy_0 e_0 d_0 az zz dz zs dzs q0 q1 q2) z) = marked refl h g z

pattern_bar : {l : Limits} {c : Context} {at : Span} {e : Pattern} {d : ℕ} {gs : List Goal} {w : List Word} → Spells l (Of (APattern c at e d) ∷ Mark k.LeftArrow ∷ gs) w → BarAt arrows w
pattern_bar {gs = gs} (expands _ (pattern c_0 at_0 e_0 d_0 y dy) z) = let i = cut (Of (Pat c_0 at_0 y dy) ∷ []) (Of (SameTail c_0 at_0 y dy e_0 d_0) ∷ Mark k.LeftArrow ∷ gs) z in behind_pat i.both (pat_group i.first) i.second

abbrev wide_arrow : TokenKind → Bool
wide_arrow k.DoubleLeftArrow = true
wide_arrow _ = false

wide_bars : (kind : TokenKind) → IsTrue (wide_arrow kind) → IsTrue (bars kind)
wide_bars k.DoubleLeftArrow h = refl
wide_bars _ h = cc

wide_within : Within wide_arrow bars
wide_within = record { within = wide_bars }

one_way : (kind : TokenKind) → IsTrue (arrows kind) → IsTrue (wide_arrow kind) → ⊥
one_way k.Match h i = cc
one_way k.LeftArrow h i = cc
one_way _ h i = cc

bits_bar : {l : Limits} {c : Context} {at : Span} {e : List Segment} {d : ℕ} {gs : List Goal} {w : List Word} → Spells l (At k.LeftBits at ∷ Of (PatternBits c e d) ∷ Mark k.DoubleLeftArrow ∷ gs) w → BarAt wide_arrow w
bits_bar {c = c} {e = e} {d = d} {gs = gs} (begins t kk ka z) =
    let i = cut (Of (PatternBits c e d) ∷ []) (Mark k.DoubleLeftArrow ∷ gs) z in
    marked refl (ap (λ v. t ∷ v) i.both) (bracket t i.front (ap shape kk) (walks i.first (Inside Floor) Floor refl)) i.second

two_bars : (w : List Word) → BarAt arrows w → BarAt wide_arrow w → ⊥
two_bars w a b =
    let P : List Word → Type 0 = λ v. BarAt arrows v in
    let r = after_whole b.group (b.mark ∷ b.behind) arrows_within (group_whole b.group b.is_group) (subst P b.both a) in
    let e : b.mark ≡ r.0 = cc in
    one_way b.mark.kind (ap (λ v. arrows v.kind) e ∙ r.3) b.is_bar

-- ---- An expression behind which none of the marks stands is a filter

bar_of : (bar : TokenKind → Bool) (w : List Word) → Within bar bars → BarAt bar w → BarAt bars w
bar_of bar w n b = record { group = b.group; mark = b.mark; behind = b.behind; both = b.both; is_group = b.is_group; is_bar = n.within b.mark.kind b.is_bar }

filter_forth : {most : Limits} (l : Limits) (c : Context) (y : Placed Expr) (from re : List Word) (p : Passes most (extends 0) (level_in 0 c) from nothing re (λ u. y)) → NoneOf bars re → (x : Qual × ℕ) (gs : List Goal) (w : List Word) → Follows l qual_longer gs → SameHead w re →
    (s : Ways) → x ≡ made_qual s → Spells l (ways_in c s ++ gs) (p.front ++ w) → (u : Unit {0}) × (x ≡ filter_qual y) × Spells l gs w
filter_forth l c y from re p n x gs w f h (inl i) e d =
    let o : Whole p.front = level_whole (spells_at (append-nil p.front) (p.back _ (itself_wide _) tt [] [] ends)) in
    let r = after_whole p.front w (same_kinds bars) o (bar_of arrows (p.front ++ w) arrows_within (pattern_bar d)) in
    absurd (no_bar_there re w n h r.0 r.1 r.2 r.3)
filter_forth l c y from re p n x gs w f h (inr (inl i)) e d =
    let o : Whole p.front = level_whole (spells_at (append-nil p.front) (p.back _ (itself_wide _) tt [] [] ends)) in
    let r = after_whole p.front w (same_kinds bars) o (bar_of wide_arrow (p.front ++ w) wide_within (bits_bar d)) in
    absurd (no_bar_there re w n h r.0 r.1 r.2 r.3)
filter_forth l c y from re p n x gs w f h (inr (inr z)) e d =
    let m = p.forth l z gs w (follows_within qual_within f) h d in
    (tt, e ∙ ap filter_qual m.1, m.2)

pub filter_passes : {most : Limits} (c : Context) (y : Placed Expr) (from re : List Word) → NoneOf bars re → Passes most (extends 0) (level_in 0 c) from nothing re (λ u. y) → Passes most qual_longer (qual_in c) from nothing re (λ u. filter_qual y)
filter_passes c y from re n p = record {
  front = p.front;
  whole = p.whole;
  back = λ l i u gs w d. expands _ (filter c _ _ y.at y.tree refl) (p.back l i tt gs w d);
  forth = λ l x gs w f h d. let m = qual_ways l c x.0 x.1 gs (p.front ++ w) d in filter_forth l c y from re p n x gs w f h m.0 m.1 m.2;
}

-- ---- A pattern with its arrow is a generator's

generated_forth : {most : Limits} (l : Limits) (c : Context) (y : Placed Pattern) (from rm : List Word) (p : Passes most closed (generated_in c) from nothing rm (λ u. y)) (x : Qual × ℕ) (gs : List Goal) (w : List Word) → Follows l qual_longer gs → SameHead w rm →
    (s : Ways) → x ≡ made_qual s → Spells l (ways_in c s ++ gs) (p.front ++ w) → (r : Placed Expr) × (x ≡ items_qual y r) × Spells l (level_in 0 c r ++ gs) w
generated_forth l c y from rm p x gs w f h (inl i) e d =
    let m = p.forth l i.0 (level_in 0 c i.1 ++ gs) w (λ t v a b. cc) h d in
    (i.1, e ∙ ap (λ v. items_qual v i.1) m.1, m.2)
generated_forth l c y from rm p x gs w f h (inr (inl i)) e d =
    absurd (two_bars (p.front ++ w) (bar_longer p.front w (pattern_bar (p.back _ (itself_wide _) tt [] [] ends))) (bits_bar d))
generated_forth l c y from rm p x gs w f h (inr (inr z)) e d =
    let b : BarAt arrows (p.front ++ []) = pattern_bar (p.back _ (itself_wide _) tt [] [] ends) in
    let r = bar_behind_level arrows_within (bar_longer p.front w b) d in
    absurd (f r.0 r.1 (bars_longer r.0.kind (arrow_bars r.0.kind r.2)) r.3)

pub generated_passes : {most : Limits} (c : Context) (y : Placed Pattern) (from rm : List Word) → Passes most closed (generated_in c) from nothing rm (λ u. y) → Passes most qual_longer (qual_in c) from (level_in 0 c) rm (λ r. items_qual y r)
generated_passes c y from rm p = record {
  front = p.front;
  whole = p.whole;
  back = λ l i r gs w d. expands _ (generator c _ _ y.at y.tree y.height r.at r.tree r.height refl refl) (p.back l i tt (level_in 0 c r ++ gs) w d);
  forth = λ l x gs w f h d. let m = qual_ways l c x.0 x.1 gs (p.front ++ w) d in generated_forth l c y from rm p x gs w f h m.0 m.1 m.2;
}

opened_forth : {most : Limits} (l : Limits) (c : Context) (y : Placed (List Segment)) (from rm : List Word) (p : Passes most closed (opened_in c) from nothing rm (λ u. y)) (x : Qual × ℕ) (gs : List Goal) (w : List Word) → Follows l qual_longer gs → SameHead w rm →
    (s : Ways) → x ≡ made_qual s → Spells l (ways_in c s ++ gs) (p.front ++ w) → (r : Placed Expr) × (x ≡ bits_qual y r) × Spells l (level_in 0 c r ++ gs) w
opened_forth l c y from rm p x gs w f h (inl i) e d =
    absurd (two_bars (p.front ++ w) (pattern_bar d) (bar_longer p.front w (bits_bar (p.back _ (itself_wide _) tt [] [] ends))))
opened_forth l c y from rm p x gs w f h (inr (inl i)) e d =
    let m = p.forth l i.0 (level_in 0 c i.1 ++ gs) w (λ t v a b. cc) h d in
    (i.1, e ∙ ap (λ v. bits_qual v i.1) m.1, m.2)
opened_forth l c y from rm p x gs w f h (inr (inr z)) e d =
    let b : BarAt wide_arrow (p.front ++ []) = bits_bar (p.back _ (itself_wide _) tt [] [] ends) in
    let r = bar_behind_level wide_within (bar_longer p.front w b) d in
    absurd (f r.0 r.1 (bars_longer r.0.kind (wide_bars r.0.kind r.2)) r.3)

pub opened_passes : {most : Limits} (c : Context) (y : Placed (List Segment)) (from rm : List Word) → c.open_ < most.brackets → Passes most closed (opened_in c) from nothing rm (λ u. y) → Passes most qual_longer (qual_in c) from (level_in 0 c) rm (λ r. bits_qual y r)
opened_passes c y from rm b p = record {
  front = p.front;
  whole = p.whole;
  back = λ l i r gs w d. let room : c.open_ < l.brackets = omega (arith, i.brackets) in expands _ (bits_generator c _ _ y.at y.tree y.height r.at r.tree r.height room refl refl) (p.back l i tt (level_in 0 c r ++ gs) w d);
  forth = λ l x gs w f h d. let m = qual_ways l c x.0 x.1 gs (p.front ++ w) d in opened_forth l c y from rm p x gs w f h m.0 m.1 m.2;
}

-- ---- Each is refused

level_spelled : {most : Limits} {X : Type 0} (c : Context) → Spelled most {X = X} {Y = Placed Expr} (λ p. level_in 0 c) (some_word ∷ [])
level_spelled c = record { tree = λ p. some_expr; spelled = λ l i p gs w d. level_completed 0 l c gs w d }

pub plain_refused : (c : Context) (ws : Readable) (at i j n : ℕ) (a b why : Cause) → NoMark k.LeftBits (drop at ws.words) → IsRefused ws.limits closed (generated_in c) (drop at ws.words) (drop i ws.words) a → IsRefused ws.limits qual_longer (level_in 0 c) (drop at ws.words) (drop j ws.words) b → IsFarther i a j b n why → IsRefused ws.limits qual_longer (qual_in c) (drop at ws.words) (drop n ws.words) why
plain_refused c ws at i j n a b why m p q h =
    refused_after (same_kinds qual_longer) (on_plain c (drop at ws.words) m) (both_refused ws (drop at ws.words) i j n a b why (refused_first (behind_closed qual_longer (λ y. level_in 0 c)) (level_spelled c) p) q h)

pub ways_refused : (c : Context) (ws : Readable) (at i j m n o : ℕ) (a b d e why : Cause) → c.open_ < ws.limits.brackets → IsRefused ws.limits closed (generated_in c) (drop at ws.words) (drop i ws.words) a → IsRefused ws.limits closed (opened_in c) (drop at ws.words) (drop j ws.words) b → IsRefused ws.limits qual_longer (level_in 0 c) (drop at ws.words) (drop m ws.words) d → IsFarther j b m d n e → IsFarther i a n e o why → IsRefused ws.limits qual_longer (qual_in c) (drop at ws.words) (drop o ws.words) why
ways_refused c ws at i j m n o a b d e why r p q s g h =
    refused_after (same_kinds qual_longer) (on_qual c (drop at ws.words) r) (both_refused ws (drop at ws.words) i n o a e why (refused_first (behind_closed qual_longer (λ y. level_in 0 c)) (level_spelled c) p) (both_refused ws (drop at ws.words) j m n b d e (refused_first (behind_closed qual_longer (λ y. level_in 0 c)) (level_spelled c) q) s g) h)
