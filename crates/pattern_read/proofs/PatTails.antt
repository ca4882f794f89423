-- The laws of chains of patterns with `=`, and of the items and the tail of lists.
use Rattle.std.proofs.Common.{◌≡◌, ℕ, ◌+◌, ◌≤◌, ◌<◌, max, false, IsTrue, List, [], ◌∷◌, ◌++◌, append_assoc, refl, sym, ap, ◌∙◌, arith}
use Rattle.erl_syntax.specs.declared.span.Span.{Span}
use Rattle.erl_syntax.specs.declared.token.TokenKind.{TokenKind}
use Rattle.erl_syntax.specs.declared.token.TokenKind.TheVariants as k
use Rattle.erl_syntax.specs.declared.pattern.Pattern.{Pattern}
use Rattle.erl_syntax.specs.declared.pattern.Pattern.TheVariants as p
use Rattle.erl_syntax.specs.Word.{Word}
use Rattle.erl_syntax.specs.Grammar.{Context, under, Limits, Goal, Mark, Of, APattern, Pat, SameTail, MoreSame, Patterns, MorePatterns, PatternList, PatternItems, pattern, not_same, same, more_same, end_same, no_patterns, patterns, end_patterns, no_pattern_list, pattern_list, next_pattern, pattern_tail, end_pattern_list, Spells, takes, expands}
use Rattle.pattern_read.specs.declared.placed.Placed.{Placed}
use Rattle.pattern_read.specs.declared.fault.Cause.{Cause}
use Rattle.pattern_read.specs.declared.fault.Cause.TheVariants.{Syntax, TooDeep}
use Rattle.pattern_read.specs.Reading.{Passes, IsRefused, Follows, SameHead, closed, nothing}
use Rattle.pattern_read.specs.Wanted.{NoMark, no_mark_end, no_mark, mark_in}
use Rattle.pattern_read.specs.WantedPatterns.{begins_pattern, goes_same, pattern_in, pat_in, same_in, patterns_in, pattern_list_in, pattern_end_in, FirstToken, only_deeper, at_end, at_other}
use Rattle.pattern_read.proofs.Passing.{Behind, behind_closed, Spelled, spells_at}
use Rattle.pattern_read.proofs.Levels.{same_pair}
use Rattle.pattern_read.proofs.Operands.{mark_word, deeper, deeper_wide}
use Rattle.pattern_read.proofs.PatBegins.{some_pattern, pat_spells, NoPattern, no_pattern, no_pattern_end, pat_none, Begun, begun}

-- ---- A pattern is a first one, and what follows

abbrev pub pat_and_same : Context → Placed Pattern × (Pattern × ℕ) → List Goal
pat_and_same c q = pat_in c q.0 ++ same_in c q.0 q.1

pattern_forth : (l : Limits) (c : Context) (at : Span) (e : Pattern) (d : ℕ) (gs : List Goal) (w : List Word) → Spells l (Of (APattern c at e d) ∷ gs) w → (y : Pattern × ℕ) × Spells l (Of (Pat c at y.0 y.1) ∷ Of (SameTail c at y.0 y.1 e d) ∷ gs) w
pattern_forth l c at e d gs w (expands _ (pattern c_0 at_0 e_0 d_0 y dy) z) = ((y, dy), z)

pub on_pattern : {most : Limits} (c : Context) (rest : List Word) → Passes most {X = Placed Pattern} {Y = Placed Pattern × (Pattern × ℕ)} goes_same (pattern_in c) rest (pat_and_same c) rest (λ q. record { at = q.0.at; tree = q.1.0; height = q.1.1 })
on_pattern c rest = record {
  front = [];
  whole = refl;
  back = λ l v q gs w d. expands _ (pattern c q.0.at q.1.0 q.1.1 q.0.tree q.0.height) d;
  forth = λ l r gs w o s d. let m = pattern_forth l c r.at r.tree r.height gs w d in ((record { at = r.at; tree = m.0.0; height = m.0.1 }, (r.tree, r.height)), refl, m.1);
}

pub behind_pat : (c : Context) → Behind {X = Placed Pattern} {Y = Pattern × ℕ} closed goes_same (λ y. same_in c y)
behind_pat c = behind_closed goes_same (λ y. same_in c y)

pub same_spelled : {most : Limits} (c : Context) → Spelled most {X = Placed Pattern} {Y = Pattern × ℕ} (λ y. same_in c y) []
same_spelled c = record { tree = λ y. (y.tree, y.height); spelled = λ l v y gs w d. expands _ (not_same c _ _ _ _ _ refl refl) d }

-- ---- Chains

alone_forth : (l : Limits) (c : Context) (at : Span) (y : Pattern) (dy : ℕ) (e : Pattern) (d : ℕ) (gs : List Goal) (rest w : List Word) → NoMark k.Match rest → SameHead w rest → Spells l (Of (SameTail c at y dy e d) ∷ gs) w → (e ≡ y) × (d ≡ dy) × Spells l gs w
alone_forth l c at y dy e d gs rest w n s (expands _ (not_same c_0 at_0 y_0 dy_0 e_0 d_0 q0 q1) z) = (q0, q1, z)
alone_forth l c at y dy e d gs _ w no_mark_end s (expands _ (same c_0 at_0 y_0 dy_0 e_0 d_0 az r dr rs drs q0 q1 q2) (takes t i z)) = absurd s
alone_forth l c at y dy e d gs _ w (no_mark j rest n) s (expands _ (same c_0 at_0 y_0 dy_0 e_0 d_0 az r dr rs drs q0 q1 q2) (takes t i z)) = absurd (n (ap (λ v. v.kind) (sym s) ∙ i))

pub on_alone : {most : Limits} (c : Context) (y : Placed Pattern) (rest : List Word) → NoMark k.Match rest → Passes most {X = Pattern × ℕ} goes_same (same_in c y) rest nothing rest (λ u. (y.tree, y.height))
on_alone c y rest n = record {
  front = [];
  whole = refl;
  back = λ l v u gs w d. expands _ (not_same c _ _ _ _ _ refl refl) d;
  forth = λ l r gs w o s d. let m = alone_forth l c y.at y.tree y.height r.0 r.1 gs rest w n s d in (tt, same_pair m.0 m.1, m.2);
}

abbrev pub more_same_in : Context → List Pattern × ℕ → List Goal
more_same_in c r = Of (MoreSame c r.0 r.1) ∷ []

abbrev pub pat_and_more : Context → Placed Pattern × (List Pattern × ℕ) → List Goal
pat_and_more c q = pat_in c q.0 ++ more_same_in c q.1

match_forth : (l : Limits) (c : Context) (at : Span) (y : Pattern) (dy : ℕ) (e : Pattern) (d : ℕ) (gs : List Goal) (j : Word) (w : List Word) → j.kind ≡ k.Match → Follows l goes_same gs → Spells l (Of (SameTail c at y dy e d) ∷ gs) (j ∷ w) →
    (c.deep + dy ≤ l.trees) × (q : Placed Pattern × (List Pattern × ℕ)) × (e ≡ p.Same at (y ∷ q.0.tree ∷ q.1.0)) × (d ≡ max dy (max q.0.height q.1.1) + 1) × Spells l (pat_and_more (under c) q ++ gs) w
match_forth l c at y dy e d gs j w h o (expands _ (not_same c_0 at_0 y_0 dy_0 e_0 d_0 q0 q1) z) = absurd (o j w (ap goes_same h) z)
match_forth l c at y dy e d gs j w h o (expands _ (same c_0 at_0 y_0 dy_0 e_0 d_0 az r dr rs drs q0 q1 q2) (takes t i z)) = (q0, (record { at = az; tree = r; height = dr }, (rs, drs)), q1, q2, z)

pub on_match : {most : Limits} (c : Context) (y : Placed Pattern) (j : Word) (rest : List Word) → j.kind ≡ k.Match → c.deep + y.height ≤ most.trees →
    Passes most {X = Pattern × ℕ} {Y = Placed Pattern × (List Pattern × ℕ)} goes_same (same_in c y) (j ∷ rest) (pat_and_more (under c)) rest (λ q. (p.Same y.at (y.tree ∷ q.0.tree ∷ q.1.0), max y.height (max q.0.height q.1.1) + 1))
on_match c y j rest h b = record {
  front = j ∷ [];
  whole = refl;
  back = λ l v q gs w d. let room : c.deep + y.height ≤ l.trees = omega (arith, v.trees) in expands _ (same c _ _ _ _ _ q.0.at q.0.tree q.0.height q.1.0 q.1.1 room refl refl) (takes j h d);
  forth = λ l r gs w o s d. let m = match_forth l c y.at y.tree y.height r.0 r.1 gs j w h o d in (m.1, same_pair m.2 m.3, m.4);
}

again_forth : (l : Limits) (c : Context) (zs : List Pattern) (d : ℕ) (gs : List Goal) (j : Word) (w : List Word) → j.kind ≡ k.Match → Follows l goes_same gs → Spells l (Of (MoreSame c zs d) ∷ gs) (j ∷ w) →
    (q : Placed Pattern × (List Pattern × ℕ)) × (zs ≡ q.0.tree ∷ q.1.0) × (d ≡ max q.0.height q.1.1) × Spells l (pat_and_more c q ++ gs) w
again_forth l c _ d gs j w h o (expands _ (end_same c_0 d_0 q0) z) = absurd (o j w (ap goes_same h) z)
again_forth l c _ d gs j w h o (expands _ (more_same c_0 az r dr rs drs d_0 q0) (takes t i z)) = ((record { at = az; tree = r; height = dr }, (rs, drs)), refl, q0, z)

pub on_again : {most : Limits} (c : Context) (j : Word) (rest : List Word) → j.kind ≡ k.Match → Passes most {X = List Pattern × ℕ} {Y = Placed Pattern × (List Pattern × ℕ)} goes_same (more_same_in c) (j ∷ rest) (pat_and_more c) rest (λ q. (q.0.tree ∷ q.1.0, max q.0.height q.1.1))
on_again c j rest h = record {
  front = j ∷ [];
  whole = refl;
  back = λ l v q gs w d. expands _ (more_same c q.0.at q.0.tree q.0.height q.1.0 q.1.1 _ refl) (takes j h d);
  forth = λ l r gs w o s d. let m = again_forth l c r.0 r.1 gs j w h o d in (m.0, same_pair m.1 m.2, m.3);
}

last_forth : (l : Limits) (c : Context) (zs : List Pattern) (d : ℕ) (gs : List Goal) (rest w : List Word) → NoMark k.Match rest → SameHead w rest → Spells l (Of (MoreSame c zs d) ∷ gs) w → (zs ≡ []) × (d ≡ 0) × Spells l gs w
last_forth l c _ d gs rest w n s (expands _ (end_same c_0 d_0 q0) z) = (refl, q0, z)
last_forth l c _ d gs _ w no_mark_end s (expands _ (more_same c_0 az r dr rs drs d_0 q0) (takes t i z)) = absurd s
last_forth l c _ d gs _ w (no_mark j rest n) s (expands _ (more_same c_0 az r dr rs drs d_0 q0) (takes t i z)) = absurd (n (ap (λ v. v.kind) (sym s) ∙ i))

pub on_last : {most : Limits} (c : Context) (rest : List Word) → NoMark k.Match rest → Passes most {X = List Pattern × ℕ} goes_same (more_same_in c) rest nothing rest (λ u. ([], 0))
on_last c rest n = record {
  front = [];
  whole = refl;
  back = λ l v u gs w d. expands _ (end_same c 0 refl) d;
  forth = λ l r gs w o s d. let m = last_forth l c r.0 r.1 gs rest w n s d in (tt, same_pair m.0 m.1, m.2);
}

pub behind_same : (c : Context) → Behind {X = Placed Pattern} {Y = List Pattern × ℕ} closed goes_same (λ q. more_same_in c)
behind_same c = behind_closed goes_same (λ q. more_same_in c)

pub more_same_spelled : {most : Limits} (c : Context) → Spelled most {X = Placed Pattern} {Y = List Pattern × ℕ} (λ q. more_same_in c) []
more_same_spelled c = record { tree = λ q. ([], 0); spelled = λ l v q gs w d. expands _ (end_same c 0 refl) d }

stops_match : (most : Limits) (c : Context) (y : Placed Pattern) (j : Word) (rest : List Word) → j.kind ≡ k.Match → most.trees < c.deep + y.height → (l : Limits) → l.trees ≡ most.trees → (r : Pattern × ℕ) (gs : List Goal) (w : List Word) → Follows l goes_same gs → SameHead w (j ∷ rest) → Spells l (same_in c y r ++ gs) w → ⊥
stops_match most c y j rest h b l i r gs [] o s d = s
stops_match most c y j rest h b l i r gs (t ∷ w) o s d = let m = match_forth l c y.at y.tree y.height r.0 r.1 gs t w (ap (λ v. v.kind) s ∙ h) o d in let a : c.deep + y.height ≤ l.trees = m.0 in omega arith

pub match_too_deep : {most : Limits} (c : Context) (y : Placed Pattern) (j : Word) (rest : List Word) → j.kind ≡ k.Match → most.trees < c.deep + y.height → IsRefused most {X = Pattern × ℕ} goes_same (same_in c y) (j ∷ rest) (j ∷ rest) TooDeep
match_too_deep {most = most} c y j rest h b = record {
  front = [];
  whole = refl;
  tree = (y.tree, y.height);
  more = [];
  goes_on = λ l v gs w d. expands _ (not_same c _ _ _ _ _ refl refl) d;
  stops = λ l i r gs w o s d. stops_match most c y j rest h b l i.trees r gs w o s d;
  excused = record {
    limits = deeper most (c.deep + y.height) 0;
    wide = deeper_wide most (c.deep + y.height) 0;
    allows = (refl, refl);
    first = j;
    behind = rest;
    begins = refl;
    tree = (p.Same y.at (y.tree ∷ some_pattern.tree ∷ []), max y.height (max 1 0) + 1);
    more = mark_word k.Underscore ∷ [];
    goes_on = λ gs w d. expands _ (same c _ _ _ _ _ some_pattern.at some_pattern.tree 1 [] 0 (omega arith) refl refl) (takes j h (pat_spells (deeper most (c.deep + y.height) 0) (under c) (Of (MoreSame (under c) [] 0) ∷ gs) w (expands _ (end_same (under c) 0 refl) d)));
  };
}

-- ---- Where no pattern begins, or only one that is too deep

pattern_none : (l : Limits) (c : Context) (at : Span) (e : Pattern) (d : ℕ) (gs : List Goal) (rest w : List Word) → NoPattern rest → SameHead w rest → Spells l (Of (APattern c at e d) ∷ gs) w → ⊥
pattern_none l c at e d gs rest w n s (expands _ (pattern c_0 at_0 e_0 d_0 y dy) z) = pat_none l c at y dy (Of (SameTail c at y dy e d) ∷ gs) rest w n s z

begun_pattern : {most : Limits} (c : Context) (j : Word) (g : Begun most c j) (gs : List Goal) (w : List Word) → Spells (deeper most (c.deep + 1) (c.open_ + 1)) gs w → Spells (deeper most (c.deep + 1) (c.open_ + 1)) (pattern_in c g.tree ++ gs) (j ∷ (g.more ++ w))
begun_pattern c j g gs w d = expands _ (pattern c _ _ _ _ _) (g.spelled (Of (SameTail c g.tree.at g.tree.tree g.tree.height g.tree.tree g.tree.height) ∷ gs) w (expands _ (not_same c _ _ _ _ _ refl refl) d))

head_not : {kind : TokenKind} {j : Word} {rest : List Word} → NoMark kind (j ∷ rest) → j.kind ≡ kind → ⊥
head_not (no_mark j rest o) = o

patterns_depth : (l : Limits) (close : TokenKind) (c : Context) (ys : List Pattern) (d : ℕ) (gs : List Goal) (rest w : List Word) → NoMark close rest → SameHead w rest → Spells l (Of (Patterns close c ys d) ∷ gs) w → (c.deep ≤ l.trees) × (y : Placed Pattern) × (hs : List Goal) × Spells l (pattern_in c y ++ hs) w
patterns_depth l close c _ d gs rest w n s (expands _ (patterns close_0 c_0 ay y dy ys dys d_0 q0 q1) z) = (q0, record { at = ay; tree = y; height = dy }, Of (MorePatterns close c ys dys) ∷ gs, z)
patterns_depth l close c _ d gs _ w no_mark_end s (expands _ (no_patterns close_0 c_0 d_0 q0) (takes t i z)) = absurd s
patterns_depth l close c _ d gs _ w (no_mark j rest n) s (expands _ (no_patterns close_0 c_0 d_0 q0) (takes t i z)) = absurd (n (ap (λ v. v.kind) (sym s) ∙ i))

deep_not : (most : Limits) (c : Context) (l : Limits) → most.trees < c.deep → l.trees ≡ most.trees → c.deep ≤ l.trees → ⊥
deep_not most c l b i a = omega arith

patterns_too_deep : {most : Limits} (close : TokenKind) (c : Context) (j : Word) (rest : List Word) → NoMark close (j ∷ rest) → IsTrue (begins_pattern j.kind) → most.trees < c.deep → IsRefused most {X = List Pattern × ℕ} closed (patterns_in close c) (j ∷ rest) (j ∷ rest) TooDeep
patterns_too_deep {most = most} close c j rest n b h = let g : Begun most c j = begun c j j.kind refl b in record {
  front = [];
  whole = refl;
  tree = ([], 0);
  more = mark_word close ∷ [];
  goes_on = λ l v gs w d. expands _ (no_patterns close c 0 refl) (takes (mark_word close) refl d);
  stops = λ l i r gs w o s d. deep_not most c l h i.trees (patterns_depth l close c r.0 r.1 gs (j ∷ rest) w n s d).0;
  excused = record {
    limits = deeper most (c.deep + 1) (c.open_ + 1);
    wide = deeper_wide most (c.deep + 1) (c.open_ + 1);
    allows = (refl, refl);
    first = j;
    behind = rest;
    begins = refl;
    tree = (g.tree.tree ∷ [], max g.tree.height 0);
    more = g.more ++ (mark_word close ∷ []);
    goes_on = λ gs w d. expands _ (patterns close c g.tree.at g.tree.tree g.tree.height [] 0 (max g.tree.height 0) (omega arith) refl)
        (spells_at (ap (λ v. j ∷ v) (sym (append_assoc g.more (mark_word close ∷ []) w)))
        (begun_pattern c j g (Of (MorePatterns close c [] 0) ∷ gs) (mark_word close ∷ w) (expands _ (end_patterns close c 0 refl) (takes (mark_word close) refl d))));
  };
}

patterns_none : (l : Limits) (close : TokenKind) (c : Context) (r : List Pattern × ℕ) (gs : List Goal) (rest w : List Word) → NoMark close rest → NoPattern rest → SameHead w rest → Spells l (patterns_in close c r ++ gs) w → ⊥
patterns_none l close c r gs rest w n b s d = let m = patterns_depth l close c r.0 r.1 gs rest w n s d in pattern_none l c m.1.at m.1.tree m.1.height m.2 rest w b s m.3

patterns_refused : {most : Limits} (close : TokenKind) (c : Context) (rest : List Word) → NoMark close rest → NoPattern rest → IsRefused most {X = List Pattern × ℕ} closed (patterns_in close c) rest rest Syntax
patterns_refused close c rest n b = record {
  front = [];
  whole = refl;
  tree = ([], 0);
  more = mark_word close ∷ [];
  goes_on = λ l v gs w d. expands _ (no_patterns close c 0 refl) (takes (mark_word close) refl d);
  stops = λ l i r gs w o s d. patterns_none l close c r gs rest w n b s d;
  excused = tt;
}

pub patterns_first : {most : Limits} (close : TokenKind) (c : Context) (rest : List Word) (why : Cause) → FirstToken begins_pattern rest why → NoMark close rest → most.trees < c.deep → IsRefused most {X = List Pattern × ℕ} closed (patterns_in close c) rest rest why
patterns_first close c _ _ (only_deeper j rest b) n h = patterns_too_deep close c j rest n b h
patterns_first close c _ _ at_end n h = patterns_refused close c [] n no_pattern_end
patterns_first close c _ _ (at_other j rest b) n h = patterns_refused close c (j ∷ rest) n (no_pattern j rest b)

-- ---- Items of a list

abbrev pub items_in : Context → (List Pattern × List Pattern) × ℕ → List Goal
items_in c r = Of (PatternItems c r.0.0 r.0.1 r.1) ∷ []

abbrev pub pattern_and_items : Context → Placed Pattern × ((List Pattern × List Pattern) × ℕ) → List Goal
pattern_and_items c q = pattern_in c q.0 ++ items_in c q.1

abbrev pub Listed : Type 0
Listed = (List Pattern × List Pattern) × ℕ

same_list : {a b s t : List Pattern} {d g : ℕ} → a ≡ b → s ≡ t → d ≡ g → (let P : Listed = ((a, s), d) in P) ≡ (let P : Listed = ((b, t), g) in P)
same_list {a = a} {b = b} {s = s} {t = t} {d = d} {g = g} x y z = ap (λ v. ((v, s), d)) x ∙ ap (λ v. ((b, v), d)) y ∙ ap (λ v. ((b, t), v)) z

empty_forth : (l : Limits) (c : Context) (ys tail : List Pattern) (d : ℕ) (gs : List Goal) (j : Word) (w : List Word) → j.kind ≡ k.RightBracket → Spells l (Of (PatternList c ys tail d) ∷ gs) (j ∷ w) → (ys ≡ []) × (tail ≡ []) × (d ≡ 0) × Spells l gs w
empty_forth l c _ _ d gs j w h (expands _ (no_pattern_list c_0 d_0 q0) (takes t i z)) = (refl, refl, q0, z)
empty_forth l c _ tail d gs j w h (expands _ (pattern_list c_0 ay y dy ys tail_0 dys d_0 q0 q1) z) = absurd (pattern_none l c ay y dy (Of (PatternItems c ys tail dys) ∷ gs) (j ∷ w) (j ∷ w) (no_pattern j w (ap begins_pattern h)) refl z)

pub on_empty : {most : Limits} (c : Context) (j : Word) (rest : List Word) → j.kind ≡ k.RightBracket → Passes most {X = Listed} closed (pattern_list_in c) (j ∷ rest) nothing rest (λ u. (([], []), 0))
on_empty c j rest h = record {
  front = j ∷ [];
  whole = refl;
  back = λ l v u gs w d. expands _ (no_pattern_list c 0 refl) (takes j h d);
  forth = λ l r gs w o s d. let m = empty_forth l c r.0.0 r.0.1 r.1 gs j w h d in (tt, same_list m.0 m.1 m.2, m.3);
}

list_forth : (l : Limits) (c : Context) (ys tail : List Pattern) (d : ℕ) (gs : List Goal) (rest w : List Word) → NoMark k.RightBracket rest → SameHead w rest → Spells l (Of (PatternList c ys tail d) ∷ gs) w →
    (c.deep ≤ l.trees) × (q : Placed Pattern × Listed) × (ys ≡ q.0.tree ∷ q.1.0.0) × (tail ≡ q.1.0.1) × (d ≡ max q.0.height q.1.1) × Spells l (pattern_and_items c q ++ gs) w
list_forth l c _ tail d gs rest w n s (expands _ (pattern_list c_0 ay y dy ys tail_0 dys d_0 q0 q1) z) = (q0, (record { at = ay; tree = y; height = dy }, ((ys, tail), dys)), refl, refl, q1, z)
list_forth l c _ _ d gs _ w no_mark_end s (expands _ (no_pattern_list c_0 d_0 q0) (takes t i z)) = absurd s
list_forth l c _ _ d gs _ w (no_mark j rest n) s (expands _ (no_pattern_list c_0 d_0 q0) (takes t i z)) = absurd (n (ap (λ v. v.kind) (sym s) ∙ i))

pub on_items : {most : Limits} (c : Context) (rest : List Word) → c.deep ≤ most.trees → NoMark k.RightBracket rest → Passes most {X = Listed} {Y = Placed Pattern × Listed} closed (pattern_list_in c) rest (pattern_and_items c) rest (λ q. ((q.0.tree ∷ q.1.0.0, q.1.0.1), max q.0.height q.1.1))
on_items c rest b n = record {
  front = [];
  whole = refl;
  back = λ l v q gs w d. let room : c.deep ≤ l.trees = omega (arith, v.trees) in expands _ (pattern_list c q.0.at q.0.tree q.0.height q.1.0.0 q.1.0.1 q.1.1 _ room refl) d;
  forth = λ l r gs w o s d. let m = list_forth l c r.0.0 r.0.1 r.1 gs rest w n s d in (m.1, same_list m.2 m.3 m.4, m.5);
}

next_forth : (l : Limits) (c : Context) (ys tail : List Pattern) (d : ℕ) (gs : List Goal) (j : Word) (w : List Word) → j.kind ≡ k.Comma → Spells l (Of (PatternItems c ys tail d) ∷ gs) (j ∷ w) →
    (q : Placed Pattern × Listed) × (ys ≡ q.0.tree ∷ q.1.0.0) × (tail ≡ q.1.0.1) × (d ≡ max q.0.height q.1.1) × Spells l (pattern_and_items c q ++ gs) w
next_forth l c _ tail d gs j w h (expands _ (next_pattern c_0 ay y dy ys tail_0 dys d_0 q0) (takes t i z)) = ((record { at = ay; tree = y; height = dy }, ((ys, tail), dys)), refl, refl, q0, z)
next_forth l c _ _ d gs j w h (expands _ (pattern_tail c_0 ay y d_0) (takes t i z)) = cc
next_forth l c _ _ d gs j w h (expands _ (end_pattern_list c_0 d_0 q0) (takes t i z)) = cc

pub on_next : {most : Limits} (c : Context) (j : Word) (rest : List Word) → j.kind ≡ k.Comma → Passes most {X = Listed} {Y = Placed Pattern × Listed} closed (items_in c) (j ∷ rest) (pattern_and_items c) rest (λ q. ((q.0.tree ∷ q.1.0.0, q.1.0.1), max q.0.height q.1.1))
on_next c j rest h = record {
  front = j ∷ [];
  whole = refl;
  back = λ l v q gs w d. expands _ (next_pattern c q.0.at q.0.tree q.0.height q.1.0.0 q.1.0.1 q.1.1 _ refl) (takes j h d);
  forth = λ l r gs w o s d. let m = next_forth l c r.0.0 r.0.1 r.1 gs j w h d in (m.0, same_list m.1 m.2 m.3, m.4);
}

stop_forth : (l : Limits) (c : Context) (ys tail : List Pattern) (d : ℕ) (gs : List Goal) (rest w : List Word) → NoMark k.Comma rest → SameHead w rest → Spells l (Of (PatternItems c ys tail d) ∷ gs) w → (ys ≡ []) × Spells l (Of (PatternItems c [] tail d) ∷ gs) w
stop_forth l c _ tail d gs _ w no_mark_end s (expands _ (next_pattern c_0 ay y dy ys tail_0 dys d_0 q0) (takes t i z)) = absurd s
stop_forth l c _ tail d gs _ w (no_mark j rest n) s (expands _ (next_pattern c_0 ay y dy ys tail_0 dys d_0 q0) (takes t i z)) = absurd (n (ap (λ v. v.kind) (sym s) ∙ i))
stop_forth l c _ _ d gs rest w n s (expands _ (pattern_tail c_0 ay y d_0) z) = (refl, expands _ (pattern_tail c ay y d) z)
stop_forth l c _ _ d gs rest w n s (expands _ (end_pattern_list c_0 d_0 q0) z) = (refl, expands _ (end_pattern_list c d q0) z)

pub on_stop : {most : Limits} (c : Context) (rest : List Word) → NoMark k.Comma rest → Passes most {X = Listed} {Y = List Pattern × ℕ} closed (items_in c) rest (pattern_end_in c) rest (λ r. (([], r.0), r.1))
on_stop c rest n = record {
  front = [];
  whole = refl;
  back = λ l v r gs w d. d;
  forth = λ l r gs w o s d. let m = stop_forth l c r.0.0 r.0.1 r.1 gs rest w n s d in ((r.0.1, r.1), same_list m.0 refl refl, m.1);
}

shut_forth : (l : Limits) (c : Context) (tail : List Pattern) (d : ℕ) (gs : List Goal) (j : Word) (w : List Word) → j.kind ≡ k.RightBracket → Spells l (Of (PatternItems c [] tail d) ∷ gs) (j ∷ w) → (tail ≡ []) × (d ≡ 0) × Spells l gs w
shut_forth l c _ d gs j w h (expands _ (pattern_tail c_0 ay y d_0) (takes t i z)) = cc
shut_forth l c _ d gs j w h (expands _ (end_pattern_list c_0 d_0 q0) (takes t i z)) = (refl, q0, z)

pub on_shut : {most : Limits} (c : Context) (j : Word) (rest : List Word) → j.kind ≡ k.RightBracket → Passes most {X = List Pattern × ℕ} closed (pattern_end_in c) (j ∷ rest) nothing rest (λ u. ([], 0))
on_shut c j rest h = record {
  front = j ∷ [];
  whole = refl;
  back = λ l v u gs w d. expands _ (end_pattern_list c 0 refl) (takes j h d);
  forth = λ l r gs w o s d. let m = shut_forth l c r.0 r.1 gs j w h d in (tt, same_pair m.0 m.1, m.2);
}

tail_forth : (l : Limits) (c : Context) (tail : List Pattern) (d : ℕ) (gs : List Goal) (j : Word) (w : List Word) → j.kind ≡ k.Bar → Spells l (Of (PatternItems c [] tail d) ∷ gs) (j ∷ w) → (y : Placed Pattern) × (tail ≡ y.tree ∷ []) × (d ≡ y.height) × Spells l (pattern_in c y ++ (Mark k.RightBracket ∷ gs)) w
tail_forth l c _ d gs j w h (expands _ (pattern_tail c_0 ay y d_0) (takes t i z)) = (record { at = ay; tree = y; height = d }, refl, refl, z)
tail_forth l c _ d gs j w h (expands _ (end_pattern_list c_0 d_0 q0) (takes t i z)) = cc

pub on_bar : {most : Limits} (c : Context) (j : Word) (rest : List Word) → j.kind ≡ k.Bar → Passes most {X = List Pattern × ℕ} {Y = Placed Pattern × Unit {0}} closed (pattern_end_in c) (j ∷ rest) (λ q. pattern_in c q.0 ++ mark_in k.RightBracket q.1) rest (λ q. (q.0.tree ∷ [], q.0.height))
on_bar c j rest h = record {
  front = j ∷ [];
  whole = refl;
  back = λ l v q gs w d. expands _ (pattern_tail c q.0.at q.0.tree q.0.height) (takes j h d);
  forth = λ l r gs w o s d. let m = tail_forth l c r.0 r.1 gs j w h d in ((m.0, tt), same_pair m.1 m.2, m.3);
}

end_stops : (l : Limits) (c : Context) (tail : List Pattern) (d : ℕ) (gs : List Goal) (rest w : List Word) → NoMark k.Bar rest → NoMark k.RightBracket rest → SameHead w rest → Spells l (Of (PatternItems c [] tail d) ∷ gs) w → ⊥
end_stops l c _ d gs _ w no_mark_end b s (expands _ (pattern_tail c_0 ay y d_0) (takes t i z)) = s
end_stops l c _ d gs _ w (no_mark j rest a) b s (expands _ (pattern_tail c_0 ay y d_0) (takes t i z)) = a (ap (λ v. v.kind) (sym s) ∙ i)
end_stops l c _ d gs _ w a no_mark_end s (expands _ (end_pattern_list c_0 d_0 q0) (takes t i z)) = s
end_stops l c _ d gs _ w a (no_mark j rest b) s (expands _ (end_pattern_list c_0 d_0 q0) (takes t i z)) = b (ap (λ v. v.kind) (sym s) ∙ i)

pub end_refused : {most : Limits} (c : Context) (rest : List Word) → NoMark k.Bar rest → NoMark k.RightBracket rest → IsRefused most {X = List Pattern × ℕ} closed (pattern_end_in c) rest rest Syntax
end_refused c rest a b = record {
  front = [];
  whole = refl;
  tree = ([], 0);
  more = mark_word k.RightBracket ∷ [];
  goes_on = λ l v gs w d. expands _ (end_pattern_list c 0 refl) (takes (mark_word k.RightBracket) refl d);
  stops = λ l i r gs w o s d. end_stops l c r.0 r.1 gs rest w a b s d;
  excused = tt;
}

items_lengthen : (l : Limits) (c : Context) (ys tail : List Pattern) (d : ℕ) (gs : List Goal) (j : Word) (w : List Word) → IsTrue (goes_same j.kind) → Spells l (Of (PatternItems c ys tail d) ∷ gs) (j ∷ w) → ⊥
items_lengthen l c _ tail d gs j w h (expands _ (next_pattern c_0 ay y dy ys tail_0 dys d_0 q0) (takes t i z)) = let a : goes_same j.kind ≡ false = ap goes_same i in cc
items_lengthen l c _ _ d gs j w h (expands _ (pattern_tail c_0 ay y d_0) (takes t i z)) = let a : goes_same j.kind ≡ false = ap goes_same i in cc
items_lengthen l c _ _ d gs j w h (expands _ (end_pattern_list c_0 d_0 q0) (takes t i z)) = let a : goes_same j.kind ≡ false = ap goes_same i in cc

pub behind_item : (c : Context) → Behind {X = Placed Pattern} {Y = Listed} goes_same closed (λ q. items_in c)
behind_item c = record { behind = λ l q r gs o t w h d. items_lengthen l c r.0.0 r.0.1 r.1 gs t w h d }

pub items_spelled : {most : Limits} (c : Context) → Spelled most {X = Placed Pattern} {Y = Listed} (λ q. items_in c) (mark_word k.RightBracket ∷ [])
items_spelled c = record { tree = λ q. (([], []), 0); spelled = λ l v q gs w d. expands _ (end_pattern_list c 0 refl) (takes (mark_word k.RightBracket) refl d) }

list_too_deep : {most : Limits} (c : Context) (j : Word) (rest : List Word) → NoMark k.RightBracket (j ∷ rest) → IsTrue (begins_pattern j.kind) → most.trees < c.deep → IsRefused most {X = Listed} closed (pattern_list_in c) (j ∷ rest) (j ∷ rest) TooDeep
list_too_deep {most = most} c j rest n b h = let g : Begun most c j = begun c j j.kind refl b in record {
  front = [];
  whole = refl;
  tree = (([], []), 0);
  more = mark_word k.RightBracket ∷ [];
  goes_on = λ l v gs w d. expands _ (no_pattern_list c 0 refl) (takes (mark_word k.RightBracket) refl d);
  stops = λ l i r gs w o s d. deep_not most c l h i.trees (list_forth l c r.0.0 r.0.1 r.1 gs (j ∷ rest) w n s d).0;
  excused = record {
    limits = deeper most (c.deep + 1) (c.open_ + 1);
    wide = deeper_wide most (c.deep + 1) (c.open_ + 1);
    allows = (refl, refl);
    first = j;
    behind = rest;
    begins = refl;
    tree = ((g.tree.tree ∷ [], []), max g.tree.height 0);
    more = g.more ++ (mark_word k.RightBracket ∷ []);
    goes_on = λ gs w d. expands _ (pattern_list c g.tree.at g.tree.tree g.tree.height [] [] 0 (max g.tree.height 0) (omega arith) refl)
        (spells_at (ap (λ v. j ∷ v) (sym (append_assoc g.more (mark_word k.RightBracket ∷ []) w)))
        (begun_pattern c j g (Of (PatternItems c [] [] 0) ∷ gs) (mark_word k.RightBracket ∷ w) (expands _ (end_pattern_list c 0 refl) (takes (mark_word k.RightBracket) refl d))));
  };
}

list_none : (l : Limits) (c : Context) (r : Listed) (gs : List Goal) (rest w : List Word) → NoMark k.RightBracket rest → NoPattern rest → SameHead w rest → Spells l (pattern_list_in c r ++ gs) w → ⊥
list_none l c r gs rest w n b s d = let m = list_forth l c r.0.0 r.0.1 r.1 gs rest w n s d in pattern_none l c m.1.0.at m.1.0.tree m.1.0.height (items_in c m.1.1 ++ gs) rest w b s m.5

list_refused : {most : Limits} (c : Context) (rest : List Word) → NoMark k.RightBracket rest → NoPattern rest → IsRefused most {X = Listed} closed (pattern_list_in c) rest rest Syntax
list_refused c rest n b = record {
  front = [];
  whole = refl;
  tree = (([], []), 0);
  more = mark_word k.RightBracket ∷ [];
  goes_on = λ l v gs w d. expands _ (no_pattern_list c 0 refl) (takes (mark_word k.RightBracket) refl d);
  stops = λ l i r gs w o s d. list_none l c r gs rest w n b s d;
  excused = tt;
}

pub list_first : {most : Limits} (c : Context) (rest : List Word) (why : Cause) → FirstToken begins_pattern rest why → NoMark k.RightBracket rest → most.trees < c.deep → IsRefused most {X = Listed} closed (pattern_list_in c) rest rest why
list_first c _ _ (only_deeper j rest b) n h = list_too_deep c j rest n b h
list_first c _ _ at_end n h = list_refused c [] n no_pattern_end
list_first c _ _ (at_other j rest b) n h = list_refused c (j ∷ rest) n (no_pattern j rest b)
