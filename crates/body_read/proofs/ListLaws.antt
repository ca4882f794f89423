-- The laws of lists, behind `[`.
use Rattle.std.proofs.Common.{◌≡◌, ℕ, ◌+◌, ◌≤◌, ◌<◌, max, false, IsTrue, List, [], ◌∷◌, ◌++◌, append_assoc, refl, sym, ap, ◌∙◌, arith}
use Rattle.erl_syntax.specs.declared.span.Span.{Span}
use Rattle.erl_syntax.specs.declared.token.TokenKind.{TokenKind}
use Rattle.erl_syntax.specs.declared.token.TokenKind.TheVariants as k
use Rattle.erl_syntax.specs.declared.expr.Expr.{Expr}
use Rattle.erl_syntax.specs.declared.expr.Expr.TheVariants as x
use Rattle.erl_syntax.specs.declared.qual.Qual.{Qual}
use Rattle.erl_syntax.specs.Word.{Word}
use Rattle.erl_syntax.specs.Grammar.{InBody, Context, under, inside, Limits, Goal, Mark, Of, Level, ListRest, AfterFirst, ListItems, Quals, no_list, list_first, list_for, list_items, next_item, list_tail, end_list, Spells, takes, expands}
use Rattle.pattern_read.specs.declared.placed.Placed.{Placed}
use Rattle.body_read.specs.declared.site.Site.{Site}
use Rattle.pattern_read.specs.declared.fault.Cause.TheVariants.{Syntax, TooDeep}
use Rattle.pattern_read.specs.Reading.{Passes, IsRefused, SameHead, closed, nothing}
use Rattle.pattern_read.specs.Wanted.{extends, begins_expr, level_in, mark_in, NoMark, no_mark_end, no_mark}
use Rattle.body_read.specs.WantedExprs.{list_in, mode_of, quals_in}
use Rattle.body_read.specs.WantedSegments.{after_first_in, list_items_in, last_in, NoRow}
use Rattle.body_read.specs.Sites.{NoneBegins}
use Rattle.pattern_read.proofs.Passing.{Behind, Spelled, spells_at}
use Rattle.pattern_read.proofs.Levels.{same_pair}
use Rattle.pattern_read.proofs.Operands.{deeper, deeper_wide, mark_word, level_with}
use Rattle.pattern_read.proofs.Calls.{first_level}
use Rattle.pattern_read.proofs.Depths.{Begun}
use Rattle.body_read.proofs.BodiedBegins.{none_level}

-- ---- `]`

no_begin : {kind other : TokenKind} → begins_expr other ≡ false → kind ≡ other → IsTrue (begins_expr kind) → ⊥
no_begin n h f = let a : _ ≡ _ = ap begins_expr h in cc

no_list_forth : (l : Limits) (c : Context) (at : Span) (e : Expr) (d : ℕ) (gs : List Goal) (j : Word) (w : List Word) → j.kind ≡ k.RightBracket → Spells l (Of (ListRest c at e d) ∷ gs) (j ∷ w) → (e ≡ x.List at [] []) × (d ≡ 1) × Spells l gs w
no_list_forth l c at e d gs j w h (expands _ (no_list c_0 at_0 e_0 d_0 q0 q1) (takes t kk z)) = (q0, q1, z)
no_list_forth l c at e d gs j w h (expands _ (list_first c_0 at_0 e_0 d_0 ay y dy q0) z) = absurd (no_begin refl h (first_level l 0 (inside (under c)) ay y dy (Of (AfterFirst c at y dy e d) ∷ gs) j w z))

pub on_no_list : {most : Limits} (c : Context) (at : Span) (j : Word) (rest : List Word) → j.kind ≡ k.RightBracket → Passes most {X = Expr × ℕ} closed (list_in c at) (j ∷ rest) nothing rest (λ u. (x.List at [] [], 1))
on_no_list c at j rest h = record {
  front = j ∷ [];
  whole = refl;
  back = λ l v u gs w d. expands _ (no_list c at _ _ refl refl) (takes j h d);
  forth = λ l r gs w f s d. let m = no_list_forth l c at r.0 r.1 gs j w h d in (tt, same_pair m.0 m.1, m.2);
}

list_empty : (l : Limits) (c : Context) (at : Span) (gs : List Goal) (w : List Word) → Spells l gs w → Spells l (Of (ListRest c at (x.List at [] []) 1) ∷ gs) (mark_word k.RightBracket ∷ w)
list_empty l c at gs w d = expands _ (no_list c at _ _ refl refl) (takes (mark_word k.RightBracket) refl d)

-- ---- A first item

first_forth : (l : Limits) (c : Context) (at : Span) (e : Expr) (d : ℕ) (gs : List Goal) (rest w : List Word) → NoMark k.RightBracket rest → SameHead w rest → Spells l (Of (ListRest c at e d) ∷ gs) w →
    (c.deep + 1 ≤ l.trees) × (y : Placed Expr) × Spells l (Of (Level 0 (inside (under c)) y.at y.tree y.height) ∷ Of (AfterFirst c at y.tree y.height e d) ∷ gs) w
first_forth l c at e d gs rest w n s (expands _ (list_first c_0 at_0 e_0 d_0 ay y dy q0) z) = (q0, record { at = ay; tree = y; height = dy }, z)
first_forth l c at e d gs _ w no_mark_end s (expands _ (no_list c_0 at_0 e_0 d_0 q0 q1) (takes t kk z)) = absurd s
first_forth l c at e d gs _ w (no_mark j rest n) s (expands _ (no_list c_0 at_0 e_0 d_0 q0 q1) (takes t kk z)) = absurd (n (ap (λ v. v.kind) (sym s) ∙ kk))

pub on_first : {most : Limits} (c : Context) (at : Span) (rest : List Word) → c.deep + 1 ≤ most.trees → NoMark k.RightBracket rest →
    Passes most {X = Expr × ℕ} {Y = Placed Expr × (Expr × ℕ)} closed (list_in c at) rest (λ p. level_in 0 (inside (under c)) p.0 ++ after_first_in c at p.0 p.1) rest (λ p. p.1)
on_first c at rest b n = record {
  front = [];
  whole = refl;
  back = λ l v p gs w d. let room : c.deep + 1 ≤ l.trees = omega (arith, v.trees) in expands _ (list_first c at _ _ _ _ _ room) d;
  forth = λ l r gs w f s d. let m = first_forth l c at r.0 r.1 gs rest w n s d in ((m.1, r), refl, m.2);
}

closed_first : (l : Limits) (c : Context) (at : Span) (y : Placed Expr) (gs : List Goal) (w : List Word) → Spells l gs w → Spells l (after_first_in c at y (x.List at (y.tree ∷ []) [], max y.height 0 + 1) ++ gs) (mark_word k.RightBracket ∷ w)
closed_first l c at y gs w d = expands _ (list_items c at y.tree y.height _ _ [] [] 0 refl refl) (expands _ (end_list (inside (under c)) 0 refl) (takes (mark_word k.RightBracket) refl d))

-- what goes on with `]` behind a first item
pub first_completed : {most : Limits} (c : Context) (at : Span) → Spelled most {X = Placed Expr} {Y = Expr × ℕ} (after_first_in c at) (mark_word k.RightBracket ∷ [])
first_completed c at = record { tree = λ y. (x.List at (y.tree ∷ []) [], max y.height 0 + 1); spelled = λ l v y gs w d. closed_first l c at y gs w d }

items_lengthen : (l : Limits) (c : Context) (ys tail : List Expr) (d : ℕ) (gs : List Goal) (j : Word) (w : List Word) → IsTrue (extends 0 j.kind) → Spells l (Of (ListItems c ys tail d) ∷ gs) (j ∷ w) → ⊥
items_lengthen l c _ tail d gs j w h (expands _ (next_item c_0 ay y dy ys tail_0 dys d_0 q0) (takes t kk z)) = let a : extends 0 j.kind ≡ false = ap (extends 0) kk in cc
items_lengthen l c _ _ d gs j w h (expands _ (list_tail c_0 ay y d_0) (takes t kk z)) = let a : extends 0 j.kind ≡ false = ap (extends 0) kk in cc
items_lengthen l c _ _ d gs j w h (expands _ (end_list c_0 d_0 q0) (takes t kk z)) = let a : extends 0 j.kind ≡ false = ap (extends 0) kk in cc

first_lengthens : (l : Limits) (c : Context) (at : Span) (y : Expr) (dy : ℕ) (e : Expr) (d : ℕ) (gs : List Goal) (j : Word) (w : List Word) → IsTrue (extends 0 j.kind) → Spells l (Of (AfterFirst c at y dy e d) ∷ gs) (j ∷ w) → ⊥
first_lengthens l c at y dy e d gs j w h (expands _ (list_for c_0 at_0 y_0 dy_0 e_0 d_0 qs dq q0 q1 q2) (takes t kk z)) = let a : extends 0 j.kind ≡ false = ap (extends 0) kk in cc
first_lengthens l c at y dy e d gs j w h (expands _ (list_items c_0 at_0 y_0 dy_0 e_0 d_0 ys tail dys q0 q1) z) = items_lengthen l (inside (under c)) ys tail dys gs j w h z

pub behind_first_item : (c : Context) (at : Span) → Behind {X = Placed Expr} {Y = Expr × ℕ} (extends 0) closed (after_first_in c at)
behind_first_item c at = record { behind = λ l p q gs f t w h d. first_lengthens l c at p.tree p.height q.0 q.1 gs t w h d }

head_not : {kind : TokenKind} {j : Word} {rest : List Word} → NoMark kind (j ∷ rest) → j.kind ≡ kind → ⊥
head_not (no_mark j rest f) = f

pub first_too_deep : {most : Limits} (c : Context) (at : Span) (j : Word) (rest : List Word) → NoMark k.RightBracket (j ∷ rest) → Begun most (inside (under c)) j → most.trees < c.deep + 1 → IsRefused most {X = Expr × ℕ} closed (list_in c at) (j ∷ rest) (j ∷ rest) TooDeep
first_too_deep {most = most} c at j rest n g b = record {
  front = [];
  whole = refl;
  tree = (x.List at [] [], 1);
  more = mark_word k.RightBracket ∷ [];
  goes_on = λ l v gs w d. list_empty l c at gs w d;
  stops = λ l i r gs w f s d. let m = first_forth l c at r.0 r.1 gs (j ∷ rest) w n s d in let a : c.deep + 1 ≤ l.trees = m.0 in omega (arith, i.trees);
  excused = record {
    limits = deeper most (c.deep + 1 + 1) (c.open_ + 1 + 1);
    wide = deeper_wide most (c.deep + 1 + 1) (c.open_ + 1 + 1);
    allows = (refl, refl);
    first = j;
    behind = rest;
    begins = refl;
    tree = (x.List at (g.tree.tree ∷ []) [], max g.tree.height 0 + 1);
    more = g.more ++ (mark_word k.RightBracket ∷ []);
    goes_on = λ gs w d.
        let room : c.deep + 1 ≤ most.trees + (c.deep + 1 + 1) = omega arith in
        expands _ (list_first c at _ _ g.tree.at g.tree.tree g.tree.height room)
        (spells_at (ap (λ v. j ∷ v) (sym (append_assoc g.more (mark_word k.RightBracket ∷ []) w)))
        (level_with 0 (deeper most (c.deep + 1 + 1) (c.open_ + 1 + 1)) (inside (under c)) g.tree (j ∷ g.more) (λ hs v e. g.spelled hs v e) _ _ (closed_first (deeper most (c.deep + 1 + 1) (c.open_ + 1 + 1)) c at g.tree gs w d)));
  };
}

pub no_first_there : {most : Limits} (s : Site) (c : Context) (at : Span) (rest : List Word) → c.mode ≡ mode_of s → NoMark k.RightBracket rest → NoneBegins s rest → IsRefused most {X = Expr × ℕ} closed (list_in c at) rest rest Syntax
no_first_there s c at rest m n b = record {
  front = [];
  whole = refl;
  tree = (x.List at [] [], 1);
  more = mark_word k.RightBracket ∷ [];
  goes_on = λ l v gs w d. list_empty l c at gs w d;
  stops = λ l i r gs w f h d. let q = first_forth l c at r.0 r.1 gs rest w n h d in none_level l s 0 (inside (under c)) q.1.at q.1.tree q.1.height (Of (AfterFirst c at q.1.tree q.1.height r.0 r.1) ∷ gs) rest w m b h q.2;
  excused = tt;
}

-- ---- Behind a first item

no_bar_items : (l : Limits) (c : Context) (ys tail : List Expr) (d : ℕ) (gs : List Goal) (j : Word) (w : List Word) → j.kind ≡ k.DoubleBar → Spells l (Of (ListItems c ys tail d) ∷ gs) (j ∷ w) → ⊥
no_bar_items l c _ tail d gs j w h (expands _ (next_item c_0 ay y dy ys tail_0 dys d_0 q0) (takes t kk z)) = cc
no_bar_items l c _ _ d gs j w h (expands _ (list_tail c_0 ay y d_0) (takes t kk z)) = cc
no_bar_items l c _ _ d gs j w h (expands _ (end_list c_0 d_0 q0) (takes t kk z)) = cc

row_forth : (l : Limits) (c : Context) (at : Span) (y : Expr) (dy : ℕ) (e : Expr) (d : ℕ) (gs : List Goal) (j : Word) (w : List Word) → j.kind ≡ k.DoubleBar → Spells l (Of (AfterFirst c at y dy e d) ∷ gs) (j ∷ w) →
    (r : List Qual × ℕ) × (e ≡ x.ListFor at (y ∷ []) r.0) × (d ≡ max dy r.1 + 1) × Spells l (Of (Quals k.RightBracket (inside (under c)) r.0 r.1) ∷ gs) w
row_forth l c at y dy e d gs j w h (expands _ (list_for c_0 at_0 y_0 dy_0 e_0 d_0 qs dq q0 q1 q2) (takes t kk z)) = ((qs, dq), q1, q2, z)
row_forth l c at y dy e d gs j w h (expands _ (list_items c_0 at_0 y_0 dy_0 e_0 d_0 ys tail dys q0 q1) z) = absurd (no_bar_items l (inside (under c)) ys tail dys gs j w h z)

pub on_list_row : {most : Limits} (c : Context) (at : Span) (y : Placed Expr) (j : Word) (rest : List Word) → c.mode ≡ InBody → j.kind ≡ k.DoubleBar →
    Passes most {X = Expr × ℕ} {Y = List Qual × ℕ} closed (after_first_in c at y) (j ∷ rest) (quals_in k.RightBracket (inside (under c))) rest (λ r. (x.ListFor at (y.tree ∷ []) r.0, max y.height r.1 + 1))
on_list_row c at y j rest m h = record {
  front = j ∷ [];
  whole = refl;
  back = λ l v r gs w d. expands _ (list_for c at _ _ _ _ _ _ m refl refl) (takes j h d);
  forth = λ l r gs w f s d. let q = row_forth l c at y.tree y.height r.0 r.1 gs j w h d in (q.0, same_pair q.1 q.2, q.3);
}

no_bar_head : (rest : List Word) (t : Word) (w : List Word) → NoMark k.DoubleBar rest → SameHead (t ∷ w) rest → t.kind ≡ k.DoubleBar → ⊥
no_bar_head _ t w no_mark_end s h = s
no_bar_head _ t w (no_mark j rest n) s h = n (ap (λ v. v.kind) (sym s) ∙ h)

items_forth : (l : Limits) (c : Context) (at : Span) (y : Expr) (dy : ℕ) (e : Expr) (d : ℕ) (gs : List Goal) (rest w : List Word) → NoRow c.mode rest → SameHead w rest → Spells l (Of (AfterFirst c at y dy e d) ∷ gs) w →
    (q : (List Expr × List Expr) × ℕ) × (e ≡ x.List at (y ∷ q.0.0) q.0.1) × (d ≡ max dy q.1 + 1) × Spells l (Of (ListItems (inside (under c)) q.0.0 q.0.1 q.1) ∷ gs) w
items_forth l c at y dy e d gs rest w n s (expands _ (list_items c_0 at_0 y_0 dy_0 e_0 d_0 ys tail dys q0 q1) z) = (((ys, tail), dys), q0, q1, z)
items_forth l c at y dy e d gs rest _ n s (expands _ (list_for c_0 at_0 y_0 dy_0 e_0 d_0 qs dq q0 q1 q2) (takes {w = u} t kk z)) = absurd (no_bar_head rest t u (n q0) s kk)

pub on_items : {most : Limits} (c : Context) (at : Span) (y : Placed Expr) (rest : List Word) → NoRow c.mode rest →
    Passes most {X = Expr × ℕ} {Y = (List Expr × List Expr) × ℕ} closed (after_first_in c at y) rest (list_items_in (inside (under c))) rest (λ q. (x.List at (y.tree ∷ q.0.0) q.0.1, max y.height q.1 + 1))
on_items c at y rest n = record {
  front = [];
  whole = refl;
  back = λ l v q gs w d. expands _ (list_items c at _ _ _ _ _ _ _ refl refl) d;
  forth = λ l r gs w f s d. let m = items_forth l c at y.tree y.height r.0 r.1 gs rest w n s d in (m.0, same_pair m.1 m.2, m.3);
}

-- ---- More items

same_items : {ys zs tail end : List Expr} {d g : ℕ} → ys ≡ zs → tail ≡ end → d ≡ g → (let P : (List Expr × List Expr) × ℕ = ((ys, tail), d) in P) ≡ (let P : (List Expr × List Expr) × ℕ = ((zs, end), g) in P)
same_items {ys = ys} {zs = zs} {tail = tail} {end = end} {d = d} {g = g} p q r = ap (λ v. ((v, tail), d)) p ∙ ap (λ v. ((zs, v), d)) q ∙ ap (λ v. ((zs, end), v)) r

comma_forth : (l : Limits) (c : Context) (ys tail : List Expr) (d : ℕ) (gs : List Goal) (j : Word) (w : List Word) → j.kind ≡ k.Comma → Spells l (Of (ListItems c ys tail d) ∷ gs) (j ∷ w) →
    (y : Placed Expr) × (q : List Expr × ℕ) × (ys ≡ y.tree ∷ q.0) × (d ≡ max y.height q.1) × Spells l (Of (Level 0 c y.at y.tree y.height) ∷ Of (ListItems c q.0 tail q.1) ∷ gs) w
comma_forth l c _ tail d gs j w h (expands _ (next_item c_0 ay y dy ys tail_0 dys d_0 q0) (takes t kk z)) = (record { at = ay; tree = y; height = dy }, (ys, dys), refl, q0, z)
comma_forth l c _ _ d gs j w h (expands _ (list_tail c_0 ay y d_0) (takes t kk z)) = cc
comma_forth l c _ _ d gs j w h (expands _ (end_list c_0 d_0 q0) (takes t kk z)) = cc

pub on_next_item : {most : Limits} (c : Context) (j : Word) (rest : List Word) → j.kind ≡ k.Comma →
    Passes most {X = (List Expr × List Expr) × ℕ} {Y = Placed Expr × ((List Expr × List Expr) × ℕ)} closed (list_items_in c) (j ∷ rest) (λ p. level_in 0 c p.0 ++ list_items_in c p.1) rest (λ p. ((p.0.tree ∷ p.1.0.0, p.1.0.1), max p.0.height p.1.1))
on_next_item c j rest h = record {
  front = j ∷ [];
  whole = refl;
  back = λ l v p gs w d. expands _ (next_item c _ _ _ _ _ _ _ refl) (takes j h d);
  forth = λ l r gs w f s d. let m = comma_forth l c r.0.0 r.0.1 r.1 gs j w h d in ((m.0, ((m.1.0, r.0.1), m.1.1)), same_items m.2 refl m.3, m.4);
}

bar_forth : (l : Limits) (c : Context) (ys tail : List Expr) (d : ℕ) (gs : List Goal) (j : Word) (w : List Word) → j.kind ≡ k.Bar → Spells l (Of (ListItems c ys tail d) ∷ gs) (j ∷ w) →
    (y : Placed Expr) × (ys ≡ []) × (tail ≡ y.tree ∷ []) × (d ≡ y.height) × Spells l (Of (Level 0 c y.at y.tree y.height) ∷ Mark k.RightBracket ∷ gs) w
bar_forth l c _ tail d gs j w h (expands _ (next_item c_0 ay y dy ys tail_0 dys d_0 q0) (takes t kk z)) = cc
bar_forth l c _ _ d gs j w h (expands _ (list_tail c_0 ay y d_0) (takes t kk z)) = (record { at = ay; tree = y; height = d }, refl, refl, refl, z)
bar_forth l c _ _ d gs j w h (expands _ (end_list c_0 d_0 q0) (takes t kk z)) = cc

pub on_tail : {most : Limits} (c : Context) (j : Word) (rest : List Word) → j.kind ≡ k.Bar →
    Passes most {X = (List Expr × List Expr) × ℕ} {Y = Placed Expr} closed (list_items_in c) (j ∷ rest) (last_in k.RightBracket c) rest (λ y. (([], y.tree ∷ []), y.height))
on_tail c j rest h = record {
  front = j ∷ [];
  whole = refl;
  back = λ l v y gs w d. expands _ (list_tail c y.at y.tree y.height) (takes j h d);
  forth = λ l r gs w f s d. let m = bar_forth l c r.0.0 r.0.1 r.1 gs j w h d in (m.0, same_items m.1 m.2 m.3, m.4);
}

close_forth : (l : Limits) (c : Context) (ys tail : List Expr) (d : ℕ) (gs : List Goal) (j : Word) (w : List Word) → j.kind ≡ k.RightBracket → Spells l (Of (ListItems c ys tail d) ∷ gs) (j ∷ w) → (ys ≡ []) × (tail ≡ []) × (d ≡ 0) × Spells l gs w
close_forth l c _ tail d gs j w h (expands _ (next_item c_0 ay y dy ys tail_0 dys d_0 q0) (takes t kk z)) = cc
close_forth l c _ _ d gs j w h (expands _ (list_tail c_0 ay y d_0) (takes t kk z)) = cc
close_forth l c _ _ d gs j w h (expands _ (end_list c_0 d_0 q0) (takes t kk z)) = (refl, refl, q0, z)

pub on_end_list : {most : Limits} (c : Context) (j : Word) (rest : List Word) → j.kind ≡ k.RightBracket → Passes most {X = (List Expr × List Expr) × ℕ} closed (list_items_in c) (j ∷ rest) nothing rest (λ u. (([], []), 0))
on_end_list c j rest h = record {
  front = j ∷ [];
  whole = refl;
  back = λ l v u gs w d. expands _ (end_list c 0 refl) (takes j h d);
  forth = λ l r gs w f s d. let m = close_forth l c r.0.0 r.0.1 r.1 gs j w h d in (tt, same_items m.0 m.1 m.2, m.3);
}

items_stop : (l : Limits) (c : Context) (ys tail : List Expr) (d : ℕ) (gs : List Goal) (rest w : List Word) → NoMark k.Comma rest → NoMark k.Bar rest → NoMark k.RightBracket rest → SameHead w rest → Spells l (Of (ListItems c ys tail d) ∷ gs) w → ⊥
items_stop l c _ tail d gs _ w no_mark_end a b s (expands _ (next_item c_0 ay y dy ys tail_0 dys d_0 q0) (takes t kk z)) = s
items_stop l c _ tail d gs _ w (no_mark j rest n) a b s (expands _ (next_item c_0 ay y dy ys tail_0 dys d_0 q0) (takes t kk z)) = n (ap (λ v. v.kind) (sym s) ∙ kk)
items_stop l c _ _ d gs _ w n no_mark_end b s (expands _ (list_tail c_0 ay y d_0) (takes t kk z)) = s
items_stop l c _ _ d gs _ w n (no_mark j rest a) b s (expands _ (list_tail c_0 ay y d_0) (takes t kk z)) = a (ap (λ v. v.kind) (sym s) ∙ kk)
items_stop l c _ _ d gs _ w n a no_mark_end s (expands _ (end_list c_0 d_0 q0) (takes t kk z)) = s
items_stop l c _ _ d gs _ w n a (no_mark j rest b) s (expands _ (end_list c_0 d_0 q0) (takes t kk z)) = b (ap (λ v. v.kind) (sym s) ∙ kk)

pub items_refused : {most : Limits} (c : Context) (rest : List Word) → NoMark k.Comma rest → NoMark k.Bar rest → NoMark k.RightBracket rest → IsRefused most {X = (List Expr × List Expr) × ℕ} closed (list_items_in c) rest rest Syntax
items_refused c rest n a b = record {
  front = [];
  whole = refl;
  tree = (([], []), 0);
  more = mark_word k.RightBracket ∷ [];
  goes_on = λ l v gs w d. expands _ (end_list c 0 refl) (takes (mark_word k.RightBracket) refl d);
  stops = λ l i r gs w f s d. items_stop l c r.0.0 r.0.1 r.1 gs rest w n a b s d;
  excused = tt;
}

pub behind_item : (c : Context) → Behind {X = Placed Expr} {Y = (List Expr × List Expr) × ℕ} (extends 0) closed (λ p. list_items_in c)
behind_item c = record { behind = λ l p q gs f t w h d. items_lengthen l c q.0.0 q.0.1 q.1 gs t w h d }

pub items_spelled : {most : Limits} (c : Context) → Spelled most {X = Placed Expr} {Y = (List Expr × List Expr) × ℕ} (λ p. list_items_in c) (mark_word k.RightBracket ∷ [])
items_spelled c = record { tree = λ p. (([], []), 0); spelled = λ l v p gs w d. expands _ (end_list c 0 refl) (takes (mark_word k.RightBracket) refl d) }

-- ---- An expression and its closing bracket

pub on_last : {most : Limits} (close : TokenKind) (c : Context) (rest : List Word) → Passes most {X = Placed Expr} {Y = Placed Expr × Unit {0}} closed (last_in close c) rest (λ p. level_in 0 c p.0 ++ mark_in close p.1) rest (λ p. p.0)
on_last close c rest = record {
  front = [];
  whole = refl;
  back = λ l v p gs w d. d;
  forth = λ l r gs w f s d. ((r, tt), refl, d);
}
