-- The laws of bodies: items up to where no comma follows.
use Rattle.std.proofs.Common.{◌≡◌, ℕ, max, false, IsTrue, List, [], ◌∷◌, ◌++◌, refl, sym, ap, ◌∙◌}
use Rattle.erl_syntax.specs.declared.token.TokenKind.{TokenKind}
use Rattle.erl_syntax.specs.declared.token.TokenKind.TheVariants as k
use Rattle.erl_syntax.specs.declared.clause.Item.{Item}
use Rattle.erl_syntax.specs.Word.{Word}
use Rattle.erl_syntax.specs.Grammar.{Context, Limits, Goal, Of, Body, MoreItems, body, more_items, end_items, item_value, Spells, takes, expands}
use Rattle.pattern_read.specs.Reading.{Passes, Follows, SameHead, nothing}
use Rattle.pattern_read.specs.Wanted.{NoMark, no_mark_end, no_mark}
use Rattle.body_read.specs.WantedExprs.{body_in, body_longer, item_in, item_longer}
use Rattle.pattern_read.proofs.Passing.{Behind, Spelled}
use Rattle.pattern_read.proofs.Levels.{same_pair}
use Rattle.pattern_read.proofs.Operands.{some_expr, some_word, level_completed}

-- more items behind one
abbrev pub more_items_in : Context → List Item × ℕ → List Goal
more_items_in c r = Of (MoreItems c r.0 r.1) ∷ []

-- a first item, and more behind it
abbrev pub item_and_more : Context → (Item × ℕ) × (List Item × ℕ) → List Goal
item_and_more c p = item_in c p.0 ++ more_items_in c p.1

abbrev pub with_items : (Item × ℕ) × (List Item × ℕ) → List Item × ℕ
with_items p = (p.0.0 ∷ p.1.0, max p.0.1 p.1.1)

body_forth : (l : Limits) (c : Context) (ys : List Item) (d : ℕ) (gs : List Goal) (w : List Word) → Spells l (Of (Body c ys d) ∷ gs) w →
    (p : (Item × ℕ) × (List Item × ℕ)) × (ys ≡ p.0.0 ∷ p.1.0) × (d ≡ max p.0.1 p.1.1) × Spells l (item_and_more c p ++ gs) w
body_forth l c _ d gs w (expands _ (body c_0 i di is dis d_0 q0) z) = (((i, di), (is, dis)), refl, q0, z)

pub on_body : {most : Limits} (c : Context) (rest : List Word) → Passes most {X = List Item × ℕ} {Y = (Item × ℕ) × (List Item × ℕ)} body_longer (body_in c) rest (item_and_more c) rest with_items
on_body c rest = record {
  front = [];
  whole = refl;
  back = λ l v p gs w d. expands _ (body c _ _ _ _ _ refl) d;
  forth = λ l r gs w f s d. let m = body_forth l c r.0 r.1 gs w d in (m.0, same_pair m.1 m.2, m.3);
}

comma_forth : (l : Limits) (c : Context) (ys : List Item) (d : ℕ) (gs : List Goal) (j : Word) (w : List Word) → j.kind ≡ k.Comma → Follows l body_longer gs → Spells l (Of (MoreItems c ys d) ∷ gs) (j ∷ w) →
    (p : (Item × ℕ) × (List Item × ℕ)) × (ys ≡ p.0.0 ∷ p.1.0) × (d ≡ max p.0.1 p.1.1) × Spells l (item_and_more c p ++ gs) w
comma_forth l c _ d gs j w h f (expands _ (more_items c_0 i di is dis d_0 q0) (takes t kk z)) = (((i, di), (is, dis)), refl, q0, z)
comma_forth l c _ d gs j w h f (expands _ (end_items c_0 d_0 q0) z) = absurd (f j w (ap body_longer h) z)

pub on_next_item : {most : Limits} (c : Context) (j : Word) (rest : List Word) → j.kind ≡ k.Comma → Passes most {X = List Item × ℕ} {Y = (Item × ℕ) × (List Item × ℕ)} body_longer (more_items_in c) (j ∷ rest) (item_and_more c) rest with_items
on_next_item c j rest h = record {
  front = j ∷ [];
  whole = refl;
  back = λ l v p gs w d. expands _ (more_items c _ _ _ _ _ refl) (takes j h d);
  forth = λ l r gs w f s d. let m = comma_forth l c r.0 r.1 gs j w h f d in (m.0, same_pair m.1 m.2, m.3);
}

end_forth : (l : Limits) (c : Context) (ys : List Item) (d : ℕ) (gs : List Goal) (rest w : List Word) → NoMark k.Comma rest → SameHead w rest → Spells l (Of (MoreItems c ys d) ∷ gs) w → (ys ≡ []) × (d ≡ 0) × Spells l gs w
end_forth l c _ d gs rest w n s (expands _ (end_items c_0 d_0 q0) z) = (refl, q0, z)
end_forth l c _ d gs _ w no_mark_end s (expands _ (more_items c_0 i di is dis d_0 q0) (takes t kk z)) = absurd s
end_forth l c _ d gs _ w (no_mark j rest n) s (expands _ (more_items c_0 i di is dis d_0 q0) (takes t kk z)) = absurd (n (ap (λ v. v.kind) (sym s) ∙ kk))

pub on_end_items : {most : Limits} (c : Context) (rest : List Word) → NoMark k.Comma rest → Passes most {X = List Item × ℕ} body_longer (more_items_in c) rest nothing rest (λ u. ([], 0))
on_end_items c rest n = record {
  front = [];
  whole = refl;
  back = λ l v u gs w d. expands _ (end_items c 0 refl) d;
  forth = λ l r gs w f s d. let m = end_forth l c r.0 r.1 gs rest w n s d in (tt, same_pair m.0 m.1, m.2);
}

item_within : (kind : TokenKind) → IsTrue (item_longer kind) → IsTrue (body_longer kind)
item_within k.Comma h = refl
item_within _ h = h

items_lengthen : (l : Limits) (c : Context) (ys : List Item) (d : ℕ) (gs : List Goal) (t : Word) (w : List Word) → Follows l body_longer gs → IsTrue (item_longer t.kind) → Spells l (Of (MoreItems c ys d) ∷ gs) (t ∷ w) → ⊥
items_lengthen l c _ d gs t w f h (expands _ (more_items c_0 i di is dis d_0 q0) (takes u kk z)) = let a : item_longer t.kind ≡ false = ap item_longer kk in cc
items_lengthen l c _ d gs t w f h (expands _ (end_items c_0 d_0 q0) z) = f t w (item_within t.kind h) z

pub behind_item : (c : Context) → Behind {X = Item × ℕ} {Y = List Item × ℕ} item_longer body_longer (λ p. more_items_in c)
behind_item c = record { behind = λ l p q gs f t w h d. items_lengthen l c q.0 q.1 gs t w f h d }

pub items_spelled : {most : Limits} (c : Context) → Spelled most {X = Item × ℕ} {Y = List Item × ℕ} (λ p. more_items_in c) []
items_spelled c = record { tree = λ p. ([], 0); spelled = λ l v p gs w d. expands _ (end_items c 0 refl) d }

-- one variable is a body
abbrev pub some_item : Item
some_item = record { patterns = []; value = some_expr.tree }

pub body_completed : (l : Limits) (c : Context) (gs : List Goal) (w : List Word) → Spells l gs w → Spells l (body_in c (some_item ∷ [], 1) ++ gs) (some_word ∷ w)
body_completed l c gs w d = expands _ (body c some_item 1 [] 0 1 refl) (expands _ (item_value c some_item 1 some_expr.at some_expr.tree refl) (level_completed 0 l c (Of (MoreItems c [] 0) ∷ gs) w (expands _ (end_items c 0 refl) d)))
