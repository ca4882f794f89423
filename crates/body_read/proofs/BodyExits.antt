-- What each exit of the readers of bodies says.
use Rattle.std.proofs.Common.{◌≡◌, ℕ, ◌+◌, max, List, [], ◌∷◌, ◌++◌, append_assoc, drop, Ok, Err, sym, ap, ◌∙◌, arith}
use Rattle.erl_syntax.specs.declared.token.TokenKind.TheVariants as k
use Rattle.erl_syntax.specs.declared.clause.Item.{Item}
use Rattle.erl_syntax.specs.Grammar.{Context}
use Rattle.pattern_read.specs.declared.fault.Fault.{Fault}
use Rattle.pattern_read.specs.Reading.{Passes, Gives}
use Rattle.pattern_read.specs.Wanted.{IsAt, NoMark}
use Rattle.body_read.specs.WantedExprs.{body_in, body_longer, item_in, item_longer}
use Rattle.pattern_read.proofs.Passing.{same_kinds, and_then, first_of_two, at_token, remade, fault_after, fault_first}
use Rattle.pattern_read.proofs.Levels.{same_pair}
use Rattle.body_read.proofs.BodyLaws.{item_and_more, more_items_in, on_body, on_next_item, on_end_items, behind_item, items_spelled}
use Rattle.pattern_read.specs.Cursor.{Readable}

-- what was read of a body, before an item
abbrev pub BodyRead : Context → Readable → ℕ → ℕ → List Item → ℕ → Type 0
BodyRead c ws at next items h = Passes ws.limits body_longer (body_in c) (drop at ws.words) (item_and_more c) (drop next ws.words) (λ p. (items ++ (p.0.0 ∷ p.1.0), max h (max p.0.1 p.1.1)))

pub body_begin : (c : Context) (ws : Readable) (at : ℕ) (items : List Item) → items ≡ [] → BodyRead c ws at at items 0
body_begin c ws at items e = remade (λ p. same_pair (ap (λ v. v ++ (p.0.0 ∷ p.1.0)) (sym e)) (omega arith)) (on_body c (drop at ws.words))

pub body_err : (c : Context) (ws : Readable) (at next : ℕ) (items : List Item) (h : ℕ) (f : Fault) → BodyRead c ws at next items h → Gives item_longer (item_in c) ws next (Err f) → Gives body_longer (body_in c) ws at (Err f)
body_err c ws at next items h f r g = fault_after ws at next f (same_kinds body_longer) r (fault_first (item_in c) ws next f (behind_item c) (items_spelled c) g)

then_items : (c : Context) (ws : Readable) (at next after : ℕ) (items : List Item) (h : ℕ) (i : Item) (d : ℕ) → BodyRead c ws at next items h → Gives item_longer (item_in c) ws next (Ok ((i, d), after)) → Passes ws.limits {X = List Item × ℕ} {Y = List Item × ℕ} body_longer (body_in c) (drop at ws.words) (more_items_in c) (drop after ws.words) (λ q. (items ++ (i ∷ q.0), max h (max d q.1)))
then_items c ws at next after items h i d r g = and_then (same_kinds body_longer) r (first_of_two (behind_item c) g)

pub body_end : (c : Context) (ws : Readable) (at next after : ℕ) (items all : List Item) (h g : ℕ) (i : Item) (d : ℕ) → BodyRead c ws at next items h → Gives item_longer (item_in c) ws next (Ok ((i, d), after)) → NoMark k.Comma (drop after ws.words) → all ≡ items ++ (i ∷ []) → g ≡ max h d → Gives body_longer (body_in c) ws at (Ok ((all, g), after))
body_end c ws at next after items all h g i d r v n e m = remade (λ u. same_pair (sym e) (omega (arith, m))) (and_then (same_kinds body_longer) (then_items c ws at next after items h i d r v) (on_end_items c (drop after ws.words) n))

pub body_more : (c : Context) (ws : Readable) (at next after : ℕ) (items all : List Item) (h g : ℕ) (i : Item) (d : ℕ) → BodyRead c ws at next items h → Gives item_longer (item_in c) ws next (Ok ((i, d), after)) → IsAt ws after k.Comma → all ≡ items ++ (i ∷ []) → g ≡ max h d → BodyRead c ws at (after + 1) all g
body_more c ws at next after items all h g i d r v s e m = remade (λ p. same_pair (sym (append_assoc items (i ∷ []) (p.0.0 ∷ p.1.0)) ∙ ap (λ u. u ++ (p.0.0 ∷ p.1.0)) (sym e)) (omega (arith, m))) (and_then (same_kinds body_longer) (then_items c ws at next after items h i d r v) (at_token s.is (on_next_item c s.word (drop (after + 1) ws.words) s.kind_is)))
