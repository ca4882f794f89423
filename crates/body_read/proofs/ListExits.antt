-- What each exit of the readers of lists says.
use Rattle.std.proofs.Common.{◌≡◌, ℕ, ◌+◌, ◌≤◌, ◌<◌, max, false, List, [], ◌∷◌, ◌++◌, append_assoc, drop, Result, Ok, Err, refl, sym, ap, subst, ◌∙◌, arith}
use Rattle.std.proofs.lemmas.List.{append-nil}
use Rattle.erl_syntax.specs.declared.span.Span.{Span}
use Rattle.erl_syntax.specs.declared.token.TokenKind.{TokenKind}
use Rattle.erl_syntax.specs.declared.token.TokenKind.TheVariants as k
use Rattle.erl_syntax.specs.declared.expr.Expr.{Expr}
use Rattle.erl_syntax.specs.declared.expr.Expr.TheVariants as x
use Rattle.erl_syntax.specs.declared.qual.Qual.{Qual}
use Rattle.erl_syntax.specs.Word.{Word}
use Rattle.erl_syntax.specs.Grammar.{InBody, Context, under, inside}
use Rattle.pattern_read.specs.declared.placed.Placed.{Placed}
use Rattle.body_read.specs.declared.site.Site.{Site}
use Rattle.pattern_read.specs.declared.fault.Cause.{Cause}
use Rattle.pattern_read.specs.declared.fault.Cause.TheVariants.{Syntax}
use Rattle.pattern_read.specs.declared.fault.Fault.{Fault}
use Rattle.pattern_read.specs.Reading.{Passes, IsRefused, Gives, closed}
use Rattle.pattern_read.specs.Wanted.{extends, level_in, mark_in, IsAt, NoMark}
use Rattle.body_read.specs.WantedExprs.{in_body, list_in, mode_of, quals_in}
use Rattle.body_read.specs.WantedSegments.{after_first_in, list_items_in, last_in, NoRow}
use Rattle.body_read.specs.Sites.{FirstIn, only_deeper_in, none_first}
use Rattle.pattern_read.proofs.Passing.{same_kinds, and_then, refused_after, first_of_two, at_token, remade, fault_after, fault_first}
use Rattle.pattern_read.proofs.Levels.{same_pair}
use Rattle.pattern_read.proofs.Operands.{behind_mark, mark_spelled}
use Rattle.pattern_read.proofs.Exits.{gives_on}
use Rattle.body_read.proofs.BitsExits.{body_context}
use Rattle.body_read.proofs.BodiedBegins.{begun_in}
use Rattle.body_read.proofs.ListLaws.{on_no_list, on_first, first_completed, behind_first_item, first_too_deep, no_first_there, on_list_row, on_items, on_next_item, on_tail, on_end_list, items_refused, behind_item, items_spelled, on_last}
use Rattle.pattern_read.specs.Cursor.{Readable}
use Rattle.erl_syntax.specs.Grammar.{Limits}

-- ---- Behind `[`

same_list : {place : Span} {items ys tail end : List Expr} {d g : ℕ} → items ≡ ys → tail ≡ end → d ≡ g → (let P : Expr × ℕ = (x.List place items tail, d) in P) ≡ (let P : Expr × ℕ = (x.List place ys end, g) in P)
same_list {place = place} {items = items} {ys = ys} {tail = tail} {end = end} p q r = same_pair (ap (λ v. x.List place v tail) p ∙ ap (λ v. x.List place ys v) q) r

pub list_empty_ok : (c : Context) (ws : Readable) (at : ℕ) (place : Span) (items tail : List Expr) → IsAt ws at k.RightBracket → items ≡ [] → tail ≡ [] → Gives closed (list_in c place) ws at (Ok ((x.List place items tail, 1), at + 1))
list_empty_ok c ws at place items tail s e f = remade (λ u. same_list (sym e) (sym f) refl) (at_token s.is (on_no_list c place s.word (drop (at + 1) ws.words) s.kind_is))

refused_first_item : {most : Limits} (s : Site) (c : Context) (place : Span) (rest : List Word) (why : Cause) → c.mode ≡ mode_of s → FirstIn s rest why → NoMark k.RightBracket rest → most.trees < c.deep + 1 → IsRefused most {X = Expr × ℕ} closed (list_in c place) rest rest why
refused_first_item s c place _ _ m (only_deeper_in j rest b) n h = first_too_deep c place j rest n (begun_in s (inside (under c)) j m b) h
refused_first_item s c place _ _ m (none_first rest b) n h = no_first_there s c place rest m n b

pub list_deep : (s : Site) (c : Context) (ws : Readable) (at : ℕ) (place : Span) (why : Cause) → c.mode ≡ mode_of s → FirstIn s (drop at ws.words) why → NoMark k.RightBracket (drop at ws.words) → ws.limits.trees < c.deep + 1 → IsRefused ws.limits {X = Expr × ℕ} closed (list_in c place) (drop at ws.words) (drop at ws.words) why
list_deep s c ws at place why m v n h = refused_first_item s c place (drop at ws.words) why m v n h

pub list_first_err : (c : Context) (ws : Readable) (at : ℕ) (place : Span) (f : Fault) → c.deep + 1 ≤ ws.limits.trees → NoMark k.RightBracket (drop at ws.words) → Gives (extends 0) (level_in 0 (inside (under c))) ws at (Err f) → Gives closed (list_in c place) ws at (Err f)
list_first_err c ws at place f b n g = fault_after ws at at f (same_kinds closed) (on_first c place (drop at ws.words) b n) (fault_first (level_in 0 (inside (under c))) ws at f (behind_first_item c place) (first_completed c place) g)

pub list_first_then : (c : Context) (ws : Readable) (at next : ℕ) (place : Span) (y : Placed Expr) (r : Result ((Expr × ℕ) × ℕ) Fault) → c.deep + 1 ≤ ws.limits.trees → NoMark k.RightBracket (drop at ws.words) → Gives (extends 0) (level_in 0 (inside (under c))) ws at (Ok (y, next)) → Gives closed (after_first_in c place y) ws next r → Gives closed (list_in c place) ws at r
list_first_then c ws at next place y r b n g t = gives_on ws at next r (same_kinds closed) (and_then (same_kinds closed) (on_first c place (drop at ws.words) b n) (first_of_two (behind_first_item c place) g)) t

-- ---- Behind a first item

list_row : (c : Context) (ws : Readable) (at : ℕ) (place : Span) (y : Placed Expr) → c.mode ≡ InBody → IsAt ws at k.DoubleBar →
    Passes ws.limits {X = Expr × ℕ} {Y = List Qual × ℕ} closed (after_first_in c place y) (drop at ws.words) (quals_in k.RightBracket (in_body (c.deep + 1) (c.open_ + 1))) (drop (at + 1) ws.words) (λ r. (x.ListFor place (y.tree ∷ []) r.0, max y.height r.1 + 1))
list_row c ws at place y m s =
    let P : Context → Type 0 = λ v. Passes ws.limits {X = Expr × ℕ} {Y = List Qual × ℕ} closed (after_first_in c place y) (drop at ws.words) (quals_in k.RightBracket v) (drop (at + 1) ws.words) (λ r. (x.ListFor place (y.tree ∷ []) r.0, max y.height r.1 + 1)) in
    subst P (body_context c m) (at_token s.is (on_list_row c place y s.word (drop (at + 1) ws.words) m s.kind_is))

pub list_row_err : (c : Context) (ws : Readable) (at : ℕ) (place : Span) (y : Placed Expr) (f : Fault) → c.mode ≡ InBody → IsAt ws at k.DoubleBar → Gives closed (quals_in k.RightBracket (in_body (c.deep + 1) (c.open_ + 1))) ws (at + 1) (Err f) → Gives closed (after_first_in c place y) ws at (Err f)
list_row_err c ws at place y f m s g = fault_after ws at (at + 1) f (same_kinds closed) (list_row c ws at place y m s) g

pub list_row_ok : (c : Context) (ws : Readable) (at next : ℕ) (place : Span) (y : Placed Expr) (row : List Expr) (qs : List Qual) (d h : ℕ) → c.mode ≡ InBody → IsAt ws at k.DoubleBar → Gives closed (quals_in k.RightBracket (in_body (c.deep + 1) (c.open_ + 1))) ws (at + 1) (Ok ((qs, d), next)) → row ≡ y.tree ∷ [] → h ≡ max y.height d + 1 → Gives closed (after_first_in c place y) ws at (Ok ((x.ListFor place row qs, h), next))
list_row_ok c ws at next place y row qs d h m s g e i = remade (λ u. same_pair (ap (λ v. x.ListFor place v qs) (sym e)) (sym i)) (and_then (same_kinds closed) (list_row c ws at place y m s) g)

-- ---- More items

-- what was read so far
abbrev pub ReadItems : Context → Span → Placed Expr → Readable → ℕ → ℕ → List Expr → ℕ → Type 0
ReadItems c place y ws at next items h = Passes ws.limits {X = Expr × ℕ} {Y = (List Expr × List Expr) × ℕ} closed (after_first_in c place y) (drop at ws.words) (list_items_in (inside (under c))) (drop next ws.words) (λ q. (x.List place (items ++ q.0.0) q.0.1, max h q.1 + 1))

pub items_begin : (c : Context) (place : Span) (y : Placed Expr) (ws : Readable) (at : ℕ) (items : List Expr) → NoRow c.mode (drop at ws.words) → items ≡ y.tree ∷ [] → ReadItems c place y ws at at items y.height
items_begin c place y ws at items n e = remade (λ q. same_list (ap (λ v. v ++ q.0.0) (sym e)) refl refl) (on_items c place y (drop at ws.words) n)

pub items_end : (c : Context) (place : Span) (y : Placed Expr) (ws : Readable) (at next : ℕ) (items all tail : List Expr) (h : ℕ) → ReadItems c place y ws at next items h → IsAt ws next k.RightBracket → all ≡ items → tail ≡ [] → Gives closed (after_first_in c place y) ws at (Ok ((x.List place all tail, h + 1), next + 1))
items_end c place y ws at next items all tail h r s e f = remade (λ u. same_list (append-nil items ∙ sym e) (sym f) (omega arith)) (and_then (same_kinds closed) r (at_token s.is (on_end_list (inside (under c)) s.word (drop (next + 1) ws.words) s.kind_is)))

items_bar : (c : Context) (place : Span) (y : Placed Expr) (ws : Readable) (at next : ℕ) (items : List Expr) (h : ℕ) → ReadItems c place y ws at next items h → IsAt ws next k.Bar →
    Passes ws.limits {X = Expr × ℕ} {Y = Placed Expr} closed (after_first_in c place y) (drop at ws.words) (last_in k.RightBracket (inside (under c))) (drop (next + 1) ws.words) (λ z. (x.List place (items ++ []) (z.tree ∷ []), max h z.height + 1))
items_bar c place y ws at next items h r s = and_then (same_kinds closed) r (at_token s.is (on_tail (inside (under c)) s.word (drop (next + 1) ws.words) s.kind_is))

pub items_tail_err : (c : Context) (place : Span) (y : Placed Expr) (ws : Readable) (at next : ℕ) (items : List Expr) (h : ℕ) (f : Fault) → ReadItems c place y ws at next items h → IsAt ws next k.Bar → Gives closed (last_in k.RightBracket (inside (under c))) ws (next + 1) (Err f) → Gives closed (after_first_in c place y) ws at (Err f)
items_tail_err c place y ws at next items h f r s g = fault_after ws at (next + 1) f (same_kinds closed) (items_bar c place y ws at next items h r s) g

pub items_tail_ok : (c : Context) (place : Span) (y : Placed Expr) (ws : Readable) (at next after : ℕ) (items all tail : List Expr) (h g : ℕ) (z : Placed Expr) → ReadItems c place y ws at next items h → IsAt ws next k.Bar → Gives closed (last_in k.RightBracket (inside (under c))) ws (next + 1) (Ok (z, after)) → all ≡ items → tail ≡ z.tree ∷ [] → g ≡ max h z.height + 1 → Gives closed (after_first_in c place y) ws at (Ok ((x.List place all tail, g), after))
items_tail_ok c place y ws at next after items all tail h g z r s v e f i = remade (λ u. same_list (append-nil items ∙ sym e) (sym f) (sym i)) (and_then (same_kinds closed) (items_bar c place y ws at next items h r s) v)

pub items_other : (c : Context) (place : Span) (y : Placed Expr) (ws : Readable) (at next : ℕ) (items : List Expr) (h : ℕ) → ReadItems c place y ws at next items h → NoMark k.Comma (drop next ws.words) → NoMark k.Bar (drop next ws.words) → NoMark k.RightBracket (drop next ws.words) → IsRefused ws.limits {X = Expr × ℕ} closed (after_first_in c place y) (drop at ws.words) (drop next ws.words) Syntax
items_other c place y ws at next items h r n a b = refused_after (same_kinds closed) r (items_refused (inside (under c)) (drop next ws.words) n a b)

items_on : (c : Context) (place : Span) (y : Placed Expr) (ws : Readable) (at next : ℕ) (items : List Expr) (h : ℕ) → ReadItems c place y ws at next items h → IsAt ws next k.Comma →
    Passes ws.limits {X = Expr × ℕ} {Y = Placed Expr × ((List Expr × List Expr) × ℕ)} closed (after_first_in c place y) (drop at ws.words) (λ p. level_in 0 (inside (under c)) p.0 ++ list_items_in (inside (under c)) p.1) (drop (next + 1) ws.words) (λ p. (x.List place (items ++ (p.0.tree ∷ p.1.0.0)) p.1.0.1, max h (max p.0.height p.1.1) + 1))
items_on c place y ws at next items h r s = and_then (same_kinds closed) r (at_token s.is (on_next_item (inside (under c)) s.word (drop (next + 1) ws.words) s.kind_is))

pub items_err : (c : Context) (place : Span) (y : Placed Expr) (ws : Readable) (at next : ℕ) (items : List Expr) (h : ℕ) (f : Fault) → ReadItems c place y ws at next items h → IsAt ws next k.Comma → Gives (extends 0) (level_in 0 (inside (under c))) ws (next + 1) (Err f) → Gives closed (after_first_in c place y) ws at (Err f)
items_err c place y ws at next items h f r s g = fault_after ws at (next + 1) f (same_kinds closed) (items_on c place y ws at next items h r s) (fault_first (level_in 0 (inside (under c))) ws (next + 1) f (behind_item (inside (under c))) (items_spelled (inside (under c))) g)

pub items_next : (c : Context) (place : Span) (y : Placed Expr) (ws : Readable) (at next after : ℕ) (items all : List Expr) (h g : ℕ) (z : Placed Expr) → ReadItems c place y ws at next items h → IsAt ws next k.Comma → Gives (extends 0) (level_in 0 (inside (under c))) ws (next + 1) (Ok (z, after)) → all ≡ items ++ (z.tree ∷ []) → g ≡ max h z.height → ReadItems c place y ws at after all g
items_next c place y ws at next after items all h g z r s v e i = remade (λ q. same_list (sym (append_assoc items (z.tree ∷ []) q.0.0) ∙ ap (λ u. u ++ q.0.0) (sym e)) refl (omega (arith, i))) (and_then (same_kinds closed) (items_on c place y ws at next items h r s) (first_of_two (behind_item (inside (under c))) v))

-- ---- An expression and its closing bracket

pub last_err : (close : TokenKind) (c : Context) (ws : Readable) (at : ℕ) (f : Fault) → extends 0 close ≡ false → Gives (extends 0) (level_in 0 c) ws at (Err f) → Gives closed (last_in close c) ws at (Err f)
last_err close c ws at f n g = fault_after ws at at f (same_kinds closed) (on_last close c (drop at ws.words)) (fault_first (level_in 0 c) ws at f (behind_mark close (extends 0) closed n) (mark_spelled close) g)

last_then : (close : TokenKind) (c : Context) (ws : Readable) (at next : ℕ) (y : Placed Expr) → extends 0 close ≡ false → Gives (extends 0) (level_in 0 c) ws at (Ok (y, next)) → Passes ws.limits {X = Placed Expr} {Y = Unit {0}} closed (last_in close c) (drop at ws.words) (mark_in close) (drop next ws.words) (λ u. y)
last_then close c ws at next y n g = and_then (same_kinds closed) (on_last close c (drop at ws.words)) (first_of_two (behind_mark close (extends 0) closed n) g)

pub last_close_err : (close : TokenKind) (c : Context) (ws : Readable) (at next : ℕ) (y : Placed Expr) (f : Fault) → extends 0 close ≡ false → Gives (extends 0) (level_in 0 c) ws at (Ok (y, next)) → Gives closed (mark_in close) ws next (Err f) → Gives closed (last_in close c) ws at (Err f)
last_close_err close c ws at next y f n g m = fault_after ws at next f (same_kinds closed) (last_then close c ws at next y n g) m

pub last_ok : (close : TokenKind) (c : Context) (ws : Readable) (at next after : ℕ) (y : Placed Expr) (u : Unit {0}) → extends 0 close ≡ false → Gives (extends 0) (level_in 0 c) ws at (Ok (y, next)) → Gives closed (mark_in close) ws next (Ok (u, after)) → Gives closed (last_in close c) ws at (Ok (y, after))
last_ok close c ws at next after y u n g m = and_then (same_kinds closed) (last_then close c ws at next y n g) m
