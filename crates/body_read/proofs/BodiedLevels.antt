-- What the readers of levels in bodies and guards say at each exit.
use Rattle.std.proofs.Common.{◌≡◌, ◌≢◌, ℕ, ◌+◌, ◌≤◌, ◌<◌, max, true, false, List, [], ◌∷◌, ◌++◌, nat_lt, if◌then◌else◌, drop, Option, Some, Result, Ok, Err, sym, ap, subst, ◌∙◌, arith, ◌⊎◌, inl, inr}
use Rattle.std.proofs.lemmas.Bool.{cases_lt}
use Rattle.std.proofs.lemmas.Bool.Decides.{nat_tests}
use Rattle.erl_syntax.specs.declared.expr.Expr.{Expr}
use Rattle.erl_syntax.specs.declared.expr.Expr.TheVariants as x
use Rattle.erl_syntax.specs.declared.expr.Op.{Op}
use Rattle.erl_syntax.specs.declared.expr.Op.TheVariants as o
use Rattle.erl_syntax.specs.Word.{Word}
use Rattle.erl_syntax.specs.Operators.{operator_of, level_of}
use Rattle.erl_syntax.specs.Grammar.{Context, InBody, under, right_of}
use Rattle.pattern_read.specs.Cursor.{StandsAt}
use Rattle.pattern_read.specs.declared.cursor.Numbered.{Numbered}
use Rattle.pattern_read.specs.declared.placed.Placed.{Placed}
use Rattle.body_read.specs.declared.site.Site.{Site}
use Rattle.pattern_read.specs.declared.fault.Cause.TheVariants.{TooDeep}
use Rattle.pattern_read.specs.declared.fault.Fault.{Fault}
use Rattle.pattern_read.specs.Reading.{Passes, IsRefused, Gives}
use Rattle.pattern_read.specs.Wanted.{extends, level_in, tail_in, placed_binary, NoneFollows, ended, other}
use Rattle.body_read.specs.WantedExprs.{mode_of}
use Rattle.body_read.specs.Sites.{MayStand, OperatorIn, NoneIn}
use Rattle.pattern_read.proofs.Passing.{same_kinds, and_then, first_of_two, at_token, refused_at, remade, fault_after, fault_first}
use Rattle.pattern_read.proofs.Levels.{tighter, on_alone, on_right, on_left, behind_right, right_spelled}
use Rattle.pattern_read.proofs.Depths.{operator_too_deep}
use Rattle.pattern_read.proofs.Exits.{gives_on}
use Rattle.pattern_read.specs.Cursor.{Readable}

-- ---- Which operator stands there

pub no_operator_at_end : (s : Site) (n : ℕ) (rest : List Word) → rest ≡ [] → NoneIn s n rest
no_operator_at_end s n rest e = λ c m. let P : List Word → Type 0 = λ v. NoneFollows n c v in subst P (sym e) ended

pub no_operator_there : (s : Site) (n : ℕ) (ws : Readable) (at : ℕ) (t : Numbered) → StandsAt ws at t → ((op : Op) → operator_of t.token.kind ≡ Some op → ⊥) → NoneIn s n (drop at ws.words)
no_operator_there s n ws at t w f = λ c m. let P : List Word → Type 0 = λ v. NoneFollows n c v in subst P (sym w.is) (other w.word (drop (at + 1) ws.words) (record { none = λ op e l b. f op (ap operator_of (sym w.kind) ∙ e) }))

same_op : {found : Option Op} {p q : Op} → found ≡ Some p → found ≡ Some q → p ≡ q
same_op a b = cc

may_stand_in : (s : Site) (c : Context) (p q : Op) → c.mode ≡ mode_of s → p ≡ q → (c.mode ≡ InBody ⊎ q ≢ o.Send) → MayStand s p
may_stand_in s c p q m e (inl b) = inl (sym m ∙ b)
may_stand_in s c p q m e (inr b) = inr (λ h. b (sym e ∙ h))

pub other_operator : (s : Site) (n : ℕ) (ws : Readable) (at : ℕ) (t : Numbered) (op : Op) → StandsAt ws at t → operator_of t.token.kind ≡ Some op → ((level_of op ≡ n → ⊥) ⊎ (MayStand s op → ⊥)) → NoneIn s n (drop at ws.words)
other_operator s n ws at t op w e (inl f) = λ c m. let P : List Word → Type 0 = λ v. NoneFollows n c v in subst P (sym w.is) (other w.word (drop (at + 1) ws.words) (record { none = λ q i l b. f (ap level_of (same_op e (ap operator_of (sym w.kind) ∙ i)) ∙ l) }))
other_operator s n ws at t op w e (inr f) = λ c m. let P : List Word → Type 0 = λ v. NoneFollows n c v in subst P (sym w.is) (other w.word (drop (at + 1) ws.words) (record { none = λ q i l b. f (may_stand_in s c op q m (same_op e (ap operator_of (sym w.kind) ∙ i)) b) }))

-- ---- Behind an operand

stands_in : (s : Site) (c : Context) (op : Op) → c.mode ≡ mode_of s → MayStand s op → (c.mode ≡ InBody ⊎ op ≢ o.Send)
stands_in s c op m (inl b) = inl (m ∙ b)
stands_in s c op m (inr b) = inr b

pub alone_in : (s : Site) (c : Context) (n : ℕ) (ws : Readable) (at : ℕ) (y : Placed Expr) → c.mode ≡ mode_of s → NoneIn s n (drop at ws.words) → Gives (extends n) (tail_in n c y) ws at (Ok ((y.tree, y.height), at))
alone_in s c n ws at y m h = on_alone n c y (drop at ws.words) (h c m)

pub operator_deep : (s : Site) (c : Context) (n : ℕ) (ws : Readable) (at : ℕ) (y : Placed Expr) (op : Op) → c.mode ≡ mode_of s → OperatorIn s ws at n op → ws.limits.trees < c.deep + y.height → IsRefused ws.limits {X = Expr × ℕ} (extends n) (tail_in n c y) (drop at ws.words) (drop at ws.words) TooDeep
operator_deep s c n ws at y op m w b = refused_at w.is (operator_too_deep n c y w.word (drop (at + 1) ws.words) op w.operator w.level (stands_in s c op m w.stands) b)

right_passes : (s : Site) (c : Context) (n : ℕ) (ws : Readable) (at : ℕ) (y : Placed Expr) (op : Op) → c.mode ≡ mode_of s → OperatorIn s ws at n op → n < 4 → c.deep + y.height ≤ ws.limits.trees → Passes ws.limits {X = Expr × ℕ} {Y = Placed Expr} (extends n) (tail_in n c y) (drop at ws.words) (level_in (right_of n) (under c)) (drop (at + 1) ws.words) (λ z. (x.Binary y.at op (y.tree ∷ z.tree ∷ []), max y.height z.height + 1))
right_passes s c n ws at y op m w h b = at_token w.is (on_right n c y w.word (drop (at + 1) ws.words) op h w.operator w.level (stands_in s c op m w.stands) b)

left_passes : (s : Site) (c : Context) (n : ℕ) (ws : Readable) (at : ℕ) (y : Placed Expr) (op : Op) → OperatorIn s ws at n op → 4 ≤ n → c.deep + y.height ≤ ws.limits.trees → Passes ws.limits {X = Expr × ℕ} {Y = Placed Expr × (Expr × ℕ)} (extends n) (tail_in n c y) (drop at ws.words) (λ p. level_in (n + 1) (under c) p.0 ++ tail_in n c (placed_binary y op p.0) p.1) (drop (at + 1) ws.words) (λ p. p.1)
left_passes s c n ws at y op w h b = at_token w.is (on_left n c y w.word (drop (at + 1) ws.words) op h w.operator w.level b)

level_as : (c : Context) (ws : Readable) (at : ℕ) {m n : ℕ} (r : Result (Placed Expr × ℕ) Fault) → m ≡ n → Gives (extends m) (level_in m c) ws at r → Gives (extends n) (level_in n c) ws at r
level_as c ws at r e g = let P : ℕ → Type 0 = λ v. Gives (extends v) (level_in v c) ws at r in subst P e g

right_low : (n : ℕ) → n ≤ right_of n
right_low n = elim (cases_lt n 3) [ inl h ↦ let a : nat_lt n 3 ≡ true = grind (arith, nat_tests) in let b : right_of n ≡ n = ap (λ v. (if v then n else n + 1)) a in omega (arith, b) | inr h ↦ let a : nat_lt n 3 ≡ false = grind (arith, nat_tests) in let b : right_of n ≡ n + 1 = ap (λ v. (if v then n else n + 1)) a in omega (arith, b) ]

right_high : (n : ℕ) → 4 ≤ n → right_of n ≡ n + 1
right_high n h = let a : nat_lt n 3 ≡ false = grind (arith, nat_tests) in ap (λ v. (if v then n else n + 1)) a

right_err : (s : Site) (c : Context) (n : ℕ) (ws : Readable) (at : ℕ) (y : Placed Expr) (op : Op) (f : Fault) → c.mode ≡ mode_of s → OperatorIn s ws at n op → n < 4 → c.deep + y.height ≤ ws.limits.trees → Gives (extends (right_of n)) (level_in (right_of n) (under c)) ws (at + 1) (Err f) → Gives (extends n) (tail_in n c y) ws at (Err f)
right_err s c n ws at y op f m w h b g = fault_after ws at (at + 1) f (tighter n (right_of n) (right_low n)) (right_passes s c n ws at y op m w h b) g

left_err : (s : Site) (c : Context) (n : ℕ) (ws : Readable) (at : ℕ) (y : Placed Expr) (op : Op) (f : Fault) → OperatorIn s ws at n op → 4 ≤ n → c.deep + y.height ≤ ws.limits.trees → Gives (extends (n + 1)) (level_in (n + 1) (under c)) ws (at + 1) (Err f) → Gives (extends n) (tail_in n c y) ws at (Err f)
left_err s c n ws at y op f w h b g = fault_after ws at (at + 1) f (same_kinds (extends n)) (left_passes s c n ws at y op w h b) (fault_first (level_in (n + 1) (under c)) ws (at + 1) f (behind_right n c y op) (right_spelled n c y op) g)

pub operator_err : (s : Site) (c : Context) (n m : ℕ) (ws : Readable) (at : ℕ) (y : Placed Expr) (op : Op) (f : Fault) → c.mode ≡ mode_of s → OperatorIn s ws at n op → m ≡ right_of n → c.deep + y.height ≤ ws.limits.trees → Gives (extends m) (level_in m (under c)) ws (at + 1) (Err f) → Gives (extends n) (tail_in n c y) ws at (Err f)
operator_err s c n m ws at y op f i w e b g = elim (cases_lt n 4) [ inl h ↦ right_err s c n ws at y op f i w h b (level_as (under c) ws (at + 1) (Err f) e g) | inr h ↦ left_err s c n ws at y op f w h b (level_as (under c) ws (at + 1) (Err f) (e ∙ right_high n h) g) ]

pub right_ok : (s : Site) (c : Context) (n m : ℕ) (ws : Readable) (at next : ℕ) (y z j : Placed Expr) (op : Op) → c.mode ≡ mode_of s → OperatorIn s ws at n op → n < 4 → m ≡ right_of n → c.deep + y.height ≤ ws.limits.trees → j ≡ placed_binary y op z → Gives (extends m) (level_in m (under c)) ws (at + 1) (Ok (z, next)) → Gives (extends n) (tail_in n c y) ws at (Ok ((j.tree, j.height), next))
right_ok s c n m ws at next y z j op i w h e b q g = remade (λ u. ap (λ v. (v.tree, v.height)) (sym q)) (and_then (tighter n (right_of n) (right_low n)) (right_passes s c n ws at y op i w h b) (level_as (under c) ws (at + 1) (Ok (z, next)) e g))

left_then : (s : Site) (c : Context) (n : ℕ) (ws : Readable) (at next : ℕ) (y z : Placed Expr) (op : Op) (r : Result ((Expr × ℕ) × ℕ) Fault) → OperatorIn s ws at n op → 4 ≤ n → c.deep + y.height ≤ ws.limits.trees → Gives (extends (n + 1)) (level_in (n + 1) (under c)) ws (at + 1) (Ok (z, next)) → Gives (extends n) (tail_in n c (placed_binary y op z)) ws next r → Gives (extends n) (tail_in n c y) ws at r
left_then s c n ws at next y z op r w h b g t = gives_on ws at next r (same_kinds (extends n)) (and_then (same_kinds (extends n)) (left_passes s c n ws at y op w h b) (first_of_two (behind_right n c y op) g)) t

pub left_ok : (s : Site) (c : Context) (n m : ℕ) (ws : Readable) (at next : ℕ) (y z j : Placed Expr) (op : Op) (r : Result ((Expr × ℕ) × ℕ) Fault) → OperatorIn s ws at n op → 4 ≤ n → m ≡ right_of n → c.deep + y.height ≤ ws.limits.trees → j ≡ placed_binary y op z → Gives (extends m) (level_in m (under c)) ws (at + 1) (Ok (z, next)) → Gives (extends n) (tail_in n c j) ws next r → Gives (extends n) (tail_in n c y) ws at r
left_ok s c n m ws at next y z j op r w h e b i g t = let P : Placed Expr → Type 0 = λ v. Gives (extends n) (tail_in n c v) ws next r in left_then s c n ws at next y z op r w h b (level_as (under c) ws (at + 1) (Ok (z, next)) (e ∙ right_high n h) g) (subst P i t)
