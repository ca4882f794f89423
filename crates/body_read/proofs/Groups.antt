-- The tokens of a whole pattern stand together: none of their fronts is an expression, and no expression holds them with
-- a mark of a match or of a generator behind them.
use Rattle.std.proofs.Common.{◌≡◌, ℕ, ℤ, Bool, true, false, List, [], ◌∷◌, ◌++◌, Option, Some, None, refl, sym, ap, subst, ◌∙◌, append_assoc}
use Rattle.erl_syntax.specs.declared.span.Span.{Span}
use Rattle.erl_syntax.specs.declared.token.TokenKind.{TokenKind}
use Rattle.erl_syntax.specs.declared.token.TokenKind.TheVariants as k
use Rattle.erl_syntax.specs.declared.expr.Expr.{Expr}
use Rattle.erl_syntax.specs.declared.pattern.Pattern.{Pattern}
use Rattle.erl_syntax.specs.Word.{Word}
use Rattle.erl_syntax.specs.Names.{Signed, plus, minus}
use Rattle.erl_syntax.specs.Grammar.{Context, Limits, Goal, Of, Level, Operand, Pat, level, operand, prefix, atom, macro, tuple, list, case, receive, if_, common, variable, integer, character, string, bits, paren, pat_variable, pat_wild, pat_integer, pat_signed, pat_character, pat_atom, pat_string, pat_paren, pat_tuple, pat_list, pat_bits, Spells, ends, takes, begins, this, expands}
use Rattle.pattern_read.proofs.Passing.{spells_as}
use Rattle.body_read.proofs.Walk.{Shape, Plain, Opens, Shuts, Barred, Never, State, Floor, Bare, Inside, shape, shapes, walk, going, walk_both, walks}

-- ---- Fronts of a walk

shapes_both : (u v : List Word) → shapes (u ++ v) ≡ shapes u ++ shapes v
shapes_both [] v = refl
shapes_both (t ∷ u) v = ap (λ x. shape t.kind ∷ x) (shapes_both u v)

halves_of : (o : Option State) (ys : List Shape) (t : State) → going o ys ≡ Some t → (r : State) × (o ≡ Some r) × (walk ys r ≡ Some t)
halves_of None ys t h = cc
halves_of (Some r) ys t h = (r, refl, h)

halves : (u v : List Word) (s t : State) → walk (shapes (u ++ v)) s ≡ Some t → (r : State) × (walk (shapes u) s ≡ Some r) × (walk (shapes v) r ≡ Some t)
halves u v s t h = halves_of (walk (shapes u) s) (shapes v) t (sym (walk_both (shapes u) (shapes v) s) ∙ ap (λ x. walk x s) (sym (shapes_both u v)) ∙ h)

-- inside one bracket more
deeper : State → State
deeper Floor = Bare
deeper Bare = Inside Bare
deeper (Inside s) = Inside (deeper s)

some_same : {s t : State} → (let P : Option State = Some s in P) ≡ Some t → s ≡ t
some_same h = cc

walk_deeper : (xs : List Shape) (s t : State) → walk xs s ≡ Some t → walk xs (deeper s) ≡ Some (deeper t)
unfolding deeper
walk_deeper [] s t h = ap (λ v. Some (deeper v)) (some_same h)
walk_deeper (x ∷ xs) Floor t h = cc
walk_deeper (Plain ∷ xs) Bare t h = walk_deeper xs Bare t h
walk_deeper (Opens ∷ xs) Bare t h = walk_deeper xs (Inside Bare) t h
walk_deeper (Shuts ∷ xs) Bare t h = cc
walk_deeper (Barred ∷ xs) Bare t h = cc
walk_deeper (Never ∷ xs) Bare t h = cc
walk_deeper (Plain ∷ xs) (Inside s) t h = walk_deeper xs (Inside s) t h
walk_deeper (Opens ∷ xs) (Inside s) t h = walk_deeper xs (Inside (Inside s)) t h
walk_deeper (Shuts ∷ xs) (Inside s) t h = walk_deeper xs s t h
walk_deeper (Barred ∷ xs) (Inside s) t h = walk_deeper xs (Inside s) t h
walk_deeper (Never ∷ xs) (Inside s) t h = cc

walk_of : (x y : Shape) (xs : List Shape) (s : State) (o : Option State) → x ≡ y → walk (x ∷ xs) s ≡ o → walk (y ∷ xs) s ≡ o
walk_of x y xs s o e h = let P : Shape → Type 0 = λ v. walk (v ∷ xs) s ≡ o in subst P e h

-- ---- Whole expressions and groups

abbrev pub is_sign : TokenKind → Bool
is_sign k.Plus = true
is_sign k.Minus = true
is_sign _ = false

abbrev pub NoSign : List Word → Type 0
NoSign [] = ⊥
NoSign (t ∷ []) = is_sign t.kind ≡ false
NoSign (t ∷ (u ∷ w)) = Unit {0}

-- Tokens in which each bracket shuts, outside of which stands no mark of a match or of a generator. They are more than a sign.
pub record Whole (w : List Word) : Type 0 where
  pub walked : walk (shapes w) Bare ≡ Some Bare
  pub no_sign : NoSign w

-- one token, an integer with a sign, or a bracket with what it holds
pub data Group : List Word → Type 0 where
  one : (t : Word) → shape t.kind ≡ Plain → is_sign t.kind ≡ false → Group (t ∷ [])
  signed : (t n : Word) → is_sign t.kind ≡ true → shape n.kind ≡ Plain → Group (t ∷ (n ∷ []))
  bracket : (t : Word) (w : List Word) → shape t.kind ≡ Opens → walk (shapes w) (Inside Floor) ≡ Some Floor → Group (t ∷ w)

signs_plain : (kind : TokenKind) → is_sign kind ≡ true → shape kind ≡ Plain
signs_plain k.Plus h = refl
signs_plain k.Minus h = refl
signs_plain _ h = cc

inside_not_empty : (t : Word) (w : List Word) → walk (shapes w) (Inside Floor) ≡ Some Floor → NoSign (t ∷ w)
inside_not_empty t [] h = cc
inside_not_empty t (u ∷ w) h = tt

pub group_whole : (u : List Word) → Group u → Whole u
unfolding deeper
group_whole _ (one t p s) = record { walked = walk_of Plain (shape t.kind) [] Bare (Some Bare) (sym p) refl; no_sign = s }
group_whole _ (signed t n s p) = record { walked = walk_of Plain (shape t.kind) (shape n.kind ∷ []) Bare (Some Bare) (sym (signs_plain t.kind s)) (walk_of Plain (shape n.kind) [] Bare (Some Bare) (sym p) refl); no_sign = tt }
group_whole _ (bracket t w o h) = record { walked = walk_of Opens (shape t.kind) (shapes w) Bare (Some Bare) (sym o) (walk_deeper (shapes w) (Inside Floor) Floor h); no_sign = inside_not_empty t w h }

behind_first : {t u : Word} {x y : List Word} → t ∷ x ≡ u ∷ y → x ≡ y
behind_first h = cc

first_same : {t u : Word} {x y : List Word} → t ∷ x ≡ u ∷ y → t ≡ u
first_same h = cc

not_empty : (e : List Word) (j : Word) (z : List Word) → e ++ (j ∷ z) ≡ [] → ⊥
not_empty [] j z h = cc
not_empty (a ∷ e) j z h = cc

at_floor : (r : State) (j : Word) (z : List Word) → deeper r ≡ Bare → walk (shapes (j ∷ z)) r ≡ Some Floor → ⊥
unfolding deeper
at_floor Floor j z e h = cc
at_floor Bare j z e h = cc
at_floor (Inside r) j z e h = cc

no_front_inside : (e : List Word) (j : Word) (z : List Word) → walk (shapes e) (Inside Bare) ≡ Some Bare → walk (shapes (e ++ (j ∷ z))) (Inside Floor) ≡ Some Floor → ⊥
unfolding deeper
no_front_inside e j z h i =
    let m = halves e (j ∷ z) (Inside Floor) Floor i in
    at_floor m.0 j z (some_same (sym (walk_deeper (shapes e) (Inside Floor) m.0 m.1) ∙ h)) m.2

-- no strict front of a group is whole
pub no_front : (e : List Word) (j : Word) (z u : List Word) → Whole e → Group u → e ++ (j ∷ z) ≡ u → ⊥
no_front [] j z u w g h = w.no_sign
no_front (a ∷ e) j z _ w (one t p s) h = not_empty e j z (behind_first h)
no_front (a ∷ []) j z _ w (signed t n s p) h = let i : a ≡ t = first_same h in let f : is_sign a.kind ≡ false = w.no_sign in let g : is_sign a.kind ≡ is_sign t.kind = ap (λ v. is_sign v.kind) i in cc
no_front (a ∷ (b ∷ e)) j z _ w (signed t n s p) h = not_empty e j z (behind_first (behind_first h))
no_front (a ∷ e) j z _ w (bracket t v o i) h =
    no_front_inside e j z (walk_of (shape a.kind) Opens (shapes e) Bare (Some Bare) (ap (λ x. shape x.kind) (first_same h) ∙ o) w.walked) (ap (λ x. walk (shapes x) (Inside Floor)) (behind_first h) ∙ i)

-- ---- Of two fronts of the same tokens one is a front of the other

pub data Fronts (e u v x : List Word) : Type 0 where
  longer : (j : Word) (z : List Word) → e ≡ u ++ (j ∷ z) → x ≡ (j ∷ z) ++ v → Fronts e u v x
  alike : e ≡ u → v ≡ x → Fronts e u v x
  shorter : (j : Word) (z : List Word) → u ≡ e ++ (j ∷ z) → v ≡ (j ∷ z) ++ x → Fronts e u v x

fronts_behind : (a b : Word) (e u v x : List Word) → a ≡ b → Fronts e u v x → Fronts (a ∷ e) (b ∷ u) v x
fronts_behind a b e u v x h (longer j z i m) = longer j z (ap (λ t. a ∷ t) i ∙ ap (λ t. t ∷ (u ++ (j ∷ z))) h) m
fronts_behind a b e u v x h (alike i m) = alike (ap (λ t. a ∷ t) i ∙ ap (λ t. t ∷ u) h) m
fronts_behind a b e u v x h (shorter j z i m) = shorter j z (ap (λ t. b ∷ t) i ∙ ap (λ t. t ∷ (e ++ (j ∷ z))) (sym h)) m

pub fronts : (e u v x : List Word) → e ++ v ≡ u ++ x → Fronts e u v x
fronts [] [] v x h = alike refl h
fronts [] (b ∷ u) v x h = shorter b u refl h
fronts (a ∷ e) [] v x h = longer a e refl (sym h)
fronts (a ∷ e) (b ∷ u) v x h = fronts_behind a b e u v x (first_same h) (fronts e u v x (behind_first h))

-- ---- A whole expression that begins as a group does, where a bar stands behind the group, ends with the group

bar_behind : (u z : List Word) (b : Word) → Whole (u ++ (b ∷ z)) → Group u → shape b.kind ≡ Barred → ⊥
bar_behind u z b w g s =
    let m = halves u (b ∷ z) Bare Bare w.walked in
    let r : m.0 ≡ Bare = some_same (sym m.1 ∙ (group_whole u g).walked) in
    let n : walk (shape b.kind ∷ shapes z) Bare ≡ Some Bare = ap (λ v. walk (shape b.kind ∷ shapes z) v) (sym r) ∙ m.2 in
    let o : walk (Barred ∷ shapes z) Bare ≡ Some Bare = walk_of (shape b.kind) Barred (shapes z) Bare (Some Bare) s n in cc

apart_by : (e v u w : List Word) (b : Word) → Whole e → Group u → shape b.kind ≡ Barred → Fronts e u v (b ∷ w) → (e ≡ u) × (v ≡ b ∷ w)
apart_by e v u w b h g s (longer j z i m) =
    let P : List Word → Type 0 = λ t. Whole t in
    let n : b ≡ j = first_same m in
    absurd (bar_behind u z j (subst P i h) g (ap (λ t. shape t.kind) (sym n) ∙ s))
apart_by e v u w b h g s (alike i m) = (i, m)
apart_by e v u w b h g s (shorter j z i m) = absurd (no_front e j z u h g (sym i))

pub apart : (e v u w : List Word) (b : Word) → Whole e → Group u → shape b.kind ≡ Barred → e ++ v ≡ u ++ (b ∷ w) → (e ≡ u) × (v ≡ b ∷ w)
apart e v u w b h g s i = apart_by e v u w b h g s (fronts e u v (b ∷ w) i)

-- ---- What spells a first goal, and what the others

pub record Cut (l : Limits) (gs hs : List Goal) (w : List Word) : Type 0 where
  pub front : List Word
  pub rest : List Word
  pub both : w ≡ front ++ rest
  pub first : Spells l gs front
  pub second : Spells l hs rest

goals_behind : {g h : Goal} {x y : List Goal} → g ∷ x ≡ h ∷ y → x ≡ y
goals_behind h = cc

goal_same : {g h : Goal} {x y : List Goal} → g ∷ x ≡ h ∷ y → g ≡ h
goal_same h = cc

cut_none : {l : Limits} {ks : List Goal} {w : List Word} (hs : List Goal) → ks ≡ hs → Spells l ks w → Cut l [] hs w
cut_none {w = w} hs e d = record { front = []; rest = w; both = refl; first = ends; second = spells_as e d }

cut_token : {l : Limits} {gs hs : List Goal} {w : List Word} (g : Goal) (t : Word) → ((v : List Word) → Spells l gs v → Spells l (g ∷ gs) (t ∷ v)) → Cut l gs hs w → Cut l (g ∷ gs) hs (t ∷ w)
cut_token g t f m = record { front = t ∷ m.front; rest = m.rest; both = ap (λ v. t ∷ v) m.both; first = f m.front m.first; second = m.second }

cut_part : {l : Limits} {gs hs : List Goal} {w : List Word} (g : Goal) (goals : List Goal) → ((v : List Word) → Spells l (goals ++ gs) v → Spells l (g ∷ gs) v) → Cut l (goals ++ gs) hs w → Cut l (g ∷ gs) hs w
cut_part g goals f m = record { front = m.front; rest = m.rest; both = m.both; first = f m.front m.first; second = m.second }

first_goal : {l : Limits} {gs : List Goal} {w : List Word} {g h : Goal} → g ≡ h → Spells l (g ∷ gs) w → Spells l (h ∷ gs) w
first_goal {gs = gs} e d = spells_as (ap (λ v. v ∷ gs) e) d

cut_at : {l : Limits} {ks : List Goal} {w : List Word} → Spells l ks w → (gs hs : List Goal) → ks ≡ gs ++ hs → Cut l gs hs w
cut_at ends [] hs e = cut_none hs e ends
cut_at ends (g ∷ gs) hs e = cc
cut_at (takes t h d) [] hs e = cut_none hs e (takes t h d)
cut_at (takes t h d) (g ∷ gs) hs e = cut_token g t (λ v i. first_goal (goal_same e) (takes t h i)) (cut_at d gs hs (goals_behind e))
cut_at (begins t h i d) [] hs e = cut_none hs e (begins t h i d)
cut_at (begins t h i d) (g ∷ gs) hs e = cut_token g t (λ v m. first_goal (goal_same e) (begins t h i m)) (cut_at d gs hs (goals_behind e))
cut_at (this d) [] hs e = cut_none hs e (this d)
cut_at (this {t = t} d) (g ∷ gs) hs e = cut_token g t (λ v m. first_goal (goal_same e) (this m)) (cut_at d gs hs (goals_behind e))
cut_at (expands goals p d) [] hs e = cut_none hs e (expands goals p d)
cut_at (expands goals p d) (g ∷ gs) hs e = cut_part g goals (λ v m. first_goal (goal_same e) (expands goals p m)) (cut_at d (goals ++ gs) hs (ap (λ v. goals ++ v) (goals_behind e) ∙ sym (append_assoc goals gs hs)))

pub cut : {l : Limits} {w : List Word} (gs hs : List Goal) → Spells l (gs ++ hs) w → Cut l gs hs w
cut gs hs d = cut_at d gs hs refl

-- ---- An expression is whole

more_than : (t : Word) (w : List Word) → is_sign t.kind ≡ false → NoSign (t ∷ w)
more_than t [] h = h
more_than t (u ∷ w) h = tt

with_more : (t : Word) (w : List Word) → NoSign w → NoSign (t ∷ w)
with_more t [] h = absurd h
with_more t (u ∷ w) h = tt

operand_no_sign : {l : Limits} {c : Context} {at : Span} {e : Expr} {d : ℕ} {gs : List Goal} {w : List Word} → Spells l (Of (Operand c at e d) ∷ gs) w → NoSign w
operand_no_sign (expands _ (prefix c_0 at_0 e_0 d_0 t_0 op_0 ay_0 y_0 dy_0 q0_0 q0_1 q0_2 q0_3 q0_4) (this {w = w} z)) = with_more t_0 w (operand_no_sign z)
operand_no_sign (expands _ (atom c_0 at_0 e_0 d_0 t_0 q0_0 q0_1) (this {w = w} z)) = more_than t_0 w (ap is_sign q0_0)
operand_no_sign (expands _ (macro c_0 at_0 e_0 d_0 t_0 q0_0 q0_1) (begins {w = w} t kk ka z)) = more_than t w (ap is_sign kk)
operand_no_sign (expands _ (tuple c_0 at_0 e_0 d_0 ys_0 dys_0 q0_0 q0_1 q0_2 q0_3) (begins {w = w} t kk ka z)) = more_than t w (ap is_sign kk)
operand_no_sign (expands _ (list c_0 at_0 e_0 d_0 q0_0 q0_1) (begins {w = w} t kk ka z)) = more_than t w (ap is_sign kk)
operand_no_sign (expands _ (case c_0 at_0 e_0 d_0 ay_0 y_0 dy_0 alts_0 da_0 q0_0 q0_1 q0_2 q0_3 q0_4) (begins {w = w} t kk ka z)) = more_than t w (ap is_sign kk)
operand_no_sign (expands _ (receive c_0 at_0 e_0 d_0 alts_0 da_0 q0_0 q0_1 q0_2 q0_3 q0_4) (begins {w = w} t kk ka z)) = more_than t w (ap is_sign kk)
operand_no_sign (expands _ (if_ c_0 at_0 e_0 d_0 bs_0 db_0 q0_0 q0_1 q0_2 q0_3 q0_4) (begins {w = w} t kk ka z)) = more_than t w (ap is_sign kk)
operand_no_sign (expands _ (common c_0 at_0 e_0 d_0) (expands _ (variable c_1 at_1 e_1 d_1 t_1 q1_0 q1_1 q1_2 q1_3) (this {w = w} z))) = more_than t_1 w (ap is_sign q1_0)
operand_no_sign (expands _ (common c_0 at_0 e_0 d_0) (expands _ (integer c_1 at_1 e_1 d_1 t_1 q1_0 q1_1 q1_2 q1_3) (this {w = w} z))) = more_than t_1 w (ap is_sign q1_0)
operand_no_sign (expands _ (common c_0 at_0 e_0 d_0) (expands _ (character c_1 at_1 e_1 d_1 t_1 q1_0 q1_1 q1_2 q1_3) (this {w = w} z))) = more_than t_1 w (ap is_sign q1_0)
operand_no_sign (expands _ (common c_0 at_0 e_0 d_0) (expands _ (string c_1 at_1 e_1 d_1 t_1 q1_0 q1_1 q1_2 q1_3 q1_4) (this {w = w} z))) = more_than t_1 w (ap is_sign q1_1)
operand_no_sign (expands _ (common c_0 at_0 e_0 d_0) (expands _ (bits c_1 at_1 e_1 d_1 q1_0 q1_1) (begins {w = w} t kk ka z))) = more_than t w (ap is_sign kk)
operand_no_sign (expands _ (common c_0 at_0 e_0 d_0) (expands _ (paren c_1 at_1 e_1 d_1 ay_1 q1_0) (begins {w = w} t kk ka z))) = more_than t w (ap is_sign kk)

level_no_sign : {l : Limits} {n : ℕ} {c : Context} {at : Span} {e : Expr} {d : ℕ} {gs : List Goal} {w : List Word} → Spells l (Of (Level n c at e d) ∷ gs) w → NoSign w
level_no_sign (expands _ (level n_0 c_0 at_0 y dy e_0 d_0 i) z) = level_no_sign z
level_no_sign (expands _ (operand n_0 c_0 at_0 e_0 d_0 i) z) = operand_no_sign z

pub level_whole : {l : Limits} {n : ℕ} {c : Context} {at : Span} {e : Expr} {d : ℕ} {w : List Word} → Spells l (Of (Level n c at e d) ∷ []) w → Whole w
level_whole d = record { walked = walks d Bare Bare refl; no_sign = level_no_sign d }

-- ---- A whole pattern's tokens are a group

sign_is : {kind : TokenKind} {n : ℕ} {z : ℤ} → Signed kind n z → is_sign kind ≡ true
sign_is (plus kind n z e f) = ap is_sign e
sign_is (minus kind n z e f) = ap is_sign e

one_token : {l : Limits} {w : List Word} (t : Word) → shape t.kind ≡ Plain → is_sign t.kind ≡ false → Spells l [] w → Group (t ∷ w)
one_token t p s ends = one t p s

two_tokens : {l : Limits} {w : List Word} (t n : Word) → is_sign t.kind ≡ true → shape n.kind ≡ Plain → Spells l [] w → Group (t ∷ (n ∷ w))
two_tokens t n s p ends = signed t n s p

pub pat_group : {l : Limits} {c : Context} {at : Span} {e : Pattern} {d : ℕ} {w : List Word} → Spells l (Of (Pat c at e d) ∷ []) w → Group w
pat_group (expands _ (pat_variable c_0 at_0 e_0 d_0 t_0 q0_0 q0_1 q0_2 q0_3) (this z)) = one_token t_0 (ap shape q0_0) (ap is_sign q0_0) z
pat_group (expands _ (pat_wild c_0 at_0 e_0 d_0 q0_0 q0_1) (begins t kk ka z)) = one_token t (ap shape kk) (ap is_sign kk) z
pat_group (expands _ (pat_integer c_0 at_0 e_0 d_0 t_0 q0_0 q0_1 q0_2 q0_3) (this z)) = one_token t_0 (ap shape q0_0) (ap is_sign q0_0) z
pat_group (expands _ (pat_signed c_0 at_0 e_0 d_0 t_0 n_0 z_0 q0_0 q0_1 q0_2 q0_3 q0_4) (this (this z))) = two_tokens t_0 n_0 (sign_is q0_2) (ap shape q0_1) z
pat_group (expands _ (pat_character c_0 at_0 e_0 d_0 t_0 q0_0 q0_1 q0_2 q0_3) (this z)) = one_token t_0 (ap shape q0_0) (ap is_sign q0_0) z
pat_group (expands _ (pat_atom c_0 at_0 e_0 d_0 t_0 q0_0 q0_1 q0_2 q0_3) (this z)) = one_token t_0 (ap shape q0_0) (ap is_sign q0_0) z
pat_group (expands _ (pat_string c_0 at_0 e_0 d_0 t_0 q0_0 q0_1 q0_2 q0_3) (this z)) = one_token t_0 (ap shape q0_0) (ap is_sign q0_0) z
pat_group (expands _ (pat_paren c_0 at_0 e_0 d_0 ay_0 q0_0) (begins {w = w} t kk ka z)) = bracket t w (ap shape kk) (walks z (Inside Floor) Floor refl)
pat_group (expands _ (pat_tuple c_0 at_0 e_0 d_0 ys_0 dys_0 q0_0 q0_1 q0_2) (begins {w = w} t kk ka z)) = bracket t w (ap shape kk) (walks z (Inside Floor) Floor refl)
pat_group (expands _ (pat_list c_0 at_0 e_0 d_0 ys_0 tail_0 dys_0 q0_0 q0_1 q0_2) (begins {w = w} t kk ka z)) = bracket t w (ap shape kk) (walks z (Inside Floor) Floor refl)
pat_group (expands _ (pat_bits c_0 at_0 e_0 d_0 sgs_0 q0_0 q0_1) (begins {w = w} t kk ka z)) = bracket t w (ap shape kk) (walks z (Inside Floor) Floor refl)
