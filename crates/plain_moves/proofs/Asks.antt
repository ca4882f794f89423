-- The operands of visible acts.
use Rattle.std.proofs.Common.{◌≡◌, ◌≢◌, ℕ, Bool, List, [], ◌∷◌, map, length, get_or, refl, ap, ◌∙◌, arith}
use Rattle.erl_syntax.specs.Atoms.{a_badarg}
use Rattle.bit_store.specs.Stores.{itself}
use Rattle.term_value.specs.Machine.{value_trees}
use Rattle.term_value.specs.Result.{raise}
use Rattle.term_value.specs.Seen.{Seen}
use Rattle.term_value.specs.Step.{World, Falls, sent, displayed, spawned, step}
use Rattle.term_value.specs.Terms.{seen, value_of}
use Rattle.term_value.specs.Tree.{Val, All, Send, Display, Spawn, and, end}
use Rattle.term_value.specs.Value.{Value, VPid, VAtom, VList, Values, none, more, row}
use Rattle.term_value.specs.declared.term.Term.{Term}
use Rattle.term_value.specs.declared.term.Term.TheVariants as x
use Rattle.term_value.specs.declared.cells.Cells.{Cells}
use Rattle.code_tree.specs.PlainTerms.{value}
use Rattle.plain_moves.proofs.Acts.{acts_on}

pub one_is : (ts : List (Term (List Bool))) (a : Term (List Bool)) → length ts ≡ 1 → a ≡ get_or ts 0 a → and (Val (value_of itself a)) end ≡ value_trees (row (map value (map seen ts)))
one_is [] a l e = absurd (omega arith)
one_is (t ∷ []) a l e = ap (λ (u : Term (List Bool)). and (Val (value_of itself u)) end) e
one_is (t ∷ u ∷ ts) a l e = absurd (omega arith)

pub two_are : (ts : List (Term (List Bool))) (a b : Term (List Bool)) → length ts ≡ 2 → a ≡ get_or ts 0 a → b ≡ get_or ts 1 b
    → and (Val (value_of itself a)) (and (Val (value_of itself b)) end) ≡ value_trees (row (map value (map seen ts)))
two_are [] a b l e f = absurd (omega arith)
two_are (t ∷ []) a b l e f = absurd (omega arith)
two_are (t ∷ u ∷ []) a b l e f =
    ap (λ (z : Term (List Bool)). and (Val (value_of itself z)) (and (Val (value_of itself b)) end)) e
    ∙ ap (λ (z : Term (List Bool)). and (Val (value_of itself t)) (and (Val (value_of itself z)) end)) f
two_are (t ∷ u ∷ y ∷ ts) a b l e f = absurd (omega arith)

pub three_are : (ts : List (Term (List Bool))) (a b c : Term (List Bool)) → length ts ≡ 3 → a ≡ get_or ts 0 a → b ≡ get_or ts 1 b → c ≡ get_or ts 2 c
    → and (Val (value_of itself a)) (and (Val (value_of itself b)) (and (Val (value_of itself c)) end)) ≡ value_trees (row (map value (map seen ts)))
three_are [] a b c l e f g = absurd (omega arith)
three_are (t ∷ []) a b c l e f g = absurd (omega arith)
three_are (t ∷ u ∷ []) a b c l e f g = absurd (omega arith)
three_are (t ∷ u ∷ y ∷ []) a b c l e f g =
    ap (λ (z : Term (List Bool)). and (Val (value_of itself z)) (and (Val (value_of itself b)) (and (Val (value_of itself c)) end))) e
    ∙ ap (λ (z : Term (List Bool)). and (Val (value_of itself t)) (and (Val (value_of itself z)) (and (Val (value_of itself c)) end))) f
    ∙ ap (λ (z : Term (List Bool)). and (Val (value_of itself t)) (and (Val (value_of itself u)) (and (Val (value_of itself z)) end))) g
three_are (t ∷ u ∷ y ∷ z ∷ ts) a b c l e f g = absurd (omega arith)

-- one value is no receiver with a message
sent_one : (v : Value) → sent (more v none) ≡ Falls 0 (raise a_badarg)
sent_one (VPid p) = refl
sent_one _ = refl

sent_more : (v u y : Value) (vs : Values) → sent (more v (more u (more y vs))) ≡ Falls 0 (raise a_badarg)
sent_more (VPid p) u y vs = refl
sent_more _ u y vs = refl

not_sent : (ts : List (Term (List Bool))) → length ts ≢ 2 → sent (row (map value (map seen ts))) ≡ Falls 0 (raise a_badarg)
not_sent [] l = refl
not_sent (t ∷ []) l = sent_one (value_of itself t)
not_sent (t ∷ u ∷ []) l = absurd (l refl)
not_sent (t ∷ u ∷ y ∷ ts) l = sent_more (value_of itself t) (value_of itself u) (value_of itself y) (row (map value (map seen ts)))

pub send_falls : (w : World) (ts : List (Term (List Bool))) → length ts ≢ 2 → step w (All Send (value_trees (row (map value (map seen ts))))) ≡ Falls 0 (raise a_badarg)
send_falls w ts l = acts_on w Send (row (map value (map seen ts))) ∙ not_sent ts l

pub no_receiver : (w : World) (to : Term (List Bool)) (v : Value) → ((p : ℕ) → to ≡ x.Pid p → ⊥) → step w (All Send (and (Val (value_of itself to)) (and (Val v) end))) ≡ Falls 0 (raise a_badarg)
no_receiver w (x.Int n) v h = refl
no_receiver w (x.Atom n) v h = refl
no_receiver w (x.Pid n) v h = absurd (h n refl)
no_receiver w (x.Tuple r) v h = refl
no_receiver w (x.List r) v h = refl
no_receiver w (x.Bits r) v h = refl

not_displayed : (ts : List (Term (List Bool))) → length ts ≢ 1 → displayed (row (map value (map seen ts))) ≡ Falls 0 (raise a_badarg)
not_displayed [] l = refl
not_displayed (t ∷ []) l = absurd (l refl)
not_displayed (t ∷ u ∷ ts) l = refl

pub display_falls : (w : World) (ts : List (Term (List Bool))) → length ts ≢ 1 → step w (All Display (value_trees (row (map value (map seen ts))))) ≡ Falls 0 (raise a_badarg)
display_falls w ts l = acts_on w Display (row (map value (map seen ts))) ∙ not_displayed ts l

spawned_two : (v u : Value) → spawned (more v (more u none)) ≡ Falls 0 (raise a_badarg)
spawned_two (VAtom m) (VAtom n) = refl
spawned_two (VAtom m) _ = refl
spawned_two _ u = refl

spawned_one : (v : Value) → spawned (more v none) ≡ Falls 0 (raise a_badarg)
spawned_one (VAtom m) = refl
spawned_one _ = refl

spawned_more : (v u y z : Value) (vs : Values) → spawned (more v (more u (more y (more z vs)))) ≡ Falls 0 (raise a_badarg)
spawned_more (VAtom m) (VAtom n) (VList us) z vs = refl
spawned_more (VAtom m) (VAtom n) _ z vs = refl
spawned_more (VAtom m) _ y z vs = refl
spawned_more _ u y z vs = refl

not_spawned : (ts : List (Term (List Bool))) → length ts ≢ 3 → spawned (row (map value (map seen ts))) ≡ Falls 0 (raise a_badarg)
not_spawned [] l = refl
not_spawned (t ∷ []) l = spawned_one (value_of itself t)
not_spawned (t ∷ u ∷ []) l = spawned_two (value_of itself t) (value_of itself u)
not_spawned (t ∷ u ∷ y ∷ []) l = absurd (l refl)
not_spawned (t ∷ u ∷ y ∷ z ∷ ts) l = spawned_more (value_of itself t) (value_of itself u) (value_of itself y) (value_of itself z) (row (map value (map seen ts)))

pub spawn_falls : (w : World) (ts : List (Term (List Bool))) → length ts ≢ 3 → step w (All Spawn (value_trees (row (map value (map seen ts))))) ≡ Falls 0 (raise a_badarg)
spawn_falls w ts l = acts_on w Spawn (row (map value (map seen ts))) ∙ not_spawned ts l

-- what names no function with its arguments
pub no_start : (w : World) (home name arguments : Term (List Bool)) → ((m n : ℕ) (r : Cells (List Bool)) → home ≡ x.Atom m → name ≡ x.Atom n → arguments ≡ x.List r → ⊥)
    → step w (All Spawn (and (Val (value_of itself home)) (and (Val (value_of itself name)) (and (Val (value_of itself arguments)) end)))) ≡ Falls 0 (raise a_badarg)
no_start w (x.Atom m) (x.Atom n) (x.List r) h = absurd (h m n r refl refl refl)
no_start w (x.Atom m) (x.Atom n) (x.Int i) h = refl
no_start w (x.Atom m) (x.Atom n) (x.Atom i) h = refl
no_start w (x.Atom m) (x.Atom n) (x.Pid i) h = refl
no_start w (x.Atom m) (x.Atom n) (x.Tuple r) h = refl
no_start w (x.Atom m) (x.Atom n) (x.Bits r) h = refl
no_start w (x.Atom m) (x.Int i) arguments h = refl
no_start w (x.Atom m) (x.Pid i) arguments h = refl
no_start w (x.Atom m) (x.Tuple r) arguments h = refl
no_start w (x.Atom m) (x.List r) arguments h = refl
no_start w (x.Atom m) (x.Bits r) arguments h = refl
no_start w (x.Int i) name arguments h = refl
no_start w (x.Pid i) name arguments h = refl
no_start w (x.Tuple r) name arguments h = refl
no_start w (x.List r) name arguments h = refl
no_start w (x.Bits r) name arguments h = refl
