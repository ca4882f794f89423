-- A guard expression comes to its result by contractions that cost nothing.
use Rattle.std.proofs.Common.{◌≡◌, ℕ, Bool, true, false, Option, Some, None, refl, ap, sym, subst}
use Rattle.erl_syntax.specs.Atoms.{a_badarg}
use Rattle.term_value.specs.Value.{Value, Values, none, more}
use Rattle.term_value.specs.Result.{Stop, Result, Gives, Stops, raise, raise_of, truth_of}
use Rattle.term_value.specs.Primitives.{prim}
use Rattle.term_value.specs.Tree.{Prim, Table, Tree, Val, Var, All, First, Trees, end, and, Shut, AndAlso, OrElse}
use Rattle.term_value.specs.Guards.{Results, AllGive, OneStops, value_before, of_all, tabled, second_where, second_of, result_of, results_of}
use Rattle.term_value.specs.Step.{World, setting, Step, Ready, Goes, Falls, lift, bits_made, of_result, acted, second_at, opened, step, steps}
use Rattle.term_laws.specs.GuardLaws.{IsTest, AreTests, ComesTo, is_value, falls, goes, GuardsContract}

-- The first part of an expression.

-- the whole comes to q where its first part comes to this: a value goes on to it, and what stops the part is q
abbrev pub Follows : World → Shut → Result → Result → Type 0
Follows w rest q (Gives v) = ComesTo w (First (Val v) rest) q
Follows w rest q (Stops stop) = q ≡ Stops stop

stops_at : (w : World) (t : Tree) (stop : Stop) (q : Result) → step w t ≡ Falls 0 stop → q ≡ Stops stop → ComesTo w t q
stops_at w t stop q e p = subst (λ r. ComesTo w t r) (sym p) (falls t stop e)

-- what the whole comes to by a contraction of the first part
abbrev around : World → Shut → Step Value Tree → Step Value Tree
around w rest = lift (opened w rest) (λ u. First u rest)

-- a contraction of the first part is one of the whole
first_comes : (w : World) (rest : Shut) (q : Result) (t : Tree) (r : Result) → ComesTo w t r → Follows w rest q r → ComesTo w (First t rest) q
first_comes w rest q _ _ (is_value v) h = h
first_comes w rest q _ _ (falls t stop e) h = stops_at w (First t rest) stop q (ap (around w rest) e) h
first_comes w rest q _ _ (goes t u made r e c) h = goes (First t rest) (First u rest) made q (ap (around w rest) e) (first_comes w rest q u r c h)

and_opens : (w : World) (u : Tree) (r : Result) (v : Value) (o : Option Bool) → truth_of v ≡ o → ComesTo w u r → ComesTo w (First (Val v) (AndAlso u)) (second_where true r v o)
and_opens w u r v (Some true) e c = goes (First (Val v) (AndAlso u)) u 0 r (ap (second_at true u v) e) c
and_opens w u r v (Some false) e c = goes (First (Val v) (AndAlso u)) (Val v) 0 (Gives v) (ap (second_at true u v) e) (is_value v)
and_opens w u r v None e c = falls (First (Val v) (AndAlso u)) (raise_of a_badarg v) (ap (second_at true u v) e)

or_opens : (w : World) (u : Tree) (r : Result) (v : Value) (o : Option Bool) → truth_of v ≡ o → ComesTo w u r → ComesTo w (First (Val v) (OrElse u)) (second_where false r v o)
or_opens w u r v (Some true) e c = goes (First (Val v) (OrElse u)) (Val v) 0 (Gives v) (ap (second_at false u v) e) (is_value v)
or_opens w u r v (Some false) e c = goes (First (Val v) (OrElse u)) u 0 r (ap (second_at false u v) e) c
or_opens w u r v None e c = falls (First (Val v) (OrElse u)) (raise_of a_badarg v) (ap (second_at false u v) e)

and_follows : (w : World) (u : Tree) (r q : Result) → ComesTo w u r → Follows w (AndAlso u) (second_of true r q) q
and_follows w u r (Gives v) c = and_opens w u r v (truth_of v) refl c
and_follows w u r (Stops stop) c = refl

or_follows : (w : World) (u : Tree) (r q : Result) → ComesTo w u r → Follows w (OrElse u) (second_of false r q) q
or_follows w u r (Gives v) c = or_opens w u r v (truth_of v) refl c
or_follows w u r (Stops stop) c = refl

-- The parts of a form.

-- by contractions that cost nothing, the parts come to their values, or to what stops the first that has none
data AllCome (w : World) : Trees → Results → Type 0 where
  are_values : (ts : Trees) (vs : Values) → steps w ts ≡ Ready vs → AllCome w ts (AllGive vs)
  one_falls : (ts : Trees) (stop : Stop) → steps w ts ≡ Falls 0 stop → AllCome w ts (OneStops stop)
  one_goes : (ts us : Trees) (made : ℕ) (rs : Results) → steps w ts ≡ Goes 0 made us → AllCome w us rs → AllCome w ts rs

-- what the parts come to where the first has its value
abbrev behind : Value → Step Values Trees → Step Values Trees
behind v = lift (λ vs. Ready (more v vs)) (and (Val v))

-- a contraction of the parts behind a value is one of all
after_value : (w : World) (v : Value) (ts : Trees) (rs : Results) → AllCome w ts rs → AllCome w (and (Val v) ts) (value_before (Gives v) rs)
after_value w v _ _ (are_values ts vs e) = are_values (and (Val v) ts) (more v vs) (ap (behind v) e)
after_value w v _ _ (one_falls ts stop e) = one_falls (and (Val v) ts) stop (ap (behind v) e)
after_value w v _ _ (one_goes ts us made rs e c) = one_goes (and (Val v) ts) (and (Val v) us) made (value_before (Gives v) rs) (ap (behind v) e) (after_value w v us rs c)

-- what the parts come to by a contraction of the first
abbrev before : World → Trees → Step Value Tree → Step Values Trees
before w ts = lift (λ v. behind v (steps w ts)) (λ u. and u ts)

-- a contraction of the first part is one of all
both_come : (w : World) (ts : Trees) (rs : Results) (t : Tree) (r : Result) → ComesTo w t r → AllCome w ts rs → AllCome w (and t ts) (value_before r rs)
both_come w ts rs _ _ (is_value v) h = after_value w v ts rs h
both_come w ts rs _ _ (falls t stop e) h = one_falls (and t ts) stop (ap (before w ts) e)
both_come w ts rs _ _ (goes t u made r e c) h = one_goes (and t ts) (and u ts) made (value_before r rs) (ap (before w ts) e) (both_come w ts rs u r c h)

table_acts : (w : World) (t : Tree) (r : Result) → step w t ≡ of_result r → ComesTo w t r
table_acts w t (Gives v) e = goes t (Val v) (bits_made v) (Gives v) e (is_value v)
table_acts w t (Stops stop) e = falls t stop e

-- what a form comes to by a contraction of its parts
abbrev formed : World → Prim → Step Values Trees → Step Value Tree
formed w p = lift (acted w (Table p)) (All (Table p))

-- a contraction of the parts is one of the whole
table_comes : (w : World) (p : Prim) (ts : Trees) (rs : Results) → AllCome w ts rs → ComesTo w (All (Table p) ts) (of_all (tabled (setting w) (Table p)) rs)
table_comes w p _ _ (are_values ts vs e) = table_acts w (All (Table p) ts) (prim (setting w) p vs) (ap (formed w p) e)
table_comes w p _ _ (one_falls ts stop e) = falls (All (Table p) ts) stop (ap (formed w p) e)
table_comes w p _ _ (one_goes ts us made rs e c) = goes (All (Table p) ts) (All (Table p) us) made (of_all (tabled (setting w) (Table p)) rs) (ap (formed w p) e) (table_comes w p us rs c)

mutual
  guard_comes : (w : World) (t : Tree) → IsTest t → ComesTo w t (result_of (setting w) t)
  guard_comes w (Val v) h = is_value v
  guard_comes w (Var x) h = falls (Var x) (raise a_badarg) refl
  guard_comes w (All (Table p) ts) h = table_comes w p ts (results_of (setting w) ts) (guards_come w ts h)
  guard_comes w (First t (AndAlso u)) h = first_comes w (AndAlso u) (result_of (setting w) (First t (AndAlso u))) t (result_of (setting w) t) (guard_comes w t h.0)
      (and_follows w u (result_of (setting w) u) (result_of (setting w) t) (guard_comes w u h.1))
  guard_comes w (First t (OrElse u)) h = first_comes w (OrElse u) (result_of (setting w) (First t (OrElse u))) t (result_of (setting w) t) (guard_comes w t h.0)
      (or_follows w u (result_of (setting w) u) (result_of (setting w) t) (guard_comes w u h.1))
  guard_comes w _ h = absurd h

  guards_come : (w : World) (ts : Trees) → AreTests ts → AllCome w ts (results_of (setting w) ts)
  guards_come w end h = are_values end none refl
  guards_come w (and t ts) h = both_come w ts (results_of (setting w) ts) t (result_of (setting w) t) (guard_comes w t h.0) (guards_come w ts h.1)

pub guards_contract : GuardsContract
guards_contract = guard_comes
