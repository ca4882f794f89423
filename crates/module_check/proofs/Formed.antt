-- The faults of a module's forms.
use Rattle.std.proofs.Common.{◌≡◌, ℕ, ◌≤◌, pos, Bool, true, false, not, List, [], ◌∷◌, length, get_or, drop, Option, refl, sym, subst, arith, MatchBool}
use Rattle.std.specs.List.{Contains}
use Rattle.std.specs.Prelude.{codes}
use Rattle.erl_syntax.specs.Checking.{Spelled}
use Rattle.erl_syntax.specs.declared.module.Module.{Module}
use Rattle.erl_syntax.specs.declared.module.Name.{Name}
use Rattle.erl_syntax.specs.declared.module.Function.{Function}
use Rattle.erl_syntax.specs.declared.module.Clause.{Clause}
use Rattle.erl_syntax.specs.declared.checking.CheckCause.TheVariants as c
use Rattle.erl_syntax.specs.declared.checking.CheckFault.{CheckFault}
use Rattle.module_check.specs.Order.{IsLeast, IsFirstOf, Some_of, At}
use Rattle.module_check.specs.Faults.{rest, HasNoMain, DiffersFault, IsAmong, ClausesFault}
use Rattle.module_check.proofs.Firsts.{least_of_both}

pub rest_drop : {X : Type 0} (xs : List X) → rest xs ≡ drop 1 xs
rest_drop [] = refl
rest_drop (y ∷ ys) = refl

pub no_main_by : (m : Module) (r : Bool) → MatchBool r ((e : Name) × (Contains m.exports e × (Spelled m e.name (codes "main") × (e.arity ≡ pos 0)))) ((e : Name) × (Contains m.exports e × (Spelled m e.name (codes "main") × (e.arity ≡ pos 0))) → ⊥) → MatchBool (not r) (HasNoMain m) (HasNoMain m → ⊥)
no_main_by m true h = λ k. k h.0.name h.1.1.0 (record { export = h.0; among = h.1.0; named = refl; takes = h.1.1.1 })
no_main_by m false h = λ name s x. (let P : ℕ → Type 0 = λ n. Spelled m n (codes "main") in h (x.export, (x.among, (subst P (sym x.named) s, x.takes))))

pub clauses_least : (before : List Function) (f : Function) (cl : List Clause) (first : Clause) (a b r : Option CheckFault) → 1 ≤ length cl → first ≡ get_or cl 0 first
    → IsLeast (λ at why. At first.at c.FunctionAgain at why × IsAmong before f.name f.arity) a → IsLeast (Some_of (DiffersFault f) (drop 1 cl)) b → IsFirstOf a b r → IsLeast (ClausesFault before f cl) r
clauses_least before f [] first a b r l e p q g = absurd (omega (arith, l))
clauses_least before f (y ∷ ys) first a b r l e p q g =
    let P : Clause → Type 0 = λ z. IsLeast (ClausesFault before f (z ∷ ys)) r in
    subst P e (least_of_both (λ at why. At first.at c.FunctionAgain at why × IsAmong before f.name f.arity) (Some_of (DiffersFault f) ys) a b r p q g)
