-- A call in a guard of an accepted module is of a built-in function for guards.
use Rattle.std.proofs.Common.{◌≡◌, ℕ, true, List, [], ◌∷◌, map, length, refl, sym, ap, ◌∙◌}
use Rattle.erl_syntax.specs.BuiltIns.{is_for_guards}
use Rattle.erl_syntax.specs.Checking.{IsAccepted, IsCalled, call_in_guard}
use Rattle.erl_syntax.specs.Scopes.{Scope}
use Rattle.erl_syntax.specs.declared.built_in.BuiltIn.{BuiltIn}
use Rattle.erl_syntax.specs.declared.built_in.BuiltIn.TheVariants as built
use Rattle.erl_syntax.specs.declared.checking.CheckCause.TheVariants as c
use Rattle.erl_syntax.specs.declared.expr.Expr.{Expr}
use Rattle.erl_syntax.specs.declared.expr.Expr.TheVariants as x
use Rattle.erl_syntax.specs.declared.module.Module.{Module}
use Rattle.erl_syntax.specs.declared.span.Span.{Span}
use Rattle.term_laws.specs.CallLaws.{trees_of}
use Rattle.term_value.specs.Calls.{called, form_of}
use Rattle.term_value.specs.Read.{Reading, called_module, trees}
use Rattle.term_value.specs.ReadTrees.{reading, tree_of}
use Rattle.term_value.specs.Tree.{Prim, Form, Table, Call, Send, Display, Spawn, Native, Tree, Trees, and, All as Evaluated}
use Rattle.term_laws.proofs.CallLaws.{calls_are_read}
use Rattle.term_layers.proofs.Readings.{expr_read, expr_read-Call}
use Rattle.scope_laws.specs.Accepted.{GuardCallsArePrimitive}

-- a built-in function for guards is determined by its arguments
native_form : (b : BuiltIn) → is_for_guards b ≡ true → form_of b ≡ Table (Native b)
native_form built.Display e = cc e
native_form built.Spawn e = cc e
native_form _ e = refl

pub trees_read : (r : Reading) (es : List Expr) → trees (map (expr_read r) es) ≡ trees_of r es
trees_read r [] = refl
trees_read r (e ∷ es) = ap (λ ts. and (tree_of r e) ts) (trees_read r es)

abbrev form_in : Tree → Form
form_in (Evaluated form ts) = form
form_in _ = Send

module _ (number_at : Span → ℕ) (m : Module) (s : Scope) (at : Span) (home : List Expr) (name : ℕ) (args : List Expr) where
  abbrev rd : Reading
  rd = reading number_at m

  -- not where it is called with any other form
  no_other : (form : Form) (ts : Trees) → ((p : Prim) → form ≡ Table p → ⊥) → IsAccepted m → IsCalled m s at home name args → s.guarded ≡ true →
      tree_of rd (x.Call at home name args) ≡ Evaluated form ts → ⊥
  no_other form ts other accepted called_here guarded e =
      accepted at c.CallInGuard (call_in_guard s at home name args called_here guarded (λ b calls for_guards.
      other (Native b) (ap form_in (sym e ∙ (calls_are_read number_at m (x.Call at home name args) at home name args refl).built_in b calls) ∙ native_form b for_guards)))

  by_form : (form : Form) (ts : Trees) → IsAccepted m → IsCalled m s at home name args → s.guarded ≡ true →
      tree_of rd (x.Call at home name args) ≡ Evaluated form ts → (p : Prim) × (form ≡ Table p)
  by_form (Table p) ts a h g e = (p, refl)
  by_form (Call n) ts a h g e = absurd (no_other (Call n) ts (λ p i. cc i) a h g e)
  by_form Send ts a h g e = absurd (no_other Send ts (λ p i. cc i) a h g e)
  by_form Display ts a h g e = absurd (no_other Display ts (λ p i. cc i) a h g e)
  by_form Spawn ts a h g e = absurd (no_other Spawn ts (λ p i. cc i) a h g e)

  abbrev read_as : Form
  read_as = called (called_module rd (map (expr_read rd) home)) (rd.names name) (length (map (expr_read rd) args)) (rd.place name (length (map (expr_read rd) args)))

  pub primitive : IsAccepted m → IsCalled m s at home name args → s.guarded ≡ true →
      (p : Prim) × (tree_of rd (x.Call at home name args) ≡ Evaluated (Table p) (trees_of rd args))
  primitive a h g =
      let e : tree_of rd (x.Call at home name args) ≡ Evaluated read_as (trees (map (expr_read rd) args)) = ap (λ r. r.tree) (expr_read-Call rd at home name args) in
      let d : tree_of rd (x.Call at home name args) ≡ Evaluated read_as (trees_of rd args) = e ∙ ap (λ ts. Evaluated read_as ts) (trees_read rd args) in
      let p = by_form read_as (trees_of rd args) a h g d in
      (p.0, d ∙ ap (λ form. Evaluated form (trees_of rd args)) p.1)

pub guard_calls_are_primitive : GuardCallsArePrimitive
guard_calls_are_primitive number_at m s at home name args a h g = primitive number_at m s at home name args a h g
