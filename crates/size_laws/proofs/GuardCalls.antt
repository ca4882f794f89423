-- A call in a guard of an accepted module, or in a size of a pattern, is read as one of a built-in function for guards.
use Rattle.std.proofs.Common.{◌≡◌, ℕ, Bool, true, false, List, refl, sym, ap, ◌∙◌}
use Rattle.erl_syntax.specs.BuiltIns.{is_for_guards}
use Rattle.erl_syntax.specs.Checking.{IsAccepted, IsCalled, call_in_guard}
use Rattle.erl_syntax.specs.Scopes.{Scope}
use Rattle.erl_syntax.specs.declared.built_in.BuiltIn.{BuiltIn}
use Rattle.erl_syntax.specs.declared.built_in.BuiltIn.TheVariants as built
use Rattle.erl_syntax.specs.declared.checking.CheckCause.TheVariants as c
use Rattle.erl_syntax.specs.declared.expr.Expr.{Expr}
use Rattle.erl_syntax.specs.declared.expr.Expr.TheVariants as x
use Rattle.erl_syntax.specs.declared.module.Module.{Module}
use Rattle.erl_syntax.specs.declared.span.Span.{Span}
use Rattle.term_laws.specs.CallLaws.{trees_of}
use Rattle.term_laws.proofs.CallLaws.{calls_are_read}
use Rattle.term_value.specs.Calls.{form_of}
use Rattle.term_value.specs.Read.{Reading}
use Rattle.term_value.specs.ReadTrees.{reading, tree_of}
use Rattle.term_value.specs.Tree.{Prim, Native, Form, Table, Send, Tree, Trees, All as Evaluated}
use Rattle.scope_laws.proofs.Calls.{guard_calls_are_primitive}
use Rattle.size_laws.specs.SizeForms.{GuardCallsAreBuiltIn}

native_form : (b : BuiltIn) → is_for_guards b ≡ true → form_of b ≡ Table (Native b)
native_form built.Display e = cc e
native_form built.Spawn e = cc e
native_form _ e = refl

abbrev form_in : Tree → Form
form_in (Evaluated form ts) = form
form_in _ = Send

-- is a built-in function that a guard may call
abbrev IsForGuards : Prim → Type 0
IsForGuards p = (b : BuiltIn) × (is_for_guards b ≡ true) × (p ≡ Native b)

same_prim : (p : Prim) (form : Form) → Table p ≡ form → (b : BuiltIn) → form ≡ Table (Native b) → p ≡ Native b
same_prim p form e b d = cc (e ∙ d)

not_for_guards : (a b : BuiltIn) → is_for_guards a ≡ false → is_for_guards b ≡ true → Native a ≡ Native b → ⊥
not_for_guards a b h g e = cc

module _ (number_at : Span → ℕ) (m : Module) (s : Scope) (at : Span) (home : List Expr) (name : ℕ) (args : List Expr) (accepted : IsAccepted m)
    (called_here : IsCalled m s at home name args) (guarded : s.guarded ≡ true) where
  abbrev rd : Reading
  rd = reading number_at m

  no_other : (p : Prim) (ts : Trees) → (IsForGuards p → ⊥) → tree_of rd (x.Call at home name args) ≡ Evaluated (Table p) ts → ⊥
  no_other p ts other e =
      accepted at c.CallInGuard (call_in_guard s at home name args called_here guarded (λ b calls for_guards.
      other (b, for_guards, same_prim p (form_of b) (ap form_in (sym e ∙ (calls_are_read number_at m (x.Call at home name args) at home name args refl).built_in b calls)) b (native_form b for_guards))))

  by_truth : (b : BuiltIn) (ts : Trees) (t : Bool) → is_for_guards b ≡ t → tree_of rd (x.Call at home name args) ≡ Evaluated (Table (Native b)) ts → IsForGuards (Native b)
  by_truth b ts true h e = (b, h, refl)
  by_truth b ts false h e = absurd (no_other (Native b) ts (λ k. not_for_guards b k.0 h k.1 k.2) e)

  by_prim : (p : Prim) (ts : Trees) → tree_of rd (x.Call at home name args) ≡ Evaluated (Table p) ts → IsForGuards p
  by_prim (Native b) ts e = by_truth b ts (is_for_guards b) refl e
  by_prim p ts e = absurd (no_other p ts (λ k. cc k.2) e)

pub guard_calls_are_built_in : GuardCallsAreBuiltIn
guard_calls_are_built_in number_at m s at home name args accepted called_here guarded =
    let ts : Trees = trees_of (reading number_at m) args in
    let p = guard_calls_are_primitive number_at m s at home name args accepted called_here guarded in
    let q = by_prim number_at m s at home name args accepted called_here guarded p.0 ts p.1 in
    (q.0, q.1, p.1 ∙ ap (λ z. Evaluated (Table z) ts) q.2)
