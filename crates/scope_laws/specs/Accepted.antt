-- What variables and guards are in an accepted module (Erlang Reference Manual, "Expressions": "Variables", "Guard Sequences").
use Rattle.std.specs.Prelude.{◌≡◌, ℕ, true, List}
use Rattle.std.specs.List.{Contains}
use Rattle.erl_syntax.specs.Checking.{AreNumbered, IsAccepted, IsCalled}
use Rattle.erl_syntax.specs.Reading.{Reads}
use Rattle.erl_syntax.specs.Scopes.{Scope}
use Rattle.erl_syntax.specs.declared.checking.VarUse.{VarUse}
use Rattle.erl_syntax.specs.declared.expr.Expr.{Expr}
use Rattle.erl_syntax.specs.declared.expr.Expr.TheVariants as x
use Rattle.erl_syntax.specs.declared.module.Module.{Module}
use Rattle.erl_syntax.specs.declared.span.Span.{Span}
use Rattle.term_layers.specs.Layers.{Layer, plug}
use Rattle.term_laws.specs.Scoped.{IsMachineScoped, IsModuleScoped}
use Rattle.term_laws.specs.CallLaws.{trees_of}
use Rattle.term_value.specs.Local.{At, Contracts, Local}
use Rattle.term_value.specs.Machine.{Leads, Machine, Running, start_of}
use Rattle.term_value.specs.ReadTrees.{module_of, reading, tree_of}
use Rattle.term_value.specs.Tree.{Prim, Table, Var, All as Evaluated}
use Rattle.term_value.specs.Value.{Value}
use Rattle.term_value.specs.declared.entry.Entry.{Entry}

-- In an accepted module a call in a guard, or in a size of a pattern, is of what the values of its arguments alone determine: of no
-- function of the module, and no visible act.
abbrev pub GuardCallsArePrimitive : Type 0
GuardCallsArePrimitive = (number_at : Span → ℕ) (m : Module) (s : Scope) (at : Span) (home : List Expr) (name : ℕ) (args : List Expr) →
    IsAccepted m → IsCalled m s at home name args → s.guarded ≡ true →
    (p : Prim) × (tree_of (reading number_at m) (x.Call at home name args) ≡ Evaluated (Table p) (trees_of (reading number_at m) args))

-- An accepted module that a text spells, whose variables have these numbers, is scoped: each variable is known where it stands, the
-- variables of each generator are new ones, and each guard and each size in a pattern is a guard expression.
abbrev pub AcceptedIsScoped : Type 0
AcceptedIsScoped = (text : List ℕ) (m : Module) (uses : List (List VarUse)) → Reads text m → IsAccepted m → AreNumbered m.functions uses → IsModuleScoped (module_of uses m)

-- So its machine stays scoped, whatever legal order it follows from its start,
abbrev pub MachinesAreScoped : Type 0
MachinesAreScoped = (text : List ℕ) (m : Module) (uses : List (List VarUse)) (reductions : ℕ) (n : Machine) (entries : List Entry) →
    Reads text m → IsAccepted m → AreNumbered m.functions uses → Leads (start_of (module_of uses m) reductions) entries n → IsMachineScoped n

-- and no variable is open in a process, nor in what it contracts to before its next entry: none is met without its value.
abbrev pub NoneMeetsUnbound : Type 0
NoneMeetsUnbound = (text : List ℕ) (m : Module) (uses : List (List VarUse)) (reductions : ℕ) (n : Machine) (entries : List Entry) (l k : Local) (unseen : List Value) (cost made : ℕ) (layers : List Layer) (variable : ℕ) →
    Reads text m → IsAccepted m → AreNumbered m.functions uses → Leads (start_of (module_of uses m) reductions) entries n →
    Contains n.processes (Running l unseen) → Contracts (module_of uses m) l cost made k → k.course ≡ At (plug layers (Var variable)) → ⊥
