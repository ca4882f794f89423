-- The faults of a module by the part to which they belong.
use Rattle.std.specs.Prelude.{◌≡◌, ◌≢◌, ℕ, ◌<◌, pos, Bool, true, List, [], ◌∷◌, length, get_or, take, codes, ◌⊎◌}
use Rattle.std.specs.List.{Contains}
use Rattle.erl_syntax.specs.BuiltIns.{is_for_guards}
use Rattle.erl_syntax.specs.Scopes.{Scope, Part, AnExpr, APattern, ABody, ASegment, IsKnown, IsUnsafe}
use Rattle.erl_syntax.specs.Typing.{HasFault}
use Rattle.erl_syntax.specs.Checking.{Spelled, HasFunction, IsExported, CallsBuiltIn, CallsOwn}
use Rattle.erl_syntax.specs.declared.span.Span.{Span}
use Rattle.erl_syntax.specs.declared.expr.Expr.{Expr, out-Expr}
use Rattle.erl_syntax.specs.declared.expr.Expr.TheOpen as O
use Rattle.erl_syntax.specs.declared.expr.Expr.TheVariants as x
use Rattle.erl_syntax.specs.declared.pattern.Pattern.{Pattern, out-Pattern}
use Rattle.erl_syntax.specs.declared.segment.Segment.{Segment}
use Rattle.erl_syntax.specs.declared.qual.Qual.{Qual}
use Rattle.erl_syntax.specs.declared.clause.Item.{Item}
use Rattle.erl_syntax.specs.declared.clause.Guard.{Guard}
use Rattle.erl_syntax.specs.declared.clause.Alt.{Alt}
use Rattle.erl_syntax.specs.declared.clause.Branch.{Branch}
use Rattle.erl_syntax.specs.declared.module.Module.{Module}
use Rattle.erl_syntax.specs.declared.module.Head.{Head}
use Rattle.erl_syntax.specs.declared.module.Name.{Name}
use Rattle.erl_syntax.specs.declared.module.Function.{Function}
use Rattle.erl_syntax.specs.declared.module.Clause.{Clause}
use Rattle.erl_syntax.specs.declared.typing.SideUse.{SideUse}
use Rattle.erl_syntax.specs.declared.typing.SideUse.TheVariants as side
use Rattle.erl_syntax.specs.declared.typing.SegFault.{SegFault}
use Rattle.erl_syntax.specs.declared.built_in.BuiltIn.{BuiltIn}
use Rattle.erl_syntax.specs.declared.checking.CheckCause.{CheckCause}
use Rattle.erl_syntax.specs.declared.checking.CheckCause.TheVariants as c
use Rattle.module_check.specs.Order.{Either, Below, Some_of, At}
use Rattle.module_check.specs.Spots.{Spot, IsUnder}

-- all but the first
abbrev pub rest : {X : Type 0} → List X → List X
rest [] = []
rest (y ∷ ys) = ys

abbrev pub HeadFault : Head → Span → CheckCause → Type 0
HeadFault h at why = At h.at c.ModuleAgain at why

abbrev pub IsMissing : Module → Name → Type 0
IsMissing m e = (arity : ℕ) → e.arity ≡ pos arity → HasFunction m e.name arity → ⊥

abbrev pub ExportFault : Module → Name → Span → CheckCause → Type 0
ExportFault m e at why = At e.at c.ExportMissing at why × IsMissing m e

abbrev pub HasNoMain : Module → Type 0
HasNoMain m = (name : ℕ) → Spelled m name (codes "main") → IsExported m name 0 → ⊥

-- what is missing stands at the end of the text
abbrev pub EndFault : Module → Span → CheckCause → Type 0
EndFault m at why = ((m.heads ≡ []) × At m.last c.NoModule at why) ⊎ (HasNoMain m × At m.last c.NoMain at why)

abbrev pub Differs : Function → Clause → Type 0
Differs f other = (other.name ≢ f.name) ⊎ (length other.patterns ≢ f.arity)

abbrev pub DiffersFault : Function → Clause → Span → CheckCause → Type 0
DiffersFault f other at why = At other.at c.HeadsDiffer at why × Differs f other

-- a function of this name and number of arguments
abbrev pub IsNamed : ℕ → ℕ → Function → Type 0
IsNamed name arity f = (f.name ≡ name) × (f.arity ≡ arity)

abbrev pub IsAmong : List Function → ℕ → ℕ → Type 0
IsAmong functions name arity = (f : Function) × (Contains functions f × IsNamed name arity f)

-- `before` are the functions that stand before this one
abbrev pub ClausesFault : List Function → Function → List Clause → Span → CheckCause → Type 0
ClausesFault before f [] at why = ⊥
ClausesFault before f (first ∷ others) at why = (At first.at c.FunctionAgain at why × IsAmong before f.name f.arity) ⊎ Some_of (DiffersFault f) others at why

abbrev pub FirstClause : List Clause → Span → CheckCause → Type 0
FirstClause [] at why = ⊥
FirstClause (first ∷ others) at why = At first.at c.FunctionAgain at why

abbrev pub NamedFault : ℕ → ℕ → Function → Span → CheckCause → Type 0
NamedFault name arity f at why = IsNamed name arity f × FirstClause f.clauses at why

abbrev pub IsOfBuiltIn : Module → List Expr → ℕ → ℕ → Type 0
IsOfBuiltIn m home name arity = (b : BuiltIn) × CallsBuiltIn m home name arity b

abbrev pub IsForGuards : Module → List Expr → ℕ → ℕ → Type 0
IsForGuards m home name arity = (b : BuiltIn) × (CallsBuiltIn m home name arity b × (is_for_guards b ≡ true))

-- a call without the name of a module that is of a built-in function: the functions of its name
abbrev pub BareFault : Module → List Expr → ℕ → ℕ → Span → CheckCause → Type 0
BareFault m [] name arity at why = IsOfBuiltIn m [] name arity × Some_of (NamedFault name arity) m.functions at why
BareFault m (home ∷ more) name arity at why = ⊥

abbrev pub IsUndefined : Module → List Expr → ℕ → ℕ → Type 0
IsUndefined m home name arity = (IsOfBuiltIn m home name arity → ⊥) × (CallsOwn m home name arity → ⊥)

abbrev pub CallFault : Module → Bool → Span → List Expr → ℕ → ℕ → Span → CheckCause → Type 0
CallFault m guarded az home name arity at why =
    (At az c.UndefinedFunction at why × IsUndefined m home name arity)
    ⊎ ((At az c.CallInGuard at why × ((guarded ≡ true) × (IsForGuards m home name arity → ⊥)))
    ⊎ BareFault m home name arity at why)

abbrev pub UnsafeFault : Scope → Span → List ℕ → Span → CheckCause → Type 0
UnsafeFault s az name at why = At az c.UnsafeVariable at why × IsUnsafe s.dangers name

abbrev pub ReadFault : Scope → Span → List ℕ → Span → CheckCause → Type 0
ReadFault s az name at why = (At az c.UnboundVariable at why × ((IsKnown s.known name → ⊥) × (IsUnsafe s.dangers name → ⊥))) ⊎ UnsafeFault s az name at why

abbrev pub ExprFault : Module → Scope → O.Expr-F Expr Pattern Qual Alt Branch Guard Item Segment → Span → CheckCause → Type 0
ExprFault m s (O.Expr::Var az name) at why = ReadFault s az name at why
ExprFault m s (O.Call az home name args) at why = CallFault m s.guarded az home name (length args) at why
ExprFault m s _ at why = ⊥

abbrev pub PatternFault : Scope → O.Pattern-F Expr Pattern Qual Alt Branch Guard Item Segment → Span → CheckCause → Type 0
PatternFault s (O.Pattern::Var az name) at why = UnsafeFault s az name at why
PatternFault s _ at why = ⊥

-- of a variable that is the value of a pattern's segment
abbrev pub TargetFault : Scope → O.Expr-F Expr Pattern Qual Alt Branch Guard Item Segment → Span → CheckCause → Type 0
TargetFault s (O.Expr::Var az name) at why = UnsafeFault s az name at why
TargetFault s _ at why = ⊥

abbrev pub TypeFault : SideUse → Bool → Segment → Span → CheckCause → Type 0
TypeFault on last sg at why = (f : SegFault) × (HasFault sg on last f × At sg.at (c.Segment f) at why)

abbrev pub SegmentFault : Scope → SideUse → Bool → Segment → Span → CheckCause → Type 0
SegmentFault s side.Build last sg at why = TypeFault side.Build last sg at why
SegmentFault s side.Match last sg at why = TypeFault side.Match last sg at why ⊎ TargetFault s (out-Expr sg.value) at why
SegmentFault s side.Generator last sg at why = TypeFault side.Generator last sg at why ⊎ TargetFault s (out-Expr sg.value) at why

-- the faults of a part by itself
abbrev pub Own : Module → Scope → Part → Span → CheckCause → Type 0
Own m s (AnExpr e) at why = ExprFault m s (out-Expr e) at why
Own m s (APattern pt) at why = PatternFault s (out-Pattern pt) at why
Own m s (ABody is) at why = ⊥
Own m s (ASegment on last sg) at why = SegmentFault s on last sg at why

abbrev pub InnerFault : Module → Function → Span → CheckCause → Type 0
InnerFault m f at why = (d : Spot) × (IsUnder f d × Own m d.scope d.part at why)

-- the faults of the function at a place in the list
abbrev pub FunctionFault : Module → ℕ → Span → CheckCause → Type 0
FunctionFault m k at why = (f : Function) × (((k < length m.functions) × (f ≡ get_or m.functions k f)) × Either (ClausesFault (take k m.functions) f f.clauses) (InnerFault m f) at why)

abbrev pub AnyFault : Module → Span → CheckCause → Type 0
AnyFault m = Either (Either (Some_of HeadFault (rest m.heads)) (Some_of (ExportFault m) m.exports)) (Either (Below (FunctionFault m) (length m.functions)) (EndFault m))

-- an atom of these characters
pub data IsAtomOf (m : Module) (chars : List ℕ) : Expr → Type 0 where
  atom : (e : Expr) (at : Span) (n : ℕ) → e ≡ x.Atom at n → Spelled m n chars → IsAtomOf m chars e
