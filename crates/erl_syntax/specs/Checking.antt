-- Accepted modules, and the first fault of others (Erlang Reference Manual, "Modules", "Functions", "Expressions").
use Rattle.std.specs.Prelude.{◌≡◌, ◌≢◌, ℕ, pos, ◌<◌, Bool, true, ◌&&◌, cond, nat_eq, List, [], ◌∷◌, ◌++◌, map, length, codes, All, ◌⊎◌}
use Rattle.std.specs.List.{Contains, filter, position_or_len}
use Rattle.erl_syntax.specs.BuiltIns.{name_of, arity_of, is_for_guards, is_bare, home_of}
use Rattle.erl_syntax.specs.Scopes.{Scope, Part, AnExpr, APattern, ASegment, Stands, Found, IsKnown, IsUnsafe}
use Rattle.erl_syntax.specs.Typing.{HasFault, seg_faults}
use Rattle.erl_syntax.specs.declared.span.Span.{Span}
use Rattle.erl_syntax.specs.declared.expr.Expr.{Expr}
use Rattle.erl_syntax.specs.declared.expr.Expr.TheVariants as x
use Rattle.erl_syntax.specs.declared.pattern.Pattern.{Pattern}
use Rattle.erl_syntax.specs.declared.pattern.Pattern.TheVariants as p
use Rattle.erl_syntax.specs.declared.segment.Segment.{Segment}
use Rattle.erl_syntax.specs.declared.module.Module.{Module}
use Rattle.erl_syntax.specs.declared.module.Head.{Head}
use Rattle.erl_syntax.specs.declared.module.Name.{Name}
use Rattle.erl_syntax.specs.declared.module.Function.{Function}
use Rattle.erl_syntax.specs.declared.module.Clause.{Clause}
use Rattle.erl_syntax.specs.declared.typing.SideUse.{SideUse}
use Rattle.erl_syntax.specs.declared.typing.SideUse.TheVariants as side
use Rattle.erl_syntax.specs.declared.typing.SegFault.{SegFault}
use Rattle.erl_syntax.specs.declared.built_in.BuiltIn.{BuiltIn}
use Rattle.erl_syntax.specs.declared.checking.CheckCause.{CheckCause}
use Rattle.erl_syntax.specs.declared.checking.CheckCause.TheVariants as c
use Rattle.erl_syntax.specs.declared.checking.VarUse.{VarUse}

-- the atom of this number has these characters
pub record Spelled (m : Module) (atom : ℕ) (chars : List ℕ) : Type 0 where
  pub front : List (List ℕ)
  pub back : List (List ℕ)
  pub number : length front ≡ atom
  pub stands : m.atoms ≡ front ++ chars ∷ back

-- the module has a function of this name and number of arguments
pub record HasFunction (m : Module) (name arity : ℕ) : Type 0 where
  pub function : Function
  pub among : Contains m.functions function
  pub named : function.name ≡ name
  pub takes : function.arity ≡ arity

pub record IsExported (m : Module) (name arity : ℕ) : Type 0 where
  pub export : Name
  pub among : Contains m.exports export
  pub named : export.name ≡ name
  pub takes : export.arity ≡ pos arity

-- a built-in function of this name and number of arguments
pub record IsBuiltIn (m : Module) (name arity : ℕ) (b : BuiltIn) : Type 0 where
  pub spelled : Spelled m name (name_of b)
  pub takes : arity_of b ≡ arity

-- the module's own name: that of its first `-module` form
pub data IsOwn (m : Module) : Expr → Type 0 where
  named : (e : Expr) (at : Span) (n : ℕ) (h : Head) (hs : List Head) → e ≡ x.Atom at n → m.heads ≡ h ∷ hs → h.name ≡ n → IsOwn m e
  macro : (e : Expr) (at : Span) → e ≡ x.ModuleName at → IsOwn m e

-- a call with this before it, of this name and number of arguments, is of the built-in function
pub data CallsBuiltIn (m : Module) : List Expr → ℕ → ℕ → BuiltIn → Type 0 where
  bare : (name arity : ℕ) (b : BuiltIn) → is_bare b ≡ true → IsBuiltIn m name arity b → CallsBuiltIn m [] name arity b
  at_home : (home : Expr) (at : Span) (n name arity : ℕ) (b : BuiltIn) → home ≡ x.Atom at n → Spelled m n (home_of b) → IsBuiltIn m name arity b → CallsBuiltIn m (home ∷ []) name arity b

-- is of a function of the module
pub data CallsOwn (m : Module) : List Expr → ℕ → ℕ → Type 0 where
  bare : (name arity : ℕ) → HasFunction m name arity → CallsOwn m [] name arity
  exported : (home : Expr) (name arity : ℕ) → IsOwn m home → IsExported m name arity → HasFunction m name arity → CallsOwn m (home ∷ []) name arity

-- a part of some function of the module
pub record IsIn (m : Module) (s : Scope) (part : Part) : Type 0 where
  pub function : Function
  pub among : Contains m.functions function
  pub stands : Stands function s part

-- a call in some function
pub record IsCalled (m : Module) (s : Scope) (at : Span) (home : List Expr) (name : ℕ) (args : List Expr) : Type 0 where
  pub expr : Expr
  pub is : expr ≡ x.Call at home name args
  pub stands : IsIn m s (AnExpr expr)

-- a variable that a pattern binds or compares
pub data IsTarget (f : Function) : Scope → Span → List ℕ → Type 0 where
  in_pattern : (s : Scope) (pt : Pattern) (at : Span) (name : List ℕ) → Stands f s (APattern pt) → pt ≡ p.Var at name → IsTarget f s at name
  in_segment : (s : Scope) (on : SideUse) (last : Bool) (sg : Segment) (at : Span) (name : List ℕ) → Stands f s (ASegment on last sg) → on ≢ side.Build → sg.value ≡ x.Var at name → IsTarget f s at name

-- a variable in an expression
pub record IsRead (f : Function) (s : Scope) (at : Span) (name : List ℕ) : Type 0 where
  pub expr : Expr
  pub is : expr ≡ x.Var at name
  pub stands : Stands f s (AnExpr expr)

-- The faults of a module, each with its place.
pub data Fault (m : Module) : Span → CheckCause → Type 0 where
  segment : (s : Scope) (on : SideUse) (last : Bool) (sg : Segment) (f : SegFault) → IsIn m s (ASegment on last sg) → HasFault sg on last f →
      Fault m sg.at (c.Segment f)
  module_again : (h : Head) (hs : List Head) (again : Head) → m.heads ≡ h ∷ hs → Contains hs again →
      Fault m again.at c.ModuleAgain
  heads_differ : (f : Function) (first : Clause) (cls : List Clause) (other : Clause) → Contains m.functions f → f.clauses ≡ first ∷ cls → Contains cls other →
      (other.name ≢ f.name ⊎ length other.patterns ≢ f.arity) →
      Fault m other.at c.HeadsDiffer
  function_again : (front : List Function) (f : Function) (back : List Function) (first : Clause) (cls : List Clause) (before : Function) → m.functions ≡ front ++ f ∷ back → f.clauses ≡ first ∷ cls →
      Contains front before → before.name ≡ f.name → before.arity ≡ f.arity →
      Fault m first.at c.FunctionAgain
  -- a built-in function's name, which a call without the name of a module has too
  built_in_again : (f : Function) (first : Clause) (cls : List Clause) (b : BuiltIn) (s : Scope) (at : Span) (args : List Expr) → Contains m.functions f → f.clauses ≡ first ∷ cls →
      CallsBuiltIn m [] f.name f.arity b → IsCalled m s at [] f.name args → length args ≡ f.arity →
      Fault m first.at c.FunctionAgain
  export_missing : (e : Name) → Contains m.exports e → ((arity : ℕ) → e.arity ≡ pos arity → HasFunction m e.name arity → ⊥) →
      Fault m e.at c.ExportMissing
  undefined : (s : Scope) (at : Span) (home : List Expr) (name : ℕ) (args : List Expr) → IsCalled m s at home name args →
      ((b : BuiltIn) → CallsBuiltIn m home name (length args) b → ⊥) → (CallsOwn m home name (length args) → ⊥) →
      Fault m at c.UndefinedFunction
  call_in_guard : (s : Scope) (at : Span) (home : List Expr) (name : ℕ) (args : List Expr) → IsCalled m s at home name args → s.guarded ≡ true →
      ((b : BuiltIn) → CallsBuiltIn m home name (length args) b → is_for_guards b ≡ true → ⊥) →
      Fault m at c.CallInGuard
  unbound : (f : Function) (s : Scope) (at : Span) (name : List ℕ) → Contains m.functions f → IsRead f s at name → (IsKnown s.known name → ⊥) → (IsUnsafe s.dangers name → ⊥) →
      Fault m at c.UnboundVariable
  unsafe_read : (f : Function) (s : Scope) (at : Span) (name : List ℕ) → Contains m.functions f → IsRead f s at name → IsUnsafe s.dangers name →
      Fault m at c.UnsafeVariable
  unsafe_target : (f : Function) (s : Scope) (at : Span) (name : List ℕ) → Contains m.functions f → IsTarget f s at name → IsUnsafe s.dangers name →
      Fault m at c.UnsafeVariable
  no_module : m.heads ≡ [] → Fault m m.last c.NoModule
  no_main : ((name : ℕ) → Spelled m name (codes "main") → IsExported m name 0 → ⊥) → Fault m m.last c.NoMain

-- the causes in the order in which those at one place are told
abbrev pub check_causes : List CheckCause
check_causes = map (λ f. c.Segment f) seg_faults ++ (c.ModuleAgain ∷ c.HeadsDiffer ∷ c.FunctionAgain ∷ c.ExportMissing ∷ c.UndefinedFunction ∷ c.CallInGuard ∷ c.UnboundVariable ∷ c.UnsafeVariable ∷ c.NoModule ∷ c.NoMain ∷ [])

abbrev pub IsBefore : Span → Span → Type 0
IsBefore a b = (a.line < b.line) ⊎ ((a.line ≡ b.line) × (a.column < b.column))

-- one of the list stands before the other
pub record StandsBefore (why other : CheckCause) : Type 0 where
  pub front : List CheckCause
  pub back : List CheckCause
  pub is : check_causes ≡ front ++ why ∷ back
  pub later : Contains back other

-- told before any other: it starts first, and at its place its cause stands first
pub record IsFirstFault (m : Module) (at : Span) (why : CheckCause) : Type 0 where
  pub fault : Fault m at why
  pub first : (az : Span) (other : CheckCause) → Fault m az other → IsBefore at az ⊎ ((at ≡ az) × ((why ≡ other) ⊎ StandsBefore why other))

abbrev pub IsAccepted : Module → Type 0
IsAccepted m = (at : Span) (why : CheckCause) → Fault m at why → ⊥

-- A variable's place and the place at which it gets its value.
pub record Place : Type 0 where
  pub at : Span
  pub bound_at : Span

-- a variable stands at the place, and it is the one that gets its value at the other
pub data IsPlace (f : Function) : Place → Type 0 where
  read : (s : Scope) (at : Span) (name : List ℕ) (bound_at : Span) → IsRead f s at name → Found s.known name bound_at → IsPlace f (record { at = at; bound_at = bound_at })
  compared : (s : Scope) (at : Span) (name : List ℕ) (bound_at : Span) → IsTarget f s at name → Found s.known name bound_at → IsPlace f (record { at = at; bound_at = bound_at })
  bound : (s : Scope) (at : Span) (name : List ℕ) → IsTarget f s at name → (IsKnown s.known name → ⊥) → IsPlace f (record { at = at; bound_at = at })

-- each stands before those behind it, by the places that they have
abbrev pub RisingBy : {X : Type 0} → (X → Span) → List X → Type 0
RisingBy at [] = Unit {0}
RisingBy at (a ∷ bs) = All (λ b. IsBefore (at a) (at b)) bs × RisingBy at bs

-- whether two places are one
abbrev pub same_span : Span → Span → Bool
same_span a b = nat_eq a.line b.line && nat_eq a.column b.column

-- The places of a function's variables, each once in the order of the text.
pub record HasPlaces (f : Function) (places : List Place) : Type 0 where
  pub rising : RisingBy (λ a. a.at) places
  pub stand : All (IsPlace f) places
  pub whole : (a : Place) → IsPlace f a → Contains places a

-- those at which variables get their values, in the order of the text
abbrev pub binders : List Place → List Span
binders places = map (λ a. a.at) (filter (λ a. same_span a.at a.bound_at) places)

-- A variable's number is how many get their values further left in the function.
abbrev pub number_of : List Span → Place → ℕ
number_of bounds a = position_or_len (same_span a.bound_at) bounds

-- a variable at its place, where variables get their values at these places
abbrev pub use_at : List Span → Place → VarUse
use_at bounds a = record { at = a.at; number = number_of bounds a; binds = same_span a.at a.bound_at }

-- The variables of a function: each where it stands, in the order of the text.
pub record IsNumbered (f : Function) (uses : List VarUse) : Type 0 where
  pub places : List Place
  pub has : HasPlaces f places
  pub is : uses ≡ map (use_at (binders places)) places

-- those of each function
pub data AreNumbered : List Function → List (List VarUse) → Type 0 where
  none : AreNumbered [] []
  and_then : (f : Function) (fs : List Function) (uses : List VarUse) (more : List (List VarUse)) → IsNumbered f uses → AreNumbered fs more → AreNumbered (f ∷ fs) (uses ∷ more)

-- the number of a function's variable that stands at a place
abbrev pub number_at : List VarUse → Span → ℕ
number_at [] at = 0
number_at (u ∷ uses) at = cond (same_span u.at at) u.number (number_at uses at)
