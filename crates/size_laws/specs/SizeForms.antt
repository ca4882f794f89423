-- Which expressions the sizes in patterns are (Erlang Reference Manual, "Bit Syntax Expressions", "Guard Sequences").
use Rattle.std.specs.Prelude.{◌≡◌, ℕ, Bool, true, false, List}
use Rattle.std.specs.List.{All as Each}
use Rattle.erl_syntax.specs.BuiltIns.{is_for_guards}
use Rattle.erl_syntax.specs.Checking.{IsAccepted, IsCalled}
use Rattle.erl_syntax.specs.Reading.{Reads}
use Rattle.erl_syntax.specs.Scopes.{Scope}
use Rattle.erl_syntax.specs.declared.built_in.BuiltIn.{BuiltIn}
use Rattle.erl_syntax.specs.declared.checking.VarUse.{VarUse}
use Rattle.erl_syntax.specs.declared.expr.Expr.{Expr}
use Rattle.erl_syntax.specs.declared.expr.Expr.TheVariants as x
use Rattle.erl_syntax.specs.declared.module.Module.{Module}
use Rattle.erl_syntax.specs.declared.span.Span.{Span}
use Rattle.term_laws.specs.CallLaws.{trees_of}
use Rattle.term_laws.specs.GuardLaws.{IsTest}
use Rattle.term_value.specs.PutIn.{put_in}
use Rattle.term_value.specs.ReadTrees.{module_of, reading, tree_of}
use Rattle.term_value.specs.Tree.{Bound, Operate, Prefixed, Native, Table, Tree, Val, Var, All, First, Choose, Receive, Gather, Trees, end, and, Shut, Then, Last, Alts, AndAlso, OrElse, Clauses, no_clause, clause, Guard, never, or, Quals, turn, give, from, test, Generator, InList, InBits, Levels, bottom, level, Pattern, PWild, PVar, PVal, PTuple, PList, PListOn, PBits, PSame, Patterns, no_pattern, pattern_and, Segments, no_segment, segment}
use Rattle.term_value.specs.Tree as tree
use Rattle.term_value.specs.Value.{Value, VInt, VAtom}

-- what a literal in a size of a text is: an integer, a character or an atom
abbrev pub is_integer_or_atom : Value → Bool
is_integer_or_atom (VInt n) = true
is_integer_or_atom (VAtom a) = true
is_integer_or_atom _ = false

-- Made of such values, variables, operators, `andalso`, `orelse` and calls of built-in functions for guards: no tuple, list, string or
-- bit expression stands in it, and no call of a function of the module.
abbrev mutual
  pub IsSizeForm : (Value → Bool) → Tree → Type 0
  IsSizeForm is_such (Val v) = is_such v ≡ true
  IsSizeForm is_such (Var x) = Unit {0}
  IsSizeForm is_such (All (Table (Operate op)) ts) = AreSizeForms is_such ts
  IsSizeForm is_such (All (Table (Prefixed op)) ts) = AreSizeForms is_such ts
  IsSizeForm is_such (All (Table (Native b)) ts) = (is_for_guards b ≡ true) × AreSizeForms is_such ts
  IsSizeForm is_such (First t (AndAlso u)) = IsSizeForm is_such t × IsSizeForm is_such u
  IsSizeForm is_such (First t (OrElse u)) = IsSizeForm is_such t × IsSizeForm is_such u
  IsSizeForm is_such _ = ⊥

  pub AreSizeForms : (Value → Bool) → Trees → Type 0
  AreSizeForms is_such end = Unit {0}
  AreSizeForms is_such (and t ts) = IsSizeForm is_such t × AreSizeForms is_such ts

-- a segment's size: one tree where one is written, and else none
abbrev pub IsSize : (Value → Bool) → Trees → Type 0
IsSize is_such end = Unit {0}
IsSize is_such (and t end) = IsSizeForm is_such t
IsSize is_such _ = ⊥

-- Each size of a bit pattern in it is such: those of patterns in clauses, items and generators, however deep they stand, and those of a
-- generator's shape.
abbrev mutual
  pub HasSizes : (Trees → Type 0) → Tree → Type 0
  HasSizes IsSuch (Val v) = Unit {0}
  HasSizes IsSuch (Var x) = Unit {0}
  HasSizes IsSuch (All form ts) = HaveSizes IsSuch ts
  HasSizes IsSuch (First t rest) = HasSizes IsSuch t × HasShutSizes IsSuch rest
  HasSizes IsSuch (Choose cs) = HaveClauseSizes IsSuch cs
  HasSizes IsSuch (Receive cs) = HaveClauseSizes IsSuch cs
  HasSizes IsSuch (Gather got now levels) = HaveQualSizes IsSuch now × HaveLevelSizes IsSuch levels

  pub HaveSizes : (Trees → Type 0) → Trees → Type 0
  HaveSizes IsSuch end = Unit {0}
  HaveSizes IsSuch (and t ts) = HasSizes IsSuch t × HaveSizes IsSuch ts

  pub HasShutSizes : (Trees → Type 0) → Shut → Type 0
  HasShutSizes IsSuch (Then ps t) = HavePatternSizes IsSuch ps × HasSizes IsSuch t
  HasShutSizes IsSuch (Last ps) = HavePatternSizes IsSuch ps
  HasShutSizes IsSuch (Alts cs) = HaveClauseSizes IsSuch cs
  HasShutSizes IsSuch (AndAlso t) = HasSizes IsSuch t
  HasShutSizes IsSuch (OrElse t) = HasSizes IsSuch t

  pub HaveClauseSizes : (Trees → Type 0) → Clauses → Type 0
  HaveClauseSizes IsSuch no_clause = Unit {0}
  HaveClauseSizes IsSuch (clause ps guard body cs) = HavePatternSizes IsSuch ps × HasTestSizes IsSuch guard × HasSizes IsSuch body × HaveClauseSizes IsSuch cs

  pub HasTestSizes : (Trees → Type 0) → Guard → Type 0
  HasTestSizes IsSuch never = Unit {0}
  HasTestSizes IsSuch (or ts guard) = HaveSizes IsSuch ts × HasTestSizes IsSuch guard

  pub HaveQualSizes : (Trees → Type 0) → Quals → Type 0
  HaveQualSizes IsSuch turn = Unit {0}
  HaveQualSizes IsSuch (give t) = HasSizes IsSuch t
  HaveQualSizes IsSuch (from t g qs) = HasSizes IsSuch t × HasGeneratorSizes IsSuch g × HaveQualSizes IsSuch qs
  HaveQualSizes IsSuch (test t qs) = HasSizes IsSuch t × HaveQualSizes IsSuch qs

  pub HasGeneratorSizes : (Trees → Type 0) → Generator → Type 0
  HasGeneratorSizes IsSuch (InList p) = HasPatternSizes IsSuch p
  HasGeneratorSizes IsSuch (InBits ss shape) = HaveSegmentSizes IsSuch ss × HaveSegmentSizes IsSuch shape

  pub HaveLevelSizes : (Trees → Type 0) → Levels → Type 0
  HaveLevelSizes IsSuch bottom = Unit {0}
  HaveLevelSizes IsSuch (level rows qs levels) = HaveQualSizes IsSuch qs × HaveLevelSizes IsSuch levels

  pub HasPatternSizes : (Trees → Type 0) → Pattern → Type 0
  HasPatternSizes IsSuch PWild = Unit {0}
  HasPatternSizes IsSuch (PVar x) = Unit {0}
  HasPatternSizes IsSuch (PVal v) = Unit {0}
  HasPatternSizes IsSuch (PTuple ps) = HavePatternSizes IsSuch ps
  HasPatternSizes IsSuch (PList ps) = HavePatternSizes IsSuch ps
  HasPatternSizes IsSuch (PListOn ps p) = HavePatternSizes IsSuch ps × HasPatternSizes IsSuch p
  HasPatternSizes IsSuch (PBits ss) = HaveSegmentSizes IsSuch ss
  HasPatternSizes IsSuch (PSame ps) = HavePatternSizes IsSuch ps

  pub HavePatternSizes : (Trees → Type 0) → Patterns → Type 0
  HavePatternSizes IsSuch no_pattern = Unit {0}
  HavePatternSizes IsSuch (pattern_and p ps) = HasPatternSizes IsSuch p × HavePatternSizes IsSuch ps

  pub HaveSegmentSizes : (Trees → Type 0) → Segments → Type 0
  HaveSegmentSizes IsSuch no_segment = Unit {0}
  HaveSegmentSizes IsSuch (segment typed target size ss) = IsSuch size × HaveSegmentSizes IsSuch ss

-- each size in a module's functions has that form
abbrev pub HasSizeForms : (Value → Bool) → tree.Module → Type 0
HasSizeForms is_such code = Each (λ f. HaveClauseSizes (IsSize is_such) f.clauses) code.functions

-- Each size in an accepted module that a text spells has that form, and its literals are integers and atoms, whatever numbers the
-- variables have.
abbrev pub SizesHaveForm : Type 0
SizesHaveForm = (text : List ℕ) (m : Module) (uses : List (List VarUse)) → Reads text m → IsAccepted m → HasSizeForms is_integer_or_atom (module_of uses m)

-- In an accepted module a call in a guard, or in a size of a pattern, is read as one of a built-in function for guards.
abbrev pub GuardCallsAreBuiltIn : Type 0
GuardCallsAreBuiltIn = (number_at : Span → ℕ) (m : Module) (s : Scope) (at : Span) (home : List Expr) (name : ℕ) (args : List Expr) →
    IsAccepted m → IsCalled m s at home name args → s.guarded ≡ true →
    (b : BuiltIn) × (is_for_guards b ≡ true) × (tree_of (reading number_at m) (x.Call at home name args) ≡ All (Table (Native b)) (trees_of (reading number_at m) args))

-- what has the form with such values has it with more values
abbrev pub FormsAdmitMore : Type 0
FormsAdmitMore = (is_such is_other : Value → Bool) (t : Tree) → ((v : Value) → is_such v ≡ true → is_other v ≡ true) → IsSizeForm is_such t → IsSizeForm is_other t

-- with such values put in for variables, a size keeps the form,
abbrev pub ValuesKeepForm : Type 0
ValuesKeepForm = (is_such : Value → Bool) (bs : List Bound) (t : Tree) → Each (λ b. is_such b.value ≡ true) bs → IsSizeForm is_such t → IsSizeForm is_such (put_in bs t)

-- and so do the sizes inside an expression
abbrev pub ValuesKeepSizes : Type 0
ValuesKeepSizes = (is_such : Value → Bool) (bs : List Bound) (t : Tree) → Each (λ b. is_such b.value ≡ true) bs → HasSizes (IsSize is_such) t → HasSizes (IsSize is_such) (put_in bs t)

-- what has the form is a guard expression, so its result is what contractions of it come to
abbrev pub SizeFormsAreTests : Type 0
SizeFormsAreTests = (is_such : Value → Bool) (t : Tree) → IsSizeForm is_such t → IsTest t
