-- Which expressions guards, and sizes in patterns, may be (Erlang Reference Manual, "Guard Sequences", "Bit Syntax Expressions").
use Rattle.std.specs.Prelude.{ℕ, List}
use Rattle.std.specs.List.{All as Each}
use Rattle.erl_syntax.specs.Reading.{Reads}
use Rattle.erl_syntax.specs.declared.checking.VarUse.{VarUse}
use Rattle.erl_syntax.specs.declared.module.Module.{Module}
use Rattle.term_value.specs.ReadTrees.{module_of}
use Rattle.term_value.specs.Tree.{Send, Tree, Val, Var, All, First, Choose, Receive, Gather, Trees, end, and, Shut, Then, Last, Alts, AndAlso, OrElse, Clauses, no_clause, clause, Guard, never, or, Quals, turn, give, from, test, Generator, InList, InBits, Pattern, PWild, PVar, PVal, PTuple, PList, PListOn, PBits, PSame, Patterns, no_pattern, pattern_and, Segments, no_segment, segment}

-- No `!`, `case`, `if`, `receive` and no comprehension stands in it. Which functions it calls isn't said here.
abbrev mutual
  pub IsGuardForm : Tree → Type 0
  IsGuardForm (Val v) = Unit {0}
  IsGuardForm (Var x) = Unit {0}
  IsGuardForm (All Send ts) = ⊥
  IsGuardForm (All _ ts) = AreGuardForms ts
  IsGuardForm (First t (AndAlso u)) = IsGuardForm t × IsGuardForm u
  IsGuardForm (First t (OrElse u)) = IsGuardForm t × IsGuardForm u
  IsGuardForm _ = ⊥

  pub AreGuardForms : Trees → Type 0
  AreGuardForms end = Unit {0}
  AreGuardForms (and t ts) = IsGuardForm t × AreGuardForms ts

-- Each guard in it, and each size in its patterns, has that form. (In a module no rows wait.)
abbrev mutual
  pub HasGuardForms : Tree → Type 0
  HasGuardForms (Val v) = Unit {0}
  HasGuardForms (Var x) = Unit {0}
  HasGuardForms (All form ts) = HaveGuardForms ts
  HasGuardForms (First t rest) = HasGuardForms t × HasShutForms rest
  HasGuardForms (Choose cs) = HaveClauseForms cs
  HasGuardForms (Receive cs) = HaveClauseForms cs
  HasGuardForms (Gather got now levels) = HaveQualForms now

  pub HaveGuardForms : Trees → Type 0
  HaveGuardForms end = Unit {0}
  HaveGuardForms (and t ts) = HasGuardForms t × HaveGuardForms ts

  pub HasShutForms : Shut → Type 0
  HasShutForms (Then ps t) = HavePatternForms ps × HasGuardForms t
  HasShutForms (Last ps) = HavePatternForms ps
  HasShutForms (Alts cs) = HaveClauseForms cs
  HasShutForms (AndAlso t) = HasGuardForms t
  HasShutForms (OrElse t) = HasGuardForms t

  pub HaveClauseForms : Clauses → Type 0
  HaveClauseForms no_clause = Unit {0}
  HaveClauseForms (clause ps guard body cs) = HavePatternForms ps × HasTestForms guard × HasGuardForms body × HaveClauseForms cs

  pub HasTestForms : Guard → Type 0
  HasTestForms never = Unit {0}
  HasTestForms (or ts guard) = AreGuardForms ts × HaveGuardForms ts × HasTestForms guard

  pub HaveQualForms : Quals → Type 0
  HaveQualForms turn = Unit {0}
  HaveQualForms (give t) = HasGuardForms t
  HaveQualForms (from t g qs) = HasGuardForms t × HasGeneratorForms g × HaveQualForms qs
  HaveQualForms (test t qs) = HasGuardForms t × HaveQualForms qs

  pub HasGeneratorForms : Generator → Type 0
  HasGeneratorForms (InList p) = HasPatternForms p
  HasGeneratorForms (InBits ss shape) = HaveSizeForms ss × HaveSizeForms shape

  pub HasPatternForms : Pattern → Type 0
  HasPatternForms PWild = Unit {0}
  HasPatternForms (PVar x) = Unit {0}
  HasPatternForms (PVal v) = Unit {0}
  HasPatternForms (PTuple ps) = HavePatternForms ps
  HasPatternForms (PList ps) = HavePatternForms ps
  HasPatternForms (PListOn ps p) = HavePatternForms ps × HasPatternForms p
  HasPatternForms (PBits ss) = HaveSizeForms ss
  HasPatternForms (PSame ps) = HavePatternForms ps

  pub HavePatternForms : Patterns → Type 0
  HavePatternForms no_pattern = Unit {0}
  HavePatternForms (pattern_and p ps) = HasPatternForms p × HavePatternForms ps

  pub HaveSizeForms : Segments → Type 0
  HaveSizeForms no_segment = Unit {0}
  HaveSizeForms (segment typed target size ss) = AreGuardForms size × HaveSizeForms ss

-- In a module that a text spells each guard, and each size in a pattern, has the form of a guard expression.
abbrev pub GuardsHaveForm : Type 0
GuardsHaveForm = (text : List ℕ) (m : Module) (uses : List (List VarUse)) → Reads text m → Each (λ f. HaveClauseForms f.clauses) (module_of uses m).functions
