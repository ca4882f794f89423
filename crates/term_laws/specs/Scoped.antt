-- Which variables an expression may have (Erlang Reference Manual, "Expressions": "Variables", "Patterns"; "Bit Syntax Expressions";
-- "Comprehensions"): each stands where it has a value, the variables of a generator are new ones, and guards and sizes are guard
-- expressions. An expression that has all its values is scoped with no variable known.
use Rattle.std.specs.Prelude.{◌≡◌, ℕ, Bool, false, List, [], ◌∷◌, ◌++◌, map, Some, ◌⊎◌, ◌↔◌}
use Rattle.std.specs.List.{All, Contains}
use Rattle.term_value.specs.Value.{Value, Values}
use Rattle.term_value.specs.Setting.{Setting}
use Rattle.erl_syntax.specs.declared.typing.Typed.{Typed}
use Rattle.term_value.specs.Tree.{Bound, Target, Variable, Row, Found, Skipped, RowLimit, Tree, Val, Var, All as Formed, First, Choose, Receive, Gather, Trees, end, and, Shut, Then, Last, Alts, AndAlso, OrElse, Clauses, no_clause, clause, Guard, never, or, Quals, turn, give, from, test, Generator, InList, InBits, Levels, bottom, level, Pattern, PWild, PVar, PVal, PTuple, PList, PListOn, PBits, PSame, Patterns, no_pattern, pattern_and, Segments, no_segment, segment, Function, Module}
use Rattle.term_value.specs.PutIn.{value_in, put_in, puts_in, in_guard}
use Rattle.term_value.specs.Decode.{Cut, taken}
use Rattle.term_value.specs.Match.{Yes, matched, each_matched}
use Rattle.term_value.specs.Rows.{shape, one_mentions}
use Rattle.term_laws.specs.GuardLaws.{AreTests}
use Rattle.term_value.specs.Local.{Local, Course, At, Fell, Next, On, Asking, ForMore, Done, Raised, next_of, Contracts}
use Rattle.term_value.specs.Machine.{Process, Running, Over, Left, Machine, Leads, start_of}
use Rattle.term_value.specs.declared.entry.Entry.{Entry}
use Rattle.term_layers.specs.Layers.{Layer, plug}

-- the variables of bindings
abbrev pub variables : List Bound → List ℕ
variables bs = map (λ b. b.variable) bs

-- the variables that a pattern has as parts, which it binds or compares; those of its sizes are not among them
abbrev pub target_names : Target → List ℕ
target_names (Variable x) = x ∷ []
target_names _ = []

abbrev pub segment_names : Segments → List ℕ
segment_names no_segment = []
segment_names (segment typed target size ss) = target_names target ++ segment_names ss

abbrev mutual
  pub pattern_names : Pattern → List ℕ
  pattern_names PWild = []
  pattern_names (PVar x) = x ∷ []
  pattern_names (PVal v) = []
  pattern_names (PTuple ps) = patterns_names ps
  pattern_names (PList ps) = patterns_names ps
  pattern_names (PListOn ps p) = patterns_names ps ++ pattern_names p
  pattern_names (PBits ss) = segment_names ss
  pattern_names (PSame ps) = patterns_names ps

  pub patterns_names : Patterns → List ℕ
  patterns_names no_pattern = []
  patterns_names (pattern_and p ps) = pattern_names p ++ patterns_names ps

abbrev pub generator_names : Generator → List ℕ
generator_names (InList p) = pattern_names p
generator_names (InBits ss shape) = segment_names ss

-- none of these variables is known
abbrev pub AreNew : List ℕ → List ℕ → Type 0
AreNew known names = (x : ℕ) → Contains names x → Contains known x → ⊥

-- what each row gives values to is known in what begins with it
abbrev pub EachRow : (List ℕ → Type 0) → List Row → Type 0
EachRow Knows [] = Unit {0}
EachRow Knows (Found bs ∷ rows) = Knows (variables bs) × EachRow Knows rows
EachRow Knows (Skipped ∷ rows) = EachRow Knows rows
EachRow Knows (RowLimit ∷ rows) = EachRow Knows rows

-- Where these variables are known. A size in a pattern sees the variables that are known before the pattern, and those further left
-- in its own bit pattern.
abbrev mutual
  pub IsScoped : List ℕ → Tree → Type 0
  IsScoped known (Val v) = Unit {0}
  IsScoped known (Var x) = Contains known x
  IsScoped known (Formed form ts) = AreScoped known ts
  IsScoped known (First t rest) = IsScoped known t × IsShutScoped known rest
  IsScoped known (Choose cs) = AreClausesScoped known cs
  IsScoped known (Receive cs) = AreClausesScoped known cs
  IsScoped known (Gather got now levels) = AreQualsScoped known now × AreLevelsScoped known levels

  pub AreScoped : List ℕ → Trees → Type 0
  AreScoped known end = Unit {0}
  AreScoped known (and t ts) = IsScoped known t × AreScoped known ts

  pub IsShutScoped : List ℕ → Shut → Type 0
  IsShutScoped known (Then ps t) = AreScopedInTurn known ps × IsScoped (patterns_names ps ++ known) t
  IsShutScoped known (Last ps) = AreScopedInTurn known ps
  IsShutScoped known (Alts cs) = AreClausesScoped known cs
  IsShutScoped known (AndAlso t) = IsScoped known t
  IsShutScoped known (OrElse t) = IsScoped known t

  pub AreClausesScoped : List ℕ → Clauses → Type 0
  AreClausesScoped known no_clause = Unit {0}
  AreClausesScoped known (clause ps guard body cs) =
      ArePatternsScoped known ps × IsGuardScoped (patterns_names ps ++ known) guard × IsScoped (patterns_names ps ++ known) body × AreClausesScoped known cs

  pub IsGuardScoped : List ℕ → Guard → Type 0
  IsGuardScoped known never = Unit {0}
  IsGuardScoped known (or ts guard) = AreTests ts × AreScoped known ts × IsGuardScoped known guard

  pub AreQualsScoped : List ℕ → Quals → Type 0
  AreQualsScoped known turn = Unit {0}
  AreQualsScoped known (give t) = IsScoped known t
  AreQualsScoped known (from t g qs) = IsScoped known t × IsGeneratorScoped known g × AreNew known (generator_names g) × AreQualsScoped (generator_names g ++ known) qs
  AreQualsScoped known (test t qs) = IsScoped known t × AreQualsScoped known qs

  pub IsGeneratorScoped : List ℕ → Generator → Type 0
  IsGeneratorScoped known (InList p) = IsPatternScoped known p
  IsGeneratorScoped known (InBits ss shape) = AreSegmentsScoped known ss × AreSegmentsScoped known shape

  pub AreLevelsScoped : List ℕ → Levels → Type 0
  AreLevelsScoped known bottom = Unit {0}
  AreLevelsScoped known (level rows qs levels) = EachRow (λ names. AreQualsScoped (names ++ known) qs) rows × AreLevelsScoped known levels

  pub IsPatternScoped : List ℕ → Pattern → Type 0
  IsPatternScoped known PWild = Unit {0}
  IsPatternScoped known (PVar x) = Unit {0}
  IsPatternScoped known (PVal v) = Unit {0}
  IsPatternScoped known (PTuple ps) = ArePatternsScoped known ps
  IsPatternScoped known (PList ps) = ArePatternsScoped known ps
  IsPatternScoped known (PListOn ps p) = ArePatternsScoped known ps × IsPatternScoped known p
  IsPatternScoped known (PBits ss) = AreSegmentsScoped known ss
  IsPatternScoped known (PSame ps) = ArePatternsScoped known ps

  pub ArePatternsScoped : List ℕ → Patterns → Type 0
  ArePatternsScoped known no_pattern = Unit {0}
  ArePatternsScoped known (pattern_and p ps) = IsPatternScoped known p × ArePatternsScoped known ps

  -- an item's patterns are matched one after another: the sizes of the later ones see what the earlier ones bind
  pub AreScopedInTurn : List ℕ → Patterns → Type 0
  AreScopedInTurn known no_pattern = Unit {0}
  AreScopedInTurn known (pattern_and p ps) = IsPatternScoped known p × AreScopedInTurn (pattern_names p ++ known) ps

  pub AreSegmentsScoped : List ℕ → Segments → Type 0
  AreSegmentsScoped known no_segment = Unit {0}
  AreSegmentsScoped known (segment typed target size ss) = AreTests size × AreScoped known size × AreSegmentsScoped (target_names target ++ known) ss

-- a function begins with no variable known
abbrev pub IsFunctionScoped : Function → Type 0
IsFunctionScoped f = AreClausesScoped [] f.clauses

abbrev pub IsModuleScoped : Module → Type 0
IsModuleScoped code = All IsFunctionScoped code.functions

abbrev pub IsCourseScoped : Course → Type 0
IsCourseScoped (At t) = IsScoped [] t
IsCourseScoped (Fell stop) = Unit {0}

-- what a state comes to is scoped, whatever the answer is
abbrev pub IsNextScoped : Next → Type 0
IsNextScoped (On cost made l) = IsCourseScoped l.course
IsNextScoped (Asking ask next) = (answer : Value) → IsCourseScoped (next answer).course
IsNextScoped (ForMore l) = IsCourseScoped l.course
IsNextScoped Done = Unit {0}
IsNextScoped (Raised reason) = Unit {0}

-- what is scoped goes on to what is scoped
abbrev pub NextStaysScoped : Type 0
NextStaysScoped = (code : Module) (l : Local) → IsModuleScoped code → IsCourseScoped l.course → IsNextScoped (next_of code l)

-- also by many contractions
abbrev pub RunStaysScoped : Type 0
RunStaysScoped = (code : Module) (l k : Local) (cost made : ℕ) → Contracts code l cost made k → IsModuleScoped code → IsCourseScoped l.course → IsCourseScoped k.course

abbrev pub IsProcessScoped : Process → Type 0
IsProcessScoped (Running local unseen) = IsCourseScoped local.course
IsProcessScoped (Over how) = Unit {0}
IsProcessScoped (Left how) = Unit {0}

-- the module and each process are
pub record IsMachineScoped (m : Machine) : Type 0 where
  pub code : IsModuleScoped m.code
  pub processes : All IsProcessScoped m.processes

-- the copying machine of a scoped module begins scoped, and each order leads from a scoped state to a scoped one
abbrev pub OrdersStayScoped : Type 0
OrdersStayScoped = ((code : Module) (reductions : ℕ) → IsModuleScoped code → IsMachineScoped (start_of code reductions))
    × ((m n : Machine) (entries : List Entry) → Leads m entries n → IsMachineScoped m → IsMachineScoped n)

-- in a scoped expression no variable is open
abbrev pub NoneUnbound : Type 0
NoneUnbound = (layers : List Layer) (x : ℕ) → IsScoped [] (plug layers (Var x)) → ⊥

-- with an environment that has the variables which are known, each open variable has a value
abbrev pub KnownHasValue : Type 0
KnownHasValue = (env : List Bound) (x : ℕ) → IsScoped (variables env) (Var x) → (v : Value) × (value_in env x ≡ Some v)

-- an open variable of what is scoped with an environment's values put in has its value there
abbrev pub OpenHasValue : Type 0
OpenHasValue = (layers : List Layer) (env : List Bound) (x : ℕ) → IsScoped [] (plug layers (put_in env (Var x))) → (v : Value) × (value_in env x ≡ Some v)

-- with the values of all that is known put in, nothing more has to be known
abbrev pub PutStaysScoped : Type 0
PutStaysScoped = (bs : List Bound) (t : Tree) → IsScoped (variables bs) t → IsScoped [] (put_in bs t)

-- a match gives values to the variables of its pattern, and to no others
abbrev pub MatchNames : Type 0
MatchNames = (s : Setting) (p : Pattern) (v : Value) (bs cs : List Bound) → matched s p v bs ≡ Yes cs
    → (x : ℕ) → Contains (variables cs) x ↔ (Contains (pattern_names p) x ⊎ Contains (variables bs) x)

-- a guard, or a size in a pattern, with the values of all that is known put in, has no variable
abbrev pub TestsHaveNone : Type 0
TestsHaveNone = (ts : Trees) → AreTests ts → AreScoped [] ts → (x : ℕ) → one_mentions x ts ≡ false

-- a guard is scoped once what its patterns bound is put in
abbrev pub GuardsHaveValues : Type 0
GuardsHaveValues = (s : Setting) (ps : Patterns) (vs : Values) (bs : List Bound) (guard : Guard)
    → IsGuardScoped (patterns_names ps ++ []) guard → each_matched s ps vs [] ≡ Yes bs → IsGuardScoped [] (in_guard bs guard)

-- Where the variables that are known have values, the size of a segment is scoped once these are put in, and behind the segment its
-- own variable has a value too.
abbrev pub SizesHaveValues : Type 0
SizesHaveValues = (s : Setting) (typed : Typed) (target : Target) (size : Trees) (ss : Segments) (known : List ℕ) (bs : List Bound) (bits : List Bool)
    → ((x : ℕ) → Contains known x → Contains (variables bs) x) → AreSegmentsScoped known (segment typed target size ss)
    → AreScoped [] (puts_in bs size)
    × ((cs : List Bound) (rest : List Bool) → taken s typed target size bs bits ≡ Cut cs rest → (x : ℕ) → Contains (target_names target ++ known) x → Contains (variables cs) x)

-- where a bit pattern is scoped, its shape is
abbrev pub ShapeIsScoped : Type 0
ShapeIsScoped = (known : List ℕ) (ss : Segments) → AreSegmentsScoped known ss → AreSegmentsScoped known (shape ss)
