-- That each value in an expression, a process or a machine has a property, and which properties contractions keep (this project's
-- own).
use Rattle.std.specs.Prelude.{◌≡◌, ℕ, ℤ, Bool, true, List, [], ◌∷◌, ◌++◌, take, drop, Option, Some, None, is_some}
use Rattle.bits_value.specs.Number.{bounded}
use Rattle.term_value.specs.Value.{Value, VInt, VAtom, VPid, VTuple, VList, VBits, Values, none, more, row}
use Rattle.term_value.specs.Result.{Result, Gives, Stops}
use Rattle.term_value.specs.Bounds.{is_within}
use Rattle.term_value.specs.Setting.{Setting}
use Rattle.term_value.specs.Primitives.{prim}
use Rattle.term_value.specs.Tree.{Bound, Row, Found, Skipped, RowLimit, Got, Items, Bits, Target, Anything, Variable, Equal, Prim, Tree, Val, Var, All, First, Choose, Receive, Gather, Trees, end, and, Shut, Then, Last, Alts, AndAlso, OrElse, Clauses, no_clause, clause, Guard, never, or, Quals, turn, give, from, test, Generator, InList, InBits, Levels, bottom, level, Pattern, PWild, PVar, PVal, PTuple, PList, PListOn, PBits, PSame, Patterns, no_pattern, pattern_and, Segments, no_segment, segment, Function, Module}
use Rattle.term_value.specs.Step.{Ask, SendTo, Show, Start}
use Rattle.term_value.specs.Local.{Local, Course, At, Fell, Contracts}
use Rattle.term_value.specs.Machine.{Process, Running, Over, Left, Machine, Leads, start_of}
use Rattle.term_value.specs.declared.entry.Entry.{Entry}

abbrev pub EachValue : (Value → Type 0) → Values → Type 0
EachValue P none = Unit {0}
EachValue P (more v vs) = P v × EachValue P vs

abbrev pub EachOf : (Value → Type 0) → List Value → Type 0
EachOf P [] = Unit {0}
EachOf P (v ∷ vs) = P v × EachOf P vs

abbrev pub EachBound : (Value → Type 0) → List Bound → Type 0
EachBound P [] = Unit {0}
EachBound P (b ∷ bs) = P b.value × EachBound P bs

abbrev pub InRow : (Value → Type 0) → Row → Type 0
InRow P (Found bs) = EachBound P bs
InRow P Skipped = Unit {0}
InRow P RowLimit = Unit {0}

abbrev pub EachRow : (Value → Type 0) → List Row → Type 0
EachRow P [] = Unit {0}
EachRow P (r ∷ rows) = InRow P r × EachRow P rows

abbrev pub InGot : (Value → Type 0) → Got → Type 0
InGot P (Items vs) = P (VList (row vs))
InGot P (Bits bits) = P (VBits bits)

abbrev pub InTarget : (Value → Type 0) → Target → Type 0
InTarget P Anything = Unit {0}
InTarget P (Variable x) = Unit {0}
InTarget P (Equal v) = P v

abbrev mutual
  pub InTree : (Value → Type 0) → Tree → Type 0
  InTree P (Val v) = P v
  InTree P (Var x) = Unit {0}
  InTree P (All form ts) = InTrees P ts
  InTree P (First t rest) = InTree P t × InShut P rest
  InTree P (Choose cs) = InClauses P cs
  InTree P (Receive cs) = InClauses P cs
  InTree P (Gather got now levels) = InGot P got × InQuals P now × InLevels P levels

  pub InTrees : (Value → Type 0) → Trees → Type 0
  InTrees P end = Unit {0}
  InTrees P (and t ts) = InTree P t × InTrees P ts

  pub InShut : (Value → Type 0) → Shut → Type 0
  InShut P (Then ps t) = InPatterns P ps × InTree P t
  InShut P (Last ps) = InPatterns P ps
  InShut P (Alts cs) = InClauses P cs
  InShut P (AndAlso t) = InTree P t
  InShut P (OrElse t) = InTree P t

  pub InClauses : (Value → Type 0) → Clauses → Type 0
  InClauses P no_clause = Unit {0}
  InClauses P (clause ps guard body cs) = InPatterns P ps × InGuard P guard × InTree P body × InClauses P cs

  pub InGuard : (Value → Type 0) → Guard → Type 0
  InGuard P never = Unit {0}
  InGuard P (or ts guard) = InTrees P ts × InGuard P guard

  pub InQuals : (Value → Type 0) → Quals → Type 0
  InQuals P turn = Unit {0}
  InQuals P (give t) = InTree P t
  InQuals P (from t g qs) = InTree P t × InGenerator P g × InQuals P qs
  InQuals P (test t qs) = InTree P t × InQuals P qs

  pub InGenerator : (Value → Type 0) → Generator → Type 0
  InGenerator P (InList p) = InPattern P p
  InGenerator P (InBits ss shape) = InSegments P ss × InSegments P shape

  pub InLevels : (Value → Type 0) → Levels → Type 0
  InLevels P bottom = Unit {0}
  InLevels P (level rows qs levels) = EachRow P rows × InQuals P qs × InLevels P levels

  pub InPattern : (Value → Type 0) → Pattern → Type 0
  InPattern P PWild = Unit {0}
  InPattern P (PVar x) = Unit {0}
  InPattern P (PVal v) = P v
  InPattern P (PTuple ps) = InPatterns P ps
  InPattern P (PList ps) = InPatterns P ps
  InPattern P (PListOn ps p) = InPatterns P ps × InPattern P p
  InPattern P (PBits ss) = InSegments P ss
  InPattern P (PSame ps) = InPatterns P ps

  pub InPatterns : (Value → Type 0) → Patterns → Type 0
  InPatterns P no_pattern = Unit {0}
  InPatterns P (pattern_and p ps) = InPattern P p × InPatterns P ps

  pub InSegments : (Value → Type 0) → Segments → Type 0
  InSegments P no_segment = Unit {0}
  InSegments P (segment typed target size ss) = InTarget P target × InTrees P size × InSegments P ss

abbrev pub EachFunction : (Value → Type 0) → List Function → Type 0
EachFunction P [] = Unit {0}
EachFunction P (f ∷ fs) = InClauses P f.clauses × EachFunction P fs

-- each literal of a module
abbrev pub InModule : (Value → Type 0) → Module → Type 0
InModule P code = EachFunction P code.functions

abbrev pub InCourse : (Value → Type 0) → Course → Type 0
InCourse P (At t) = InTree P t
InCourse P (Fell stop) = Unit {0}

-- each value in a process's expression, and each message that it has seen
abbrev pub InLocal : (Value → Type 0) → Local → Type 0
InLocal P l = InCourse P l.course × EachOf P l.seen

-- what is sent, displayed or handed over
abbrev pub InAsk : (Value → Type 0) → Ask → Type 0
InAsk P (SendTo to v) = P v
InAsk P (Show v) = P v
InAsk P (Start module_name function vs) = EachValue P vs

abbrev pub InProcess : (Value → Type 0) → Process → Type 0
InProcess P (Running local unseen) = InLocal P local × EachOf P unseen
InProcess P (Over how) = Unit {0}
InProcess P (Left how) = Unit {0}

abbrev pub EachProcess : (Value → Type 0) → List Process → Type 0
EachProcess P [] = Unit {0}
EachProcess P (p ∷ ps) = InProcess P p × EachProcess P ps

-- each literal of the module, each value in the processes that run, each message that they haven't seen, and what was displayed
pub record InMachine (P : Value → Type 0) (m : Machine) : Type 0 where
  pub code : InModule P m.code
  pub processes : EachProcess P m.processes
  pub shown : EachOf P m.shown

abbrev pub OfResult : (Value → Type 0) → Result → Type 0
OfResult P (Gives v) = P v
OfResult P (Stops stop) = Unit {0}

-- A property that contractions keep: atoms and pids have it, integers and bitstrings within the bounds, what operators and built-in
-- functions give of values that have it, what such a value consists of, and a list within the bounds with one item more.
pub record IsKept (P : Value → Type 0) : Type 0 where
  pub atoms : (a : ℕ) → P (VAtom a)
  pub pids : (p : ℕ) → P (VPid p)
  pub integers : (n : ℤ) → is_some (bounded n) ≡ true → P (VInt n)
  pub bits : (bits : List Bool) → is_within (VBits bits) ≡ true → P (VBits bits)
  pub fronts : (n : ℕ) (bits : List Bool) → P (VBits bits) → P (VBits (take n bits))
  pub backs : (n : ℕ) (bits : List Bool) → P (VBits bits) → P (VBits (drop n bits))
  pub tuples : (vs : Values) → P (VTuple vs) → EachValue P vs
  pub lists : (vs : Values) → P (VList vs) → EachValue P vs
  pub tails : (v : Value) (vs : Values) → P (VList (more v vs)) → P (VList vs)
  pub longer : (vs : List Value) (v : Value) → P (VList (row vs)) → P v → is_within (VList (row (vs ++ v ∷ []))) ≡ true → P (VList (row (vs ++ v ∷ [])))
  pub prims : (s : Setting) (p : Prim) (vs : Values) → EachValue P vs → OfResult P (prim s p vs)

-- every value in it is within the bounds
abbrev mutual
  pub IsBounded : Value → Type 0
  IsBounded (VTuple vs) = (is_within (VTuple vs) ≡ true) × AreBounded vs
  IsBounded (VList vs) = (is_within (VList vs) ≡ true) × AreBounded vs
  IsBounded (VInt n) = is_within (VInt n) ≡ true
  IsBounded (VAtom a) = Unit {0}
  IsBounded (VPid p) = Unit {0}
  IsBounded (VBits bits) = is_within (VBits bits) ≡ true

  pub AreBounded : Values → Type 0
  AreBounded none = Unit {0}
  AreBounded (more v vs) = IsBounded v × AreBounded vs

-- Contractions keep each value within the bounds, where the literals of the module are within them.
abbrev pub BoundsAreKept : Type 0
BoundsAreKept = (code : Module) (l k : Local) (cost made : ℕ) → InModule IsBounded code → InLocal IsBounded l → Contracts code l cost made k → InLocal IsBounded k

-- So do legal orders: each message, each argument of a process that is started, and each value that is displayed is within them.
abbrev pub OrdersKeepBounds : Type 0
OrdersKeepBounds = (m n : Machine) (entries : List Entry) → InMachine IsBounded m → Leads m entries n → InMachine IsBounded n

-- A machine at its start has no other values than the literals of its module.
abbrev pub StartIsBounded : Type 0
StartIsBounded = (code : Module) (reductions : ℕ) → InModule IsBounded code → InMachine IsBounded (start_of code reductions)
