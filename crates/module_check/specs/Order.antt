-- The fault that is told: the one that starts first, and at one place the one whose cause stands first.
use Rattle.std.specs.Prelude.{◌≡◌, ℕ, ◌<◌, ◌≤◌, Bool, true, false, List, Option, Some, None, ◌⊎◌}
use Rattle.std.specs.List.{Contains}
use Rattle.erl_syntax.specs.Checking.{IsBefore}
use Rattle.erl_syntax.specs.declared.span.Span.{Span}
use Rattle.erl_syntax.specs.declared.typing.SegFault.{SegFault}
use Rattle.erl_syntax.specs.declared.typing.SegFault.TheVariants as f
use Rattle.erl_syntax.specs.declared.checking.CheckCause.{CheckCause}
use Rattle.erl_syntax.specs.declared.checking.CheckCause.TheVariants as c
use Rattle.erl_syntax.specs.declared.checking.CheckFault.{CheckFault}

abbrev pub segment_rank : SegFault → ℕ
segment_rank f.TwoOfAKind = 0
segment_rank f.UnitRange = 1
segment_rank f.FloatType = 2
segment_rank f.SizeOnUtf = 3
segment_rank f.UnitOnUtf = 4
segment_rank f.UnitWithoutSize = 5
segment_rank f.StringType = 6
segment_rank f.OpenNotLast = 7
segment_rank f.OpenInGenerator = 8

-- where a cause stands in the order of the causes
abbrev pub rank : CheckCause → ℕ
rank (c.Segment e) = segment_rank e
rank c.ModuleAgain = 9
rank c.HeadsDiffer = 10
rank c.FunctionAgain = 11
rank c.ExportMissing = 12
rank c.UndefinedFunction = 13
rank c.CallInGuard = 14
rank c.UnboundVariable = 15
rank c.UnsafeVariable = 16
rank c.NoModule = 17
rank c.NoMain = 18
rank c.NoMemory = 19

-- the first of the two is told, or they are one
abbrev pub NotAfter : Span → CheckCause → Span → CheckCause → Type 0
NotAfter at why az other = IsBefore at az ⊎ ((at ≡ az) × (rank why ≤ rank other))

-- the one of two faults that is told, where there is one
abbrev pub IsFirstOf : Option CheckFault → Option CheckFault → Option CheckFault → Type 0
IsFirstOf None b r = r ≡ b
IsFirstOf (Some a) None r = r ≡ Some a
IsFirstOf (Some a) (Some b) r = ((r ≡ Some a) × NotAfter a.span a.why b.span b.why) ⊎ ((r ≡ Some b) × NotAfter b.span b.why a.span a.why)

-- the fault that is told of those that hold, or none where none holds
abbrev pub IsLeast : (Span → CheckCause → Type 0) → Option CheckFault → Type 0
IsLeast Holds None = (at : Span) (why : CheckCause) → Holds at why → ⊥
IsLeast Holds (Some a) = Holds a.span a.why × ((az : Span) (other : CheckCause) → Holds az other → NotAfter a.span a.why az other)

-- what holds of some element of a list
abbrev pub Some_of : {X : Type 0} → (X → Span → CheckCause → Type 0) → List X → Span → CheckCause → Type 0
Some_of {X} Of xs at why = (x : X) × (Contains xs x × Of x at why)

-- the one or the other
abbrev pub Either : (Span → CheckCause → Type 0) → (Span → CheckCause → Type 0) → Span → CheckCause → Type 0
Either P Q at why = P at why ⊎ Q at why

-- what holds of some number below another
abbrev pub Below : (ℕ → Span → CheckCause → Type 0) → ℕ → Span → CheckCause → Type 0
Below Of n at why = (k : ℕ) × ((k < n) × Of k at why)

-- a fault of this cause stands here
abbrev pub At : Span → CheckCause → Span → CheckCause → Type 0
At az other at why = (az ≡ at) × (other ≡ why)

-- the fault of this cause at this place, where it holds
abbrev pub fault_if : Bool → Span → CheckCause → Option CheckFault
fault_if true span why = Some (record { span = span; why = why })
fault_if false span why = None
