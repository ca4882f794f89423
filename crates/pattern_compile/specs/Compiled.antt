-- The operation that is made of a segment, against which the code is proved (this project's own).
use Rattle.std.specs.Prelude.{Bool, true, false, List, map, Option, Some, None}
use Rattle.erl_syntax.specs.declared.typing.Typed.{Typed}
use Rattle.erl_syntax.specs.declared.typing.Kind.{Kind}
use Rattle.erl_syntax.specs.declared.typing.Kind.TheVariants as k
use Rattle.erl_syntax.specs.declared.typing.SizeUse.{SizeUse}
use Rattle.erl_syntax.specs.declared.typing.SizeUse.TheVariants as z
use Rattle.pattern_compile.specs.declared.pattern.Target.{Target}
use Rattle.pattern_compile.specs.declared.pattern.Target.TheVariants.{Bind, Same, Any}
use Rattle.pattern_compile.specs.declared.pattern.SizeForm.{SizeForm}
use Rattle.pattern_compile.specs.declared.pattern.SizeForm.TheVariants.{Fixed}
use Rattle.pattern_compile.specs.declared.pattern.PatSegment.{PatSegment}
use Rattle.pattern_compile.specs.declared.operation.SizedOperation.{SizedOperation}
use Rattle.pattern_compile.specs.declared.operation.SizedOperation.TheVariants.{Take, Skip, Compare}
use Rattle.pattern_compile.specs.declared.operation.Operation.{Operation}
use Rattle.pattern_compile.specs.declared.operation.Operation.TheVariants.{SizeOf, Rest, Utf}
use Rattle.pattern_compile.specs.Patterns.{shape_target}

abbrev pub then : Typed → Bool → Target → SizedOperation
then typed bits (Bind x) = Take typed.sign typed.endian bits x
then typed bits (Same want) = Compare typed.sign typed.endian bits want
then typed bits Any = Skip

abbrev pub form_or_none : Option SizeForm → SizeForm
form_or_none (Some form) = form
form_or_none None = Fixed 0

abbrev pub sized_by : SizeUse → Typed → Option SizeForm → Bool → Target → Operation
sized_by z.Given typed form bits target = SizeOf (form_or_none form) typed.unit (then typed bits target)
sized_by (z.Default n) typed form bits target = SizeOf (Fixed n) typed.unit (then typed bits target)
sized_by z.Whole typed form bits target = Rest typed.unit target
sized_by z.NoSize typed form bits target = Rest typed.unit target

abbrev pub sized : Typed → Option SizeForm → Bool → Target → Operation
sized typed form bits target = sized_by typed.size typed form bits target

abbrev pub compiled_by : Kind → Typed → Option SizeForm → Target → Operation
compiled_by k.Int typed form target = sized typed form false target
compiled_by k.Binary typed form target = sized typed form true target
compiled_by k.Bitstring typed form target = sized typed form true target
compiled_by (k.Utf kind) typed form target = Utf kind typed.endian target

-- with this target
abbrev pub compiled : Target → PatSegment → Operation
compiled target p = compiled_by p.typed.kind p.typed p.size target

abbrev pub compiled_all : List PatSegment → List Operation
compiled_all ps = map (λ (p : PatSegment). compiled p.target p) ps

-- of the pattern's shape
abbrev pub shaped_all : List PatSegment → List Operation
shaped_all ps = map (λ (p : PatSegment). compiled (shape_target p) p) ps
