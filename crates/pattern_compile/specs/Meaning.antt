-- What a bit pattern and a program mean: the segments of the definitions, where `trees` has the size expression of each number
-- (this project's own; segments: Erlang Reference Manual, "Bit Syntax Expressions").
use Rattle.std.specs.Prelude.{◌≡◌, ℕ, pos, Bool, true, false, List, [], ◌∷◌, Option, Some, None}
use Rattle.bits_value.specs.declared.Sign.TheVariants.{Unsigned}
use Rattle.bits_value.specs.declared.Endian.TheVariants.{Big}
use Rattle.erl_syntax.specs.declared.typing.Typed.{Typed}
use Rattle.erl_syntax.specs.declared.typing.Kind.{Kind}
use Rattle.erl_syntax.specs.declared.typing.Kind.TheVariants as k
use Rattle.erl_syntax.specs.declared.typing.SizeUse.TheVariants as z
use Rattle.term_value.specs.Value.{VInt}
use Rattle.term_value.specs.Setting.{Setting}
use Rattle.term_value.specs.Match.{all_taken}
use Rattle.term_value.specs.Tree as t
use Rattle.pattern_compile.specs.declared.pattern.Want.TheVariants.{Literal, Var}
use Rattle.pattern_compile.specs.declared.pattern.Target.{Target}
use Rattle.pattern_compile.specs.declared.pattern.Target.TheVariants.{Bind, Same, Any}
use Rattle.pattern_compile.specs.declared.pattern.SizeForm.{SizeForm}
use Rattle.pattern_compile.specs.declared.pattern.SizeForm.TheVariants.{Fixed, Given}
use Rattle.pattern_compile.specs.declared.pattern.PatSegment.{PatSegment}
use Rattle.pattern_compile.specs.declared.operation.SizedOperation.{SizedOperation}
use Rattle.pattern_compile.specs.declared.operation.SizedOperation.TheVariants.{Take, Skip, Compare}
use Rattle.pattern_compile.specs.declared.operation.Operation.{Operation}
use Rattle.pattern_compile.specs.declared.operation.Operation.TheVariants.{SizeOf, Rest, Utf}

-- a variable that is bound already is compared
abbrev pub target_of : Target → t.Target
target_of (Bind x) = t.Variable x
target_of (Same (Literal n)) = t.Equal (VInt n)
target_of (Same (Var x)) = t.Variable x
target_of Any = t.Anything

abbrev pub size_of : (ℕ → t.Tree) → SizeForm → t.Tree
size_of trees (Fixed n) = t.Val (VInt (pos n))
size_of trees (Given e) = trees e

-- the size, where there is one
abbrev pub sizes_of : (ℕ → t.Tree) → Option SizeForm → t.Trees
sizes_of trees None = t.end
sizes_of trees (Some size) = t.and (size_of trees size) t.end

-- the segments of a pattern
abbrev pub segments_of : (ℕ → t.Tree) → List PatSegment → t.Segments
segments_of trees [] = t.no_segment
segments_of trees (p ∷ ps) = t.segment p.typed (target_of p.target) (sizes_of trees p.size) (segments_of trees ps)

-- a part of bits, or a number
abbrev pub kind_of : Bool → Kind
kind_of true = k.Bitstring
kind_of false = k.Int

-- the type of the segment that an operation takes
abbrev pub sized_typed : ℕ → SizedOperation → Typed
sized_typed unit (Take sign endian bits var) = record { kind = kind_of bits; sign = sign; endian = endian; size = z.Given; unit = unit }
sized_typed unit Skip = record { kind = k.Bitstring; sign = Unsigned; endian = Big; size = z.Given; unit = unit }
sized_typed unit (Compare sign endian bits want) = record { kind = kind_of bits; sign = sign; endian = endian; size = z.Given; unit = unit }

abbrev pub typed_of : Operation → Typed
typed_of (SizeOf size unit then) = sized_typed unit then
typed_of (Rest unit target) = record { kind = k.Bitstring; sign = Unsigned; endian = Big; size = z.Whole; unit = unit }
typed_of (Utf kind endian target) = record { kind = k.Utf kind; sign = Unsigned; endian = endian; size = z.NoSize; unit = 1 }

-- what an operation wants
abbrev pub sized_wants : SizedOperation → Target
sized_wants (Take sign endian bits var) = Bind var
sized_wants Skip = Any
sized_wants (Compare sign endian bits want) = Same want

abbrev pub wants : Operation → Target
wants (SizeOf size unit then) = sized_wants then
wants (Rest unit target) = target
wants (Utf kind endian target) = target

abbrev pub size_form : Operation → Option SizeForm
size_form (SizeOf size unit then) = Some size
size_form (Rest unit target) = None
size_form (Utf kind endian target) = None

-- the segments that a program means, one for each operation
abbrev pub means : (ℕ → t.Tree) → List Operation → t.Segments
means trees [] = t.no_segment
means trees (op ∷ ops) = t.segment (typed_of op) (target_of (wants op)) (sizes_of trees (size_form op)) (means trees ops)

-- segments that take the same off the front of any bits, with the same bindings
abbrev pub TakeAlike : t.Segments → t.Segments → Type 0
TakeAlike one other = (s : Setting) (bs : List t.Bound) (bits : List Bool) → all_taken s one bs bits ≡ all_taken s other bs bits
