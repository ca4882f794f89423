-- Places behind operations, and what these find (this project's own).
use Rattle.std.specs.Prelude.{◌≡◌, ℕ, ℤ, ◌≤◌, Bool, false, List, length, drop, Option, Some, None}
use Rattle.bit_store.specs.Stores.{AnyAtom}
use Rattle.bits_build.specs.Extents.{IsExtent}
use Rattle.bits_value.specs.Number.{bounded}
use Rattle.erl_syntax.specs.declared.typing.SizeUse.{SizeUse}
use Rattle.erl_syntax.specs.declared.typing.SizeUse.TheVariants as z
use Rattle.pattern_compile.specs.declared.pattern.SizeForm.{SizeForm}
use Rattle.segment_cut.specs.declared.value.CutOff.{CutOff}
use Rattle.segment_cut.specs.declared.value.CutValue.{CutValue}
use Rattle.segment_cut.specs.declared.value.CutValue.TheVariants as c
use Rattle.term_value.specs.Decode.{Taken, Cut, NoCut, CutLimit, bound_to}
use Rattle.term_value.specs.Extent as e
use Rattle.term_value.specs.Seen.{Seen}
use Rattle.term_value.specs.Terms.{value_of, IsOver}
use Rattle.term_value.specs.Tree as t
use Rattle.term_value.specs.Value.{Value, VInt, VBits}
use Rattle.term_value.specs.declared.term.Term.TheVariants.{Int, Bits}
use Rattle.pattern_compile.specs.declared.pattern.Target.{Target}
use Rattle.pattern_compile.specs.declared.pattern.Target.TheVariants.{Bind}
use Rattle.pattern_compile.specs.Patterns.{binds, also}
use Rattle.match_context.specs.Envs.{Agrees}
use Rattle.match_context.specs.declared.matching.Place.{Place}
use Rattle.match_context.specs.declared.matching.Place.TheVariants as p
use Rattle.match_context.specs.declared.found.Found.{Found}
use Rattle.match_context.specs.declared.found.Found.TheVariants as f
use Rattle.match_context.specs.declared.found.Reached.{Reached}
use Rattle.match_context.specs.declared.found.Reached.TheVariants as r

-- what is taken off the bits, up to a place
abbrev pub IsPlace : {R : Type 0} → (R → List Bool) → (ℕ → Option (Seen R)) → List Bool → Taken → Place → Type 0
IsPlace shown held all due (p.At at) = (bs : List t.Bound) × (due ≡ Cut bs (drop at all)) × Agrees shown held bs
IsPlace shown held all due p.Nowhere = due ≡ NoCut
IsPlace shown held all due p.Limit = due ≡ CutLimit
IsPlace shown held all due p.NoMemory = Unit {0}

-- a place in the bits
abbrev pub IsIn : List Bool → Place → Type 0
IsIn all (p.At at) = at ≤ length all
IsIn all p.Nowhere = Unit {0}
IsIn all p.Limit = Unit {0}
IsIn all p.NoMemory = Unit {0}

-- which variables are bound at the place
abbrev pub BindsAlso : (ℕ → Bool) → (ℕ → Bool) → Target → Place → Type 0
BindsAlso old new target (p.At at) = (x : ℕ) → new x ≡ also old target x
BindsAlso old new target p.Nowhere = Unit {0}
BindsAlso old new target p.Limit = Unit {0}
BindsAlso old new target p.NoMemory = Unit {0}

-- what an operation takes off under bindings
abbrev pub IsFound : {R : Type 0} → (R → List Bool) → List t.Bound → List Bool → Taken → Found R → Type 0
IsFound shown bs all due (f.Passed next) = due ≡ Cut bs (drop next all)
IsFound shown bs all due (f.Bound x value next) = due ≡ Cut (bound_to x (value_of shown value) bs) (drop next all)
IsFound shown bs all due f.Nowhere = due ≡ NoCut
IsFound shown bs all due f.Limit = due ≡ CutLimit
IsFound shown bs all due f.NoMemory = Unit {0}

-- the place is in the bits, and the value's reference is there
abbrev pub IsFoundIn : {R : Type 0} → (R → Type 0) → List Bool → Found R → Type 0
IsFoundIn has all (f.Passed next) = next ≤ length all
IsFoundIn has all (f.Bound x value next) = (next ≤ length all) × IsOver has AnyAtom value
IsFoundIn has all f.Nowhere = Unit {0}
IsFoundIn has all f.Limit = Unit {0}
IsFoundIn has all f.NoMemory = Unit {0}

-- a value is for the variable that the target binds, and nothing else is passed where it binds one
abbrev pub IsFor : {R : Type 0} → Target → Found R → Type 0
IsFor target (f.Passed next) = (x : ℕ) → binds target x ≡ false
IsFor target (f.Bound x value next) = target ≡ Bind x
IsFor target f.Nowhere = Unit {0}
IsFor target f.Limit = Unit {0}
IsFor target f.NoMemory = Unit {0}

-- how many bits are to be taken
abbrev pub IsReached : Option e.Extent → Reached → Type 0
IsReached due (r.Bits found) = (extent : e.Extent) × (due ≡ Some extent) × IsExtent extent found
IsReached due r.Limit = due ≡ None
IsReached due r.NoMemory = Unit {0}

-- the extent that was told is that of some segment
abbrev pub HasExtent : Reached → Type 0
HasExtent (r.Bits found) = (extent : e.Extent) × IsExtent extent found
HasExtent r.Limit = Unit {0}
HasExtent r.NoMemory = Unit {0}

-- a segment with a size has a type that says so
abbrev pub HasGiven : Option SizeForm → SizeUse → Type 0
HasGiven (Some form) size = size ≡ z.Given
HasGiven None size = Unit {0}

-- the reference of a part is there
abbrev pub HasCut : {R : Type 0} → (R → Type 0) → CutValue R → Type 0
HasCut has (c.Part of) = has of
HasCut has (c.Number n) = Unit {0}
HasCut has c.LongNumber = Unit {0}

-- what was cut off has this value: a number within the bound, one outside, or the bits of a reference
abbrev pub IsValueOf : {R : Type 0} → (R → List Bool) → Value → CutValue R → Type 0
IsValueOf shown v (c.Number n) = (v ≡ VInt n) × (bounded n ≡ Some n)
IsValueOf shown v c.LongNumber = (n : ℤ) × (v ≡ VInt n) × (bounded n ≡ None)
IsValueOf shown v (c.Part of) = v ≡ VBits (shown of)

-- the value of what was cut off, to which a variable is bound
abbrev pub bound_value : {R : Type 0} → ℕ → CutValue R → ℕ → Found R
bound_value x (c.Number n) next = f.Bound x (Int n) next
bound_value x c.LongNumber next = f.Limit
bound_value x (c.Part of) next = f.Bound x (Bits of) next

abbrev pub bound_found : {R : Type 0} → ℕ → CutOff R → Found R
bound_found x off = bound_value x off.value off.next
