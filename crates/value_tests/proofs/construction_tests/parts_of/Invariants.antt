use Rattle.std.proofs.Common.{◌≤◌, All, length}
use Rattle.bits_value.specs.declared.TheConstants.{MAX_BITS}
use Rattle.bits_build.specs.Parts.{HasPart}
use Rattle.value_tests.proofs.construction_tests.parts_of.Given as goal

abbrev pub invariant-loop-segment : goal.invariant-loop-segment
invariant-loop-segment l = All (HasPart (λ of. length of ≤ MAX_BITS)) l.parts.items
