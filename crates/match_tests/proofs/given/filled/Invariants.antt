use Rattle.std.proofs.Common.{◌≤◌, length}
use Rattle.bits_value.specs.declared.TheConstants.{MAX_BITS}
use Rattle.match_context.specs.Envs.{AreThere}
use Rattle.match_tests.specs.Held.{held_in}
use Rattle.match_tests.proofs.given.filled.Given as goal

abbrev pub invariant-loop-binding : goal.invariant-loop-binding
invariant-loop-binding l = AreThere (λ of. length of ≤ MAX_BITS) (held_in l.slots.values.items)
