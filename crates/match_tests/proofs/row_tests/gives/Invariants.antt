use Rattle.std.proofs.Common.{◌≤◌, length}
use Rattle.bits_value.specs.declared.TheConstants.{MAX_BITS}
use Rattle.bit_store.specs.Stores.{itself}
use Rattle.comprehension.specs.Remaining.{IsRows}
use Rattle.match_context.specs.Envs.{AreThere}
use Rattle.match_tests.specs.Held.{held_in}
use Rattle.match_tests.proofs.row_tests.gives.Given as goal

abbrev pub invariant-loop-row : goal.invariant-loop-row
invariant-loop-row l = record {
  rows : IsRows itself (λ of. length of ≤ MAX_BITS) l.left;
  there : AreThere (λ of. length of ≤ MAX_BITS) (held_in l.slots.values.items);
}
