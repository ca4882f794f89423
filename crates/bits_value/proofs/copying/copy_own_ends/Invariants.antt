use Rattle.std.proofs.Common.{◌-◌, ◌≡◌, ◌≤◌}
use lib.Seq.{paste}
use Rattle.bits_value.specs.Bits.{all_bits, bit_list}
use Rattle.bits_value.proofs.copying.copy_own_ends.Given as goal

abbrev pub invariant-loop-done : goal.invariant-loop-done
invariant-loop-done l = record {
  within : l.done ≤ l.count;
  written : all_bits l.target ≡ paste (all_bits l.initial.target) l.off (bit_list l.initial.target l.from l.done) l.done;
}

abbrev pub decreases-loop-done : goal.decreases-loop-done
decreases-loop-done l = l.count - l.done
