use Rattle.std.proofs.Common.{◌-◌, ◌/◌, ◌^◌, ◌≡◌, ◌≤◌}
use lib.Seq.{paste}
use Rattle.bits_value.specs.Bits.{all_bits}
use Rattle.bits_value.specs.Number.{big_bits, residue}
use Rattle.bits_value.proofs.writing.put_big.Given as goal

abbrev pub invariant-loop-done : goal.invariant-loop-done
invariant-loop-done l = record {
  within : l.done ≤ l.bits;
  written : all_bits l.target ≡ paste (all_bits l.initial.target) l.off (big_bits l.done (residue l.bits l.value / 2 ^ (l.bits - l.done))) l.done;
}

abbrev pub decreases-loop-done : goal.decreases-loop-done
decreases-loop-done l = l.bits - l.done
