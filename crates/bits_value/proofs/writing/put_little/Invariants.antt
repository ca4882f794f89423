use Rattle.std.proofs.Common.{◌-◌, ◌%◌, ◌≡◌, ◌≤◌, ◌<◌}
use lib.Seq.{paste}
use Rattle.bits_value.specs.Bits.{all_bits}
use Rattle.bits_value.specs.Number.{little_bits, residue}
use Rattle.bits_value.proofs.writing.put_little.Given as goal

abbrev pub invariant-loop-done : goal.invariant-loop-done
invariant-loop-done l = record {
  within : l.done ≤ l.bits;
  groups : l.done < l.bits → l.done % 8 ≡ 0;
  written : all_bits l.target ≡ paste (all_bits l.initial.target) l.off (little_bits l.done (residue l.bits l.value)) l.done;
}

abbrev pub decreases-loop-done : goal.decreases-loop-done
decreases-loop-done l = l.bits - l.done
