use Rattle.std.proofs.Common.{◌-◌, ◌≡◌, ◌≤◌}
use Rattle.bits_value.specs.Bits.{bit_list}
use Rattle.bits_value.specs.Number.{natural}
use Rattle.bits_value.specs.Parts.{fill}
use Rattle.bits_value.proofs.reading.all_are.Given as goal

abbrev pub invariant-loop-done : goal.invariant-loop-done
invariant-loop-done l = record { within : l.done ≤ l.count; alike : natural (bit_list l.bytes l.start l.done) ≡ fill l.bit l.done }

abbrev pub decreases-loop-done : goal.decreases-loop-done
decreases-loop-done l = l.count - l.done
