use Rattle.std.proofs.Common.{◌-◌, ◌≡◌, ◌≤◌}
use Rattle.bits_value.specs.Bits.{bit_list}
use Rattle.bits_value.specs.Number.{natural}
use Rattle.bits_value.proofs.ordering.order_runs.Given as goal

abbrev pub invariant-loop-done : goal.invariant-loop-done
invariant-loop-done l = record { within : l.done ≤ l.count; same : natural (bit_list l.left l.left_start l.done) ≡ natural (bit_list l.right l.right_start l.done) }

abbrev pub decreases-loop-done : goal.decreases-loop-done
decreases-loop-done l = l.count - l.done
