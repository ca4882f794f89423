use Rattle.std.proofs.Common.{◌≡◌, ◌*◌}
use Rattle.bits_value.specs.Bits.{bit_list}
use Rattle.bits_value.specs.Number.{natural}
use Rattle.bits_value.proofs.reading.whole_word.Given as goal

abbrev pub invariant-loop-k : goal.invariant-loop-k
invariant-loop-k l = l.sum ≡ natural (bit_list l.bytes (8 * l.first) (8 * l.k))
