use Rattle.std.proofs.Common.{◌≡◌, ◌*◌}
use lib.Seq.{paste}
use Rattle.bits_value.specs.Bits.{all_bits, bit_list}
use Rattle.bits_value.proofs.copying.copy_shifted.Given as goal

abbrev pub invariant-loop-i : goal.invariant-loop-i
invariant-loop-i l = all_bits l.target ≡ paste (all_bits l.initial.target) l.off (bit_list l.source l.from (8 * l.i)) (8 * l.i)
