use Rattle.bits_value.proofs.BitLists.{length-bit_list}
use Rattle.bits_value.proofs.bits.Bits.of.Goals as goal

pub returns-clause-size : goal.returns-clause-size
returns-clause-size c = length-bit_list _ _ _
