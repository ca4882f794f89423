use Rattle.std.proofs.Common.{sym}
use Rattle.bits_value.proofs.BitLists.{length-bit_list}
use Rattle.bits_value.proofs.bits.Bits.len.Goals as goal

pub returns : goal.returns
returns c = rw (← c.self.view_is) (sym (length-bit_list _ _ _))
