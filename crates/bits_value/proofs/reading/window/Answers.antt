use Rattle.std.proofs.Common.{◌∙◌, sym, arith}
use Rattle.bits_value.proofs.BitLists.{natural-window}
use Rattle.bits_value.proofs.Gathered.{masked}
use Rattle.bits_value.proofs.reading.window.Goals as goal

pub returns : goal.returns
returns c = masked _ _ (omega arith) ∙ sym (natural-window c.args.bytes.now c.args.at c.args.count c.requires.one_byte)
