use Rattle.std.proofs.Common.{sym, ◌∙◌, arith}
use Rattle.std.proofs.lemmas.List.Edits.{paste_all}
use Rattle.bits_value.specs.Bits.{all_bits, bit_list}
use Rattle.bits_value.proofs.BitLists.{length-bit_list}
use Rattle.bits_value.proofs.Written.{bit_list-cut}
use Rattle.bits_value.proofs.copying.copy_own.Goals as goal

pub returns : goal.returns
returns c =
    let cut = bit_list-cut c.args.target.now c.args.from c.args.bits (omega arith) in
    c.copy_own_run.ensures ∙ rw (← cut) (paste_all (all_bits c.args.target.now) c.args.off (bit_list c.args.target.now c.args.from c.args.bits) c.args.bits (sym (length-bit_list c.args.target.now c.args.from c.args.bits)))
