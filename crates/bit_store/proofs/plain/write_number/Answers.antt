use Rattle.std.proofs.Common.{arith, SFits}
use Rattle.std.specs.Int.{w128}
use Rattle.std.proofs.lemmas.Int.{to_z-of_z}
use Rattle.bits_value.proofs.Spellings.{length-spell}
use Rattle.bits_value.proofs.Written.{length-all_bits}
use Rattle.bits_value.specs.Bits.{all_bits}
use Rattle.bits_value.specs.Number.{spell}
use Rattle.bit_store.proofs.WrittenBits.{front_written}
use Rattle.bit_store.proofs.plain.write_number.Goals as goal

pub returns-clause-bits : goal.returns-clause-bits
returns-clause-bits c =
    let fits : SFits w128 c.args.value = c.ranges.value in
    let done = simp to_z-of_z at c.put.ensures in
    front_written (all_bits c.put.new.target) (all_bits c.args.target.now) (spell c.args.bits c.args.value c.args.endian) c.args.at c.args.bits
    (omega (arith, length-all_bits c.args.target.now, c.requires.room)) (length-spell c.args.bits c.args.value c.args.endian) done
