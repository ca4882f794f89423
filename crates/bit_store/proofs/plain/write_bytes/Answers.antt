use Rattle.std.proofs.Common.{arith}
use Rattle.bits_value.specs.Bits.{all_bits}
use Rattle.bits_value.proofs.Written.{length-all_bits}
use Rattle.bit_store.proofs.WrittenBits.{bytes_written}
use Rattle.bit_store.proofs.plain.write_bytes.Goals as goal

pub overflow_cast-bits : goal.overflow_cast-bits
overflow_cast-bits c = let r = c.requires.short in omega (arith, length-all_bits c.args.bytes.now)

pub overflow_mul-bits : goal.overflow_mul-bits
overflow_mul-bits c = let r = c.requires.short in omega (arith, length-all_bits c.args.bytes.now)

pub copy_bits-requires : goal.copy_bits-requires
copy_bits-requires c = record { inside = omega (arith, length-all_bits c.args.bytes.now, c.of.ensures.size, c.requires.room) }

pub overflow_add-result : goal.overflow_add-result
overflow_add-result c = let r = c.requires.short in omega (arith, length-all_bits c.args.bytes.now)

pub returns-clause-end : goal.returns-clause-end
returns-clause-end c = omega (arith, length-all_bits c.args.bytes.now)

pub returns-clause-bits : goal.returns-clause-bits
returns-clause-bits c = bytes_written (all_bits c.copy_bits.new.target) (all_bits c.args.target.now) c.args.bytes.now c.of.result c.args.at
    (omega (arith, length-all_bits c.args.bytes.now, length-all_bits c.args.target.now, c.requires.room)) c.of.ensures.is c.of.ensures.size c.copy_bits.ensures
