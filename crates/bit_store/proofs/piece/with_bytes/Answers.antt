use Rattle.std.proofs.Common.{arith}
use Rattle.bits_value.proofs.Written.{length-all_bits}
use Rattle.bit_store.proofs.Lengths.{past}
use Rattle.bit_store.proofs.piece.with_bytes.Goals as goal

pub returns-then-bytes-clause-is : goal.returns-then-bytes-clause-is
returns-then-bytes-clause-is c = past _ (omega (arith, length-all_bits c.args.bytes.now))

pub returns-else-bytes-clause-is : goal.returns-else-bytes-clause-is
returns-else-bytes-clause-is c = rw (length-all_bits c.args.bytes.now) c.with_bits.ensures.is
