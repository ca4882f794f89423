use Rattle.std.proofs.Common.{◌++◌, List, Bool, ap, ◌∙◌, arith}
use Rattle.bits_value.proofs.Written.{length-all_bits}
use Rattle.off_heap.proofs.Written.{whole-bits}
use Rattle.off_heap.proofs.writing.write_bytes.Goals as goal

pub overflow_cast-bits : goal.overflow_cast-bits
overflow_cast-bits c = omega (arith, c.requires.short, length-all_bits c.args.bytes.now)

pub overflow_mul-bits : goal.overflow_mul-bits
overflow_mul-bits c = omega (arith, c.requires.short, length-all_bits c.args.bytes.now)

pub write-requires-clause-room : goal.write-requires-clause-room
write-requires-clause-room c = omega (arith, c.requires.space, c.of.ensures.size, length-all_bits c.args.bytes.now)

pub write-requires-clause-short : goal.write-requires-clause-short
write-requires-clause-short c = omega (arith, c.requires.short, c.of.ensures.size, length-all_bits c.args.bytes.now)

pub returns-clause-bits : goal.returns-clause-bits
returns-clause-bits c = c.write.ensures.added ∙ ap (λ (w : List Bool). c.args.room.now.bits ++ w) (whole-bits c.args.bytes.now c.of.result c.of.ensures.is)

pub returns-clause-ticks : goal.returns-clause-ticks
returns-clause-ticks c = rw (← (whole-bits c.args.bytes.now c.of.result c.of.ensures.is)) c.write.ensures.ticks
