use Rattle.bits_build.proofs.Segments.{part_extent, of_bits}
use Rattle.bits_build.proofs.segment.bits_of.Goals as goal

pub returns-in-Bits : goal.returns-in-Bits
returns-in-Bits g c =
    rw (of_bits (g.S.Store.shown c.args.store.now) c.args.part.now c.in-Bits.of c.in-Bits.is)
    (c.bitstring.ensures (part_extent (g.S.Store.shown c.args.store.now) c.args.part.now) (c.extent_of.ensures.is (g.S.Store.shown c.args.store.now)))
