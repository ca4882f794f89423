use Rattle.std.proofs.Common.{arith}
use Rattle.off_heap.proofs.Adopted.{placing_start, placing_next}
use Rattle.off_heap.proofs.heap.Heap.place.Goals as goal

pub loop-bits-init : goal.loop-bits-init
loop-bits-init c = record {
  placing = placing_start c.args.self.now c.args.pieces.now.items c.in_ok-places.places.items c.in_ok-places.ensures.items c.requires.short;
  room = omega (arith, c.in_ok-places.ensures.capacity, c.len.ensures);
  capacity = omega arith;
}

pub loop-bits-preserved : goal.loop-bits-preserved
loop-bits-preserved c = record {
  placing = placing_next c.args.self.now c.loop-bits.self c.add_still.new.self c.args.pieces.now.items c.loop-bits.pieces.items c.pop.new.self.items c.in-Some.bits c.loop-bits.places.items c.push_reserved.new.items.items c.in-Ok.place
      c.loop-bits.invariant.placing c.in-Some.ensures.items c.in-Ok.ensures.added c.add_still.ensures.keeps c.add_still.ensures.swept c.in-Ok.ensures.place c.push_reserved.ensures.items;
  room = omega (arith, c.loop-bits.invariant.room, c.push_reserved.ensures.capacity);
  capacity = omega (arith, c.loop-bits.invariant.capacity, c.pop.ensures.capacity);
}
