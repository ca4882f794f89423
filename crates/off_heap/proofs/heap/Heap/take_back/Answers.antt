use Rattle.std.proofs.Common.{ℕ, ◌+◌, ◌<◌, get_or, [], ◌∷◌, ap, arith, length}
use Rattle.std.proofs.lemmas.List.{length-append}
use Rattle.off_heap.proofs.Adopted.{back_start, back_still, back_next, back_end}
use Rattle.off_heap.proofs.heap.Heap.take_back.Goals as goal

pub loop-i-init : goal.loop-i-init
loop-i-init c = record {
  taken = λ first parts e f. back_start first c.args.self.now parts c.args.pieces.now.items f;
  room = omega (arith, c.requires.room);
  capacity = omega arith;
}

pub take_front-requires : goal.take_front-requires
take_front-requires c =
    let p = c.requires.placed in
    let t = c.loop-i.invariant.taken p.0 p.1.0 p.1.1.0 p.1.1.1 in
    let n = p.1.1.0 in
    (get_or p.1.0 c.loop-i.i [], back_still p.0 c.loop-i.self p.1.0 c.args.pieces.now.items c.loop-i.pieces.items c.loop-i.i (omega (arith, n)) t)

pub loop-i-preserved : goal.loop-i-preserved
loop-i-preserved c = record {
  taken = λ first parts e f. back_next first c.loop-i.self c.take_front.new.self parts c.args.pieces.now.items c.loop-i.pieces.items c.push_reserved.new.items.items c.loop-i.i c.take_front.result (omega (arith, e))
      (c.loop-i.invariant.taken first parts e f) c.take_front.ensures.bits c.take_front.ensures.there c.take_front.ensures.gone c.take_front.ensures.others c.take_front.ensures.fewer c.take_front.ensures.swept c.push_reserved.ensures.items;
  room = omega (arith, ap length c.push_reserved.ensures.items, length-append c.loop-i.pieces.items (c.take_front.result ∷ []), c.push_reserved.new.items.ok.0, c.loop-i.pieces.ok.0, c.loop-i.invariant.room, c.push_reserved.ensures.capacity, c.loop-i-test.true);
  capacity = omega (arith, c.loop-i.invariant.capacity, c.push_reserved.ensures.capacity);
}

pub returns-clause-pieces : goal.returns-clause-pieces
returns-clause-pieces c = λ first parts e f. (back_end first c.loop-i.self parts c.args.pieces.now.items c.loop-i.pieces.items c.loop-i.i (omega (arith, e)) (c.loop-i.invariant.taken first parts e f)).1

pub returns-clause-stands : goal.returns-clause-stands
returns-clause-stands c = λ first parts e f. (back_end first c.loop-i.self parts c.args.pieces.now.items c.loop-i.pieces.items c.loop-i.i (omega (arith, e)) (c.loop-i.invariant.taken first parts e f)).0
