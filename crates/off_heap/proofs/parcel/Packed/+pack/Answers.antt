use Rattle.std.proofs.Common.{◌≡◌, ap, sym, subst, ◌∙◌, arith}
use Rattle.std.proofs.lemmas.Result.{on_ok_weaker}
use Rattle.bit_store.specs.Stores.{AnyAtom}
use Rattle.term_value.specs.Seen.{weights_of, count_of, meanings, AreKnown}
use Rattle.term_value.specs.Terms.{row, row_of}
use Rattle.term_value.proofs.Measures.{counts}
use Rattle.term_value.proofs.RowLemmas.{row_length}
use Rattle.off_heap.specs.Cells.{Valid, shown}
use Rattle.off_heap.specs.Packing.{IsPacking}
use Rattle.off_heap.proofs.Packed.{packing_step, packed_longer, packed_tuple, packed_list, empty_row}
use Rattle.off_heap.proofs.parcel.Packed.+pack.Goals as goal

pub push_tuple-loop-item-preserved : goal.push_tuple-loop-item-preserved
push_tuple-loop-item-preserved t c =
    let e = ap row c.in-Some.ensures.cases.0 in
    let sh = shown c.args.heap.now.cells in
    record {
      over = (subst (AreKnown (Valid c.args.heap.now.cells) AnyAtom) e c.loop-item.invariant.over).1;
      light = omega (arith, ap weights_of e, c.loop-item.invariant.light);
      packing = packing_step _ _ _ _ _ _ _ _ _ _ (ap (meanings sh) e) c.loop-item.invariant.packing c.in_ok-push_term.ensures;
    }

pub push_tuple-returns : goal.push_tuple-returns
push_tuple-returns t c =
    let sh = shown c.args.heap.now.cells in
    let n = sym (counts sh (row c.args.items.now) ∙ row_length c.args.items.now) in
    on_ok_weaker c.push.result
    (λ nodes. packed_tuple _ _ _ _ _ _ _ n
    (subst (IsPacking c.args.self.now c.loop-item.self c.args.steps.now.moved c.loop-item.steps.moved (meanings sh (row c.args.items.now))) (ap (meanings sh) (empty_row c.loop-item.left.now c.in_default.ensures.cases)) c.loop-item.invariant.packing)
    nodes c.push.ensures.pieces)
    c.push.ensures.nodes

pub push_list-loop-item-preserved : goal.push_list-loop-item-preserved
push_list-loop-item-preserved t c =
    let e = c.in-Some.ensures in
    let sh = shown c.args.heap.now.cells in
    let few = c.loop-item.invariant.few in
    record {
      over = (subst (AreKnown (Valid c.args.heap.now.cells) AnyAtom) e c.loop-item.invariant.over).1;
      light = omega (arith, ap weights_of e, c.loop-item.invariant.light);
      counted = omega (arith, ap count_of e, c.loop-item.invariant.counted);
      few = omega (arith, few, packed_longer _ _ _ _ _ c.in_ok-push_term.ensures);
      packing = packing_step _ _ _ _ _ _ _ _ _ _ (ap (meanings sh) e) c.loop-item.invariant.packing c.in_ok-push_term.ensures;
    }

pub push_list-returns : goal.push_list-returns
push_list-returns t c =
    let sh = shown c.args.heap.now.cells in
    let e = c.in_default.ensures in
    let n : c.loop-item.count ≡ count_of (row_of c.args.items.now) = omega (arith, ap count_of e, c.loop-item.invariant.counted) in
    on_ok_weaker c.push.result
    (λ nodes. packed_list _ _ _ _ _ _ _ (n ∙ sym (counts sh (row_of c.args.items.now)))
    (subst (IsPacking c.args.self.now c.loop-item.self c.args.steps.now.moved c.loop-item.steps.moved (meanings sh (row_of c.args.items.now))) (ap (meanings sh) e) c.loop-item.invariant.packing)
    nodes c.push.ensures.pieces)
    c.push.ensures.nodes
