use Rattle.std.proofs.Common.{◌≡◌, ◌+◌, ◌*◌, ◌≤◌, length}
use Rattle.bit_store.specs.Stores.{AnyAtom}
use Rattle.term_value.specs.Seen.{weight_of, weights_of, count_of, meanings, AreKnown}
use Rattle.term_value.specs.Terms.{seen, row_of, row}
use Rattle.off_heap.specs.Cells.{Valid, shown}
use Rattle.off_heap.specs.Packing.{IsPacking}
use Rattle.off_heap.proofs.parcel.Packed.+pack.Given as goal

abbrev pub decreases-push_term : goal.decreases-push_term
decreases-push_term l = 2 * weight_of (seen l.term.now)

abbrev pub decreases-push_tuple : goal.decreases-push_tuple
decreases-push_tuple l = 2 * weights_of (row l.items.now) + 1

abbrev pub decreases-push_list : goal.decreases-push_list
decreases-push_list l = 2 * weights_of (row_of l.items.now) + 1

abbrev pub invariant-push_tuple-loop-item : goal.invariant-push_tuple-loop-item
invariant-push_tuple-loop-item l = record {
  over : AreKnown (Valid l.heap.cells) AnyAtom (row l.left);
  light : weights_of (row l.left) ≤ weights_of (row l.items);
  packing : IsPacking l.initial.self l.self l.initial.steps.moved l.steps.moved (meanings (shown l.heap.cells) (row l.items)) (meanings (shown l.heap.cells) (row l.left));
}

abbrev pub decreases-push_tuple-loop-item : goal.decreases-push_tuple-loop-item
decreases-push_tuple-loop-item l = length l.left

abbrev pub invariant-push_list-loop-item : goal.invariant-push_list-loop-item
invariant-push_list-loop-item l = record {
  over : AreKnown (Valid l.heap.cells) AnyAtom (row_of l.left);
  light : weights_of (row_of l.left) ≤ weights_of (row_of l.items);
  counted : l.count + count_of (row_of l.left) ≡ count_of (row_of l.items);
  few : l.count ≤ length l.self.nodes.items;
  packing : IsPacking l.initial.self l.self l.initial.steps.moved l.steps.moved (meanings (shown l.heap.cells) (row_of l.items)) (meanings (shown l.heap.cells) (row_of l.left));
}

abbrev pub decreases-push_list-loop-item : goal.decreases-push_list-loop-item
decreases-push_list-loop-item l = weights_of (row_of l.left)
