use Rattle.std.proofs.Common.{◌≡◌, ◌+◌, ◌*◌, ◌≤◌, Some}
use Rattle.bit_store.specs.Pieces.{pieces_bits}
use Rattle.bit_store.specs.Stores.{AnyAtom}
use Rattle.term_value.specs.BuiltIns.{items_bits, joined_bits}
use Rattle.term_value.specs.Seen.{weight_of, weights_of, meanings, AreKnown}
use Rattle.term_value.specs.Terms.{seen, row_of}
use Rattle.expr_eval.specs.Joined.{AreWhole}
use Rattle.expr_eval.proofs.joined.+gather.Given as goal

abbrev pub decreases-push_item : goal.decreases-push_item
decreases-push_item g l = 2 * weight_of (seen l.item.now)

abbrev pub decreases-push_items : goal.decreases-push_items
decreases-push_items g l = 2 * weights_of (row_of l.items.now) + 1

abbrev pub invariant-push_items-loop-item : goal.invariant-push_items-loop-item
invariant-push_items-loop-item g l = record {
  known : AreKnown (g.S.Store.has l.store) AnyAtom (row_of l.left);
  light : weights_of (row_of l.left) ≤ weights_of (row_of l.items);
  whole : AreWhole (g.S.Store.shown l.store) (g.S.Store.has l.store) l.pieces.items;
  rest : joined_bits (Some (pieces_bits (g.S.Store.shown l.store) l.pieces.items)) (items_bits (meanings (g.S.Store.shown l.store) (row_of l.left)))
      ≡ joined_bits (Some (pieces_bits (g.S.Store.shown l.store) l.initial.pieces.items)) (items_bits (meanings (g.S.Store.shown l.store) (row_of l.items)));
}

abbrev pub decreases-push_items-loop-item : goal.decreases-push_items-loop-item
decreases-push_items-loop-item g l = weights_of (row_of l.left)
