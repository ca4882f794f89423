use Rattle.std.proofs.Common.{ap, subst, arith}
use Rattle.bit_store.specs.Pieces.{pieces_bits}
use Rattle.bit_store.specs.Stores.{AnyAtom}
use Rattle.term_value.specs.BuiltIns.{item_bits, items_bits}
use Rattle.term_value.specs.Seen.{Row, meanings, weights_of, AreKnown}
use Rattle.term_value.specs.Terms.{value_of, row_of}
use Rattle.expr_eval.proofs.Joining.{next_item}
use Rattle.expr_eval.proofs.joined.+gather.Goals as goal

pub push_items-loop-item-preserved : goal.push_items-loop-item-preserved
push_items-loop-item-preserved g t c =
    let e = c.in-Some.ensures in
    let shown = g.S.Store.shown c.args.store.now in
    record {
      known = (subst (AreKnown (g.S.Store.has c.args.store.now) AnyAtom) e c.loop-item.invariant.known).1;
      light = omega (arith, ap weights_of e, c.loop-item.invariant.light);
      whole = c.in-Ok.ensures.whole;
      rest = next_item (pieces_bits shown c.push_item.new.pieces.items) (pieces_bits shown c.loop-item.pieces.items) (pieces_bits shown c.args.pieces.now.items)
          (item_bits (value_of shown c.in-Some.item.now)) (items_bits (meanings shown (row_of c.in-Some.rest.now))) (items_bits (meanings shown (row_of c.loop-item.left.now))) (items_bits (meanings shown (row_of c.args.items.now)))
          c.in-Ok.ensures.added (ap (λ (r : Row g.row.R.Denot). items_bits (meanings shown r)) e) c.loop-item.invariant.rest;
    }
