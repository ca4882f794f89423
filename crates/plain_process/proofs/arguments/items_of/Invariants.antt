use Rattle.std.proofs.Common.{◌≡◌}
use Rattle.bit_store.specs.Stores.{itself}
use Rattle.code_tree.specs.PlainTerms.{IsShort, AnyAtom}
use Rattle.term_value.specs.Seen.{AreKnown, meanings, weights_of}
use Rattle.term_value.specs.Terms.{row_of}
use Rattle.plain_process.proofs.ArgumentRows.{onto}
use Rattle.plain_process.proofs.arguments.items_of.Given as goal

abbrev pub invariant-loop-item : goal.invariant-loop-item
invariant-loop-item l = record {
  known : AreKnown IsShort AnyAtom (row_of l.left);
  rest : onto l.items (meanings itself (row_of l.left)) ≡ meanings itself (row_of l.list);
}

abbrev pub decreases-loop-item : goal.decreases-loop-item
decreases-loop-item l = weights_of (row_of l.left)
