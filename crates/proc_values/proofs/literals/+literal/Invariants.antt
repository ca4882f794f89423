use Rattle.std.proofs.Common.{◌≡◌, ◌+◌, ◌*◌, ◌<◌, ◌≤◌, ◌^◌, ℕ, length}
use Rattle.bit_store.specs.Stores.{AnyAtom, Keeps, RoseBy, itself}
use Rattle.term_value.specs.Seen.{weight_of, weights_of, meanings, AreKnown}
use Rattle.term_value.specs.Terms.{seen, row_of, row}
use Rattle.proc_values.specs.MadeBits.{all_bits_inside}
use Rattle.proc_values.proofs.Copies.{joined}
use Rattle.proc_values.proofs.literals.+literal.Given as goal

abbrev pub decreases-copy : goal.decreases-copy
decreases-copy g l = 2 * weight_of (seen l.term.now)

abbrev pub decreases-copies : goal.decreases-copies
decreases-copies g l = 2 * weights_of (row l.items.now) + 1

abbrev pub decreases-list_copies : goal.decreases-list_copies
decreases-list_copies g l = 2 * weights_of (row_of l.items.now) + 1

abbrev pub invariant-copies-loop-item : goal.invariant-copies-loop-item
invariant-copies-loop-item g l = record {
  light : weights_of (row l.left) ≤ weights_of (row l.items);
  keeps : Keeps g.A.Access.shown g.A.Access.has l.fn.access l.access;
  known : AreKnown (g.A.Access.has l.access) AnyAtom (row l.made.items);
  are : joined (meanings (g.A.Access.shown l.access) (row l.made.items)) (meanings itself (row l.left)) ≡ meanings itself (row l.items);
  moved : g.A.Access.moved l.fn.access < 2 ^ 64 → ((most : ℕ) × RoseBy most (g.A.Access.moved l.fn.access) (g.A.Access.moved l.access) × (most + all_bits_inside (meanings itself (row l.left)) ≡ all_bits_inside (meanings itself (row l.items))));
}

abbrev pub decreases-copies-loop-item : goal.decreases-copies-loop-item
decreases-copies-loop-item g l = length l.left

abbrev pub invariant-list_copies-loop-item : goal.invariant-list_copies-loop-item
invariant-list_copies-loop-item g l = record {
  light : weights_of (row_of l.left) ≤ weights_of (row_of l.items);
  keeps : Keeps g.A.Access.shown g.A.Access.has l.fn.access l.access;
  known : AreKnown (g.A.Access.has l.access) AnyAtom (row l.made.items);
  are : joined (meanings (g.A.Access.shown l.access) (row l.made.items)) (meanings itself (row_of l.left)) ≡ meanings itself (row_of l.items);
  moved : g.A.Access.moved l.fn.access < 2 ^ 64 → ((most : ℕ) × RoseBy most (g.A.Access.moved l.fn.access) (g.A.Access.moved l.access) × (most + all_bits_inside (meanings itself (row_of l.left)) ≡ all_bits_inside (meanings itself (row_of l.items))));
}

abbrev pub decreases-list_copies-loop-item : goal.decreases-list_copies-loop-item
decreases-list_copies-loop-item g l = weights_of (row_of l.left)
