use Rattle.std.proofs.Common.{◌≤◌, length}
use Rattle.bits_value.specs.declared.TheConstants.{MAX_BITS}
use Rattle.bit_store.specs.Stores.{AnyAtom}
use Rattle.term_value.specs.Seen.{AreKnown}
use Rattle.term_value.specs.Terms.{row}
use Rattle.value_tests.proofs.given.zero_items.Given as goal

abbrev pub invariant-loop-item : goal.invariant-loop-item
invariant-loop-item l = record {
  known : AreKnown (λ of. length of ≤ MAX_BITS) AnyAtom (row l.items.items);
}
