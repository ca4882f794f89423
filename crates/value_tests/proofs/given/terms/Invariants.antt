use Rattle.std.proofs.Common.{◌≤◌, length}
use Rattle.bits_value.specs.declared.TheConstants.{MAX_BITS}
use Rattle.bit_store.specs.Stores.{AnyAtom}
use Rattle.term_value.specs.Seen.{AreKnown}
use Rattle.term_value.specs.Terms.{row}
use Rattle.value_tests.proofs.given.terms.Given as goal

abbrev pub invariant-loop-each : goal.invariant-loop-each
invariant-loop-each l = record {
  known : AreKnown (λ of. length of ≤ MAX_BITS) AnyAtom (row l.terms.items);
}
