use Rattle.std.proofs.Common.{◌≤◌, length}
use Rattle.bits_value.specs.declared.TheConstants.{MAX_BITS}
use Rattle.bit_store.specs.Stores.{AnyAtom}
use Rattle.term_value.specs.Terms.{IsOver}
use Rattle.value_tests.proofs.given.deep.Given as goal

abbrev pub invariant-loop-level : goal.invariant-loop-level
invariant-loop-level l = IsOver (λ of. length of ≤ MAX_BITS) AnyAtom l.term
