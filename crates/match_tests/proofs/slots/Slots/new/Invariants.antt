use Rattle.std.proofs.Common.{◌≡◌, ℕ, None, length}
use Rattle.match_tests.specs.Held.{held_in}
use Rattle.match_tests.proofs.slots.Slots.new.Given as goal

abbrev pub invariant-loop-variable : goal.invariant-loop-variable
invariant-loop-variable g l = record {
  count : length l.values.items ≡ l._variable;
  free : (x : ℕ) → held_in l.values.items x ≡ None;
}
