use Rattle.std.proofs.Common.{◌≡◌, ◌≤◌, ◌++◌, List, ℕ, length}
use Rattle.report_text.specs.Fields.{AreNumbers, AreSmall, spaced}
use Rattle.report_text.proofs.Numbers.{Remains}
use Rattle.report_text.proofs.fields.numbers.Given as goal

abbrev pub invariant-loop-found : goal.invariant-loop-found
invariant-loop-found l = record {
  spelled : l.bytes ≡ spaced l.numbers.items ++ l.rest;
  small : AreSmall l.numbers.items;
  few : length l.numbers.items ≤ 4;
  remain : (ns : List ℕ) → AreNumbers l.bytes ns → Remains ns l.numbers.items l.rest;
}

abbrev pub decreases-loop-found : goal.decreases-loop-found
decreases-loop-found l = length l.rest
