use Rattle.std.proofs.Common.{◌-◌, ◌≤◌, length, drop}
use Rattle.pattern_read.specs.Reading.{Passes, closed}
use Rattle.clause_read.specs.WantedForms.{skipped_in}
use Rattle.clause_read.proofs.forms.skipped.Given as goal

abbrev pub invariant-loop-numbered : goal.invariant-loop-numbered
invariant-loop-numbered l = (l.at ≤ l.next) × (l.next ≤ length l.cursor.words) × Passes l.cursor.limits closed skipped_in (drop l.at l.cursor.words) skipped_in (drop l.next l.cursor.words) (λ u. tt)

abbrev pub decreases-loop-numbered : goal.decreases-loop-numbered
decreases-loop-numbered l = length l.cursor.words - l.next
