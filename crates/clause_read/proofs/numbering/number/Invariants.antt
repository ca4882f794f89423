use Rattle.std.proofs.Common.{◌≤◌, ◌-◌, length}
use Rattle.clause_read.specs.Numbering.{IsNumberedTo}
use Rattle.clause_read.proofs.numbering.number.Given as goal

abbrev pub invariant-loop-at : goal.invariant-loop-at
invariant-loop-at l = record { numbered : IsNumberedTo l.text l.tokens l.at l.numbering; within : l.at ≤ length l.tokens }

abbrev pub decreases-loop-at : goal.decreases-loop-at
decreases-loop-at l = length l.tokens - l.at
