use Rattle.std.proofs.Common.{◌-◌, ◌≤◌, length}
use Rattle.clause_read.proofs.ClauseReads.{ClausesRead}
use Rattle.clause_read.proofs.forms.function.Given as goal

abbrev pub invariant-loop-alloc : goal.invariant-loop-alloc
invariant-loop-alloc l = (l.at ≤ l.next) × (l.next ≤ length l.cursor.words) × ClausesRead l.cursor l.at l.next l.name l.arity l.clauses.items

abbrev pub decreases-loop-alloc : goal.decreases-loop-alloc
decreases-loop-alloc l = length l.cursor.words - l.next
