use Rattle.std.proofs.Common.{◌+◌, ◌*◌, ◌-◌, ◌≤◌, ◌∷◌, ◌++◌, max, length, drop}
use Rattle.pattern_read.specs.Reading.{Passes, closed}
use Rattle.pattern_read.specs.Wanted.{in_size, exprs_in}
use Rattle.pattern_read.proofs.Calls.{expr_and_more}
use Rattle.pattern_read.proofs.sizes.+size.Given as goal

abbrev pub decreases-size_level : goal.decreases-size_level
decreases-size_level l = 16 * (length l.cursor.now.words - l.at) + (14 - l.wanted)

abbrev pub decreases-size_operand : goal.decreases-size_operand
decreases-size_operand l = 16 * (length l.cursor.now.words - l.at) + 7

abbrev pub decreases-size_tail : goal.decreases-size_tail
decreases-size_tail l = 16 * (length l.cursor.now.words - l.at)

abbrev pub decreases-size_after_atom : goal.decreases-size_after_atom
decreases-size_after_atom l = 16 * (length l.cursor.now.words - l.at) + 2

abbrev pub decreases-size_qualified : goal.decreases-size_qualified
decreases-size_qualified l = 16 * (length l.cursor.now.words - l.at) + 1

abbrev pub decreases-size_exprs : goal.decreases-size_exprs
decreases-size_exprs l = 16 * (length l.cursor.now.words - l.at) + 15

abbrev pub invariant-size_exprs-loop-items : goal.invariant-size_exprs-loop-items
invariant-size_exprs-loop-items l = (l.at ≤ l.next) × (l.next ≤ length l.cursor.words) × (l.deep + l.height ≤ l.cursor.limits.trees + 1) × Passes l.cursor.limits closed (exprs_in l.close (in_size l.deep l.brackets)) (drop l.at l.cursor.words) (expr_and_more l.close (in_size l.deep l.brackets)) (drop l.next l.cursor.words) (λ p. (l.items.items ++ (p.0.tree ∷ p.1.0), max l.height (max p.0.height p.1.1)))

abbrev pub decreases-size_exprs-loop-items : goal.decreases-size_exprs-loop-items
decreases-size_exprs-loop-items l = length l.cursor.words - l.next
