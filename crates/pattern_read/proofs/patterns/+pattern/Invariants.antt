use Rattle.std.proofs.Common.{◌≡◌, ◌+◌, ◌*◌, ◌-◌, ◌≤◌, ◌<◌, length}
use Rattle.pattern_read.specs.Wanted.{in_size}
use Rattle.pattern_read.proofs.PatExits.{SameRead, PatternsRead, ItemsRead}
use Rattle.pattern_read.proofs.patterns.+pattern.Given as goal

abbrev pub decreases-pat : goal.decreases-pat
decreases-pat l = 4 * (length l.cursor.now.words - l.at) + 1

abbrev pub decreases-pattern : goal.decreases-pattern
decreases-pattern l = 4 * (length l.cursor.now.words - l.at) + 2

abbrev pub decreases-same : goal.decreases-same
decreases-same l = 4 * (length l.cursor.now.words - l.at)

abbrev pub decreases-patterns : goal.decreases-patterns
decreases-patterns l = 4 * (length l.cursor.now.words - l.at) + 3

abbrev pub decreases-pattern_list : goal.decreases-pattern_list
decreases-pattern_list l = 4 * (length l.cursor.now.words - l.at) + 3

abbrev pub decreases-pattern_end : goal.decreases-pattern_end
decreases-pattern_end l = 4 * (length l.cursor.now.words - l.at)

abbrev pub invariant-patterns-loop-items : goal.invariant-patterns-loop-items
invariant-patterns-loop-items l = (l.at ≤ l.next) × (l.next ≤ length l.cursor.words) × (l.deep + l.height ≤ l.cursor.limits.trees + 1) × PatternsRead l.close (in_size l.deep l.brackets) l.cursor l.at l.next l.items.items l.height

abbrev pub decreases-patterns-loop-items : goal.decreases-patterns-loop-items
decreases-patterns-loop-items l = length l.cursor.words - l.next

abbrev pub invariant-pattern_list-loop-items : goal.invariant-pattern_list-loop-items
invariant-pattern_list-loop-items l = (l.at ≤ l.next) × (l.next ≤ length l.cursor.words) × (l.deep + l.height ≤ l.cursor.limits.trees + 1) × ItemsRead (in_size l.deep l.brackets) l.cursor l.at l.next l.items.items l.height

abbrev pub decreases-pattern_list-loop-items : goal.decreases-pattern_list-loop-items
decreases-pattern_list-loop-items l = length l.cursor.words - l.next

abbrev pub invariant-same-loop-patterns : goal.invariant-same-loop-patterns
invariant-same-loop-patterns l = (l.at < l.next) × (l.next ≤ length l.cursor.words) × (l.deep + 1 + l.height ≤ l.cursor.limits.trees + 1) × SameRead (in_size l.deep l.brackets) l.fn.first l.cursor l.at l.next l.patterns.items l.height × (l.place ≡ l.fn.first.at)

abbrev pub decreases-same-loop-patterns : goal.decreases-same-loop-patterns
decreases-same-loop-patterns l = length l.cursor.words - l.next
