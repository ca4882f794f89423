use Rattle.body_read.proofs.BitsExits.{ReadOn}
use Rattle.body_read.proofs.BodyExits.{BodyRead}
use Rattle.pattern_read.proofs.Calls.{expr_and_more}
use Rattle.body_read.proofs.ClauseExits.{AltsRead, BranchesRead}
use Rattle.body_read.proofs.GuardExits.{TestsRead}
use Rattle.body_read.proofs.ItemExits.{ItemRead}
use Rattle.body_read.proofs.ListExits.{ReadItems}
use Rattle.body_read.proofs.QualLists.{QualsRead}
use Rattle.pattern_read.specs.Reading.{Passes, closed}
use Rattle.pattern_read.specs.Wanted.{exprs_in}
use Rattle.body_read.specs.WantedExprs.{in_body, in_guard, in_site}
use Rattle.std.proofs.Common.{drop, length, max, ◌*◌, ◌++◌, ◌+◌, ◌-◌, ◌<◌, ◌∷◌, ◌≤◌}
use Rattle.body_read.proofs.+expr.Given as goal

abbrev pub decreases-exprs::level : goal.decreases-exprs::level
decreases-exprs::level l = 32 * (length l.cursor.now.words - l.at) + (9 - l.wanted)

abbrev pub decreases-exprs::tail : goal.decreases-exprs::tail
decreases-exprs::tail l = 32 * (length l.cursor.now.words - l.at)

abbrev pub decreases-exprs::exprs : goal.decreases-exprs::exprs
decreases-exprs::exprs l = 32 * (length l.cursor.now.words - l.at) + 10

abbrev pub decreases-operand::operand : goal.decreases-operand::operand
decreases-operand::operand l = 32 * (length l.cursor.now.words - l.at) + 1

abbrev pub decreases-operand::prefixed : goal.decreases-operand::prefixed
decreases-operand::prefixed l = 32 * (length l.cursor.now.words - l.at)

abbrev pub decreases-operand::tuple : goal.decreases-operand::tuple
decreases-operand::tuple l = 32 * (length l.cursor.now.words - l.at)

abbrev pub decreases-operand::block : goal.decreases-operand::block
decreases-operand::block l = 32 * (length l.cursor.now.words - l.at)

abbrev pub decreases-operand::case_parts : goal.decreases-operand::case_parts
decreases-operand::case_parts l = 32 * (length l.cursor.now.words - l.at) + 10

abbrev pub decreases-operand::common : goal.decreases-operand::common
decreases-operand::common l = 32 * (length l.cursor.now.words - l.at)

abbrev pub decreases-operand::after_atom : goal.decreases-operand::after_atom
decreases-operand::after_atom l = 32 * (length l.cursor.now.words - l.at) + 2

abbrev pub decreases-operand::qualified : goal.decreases-operand::qualified
decreases-operand::qualified l = 32 * (length l.cursor.now.words - l.at) + 1

abbrev pub invariant-exprs::exprs-loop-items : goal.invariant-exprs::exprs-loop-items
invariant-exprs::exprs-loop-items l = (l.at ≤ l.next) × (l.next ≤ length l.cursor.words) × (l.deep + l.height ≤ l.cursor.limits.trees + 1) × Passes l.cursor.limits closed (exprs_in l.close (in_site l.site l.deep l.brackets)) (drop l.at l.cursor.words) (expr_and_more l.close (in_site l.site l.deep l.brackets)) (drop l.next l.cursor.words) (λ p. (l.items.items ++ (p.0.tree ∷ p.1.0), max l.height (max p.0.height p.1.1)))

abbrev pub decreases-exprs::exprs-loop-items : goal.decreases-exprs::exprs-loop-items
decreases-exprs::exprs-loop-items l = length l.cursor.words - l.next

abbrev pub decreases-lists::list : goal.decreases-lists::list
decreases-lists::list l = 32 * (length l.cursor.now.words - l.at) + 10

abbrev pub decreases-lists::after_first : goal.decreases-lists::after_first
decreases-lists::after_first l = 32 * (length l.cursor.now.words - l.at) + 1

abbrev pub decreases-lists::list_items : goal.decreases-lists::list_items
decreases-lists::list_items l = 32 * (length l.cursor.now.words - l.at)

abbrev pub decreases-lists::last : goal.decreases-lists::last
decreases-lists::last l = 32 * (length l.cursor.now.words - l.at) + 10

abbrev pub decreases-segments::bits : goal.decreases-segments::bits
decreases-segments::bits l = 32 * (length l.cursor.now.words - l.at) + 10

abbrev pub decreases-segments::after_value : goal.decreases-segments::after_value
decreases-segments::after_value l = 32 * (length l.cursor.now.words - l.at) + 1

abbrev pub decreases-segments::more_segments : goal.decreases-segments::more_segments
decreases-segments::more_segments l = 32 * (length l.cursor.now.words - l.at)

abbrev pub decreases-segments::segment : goal.decreases-segments::segment
decreases-segments::segment l = 32 * (length l.cursor.now.words - l.at) + 2

abbrev pub decreases-segments::prefixed : goal.decreases-segments::prefixed
decreases-segments::prefixed l = 32 * (length l.cursor.now.words - l.at)

abbrev pub decreases-segments::simple : goal.decreases-segments::simple
decreases-segments::simple l = 32 * (length l.cursor.now.words - l.at) + 1

abbrev pub decreases-segments::segment_rest : goal.decreases-segments::segment_rest
decreases-segments::segment_rest l = 32 * (length l.cursor.now.words - l.at)

abbrev pub decreases-bodies::guarded : goal.decreases-bodies::guarded
decreases-bodies::guarded l = 32 * (length l.cursor.now.words - l.at) + 1

abbrev pub decreases-bodies::tests : goal.decreases-bodies::tests
decreases-bodies::tests l = 32 * (length l.cursor.now.words - l.at) + 10

abbrev pub decreases-bodies::body : goal.decreases-bodies::body
decreases-bodies::body l = 32 * (length l.cursor.now.words - l.at) + 11

abbrev pub decreases-alternatives::alts : goal.decreases-alternatives::alts
decreases-alternatives::alts l = 32 * (length l.cursor.now.words - l.at) + 12

abbrev pub decreases-alternatives::alt : goal.decreases-alternatives::alt
decreases-alternatives::alt l = 32 * (length l.cursor.now.words - l.at) + 11

abbrev pub decreases-alternatives::branches : goal.decreases-alternatives::branches
decreases-alternatives::branches l = 32 * (length l.cursor.now.words - l.at) + 12

abbrev pub decreases-alternatives::branch : goal.decreases-alternatives::branch
decreases-alternatives::branch l = 32 * (length l.cursor.now.words - l.at) + 11

abbrev pub decreases-items::item : goal.decreases-items::item
decreases-items::item l = 32 * (length l.cursor.now.words - l.at) + 10

abbrev pub decreases-quals::qual : goal.decreases-quals::qual
decreases-quals::qual l = 32 * (length l.cursor.now.words - l.at) + 10

abbrev pub decreases-quals::quals : goal.decreases-quals::quals
decreases-quals::quals l = 32 * (length l.cursor.now.words - l.at) + 11

abbrev pub invariant-lists::list_items-loop-site : goal.invariant-lists::list_items-loop-site
invariant-lists::list_items-loop-site l = (l.at ≤ l.next) × (l.next ≤ length l.cursor.words) × (1 ≤ l.height) × (l.deep + l.height ≤ l.cursor.limits.trees) × ReadItems (in_site l.site l.deep l.brackets) l.place l.fn.first l.cursor l.at l.next l.items.items l.height

abbrev pub decreases-lists::list_items-loop-site : goal.decreases-lists::list_items-loop-site
decreases-lists::list_items-loop-site l = length l.cursor.words - l.next

abbrev pub invariant-segments::more_segments-loop-alloc : goal.invariant-segments::more_segments-loop-alloc
invariant-segments::more_segments-loop-alloc l = (l.at ≤ l.next) × (l.next ≤ length l.cursor.words) × (1 ≤ l.highest) × (l.deep + l.highest ≤ l.cursor.limits.trees) × ReadOn (in_site l.site l.deep l.brackets) l.place l.cursor l.at l.next l.fn.first l.height l.segments.items l.highest

abbrev pub decreases-segments::more_segments-loop-alloc : goal.decreases-segments::more_segments-loop-alloc
decreases-segments::more_segments-loop-alloc l = length l.cursor.words - l.next

abbrev pub invariant-bodies::tests-loop-alloc : goal.invariant-bodies::tests-loop-alloc
invariant-bodies::tests-loop-alloc l = (l.at < l.next) × (l.next ≤ length l.cursor.words) × (1 ≤ l.height) × (l.deep + l.height ≤ l.cursor.limits.trees + 1) × TestsRead (in_guard l.deep l.brackets) l.cursor l.at l.next l.place l.alternatives.items l.tests.items l.height

abbrev pub decreases-bodies::tests-loop-alloc : goal.decreases-bodies::tests-loop-alloc
decreases-bodies::tests-loop-alloc l = length l.cursor.words - l.next

abbrev pub invariant-bodies::body-loop-items : goal.invariant-bodies::body-loop-items
invariant-bodies::body-loop-items l = (l.at ≤ l.next) × (l.next ≤ length l.cursor.words) × (l.deep + l.height ≤ l.cursor.limits.trees + 1) × BodyRead (in_body l.deep l.brackets) l.cursor l.at l.next l.items.items l.height

abbrev pub decreases-bodies::body-loop-items : goal.decreases-bodies::body-loop-items
decreases-bodies::body-loop-items l = length l.cursor.words - l.next

abbrev pub invariant-alternatives::alts-loop-alts : goal.invariant-alternatives::alts-loop-alts
invariant-alternatives::alts-loop-alts l = (l.at ≤ l.next) × (l.next ≤ length l.cursor.words) × (l.deep + l.height ≤ l.cursor.limits.trees + 1) × AltsRead (in_body l.deep l.brackets) l.cursor l.at l.next l.alts.items l.height

abbrev pub decreases-alternatives::alts-loop-alts : goal.decreases-alternatives::alts-loop-alts
decreases-alternatives::alts-loop-alts l = length l.cursor.words - l.next

abbrev pub invariant-alternatives::branches-loop-branches : goal.invariant-alternatives::branches-loop-branches
invariant-alternatives::branches-loop-branches l = (l.at ≤ l.next) × (l.next ≤ length l.cursor.words) × (l.deep + l.height ≤ l.cursor.limits.trees + 1) × BranchesRead (in_body l.deep l.brackets) l.cursor l.at l.next l.branches.items l.height

abbrev pub decreases-alternatives::branches-loop-branches : goal.decreases-alternatives::branches-loop-branches
decreases-alternatives::branches-loop-branches l = length l.cursor.words - l.next

abbrev pub invariant-items::item-loop-pattern : goal.invariant-items::item-loop-pattern
invariant-items::item-loop-pattern l = (l.at ≤ l.next) × (l.next ≤ length l.cursor.words) × (l.deep + l.height ≤ l.cursor.limits.trees + 1) × ItemRead (in_body l.deep l.brackets) l.cursor l.at l.next l.patterns.items l.height

abbrev pub decreases-items::item-loop-pattern : goal.decreases-items::item-loop-pattern
decreases-items::item-loop-pattern l = length l.cursor.words - l.next

abbrev pub invariant-quals::quals-loop-items : goal.invariant-quals::quals-loop-items
invariant-quals::quals-loop-items l = (l.at ≤ l.next) × (l.next ≤ length l.cursor.words) × (l.deep + l.height ≤ l.cursor.limits.trees + 1) × QualsRead l.close (in_body l.deep l.brackets) l.cursor l.at l.next l.items.items l.height

abbrev pub decreases-quals::quals-loop-items : goal.decreases-quals::quals-loop-items
decreases-quals::quals-loop-items l = length l.cursor.words - l.next
