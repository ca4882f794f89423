use Rattle.std.proofs.Common.{◌≡◌, ◌-◌, ◌≤◌, ◌<◌, length}
use Rattle.pattern_read.proofs.Types.{SpecsRead}
use Rattle.pattern_read.proofs.segment_types.segment_type.Given as goal

abbrev pub invariant-loop-specs : goal.invariant-loop-specs
invariant-loop-specs l = (l.at < l.next) × (l.next ≤ length l.cursor.words) × SpecsRead l.cursor l.at l.place l.initial.value l.initial.size l.next l.specs.items × (l.value ≡ l.initial.value) × (l.size ≡ l.initial.size)

abbrev pub decreases-loop-specs : goal.decreases-loop-specs
decreases-loop-specs l = length l.cursor.words - l.next
