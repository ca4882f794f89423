use Rattle.std.proofs.Common.{◌+◌, ◌-◌, ◌≤◌, length}
use Rattle.pattern_read.specs.Wanted.{in_size}
use Rattle.pattern_read.proofs.Segs.{SegmentsRead}
use Rattle.pattern_read.proofs.pattern_segments.pattern_bits.Given as goal

abbrev pub invariant-loop-segments : goal.invariant-loop-segments
invariant-loop-segments l = (l.at ≤ l.next) × (l.next ≤ length l.cursor.words) × (l.deep + 1 + l.height ≤ l.cursor.limits.trees + 1) × SegmentsRead (in_size l.deep l.brackets) l.cursor l.at l.next l.segments.items l.height

abbrev pub decreases-loop-segments : goal.decreases-loop-segments
decreases-loop-segments l = length l.cursor.words - l.next
