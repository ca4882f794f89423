use Rattle.std.proofs.Common.{◌≡◌, map, length, reverse}
use Rattle.term_value.specs.Rows.{shape, shape_after}
use Rattle.code_tree.specs.Reading.{segment_of, segments_of}
use Rattle.code_layout.proofs.Shaped.{onto}
use Rattle.code_layout.proofs.shapes.shape.Given as goal

abbrev pub invariant-loop-segment : goal.invariant-loop-segment
invariant-loop-segment l = shape (segments_of l.segments) ≡ onto (map segment_of l.found.items) (shape_after (reverse l.earlier.items) (segments_of l.left))

abbrev pub decreases-loop-segment : goal.decreases-loop-segment
decreases-loop-segment l = length l.left
