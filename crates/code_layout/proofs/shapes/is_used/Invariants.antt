use Rattle.std.proofs.Common.{◌≡◌, drop}
use Rattle.term_value.specs.Rows.{uses}
use Rattle.code_tree.specs.Reading.{segments_of}
use Rattle.code_layout.proofs.shapes.is_used.Given as goal

abbrev pub invariant-loop-segment : goal.invariant-loop-segment
invariant-loop-segment l = uses l.variable (segments_of l.segments) ≡ uses l.variable (segments_of (drop l.segment-index l.segments))
