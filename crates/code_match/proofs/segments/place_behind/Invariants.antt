use Rattle.std.proofs.Common.{◌≡◌, ◌≤◌, drop, length}
use Rattle.term_value.specs.Match.{all_taken}
use Rattle.code_tree.specs.Reading.{segments_of}
use Rattle.expr_eval.specs.Answers.{setting}
use Rattle.code_match.specs.Binds.{bounds}
use Rattle.code_match.proofs.segments.place_behind.Given as goal

-- the segments so far are taken
abbrev pub invariant-loop-segment : goal.invariant-loop-segment
invariant-loop-segment l = record {
  rest : all_taken (setting l.caller.names.now l.caller.pid) (segments_of (drop l.segment-index l.segments)) (bounds l.bound) (drop l.at l.bits)
      ≡ all_taken (setting l.caller.names.now l.caller.pid) (segments_of l.segments) (bounds l.fn.bindings) l.bits;
  inside : l.at ≤ length l.bits;
}
