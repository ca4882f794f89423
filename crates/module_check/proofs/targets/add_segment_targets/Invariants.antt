use Rattle.std.proofs.Common.{◌≡◌, ◌++◌, take}
use Rattle.erl_syntax.specs.Bindings.{segment_targets}
use Rattle.module_check.specs.Nodes.{bounds_of}
use Rattle.module_check.proofs.targets.add_segment_targets.Given as goal

abbrev pub invariant-loop-segment : goal.invariant-loop-segment
invariant-loop-segment l = bounds_of l.found.items ≡ bounds_of l.initial.found.items ++ segment_targets (take l.segment-index l.segments)
