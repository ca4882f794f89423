use Rattle.std.proofs.Common.{arith}
use Rattle.erl_syntax.specs.Bindings.{vars_of_segment}
use Rattle.module_check.specs.Nodes.{bounds_of}
use Rattle.module_check.proofs.Left.{flat_more, flat_end, once, own_value}
use Rattle.module_check.proofs.targets.add_segment_targets.Goals as goal

pub loop-segment-preserved : goal.loop-segment-preserved
loop-segment-preserved c = flat_more (λ sg. (vars_of_segment sg).own) c.args.segments.now c.loop-segment.segment-index c.segment-item.result (bounds_of c.args.found.now.items) (bounds_of c.loop-segment.found.items) (bounds_of c.add_segment_target.new.found.items) (omega arith) c.segment-item.is c.loop-segment.invariant (once _ _ _ _ c.in_ok-add_segment_target.ensures (own_value c.segment-item.result))

pub returns : goal.returns
returns c = flat_end (λ sg. (vars_of_segment sg).own) c.args.segments.now c.loop-segment.segment-index (bounds_of c.args.found.now.items) (bounds_of c.loop-segment.found.items) (omega arith) c.loop-segment.invariant
