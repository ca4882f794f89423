use Rattle.std.proofs.Common.{◌∙◌, ap}
use Rattle.std.proofs.lemmas.Result.{IfOk-weaker}
use Rattle.erl_syntax.specs.Bindings.{segment_targets}
use Rattle.module_check.specs.Nodes.{bounds_of}
use Rattle.module_check.proofs.Left.{once, bits_new}
use Rattle.module_check.proofs.targets.add_new.Goals as goal

pub returns-in-Bits : goal.returns-in-Bits
returns-in-Bits c = IfOk-weaker c.add_segment_targets.result _ _ (λ u h. once (bounds_of c.args.found.now.items) _ _ _ h (ap segment_targets c.items.ensures ∙ bits_new c.args.qual.now c.in-Bits.at c.in-Bits.segments c.in-Bits.source c.in-Bits.is)) c.add_segment_targets.ensures
