use Rattle.std.proofs.Common.{ap, ◌∙◌, arith}
use Rattle.std.specs.Int.{w128}
use Rattle.std.proofs.lemmas.Int.{to_z_pos}
use Rattle.term_value.specs.declared.computed.Arith.TheVariants.{Value}
use Rattle.expr_eval.proofs.NumberValues.{counts}
use Rattle.expr_eval.proofs.sizes.counted.Goals as goal

pub returns : goal.returns
returns c = ap Value (to_z_pos w128 c.args.count (omega (arith, c.ranges.count))) ∙ counts c.args.count (omega (arith, c.ranges.count))
