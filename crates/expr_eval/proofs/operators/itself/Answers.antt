use Rattle.std.proofs.Common.{ap, sym, ◌∙◌, SFits}
use Rattle.std.specs.Int.{w128}
use Rattle.std.proofs.lemmas.Int.{to_z-of_z}
use Rattle.term_value.specs.declared.computed.Arith.TheVariants.{Value}
use Rattle.term_value.proofs.Bitwise.{fits-value}
use Rattle.expr_eval.proofs.operators.itself.Goals as goal

pub returns : goal.returns
returns c = let fits : SFits w128 c.args.number = c.ranges.number in ap Value (to_z-of_z w128 c.args.number fits) ∙ sym (fits-value c.args.number fits)
