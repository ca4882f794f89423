use Rattle.std.proofs.Common.{sym, ◌∙◌}
use Rattle.term_value.specs.Terms.{value_of}
use Rattle.expr_eval.proofs.Operations.{compared_is, computed_is, plain_truth}
use Rattle.expr_eval.proofs.operators.binary_op.Goals as goal

pub returns-then-is_comparison-clause-is : goal.returns-then-is_comparison-clause-is
returns-then-is_comparison-clause-is g c =
    let shown = g.K.Look.shown c.args.look.now in
    compared_is shown (g.K.Look.named c.args.look.now) c.args.op (value_of shown c.args.left.now) (value_of shown c.args.right.now) c.truth_term.result c.holds.result c.compare.result
    (sym c.is_comparison.ensures ∙ c.if-is_comparison.true) c.truth_term.ensures c.holds.ensures c.compare.ensures

pub returns-then-is_comparison-clause-plain : goal.returns-then-is_comparison-clause-plain
returns-then-is_comparison-clause-plain g c = plain_truth c.truth_term.result c.holds.result c.truth_term.ensures

pub returns-else-is_comparison-clause-is : goal.returns-else-is_comparison-clause-is
returns-else-is_comparison-clause-is g c =
    let shown = g.K.Look.shown c.args.look.now in
    computed_is shown (g.K.Look.named c.args.look.now) c.args.op (value_of shown c.args.left.now) (value_of shown c.args.right.now) c.compute.result
    (sym c.is_comparison.ensures ∙ c.if-is_comparison.false) (c.compute.ensures.is shown)
