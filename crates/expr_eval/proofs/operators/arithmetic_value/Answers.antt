use Rattle.std.proofs.Common.{sym, ◌∙◌}
use Rattle.expr_eval.proofs.Operations.{no_arithmetic}
use Rattle.expr_eval.proofs.operators.arithmetic_value.Goals as goal

pub returns-else-is_arithmetic : goal.returns-else-is_arithmetic
returns-else-is_arithmetic c = no_arithmetic c.args.op c.args.left c.args.right (sym c.is_arithmetic.ensures ∙ c.if-is_arithmetic.false)
