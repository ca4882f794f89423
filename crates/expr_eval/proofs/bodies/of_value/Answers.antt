use Rattle.std.proofs.Common.{arith, rules}
use Rattle.expr_eval.proofs.Joining.{stands}
use Rattle.expr_eval.proofs.bodies.of_value.Goals as goal

pub returns-in_default-clause-moved : goal.returns-in_default-clause-moved
returns-in_default-clause-moved g c = stands (g.S.Store.shown c.args.store.now) c.read.result c.args.steps.now.moved (first_of (omega arith, search rules))
