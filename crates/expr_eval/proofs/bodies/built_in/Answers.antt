use Rattle.std.proofs.Common.{arith, rules}
use Rattle.expr_eval.proofs.Joining.{stands}
use Rattle.expr_eval.proofs.bodies.built_in.Goals as goal

pub returns-then-is_for_guards-clause-moved : goal.returns-then-is_for_guards-clause-moved
returns-then-is_for_guards-clause-moved g c = stands (g.S.Store.shown c.args.store.now) c.guard_built_in.result c.args.steps.now.moved (first_of (omega arith, search rules))
