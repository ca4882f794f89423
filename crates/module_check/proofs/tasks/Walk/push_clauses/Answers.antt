use Rattle.std.proofs.Common.{arith, [], ap}
use Rattle.module_check.specs.Spots.{each, clause_in}
use Rattle.module_check.proofs.Tasked.{adds_same, far_start, far_on, far_end}
use Rattle.module_check.proofs.tasks.Walk.push_clauses.Goals as goal

pub loop-clause-init : goal.loop-clause-init
loop-clause-init c = far_start clause_in [] c.items-clauses.result.now c.args.self.now

pub loop-clause-preserved : goal.loop-clause-preserved
loop-clause-preserved c = far_on clause_in [] c.items-clauses.result.now c.args.self.now c.loop-clause.self c.push_clause.new.self c.loop-clause.clause-index c.clause-item.result (omega arith) c.clause-item.is c.loop-clause.invariant c.in_ok-push_clause.ensures

pub returns : goal.returns
returns c = adds_same _ _ _ _ (ap (λ zs. each clause_in [] zs) c.items-clauses.ensures) (far_end clause_in [] c.items-clauses.result.now c.args.self.now c.loop-clause.self c.loop-clause.clause-index (omega arith) c.loop-clause.invariant)
