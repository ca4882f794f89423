use Rattle.std.proofs.lemmas.Result.{IfOk-weaker}
use Rattle.module_check.proofs.Chained.{endanger_known, endanger_new, is_known_by, is_unknown_by}
use Rattle.module_check.proofs.scopes.endanger_one.Goals as goal

pub returns-in-Some-clause-put : goal.returns-in-Some-clause-put
returns-in-Some-clause-put c = λ ds bs u s. endanger_known c.args.nodes.now.items c.args.dangers ds bs c.args.target.name.now (is_known_by s.chain bs c.args.target.name.now c.in-Some.field-0 s.same ((rw c.deref.ensures.value at c.in-Some.ensures) s.chain s.stands)) u

pub returns-in-None-clause-put : goal.returns-in-None-clause-put
returns-in-None-clause-put c = IfOk-weaker c.put.result _ _ (λ last h. λ ds bs u s. endanger_new c.args.nodes.now.items c.put.new.nodes.items c.args.dangers last ds bs c.args.target.name.now c.args.target.at (is_unknown_by s.chain bs c.args.target.name.now s.same ((rw c.deref.ensures.value at c.in-None.ensures) s.chain s.stands)) u h) c.put.ensures.put
