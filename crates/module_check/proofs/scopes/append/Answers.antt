use Rattle.std.proofs.lemmas.Result.{IfOk-weaker}
use Rattle.module_check.proofs.Chained.{append_known, append_new}
use Rattle.module_check.proofs.scopes.append.Goals as goal

pub returns-in-Some-clause-put : goal.returns-in-Some-clause-put
returns-in-Some-clause-put c = λ bs s. append_known c.args.nodes.now.items c.args.before c.args.target.name.now c.args.target.at c.in-Some.field-0 bs (rw c.deref.ensures.value at c.in-Some.ensures) s

pub returns-in-None-clause-put : goal.returns-in-None-clause-put
returns-in-None-clause-put c = IfOk-weaker c.put.result _ _ (λ last h. λ bs s. append_new c.args.nodes.now.items c.put.new.nodes.items c.args.before last c.args.target.name.now c.args.target.at bs (rw c.deref.ensures.value at c.in-None.ensures) h s) c.put.ensures.put
