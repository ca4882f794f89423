use Rattle.std.proofs.Common.{true, length, refl}
use Rattle.std.proofs.lemmas.Result.{IfOk-weaker}
use Rattle.module_check.proofs.Tasked.{adds_one}
use Rattle.module_check.proofs.tasks.Walk.push.Goals as goal

pub returns : goal.returns
returns c = IfOk-weaker c.add.result _ _ (λ u h d f. adds_one c.args.self.now c.add.new.self (record { facts = c.args.facts; part = c.args.part; mark = length c.args.self.now.nodes.items; whole = true }) d refl h.0 h.1 refl f) c.add.ensures
