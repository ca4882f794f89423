use Rattle.std.proofs.Common.{false, length, refl}
use Rattle.std.proofs.lemmas.Result.{IfOk-weaker}
use Rattle.module_check.proofs.Tasked.{adds_alone}
use Rattle.module_check.proofs.tasks.Walk.push_alone.Goals as goal

pub returns : goal.returns
returns c = IfOk-weaker c.add.result _ _ (λ u h d f. adds_alone c.args.self.now c.add.new.self (record { facts = c.args.facts; part = c.args.part; mark = length c.args.self.now.nodes.items; whole = false }) d refl h.0 h.1 refl f) c.add.ensures
