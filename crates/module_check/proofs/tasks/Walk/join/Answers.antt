use Rattle.std.proofs.Common.{refl}
use Rattle.module_check.proofs.Tasked.{adds_nodes}
use Rattle.module_check.proofs.tasks.Walk.join.Goals as goal

pub returns : goal.returns
returns c = (adds_nodes c.args.self.now _ c.in_ok-dangers.ensures.grown refl, (refl, (refl, c.in_ok-dangers.ensures.put)))
