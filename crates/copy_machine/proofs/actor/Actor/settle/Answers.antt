use Rattle.copy_machine.proofs.Acts.{settled}
use Rattle.copy_machine.proofs.actor.Actor.settle.Goals as goal

pub returns-then-is_some : goal.returns-then-is_some
returns-then-is_some g c = settled g.P.Process.code g.P.Process.local g.P.Process.waits c.args.self.now (cc) c.requires
