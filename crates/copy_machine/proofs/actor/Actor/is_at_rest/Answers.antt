use Rattle.std.proofs.Common.{arith}
use Rattle.copy_machine.proofs.Rests.{rests_settled}
use Rattle.copy_machine.proofs.actor.Actor.is_at_rest.Goals as goal

pub returns : goal.returns
returns g c = rests_settled g.P.Process.code g.P.Process.local g.P.Process.waits c.is_more.result c.args.self.now c.settle.new.self c.is_more.ensures (omega arith) c.in_ok-settle.ensures
