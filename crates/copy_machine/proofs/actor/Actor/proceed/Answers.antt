use Rattle.std.proofs.Common.{Some, refl}
use Rattle.process_acts.proofs.Paths.{turn_asks}
use Rattle.copy_machine.proofs.Proceeds.{ran, not_yet}
use Rattle.copy_machine.proofs.actor.Actor.proceed.Goals as goal

pub returns-in-Yields : goal.returns-in-Yields
returns-in-Yields g c =
    ran g.P.Process.code g.P.Process.local g.P.Process.waits c.args.self.now (record { process = c.turn.new.self; unseen = c.args.self.now.unseen; ask = c.args.self.now.ask }) c.in_ok-turn.ensures.code c.in_ok-turn.ensures.runs refl (not_yet g.P.Process.code g.P.Process.local g.P.Process.waits c.turn.new.self c.args.self.now.ask (cc))

pub returns-in-Asks : goal.returns-in-Asks
returns-in-Asks g c =
    ran g.P.Process.code g.P.Process.local g.P.Process.waits c.args.self.now (record { process = c.turn.new.self; unseen = c.args.self.now.unseen; ask = Some c.in-Asks.ask }) c.in_ok-turn.ensures.code c.in_ok-turn.ensures.runs refl (turn_asks _ _ _ c.in_ok-turn.field-0 c.in-Asks.ask c.in-Asks.is c.in_ok-turn.ensures.asks)
