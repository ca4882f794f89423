use Rattle.std.proofs.Common.{refl, ◌∙◌}
use Rattle.process_acts.proofs.Paths.{none, on_from, turn_asks}
use Rattle.copy_machine.proofs.next_ask.next_ask.Goals as goal

pub loop-init : goal.loop-init
loop-init g c = record { code = refl; runs = none _ _ }

pub returns-in-Asks : goal.returns-in-Asks
returns-in-Asks g c =
    let asks = turn_asks _ _ _ c.in_ok-turn.field-0 c.in-Asks.ask c.in-Asks.is c.in_ok-turn.ensures.asks in
    record {
      code = c.in_ok-turn.ensures.code ∙ c.loop.invariant.code;
      runs = on_from _ _ _ _ _ c.loop.invariant.code c.loop.invariant.runs c.in_ok-turn.ensures.runs;
      waits = asks.0;
      asks = asks.1;
    }

pub loop-preserved : goal.loop-preserved
loop-preserved g c = record {
  code = c.in_ok-turn.ensures.code ∙ c.loop.invariant.code;
  runs = on_from _ _ _ _ _ c.loop.invariant.code c.loop.invariant.runs c.in_ok-turn.ensures.runs;
}
