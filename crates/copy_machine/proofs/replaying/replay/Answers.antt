use Rattle.term_value.specs.Machine as m
use Rattle.copy_machine.specs.Following.{Follows}
use Rattle.copy_machine.proofs.Replays.{ends_early, replays}
use Rattle.copy_machine.proofs.replaying.replay.Goals as goal

pub returns-then-not-all_left : goal.returns-then-not-all_left
returns-then-not-all_left g c = λ (start : m.Machine) (h : Follows g.P.Process.code g.P.Process.local g.P.Process.waits start c.args.machine).
    ends_early g.P.Process.code g.P.Process.local g.P.Process.waits start c.as_slice.result.now c.args.entries.items c.in-Ok-None.field-0 c.lead.new.machine c.as_slice.ensures.value c.in-Ok-None.field-0-is (cc) (c.in-Ok-None.ensures start h)

pub returns-in-Ok : goal.returns-in-Ok
returns-in-Ok g c = λ (start : m.Machine) (h : Follows g.P.Process.code g.P.Process.local g.P.Process.waits start c.args.machine).
    replays g.P.Process.code g.P.Process.local g.P.Process.waits start c.as_slice.result.now c.args.entries.items c.in-Ok-None.field-0 c.lead.new.machine c.in-Ok.outcome c.as_slice.ensures.value c.in-Ok-None.field-0-is (cc) c.in-Ok.ensures (c.in-Ok-None.ensures start h)
