use Rattle.std.proofs.Common.{◌∙◌}
use Rattle.term_value.specs.Machine as m
use Rattle.copy_machine.specs.Following.{Follows}
use Rattle.copy_machine.proofs.Replays.{row_ends_are}
use Rattle.copy_machine.proofs.machine.Machine.outcome.Goals as goal

pub returns : goal.returns
returns g c = λ (machine : m.Machine) (h : Follows g.P.Process.code g.P.Process.local g.P.Process.waits machine c.args.self).
    record {
      order = c.of.ensures;
      shown = c.of-2.ensures ∙ h.shown;
      ends = c.of-3.ensures ∙ c.in_ok-ends.ensures ∙ row_ends_are g.P.Process.code g.P.Process.local g.P.Process.waits machine.code 1 machine.processes c.args.self.rows.items h.rows;
    }
