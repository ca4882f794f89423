use Rattle.std.proofs.Common.{refl}
use Rattle.copy_machine.proofs.Machines.{begins, begins_row}
use Rattle.copy_machine.proofs.machine.Machine.start.Goals as goal

pub returns : goal.returns
returns g c =
    begins g.P.Process.code g.P.Process.local g.P.Process.waits c.args.first _ c.new-rows.result.items _ c.requires (begins_row g.P.Process.code g.P.Process.local g.P.Process.waits c.args.first _ refl c.new.ensures.items refl) c.new-rows.ensures.items c.in_ok-push.ensures.items c.new-shown.ensures.items
