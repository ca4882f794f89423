use Rattle.std.proofs.Common.{refl}
use Rattle.copy_machine.proofs.Machines.{starts_row, begins_row}
use Rattle.copy_machine.proofs.machine.Machine.take.Goals as goal

pub returns-in_ok-push-in-Starts : goal.returns-in_ok-push-in-Starts
returns-in_ok-push-in-Starts g c = rw c.in-Starts.is
    (starts_row g.P.Process.code g.P.Process.local g.P.Process.waits c.in-Starts.process _ c.args.self.now _ (begins_row g.P.Process.code g.P.Process.local g.P.Process.waits c.in-Starts.process _ refl (cc) refl) refl refl c.in_ok-push-in-Starts.ensures.items)
