use Rattle.std.proofs.Common.{refl, sym, ap, length, ◌∙◌, ◌-◌, arith}
use Rattle.copy_machine.proofs.Rows.{found, missing}
use Rattle.copy_machine.proofs.Machines.{sound_at, enters_row, enters_nowhere}
use Rattle.copy_machine.proofs.machine.Machine.enter.Goals as goal

pub enter-requires : goal.enter-requires
enter-requires g c = sound_at g.P.Process.code g.P.Process.local g.P.Process.waits c.args.self.now (c.pid_of-pid.result - 1) c.in-Some.row.now c.requires (found c.args.self.now.rows.items (c.pid_of-pid.result - 1) c.in-Some.row.now c.in-Some.ensures.item.3.0 c.in-Some.ensures.value)

pub returns-in-None : goal.returns-in-None
returns-in-None g c = enters_nowhere g.P.Process.code g.P.Process.local g.P.Process.waits c.args.entry (c.pid_of-pid.result - 1) c.args.self.now (sym c.pid_of-pid.ensures ∙ (omega arith)) (missing c.args.self.now.rows.items (c.pid_of-pid.result - 1) c.in-None.ensures.item.3)

pub returns-in_ok-enter-in-Some : goal.returns-in_ok-enter-in-Some
returns-in_ok-enter-in-Some g c =
    enters_row g.P.Process.code g.P.Process.local g.P.Process.waits c.args.entry _ (c.pid_of-pid.result - 1) c.in-Some.row.now c.enter.new.self c.in_ok-enter-in-Some.field-0 c.args.self.now _ (ap length c.as_slice-started.ensures.value) (sym c.pid_of-pid.ensures ∙ (omega arith)) (found c.args.self.now.rows.items (c.pid_of-pid.result - 1) c.in-Some.row.now c.in-Some.ensures.item.3.0 c.in-Some.ensures.value) c.in_ok-enter-in-Some.ensures refl refl refl
