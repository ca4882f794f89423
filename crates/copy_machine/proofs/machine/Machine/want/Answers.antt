use Rattle.std.proofs.Common.{refl, ◌-◌}
use Rattle.copy_machine.proofs.Rows.{found}
use Rattle.copy_machine.proofs.Machines.{sound_at}
use Rattle.copy_machine.proofs.Proceeds.{row_kept}
use Rattle.copy_machine.proofs.machine.Machine.want.Goals as goal

pub want-requires : goal.want-requires
want-requires g c = sound_at g.P.Process.code g.P.Process.local g.P.Process.waits c.args.self.now (c.args.pid - 1) c.in-Some.row.now c.requires (found c.args.self.now.rows.items (c.args.pid - 1) c.in-Some.row.now c.in-Some.ensures.item.3.0 c.in-Some.ensures.value)

pub returns-in_ok-want-in-Some : goal.returns-in_ok-want-in-Some
returns-in_ok-want-in-Some g c =
    row_kept g.P.Process.code g.P.Process.local g.P.Process.waits (c.args.pid - 1) c.in-Some.row.now c.want.new.self c.args.self.now _ (found c.args.self.now.rows.items (c.args.pid - 1) c.in-Some.row.now c.in-Some.ensures.item.3.0 c.in-Some.ensures.value) c.in_ok-want-in-Some.ensures refl refl refl
