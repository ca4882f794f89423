use Rattle.std.proofs.Common.{refl}
use Rattle.copy_machine.proofs.Rows.{found, missing}
use Rattle.copy_machine.proofs.Machines.{sound_at, rests_at, rests_nowhere}
use Rattle.copy_machine.proofs.machine.Machine.rests_at.Goals as goal

pub is_at_rest-requires : goal.is_at_rest-requires
is_at_rest-requires g c = sound_at g.P.Process.code g.P.Process.local g.P.Process.waits c.args.self.now c.args.index c.in-Some.row.now c.requires (found c.args.self.now.rows.items c.args.index c.in-Some.row.now c.in-Some.ensures.item.3.0 c.in-Some.ensures.value)

pub returns-in-None : goal.returns-in-None
returns-in-None g c = rests_nowhere g.P.Process.code g.P.Process.local g.P.Process.waits c.args.index c.args.self.now (missing c.args.self.now.rows.items c.args.index c.in-None.ensures.item.3)

pub returns-in_ok-is_at_rest-in-Some : goal.returns-in_ok-is_at_rest-in-Some
returns-in_ok-is_at_rest-in-Some g c =
    rests_at g.P.Process.code g.P.Process.local g.P.Process.waits c.args.index c.in_ok-is_at_rest-in-Some.field-0 c.in-Some.row.now c.is_at_rest.new.self c.args.self.now _ (found c.args.self.now.rows.items c.args.index c.in-Some.row.now c.in-Some.ensures.item.3.0 c.in-Some.ensures.value) c.in_ok-is_at_rest-in-Some.ensures refl refl refl
