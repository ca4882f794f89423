use Rattle.std.proofs.Common.{refl, ◌-◌, arith}
use Rattle.code_tree.specs.PlainTerms.{value}
use Rattle.copy_machine.proofs.Rows.{found, missing}
use Rattle.copy_machine.proofs.Machines.{delivers_row, delivers_nowhere}
use Rattle.copy_machine.proofs.machine.Machine.deliver.Goals as goal

pub returns-in-None : goal.returns-in-None
returns-in-None g c = delivers_nowhere g.P.Process.code g.P.Process.local g.P.Process.waits c.args.to (c.args.to - 1) (value c.args.message) c.args.self.now (omega arith) (missing c.args.self.now.rows.items (c.args.to - 1) c.in-None.ensures.item.3)

pub returns-in_ok-receive-in-Some : goal.returns-in_ok-receive-in-Some
returns-in_ok-receive-in-Some g c =
    delivers_row g.P.Process.code g.P.Process.local g.P.Process.waits c.args.to (c.args.to - 1) (value c.args.message) c.in-Some.row.now c.receive.new.self c.args.self.now _ (omega arith) (found c.args.self.now.rows.items (c.args.to - 1) c.in-Some.row.now c.in-Some.ensures.item.3.0 c.in-Some.ensures.value) c.in_ok-receive-in-Some.ensures refl refl refl
