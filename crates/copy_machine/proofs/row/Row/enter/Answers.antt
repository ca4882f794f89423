use Rattle.std.proofs.Common.{◌≡◌}
use Rattle.copy_machine.specs.Entering.{Conditions, conditions}
use Rattle.copy_machine.proofs.Rows.{leaves_row, over_row}
use Rattle.copy_machine.proofs.row.Row.enter.Goals as goal

pub returns-then-not-gone : goal.returns-then-not-gone
returns-then-not-gone g c = λ (s : Conditions) (e : s ≡ conditions c.args.world.now.code.now c.args.world.now.reductions c.args.started).
    leaves_row g.P.Process.code g.P.Process.local g.P.Process.waits s c.args.entry c.in-Ended.ending c.args.self.now (cc) (cc)

pub returns-in-Ends : goal.returns-in-Ends
returns-in-Ends g c = λ (s : Conditions) (e : s ≡ conditions c.args.world.now.code.now c.args.world.now.reductions c.args.started).
    over_row g.P.Process.code g.P.Process.local g.P.Process.waits s c.args.entry c.in-Ends.ending c.args.self.now c.in_ok-act-in-Running.field-0 c.in-Running.actor c.act.new.self (cc) (cc) (c.in_ok-act-in-Running.ensures s e)
