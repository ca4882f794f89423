use Rattle.copy_machine.proofs.Runners.{goes_on}
use Rattle.copy_machine.proofs.progress.Progress.enter.Goals as goal

pub returns : goal.returns
returns g c =
    goes_on g.P.Process.code g.P.Process.local g.P.Process.waits c.args.entry c.in_ok-apply.field-0 c.args.self.now _ (c.is_own_entry.ensures c.if-not-is_own_entry.false) c.if-not-branch.false c.in_ok-apply.ensures c.in_ok-push.ensures.items
