use Rattle.copy_machine.proofs.Runners.{begun}
use Rattle.copy_machine.proofs.progress.Progress.begin.Goals as goal

pub returns : goal.returns
returns g c = begun g.P.Process.code g.P.Process.local g.P.Process.waits _ c.new.ensures.items
