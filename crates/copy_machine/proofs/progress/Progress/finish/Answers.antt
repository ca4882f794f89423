use Rattle.std.proofs.Common.{sym, ◌∙◌}
use Rattle.copy_machine.proofs.Runners.{finished}
use Rattle.copy_machine.proofs.progress.Progress.finish.Goals as goal

pub returns : goal.returns
returns g c =
    finished g.P.Process.code g.P.Process.local g.P.Process.waits c.in_ok-outcome.outcome c.args.self (sym c.all_left.ensures ∙ c.if-not-all_left.false) c.in_ok-outcome.ensures
