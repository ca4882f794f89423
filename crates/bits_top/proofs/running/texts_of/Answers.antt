use Rattle.bits_top.proofs.Runs.{run_texts}
use Rattle.bits_top.proofs.running.texts_of.Goals as goal

pub returns : goal.returns
returns c =
    run_texts c.outcome_reports.ensures _ c.args.reductions c.in_ok-outcome.outcome _ _ c.in_ok-outcome.ensures (rw c.items.ensures at c.in_ok-order.ensures) c.in_ok-report.ensures
