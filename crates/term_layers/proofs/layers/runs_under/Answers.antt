use Rattle.term_layers.proofs.Runs.{runs_under}
use Rattle.term_layers.proofs.layers.runs_under.Goals as goal

-- src/layers.rt
pub returns : goal.returns
returns c = runs_under
