use Rattle.term_layers.proofs.Runs.{next_under}
use Rattle.term_layers.proofs.layers.next_under.Goals as goal

-- src/layers.rt
pub returns : goal.returns
returns c = next_under
