use Rattle.term_layers.proofs.Under.{under}
use Rattle.term_layers.proofs.layers.step_under.Goals as goal

-- src/layers.rt
pub returns : goal.returns
returns c = under
