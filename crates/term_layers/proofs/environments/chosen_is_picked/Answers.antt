use Rattle.term_layers.proofs.InEnvironment.{chosen_picked}
use Rattle.term_layers.proofs.environments.chosen_is_picked.Goals as goal

-- src/environments.rt
pub returns : goal.returns
returns c = chosen_picked
