use Rattle.term_layers.proofs.InEnvironment.{opening_of}
use Rattle.term_layers.proofs.environments.opens_alike.Goals as goal

-- src/environments.rt
pub returns : goal.returns
returns c = opening_of
