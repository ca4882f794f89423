use Rattle.term_layers.proofs.InEnvironment.{giving_of}
use Rattle.term_layers.proofs.environments.gives_alike.Goals as goal

-- src/environments.rt
pub returns : goal.returns
returns c = giving_of
