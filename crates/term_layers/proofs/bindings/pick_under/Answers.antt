use Rattle.term_layers.proofs.Matches.{picks_under}
use Rattle.term_layers.proofs.bindings.pick_under.Goals as goal

-- src/bindings.rt
pub returns : goal.returns
returns c = picks_under
