use Rattle.term_layers.proofs.Turns.{giving_next}
use Rattle.term_layers.proofs.layers.giving_next.Goals as goal

-- src/layers.rt
pub returns : goal.returns
returns c = giving_next
