use Rattle.term_layers.proofs.Turns.{opening_next}
use Rattle.term_layers.proofs.layers.opening_next.Goals as goal

-- src/layers.rt
pub returns : goal.returns
returns c = opening_next
