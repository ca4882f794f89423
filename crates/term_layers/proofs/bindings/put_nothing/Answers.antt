use Rattle.term_layers.proofs.Nothing.{same}
use Rattle.term_layers.proofs.bindings.put_nothing.Goals as goal

-- src/bindings.rt
pub returns : goal.returns
returns c = same
