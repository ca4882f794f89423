use Rattle.term_layers.proofs.Twice.{twice}
use Rattle.term_layers.proofs.bindings.put_twice.Goals as goal

-- src/bindings.rt
pub returns : goal.returns
returns c = twice
