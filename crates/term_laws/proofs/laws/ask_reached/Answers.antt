use Rattle.term_laws.proofs.Finishes.{ask_reached}
use Rattle.term_laws.proofs.laws.ask_reached.Goals as goal

-- src/layers.rt
pub returns : goal.returns
returns c = ask_reached
