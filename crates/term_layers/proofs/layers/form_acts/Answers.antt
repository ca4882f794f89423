use Rattle.term_layers.proofs.Under.{acts}
use Rattle.term_layers.proofs.layers.form_acts.Goals as goal

-- src/layers.rt
pub returns : goal.returns
returns c = acts
