use Rattle.term_layers.proofs.Rows.{generator_under}
use Rattle.term_layers.proofs.bindings.rows_under.Goals as goal

-- src/bindings.rt
pub returns : goal.returns
returns c = generator_under
