use Rattle.term_laws.proofs.KeptMachine.{orders_keep_bounds}
use Rattle.term_laws.proofs.inside.orders_keep_bounds.Goals as goal

-- src/inside.rt
pub returns : goal.returns
returns c = orders_keep_bounds
