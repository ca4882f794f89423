use Rattle.term_laws.proofs.ScopedMachine.{start_scoped, leads_scoped}
use Rattle.term_laws.proofs.scoped.orders_stay_scoped.Goals as goal

-- src/scoped.rt
pub returns : goal.returns
returns c = (start_scoped, leads_scoped)
