use Rattle.term_laws.proofs.ScopedMachine.{contracts_scoped}
use Rattle.term_laws.proofs.scoped.run_stays_scoped.Goals as goal

-- src/scoped.rt
pub returns : goal.returns
returns c = contracts_scoped
