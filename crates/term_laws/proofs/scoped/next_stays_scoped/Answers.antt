use Rattle.term_laws.proofs.ScopedSteps.{next_scoped}
use Rattle.term_laws.proofs.scoped.next_stays_scoped.Goals as goal

-- src/scoped.rt
pub returns : goal.returns
returns c = next_scoped
