use Rattle.term_laws.proofs.ScopedLaws.{none_unbound}
use Rattle.term_laws.proofs.scoped.none_unbound.Goals as goal

-- src/scoped.rt
pub returns : goal.returns
returns c = none_unbound
