use Rattle.term_laws.proofs.ScopedLaws.{known_value}
use Rattle.term_laws.proofs.scoped.known_has_value.Goals as goal

-- src/scoped.rt
pub returns : goal.returns
returns c = known_value
