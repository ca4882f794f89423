use Rattle.term_laws.proofs.ScopedLaws.{open_value}
use Rattle.term_laws.proofs.scoped.open_has_value.Goals as goal

-- src/scoped.rt
pub returns : goal.returns
returns c = open_value
