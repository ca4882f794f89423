use Rattle.term_laws.proofs.ScopedLaws.{match_names}
use Rattle.term_laws.proofs.scoped.match_names.Goals as goal

-- src/scoped.rt
pub returns : goal.returns
returns c = match_names
