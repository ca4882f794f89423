use Rattle.term_laws.proofs.ScopedLaws.{shape_scoped}
use Rattle.term_laws.proofs.scoped.shape_is_scoped.Goals as goal

-- src/scoped.rt
pub returns : goal.returns
returns c = shape_scoped
