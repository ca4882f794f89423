use Rattle.term_laws.proofs.ScopedLaws.{put_closes}
use Rattle.term_laws.proofs.scoped.put_stays_scoped.Goals as goal

-- src/scoped.rt
pub returns : goal.returns
returns c = put_closes
