use Rattle.match_laws.proofs.Kept.{built_reads_back}
use Rattle.match_laws.proofs.built_reads_back.Goals as goal

-- src/lib.rt
pub returns : goal.returns
returns c = built_reads_back
