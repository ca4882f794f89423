use Rattle.match_laws.proofs.Reading.{built_is_read}
use Rattle.match_laws.proofs.built_is_read.Goals as goal

-- src/lib.rt
pub returns : goal.returns
returns c = built_is_read
