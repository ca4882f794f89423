use Rattle.term_laws.proofs.CallLaws.{calls_are_read}
use Rattle.term_laws.proofs.laws.calls_are_read.Goals as goal

-- src/laws.rt
pub returns : goal.returns
returns c = calls_are_read
