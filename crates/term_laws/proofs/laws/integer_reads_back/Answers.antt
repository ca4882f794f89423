use Rattle.term_laws.proofs.ReadsBack.{integer_reads_back}
use Rattle.term_laws.proofs.laws.integer_reads_back.Goals as goal

-- src/laws.rt
pub returns : goal.returns
returns c = integer_reads_back
