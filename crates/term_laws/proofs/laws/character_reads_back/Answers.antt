use Rattle.term_value.proofs.Spellings.{character_reads_back}
use Rattle.term_laws.proofs.laws.character_reads_back.Goals as goal

-- src/laws.rt
pub returns : goal.returns
returns c = character_reads_back
