use Rattle.term_laws.proofs.NameOrder.{names_by_characters}
use Rattle.term_laws.proofs.laws.names_by_characters.Goals as goal

-- src/laws.rt
pub returns : goal.returns
returns c = names_by_characters
