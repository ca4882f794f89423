use Rattle.term_laws.proofs.Completion.{complete_is_last}
use Rattle.term_laws.proofs.laws.complete_is_last.Goals as goal

-- src/laws.rt
pub returns : goal.returns
returns c = complete_is_last
