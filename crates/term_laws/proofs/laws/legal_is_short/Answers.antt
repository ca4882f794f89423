use Rattle.term_laws.proofs.Bounded.{legal_is_short}
use Rattle.term_laws.proofs.laws.legal_is_short.Goals as goal

-- src/laws.rt
pub returns : goal.returns
returns c = legal_is_short
