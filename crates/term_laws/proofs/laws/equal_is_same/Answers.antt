use Rattle.term_laws.proofs.Ordered.{equal_is_same}
use Rattle.term_laws.proofs.laws.equal_is_same.Goals as goal

-- src/laws.rt
pub returns : goal.returns
returns c = equal_is_same
