use Rattle.term_laws.proofs.Paid.{cost_is_paid}
use Rattle.term_laws.proofs.laws.cost_is_paid.Goals as goal

-- src/laws.rt
pub returns : goal.returns
returns c = cost_is_paid
