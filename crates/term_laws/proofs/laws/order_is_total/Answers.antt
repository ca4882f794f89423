use Rattle.term_laws.proofs.Ordered.{order_total}
use Rattle.term_laws.proofs.laws.order_is_total.Goals as goal

-- src/laws.rt
pub returns : goal.returns
returns c = order_total
