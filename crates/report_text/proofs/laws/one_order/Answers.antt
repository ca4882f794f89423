use Rattle.report_text.proofs.OrderLines.{one_order}
use Rattle.report_text.proofs.laws.one_order.Goals as goal

-- src/laws.rt
pub returns : goal.returns
returns c = one_order
