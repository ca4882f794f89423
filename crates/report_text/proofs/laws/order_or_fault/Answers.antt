use Rattle.report_text.proofs.Exact.{apart, one_fault}
use Rattle.report_text.proofs.laws.order_or_fault.Goals as goal

pub returns : goal.returns
returns c = record { apart = apart; one_fault = one_fault }
