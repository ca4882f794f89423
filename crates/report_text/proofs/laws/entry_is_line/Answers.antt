use Rattle.report_text.proofs.OrderLines.{entry_is_line}
use Rattle.report_text.proofs.laws.entry_is_line.Goals as goal

-- src/laws.rt
pub returns : goal.returns
returns c = entry_is_line
