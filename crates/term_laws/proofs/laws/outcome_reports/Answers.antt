use Rattle.term_laws.proofs.Outcomes.{outcome_reports}
use Rattle.term_laws.proofs.laws.outcome_reports.Goals as goal

-- src/laws.rt
pub returns : goal.returns
returns c = outcome_reports
