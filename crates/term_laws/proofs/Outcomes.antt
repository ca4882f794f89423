-- The text of an outcome is the machine's report.
use Rattle.std.proofs.Common.{map, ap, ◌∙◌}
use Rattle.term_value.specs.Texts.{text}
use Rattle.term_value.specs.Step.{name_in}
use Rattle.term_value.specs.Reports.{lines_of}
use Rattle.term_laws.specs.Laws.{OutcomeReports}

pub outcome_reports : OutcomeReports
outcome_reports m entries o is = ap (λ l. lines_of l o.ends) is.shown ∙ ap (lines_of (map (text (name_in m.code)) m.shown)) is.ends
