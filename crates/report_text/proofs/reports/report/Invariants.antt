use Rattle.std.proofs.Common.{◌≡◌, ◌++◌, take}
use Rattle.std.specs.List.{flat_map}
use Rattle.term_value.specs.Reports.{end_line, shown_line}
use Rattle.report_text.proofs.reports.report.Given as goal

abbrev pub invariant-loop-shown : goal.invariant-loop-shown
invariant-loop-shown l = l.text.items ≡ flat_map shown_line (take l.shown-index l.outcome.shown)

abbrev pub invariant-loop-pid : goal.invariant-loop-pid
invariant-loop-pid l = l.text.items ≡ flat_map shown_line l.outcome.shown ++ flat_map end_line (take l.pid-index l.outcome.ends)
