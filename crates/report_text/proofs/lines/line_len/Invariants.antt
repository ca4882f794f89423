use Rattle.std.proofs.Common.{take}
use Rattle.term_value.specs.Orders.{HasNoLineFeed}
use Rattle.report_text.proofs.lines.line_len.Given as goal

abbrev pub invariant-loop-index : goal.invariant-loop-index
invariant-loop-index l = HasNoLineFeed (take l.index l.text)
