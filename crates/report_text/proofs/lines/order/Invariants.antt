use Rattle.std.proofs.Common.{◌≡◌, take}
use Rattle.term_value.specs.Orders.{order_text}
use Rattle.report_text.proofs.lines.order.Given as goal

abbrev pub invariant-loop-entry : goal.invariant-loop-entry
invariant-loop-entry l = l.text.items ≡ order_text (take l.entry-index l.entries)
