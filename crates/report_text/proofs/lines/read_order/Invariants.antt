use Rattle.std.proofs.Common.{◌≡◌, ◌++◌, All, length}
use Rattle.term_value.specs.Orders.{IsInRange, order_text}
use Rattle.report_text.proofs.lines.read_order.Given as goal

abbrev pub invariant-loop-rest : goal.invariant-loop-rest
invariant-loop-rest l = record {
  in_range : All IsInRange l.entries.items;
  spelled : l.text ≡ order_text l.entries.items ++ l.rest;
}

abbrev pub decreases-loop-rest : goal.decreases-loop-rest
decreases-loop-rest l = length l.rest
