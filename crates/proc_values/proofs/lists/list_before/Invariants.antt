use Rattle.std.proofs.Common.{◌≡◌, length}
use Rattle.term_value.specs.Terms.{row_of}
use Rattle.proc_values.specs.Rows.{onto}
use Rattle.proc_values.proofs.lists.list_before.Given as goal

abbrev pub invariant-loop-item : goal.invariant-loop-item
invariant-loop-item g l = onto l.left.items (row_of l.list) ≡ onto l.fn.items.items (row_of l.fn.tail)

abbrev pub decreases-loop-item : goal.decreases-loop-item
decreases-loop-item g l = length l.left.items
