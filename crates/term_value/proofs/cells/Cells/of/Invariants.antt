use Rattle.std.proofs.Common.{◌≡◌, length}
use Rattle.term_value.specs.Terms.{row_of, row}
use Rattle.term_value.proofs.RowLemmas.{onto}
use Rattle.term_value.proofs.cells.Cells.of.Given as goal

abbrev pub invariant-loop-item : goal.invariant-loop-item
invariant-loop-item g l = onto l.items.items (row_of l.list) ≡ row l.fn.items.items

abbrev pub decreases-loop-item : goal.decreases-loop-item
decreases-loop-item g l = length l.items.items
