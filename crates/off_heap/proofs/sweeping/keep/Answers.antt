use Rattle.std.proofs.Common.{sym}
use Rattle.off_heap.proofs.Slots.{count-set}
use Rattle.off_heap.proofs.sweeping.keep.Goals as goal

pub returns-clause-total : goal.returns-clause-total
returns-clause-total c = count-set c.args.cells.now.slots c.args.at c.in-Some.found.now _ (sym c.in-Some.ensures.value)
