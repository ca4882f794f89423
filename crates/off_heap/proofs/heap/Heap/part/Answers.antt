use Rattle.off_heap.specs.Cells.{cell_at}
use Rattle.off_heap.proofs.Kept.{part-inside}
use Rattle.off_heap.proofs.heap.Heap.part.Goals as goal

pub returns-in-Part-clause-valid : goal.returns-in-Part-clause-valid
returns-in-Part-clause-valid c =
    (part-inside (cell_at c.args.self.now.cells c.in-Part.cell) c.in-Part.start c.in-Part.len c.args.off c.args.bits (rw c.in-Part.is at c.requires.valid) (rw c.in-Part.is at c.requires.inside)).0

pub returns-in-Part-clause-shows : goal.returns-in-Part-clause-shows
returns-in-Part-clause-shows c =
    rw c.in-Part.is (part-inside (cell_at c.args.self.now.cells c.in-Part.cell) c.in-Part.start c.in-Part.len c.args.off c.args.bits (rw c.in-Part.is at c.requires.valid) (rw c.in-Part.is at c.requires.inside)).1
