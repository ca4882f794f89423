use Rattle.off_heap.specs.Cells.{cell_at}
use Rattle.off_heap.proofs.Walked.{cleared, cleared_keeps}
use Rattle.off_heap.proofs.heap.Heap.clear_marks.Goals as goal

pub returns-clause-cleared : goal.returns-clause-cleared
returns-clause-cleared c = λ n. cleared (cell_at c.args.self.now.cells n) (cell_at c.walk.new.self.cells n) (c.walk.ensures.walked n)

pub returns-clause-keeps : goal.returns-clause-keeps
returns-clause-keeps c = cleared_keeps c.args.self.now.cells c.walk.new.self.cells (λ n. cleared (cell_at c.args.self.now.cells n) (cell_at c.walk.new.self.cells n) (c.walk.ensures.walked n))
