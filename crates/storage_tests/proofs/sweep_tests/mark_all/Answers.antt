use Rattle.std.proofs.Common.{All, subst, arith}
use Rattle.std.proofs.lemmas.List.{take_all}
use Rattle.off_heap.specs.Cells.{HasMark}
use Rattle.storage_tests.proofs.Marks.{keeps_then, marks_next}
use Rattle.storage_tests.proofs.sweep_tests.mark_all.Goals as goal

pub loop-of-preserved : goal.loop-of-preserved
loop-of-preserved c = record {
  keeps = keeps_then c.args.heap.now.cells c.loop-of.heap.cells c.mark.new.self.cells c.loop-of.invariant.keeps c.mark.ensures.keeps;
  marked = marks_next c.args.heap.now.cells c.loop-of.heap.cells c.mark.new.self.cells c.args.live.now c.loop-of.of-index c.of-item.result c.loop-of-test.true c.of-item.is c.requires
      c.loop-of.invariant.keeps c.mark.ensures.marks c.loop-of.invariant.marked;
}

pub returns-clause-marked : goal.returns-clause-marked
returns-clause-marked c = subst (All (HasMark c.loop-of.heap.cells)) (take_all c.loop-of.of-index c.args.live.now (omega arith)) c.loop-of.invariant.marked
