use Rattle.std.proofs.Common.{sym}
use Rattle.off_heap.proofs.Linking.{sound_less}
use Rattle.off_heap.proofs.heap.Heap.take_front.Goals as goal

pub invariant_of-self : goal.invariant_of-self
invariant_of-self c = sound_less c.self.inside.cells.slots c.try_remove.new.self.slots c.self.inside.head c.self.inside.count c.in-Some.cell c.in-Some.ensures.updates.others c.in-Some.ensures.updates.changed (sym c.in-Some.ensures.value) c.in-Some.ensures.len c.self.invariant
