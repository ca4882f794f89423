use Rattle.std.proofs.Common.{sym, refl}
use Rattle.off_heap.proofs.Linking.{sound_set}
use Rattle.off_heap.proofs.heap.Heap.put_room.Goals as goal

pub invariant_of-self : goal.invariant_of-self
invariant_of-self c = sound_set c.self.inside.cells.slots c.self.inside.head c.self.inside.count c.args.cell c.in-Some.found.now _ (sym c.in-Some.ensures.value) refl c.requires.tight c.self.invariant
