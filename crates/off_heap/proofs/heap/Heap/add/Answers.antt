use Rattle.std.proofs.Common.{◌<◌, ◌^◌, refl, arith}
use Rattle.off_heap.proofs.Linking.{sound_new}
use Rattle.off_heap.proofs.heap.Heap.add.Goals as goal

pub invariant_of-self : goal.invariant_of-self
invariant_of-self c =
    let low : c.in-Ok.key < 2 ^ 31 = omega (arith, c.in-Ok.ensures.key, c.vacant_key.ensures.value) in
    sound_new c.self.inside.cells.slots c.insert.new.self.slots c.self.inside.head c.self.inside.count c.in-Ok.key _ c.in-Ok.ensures.updates.others c.in-Ok.ensures.updates.changed c.in-Ok.ensures.was_vacant refl low
    c.in-Ok.ensures.len (omega arith) c.requires c.self.invariant
