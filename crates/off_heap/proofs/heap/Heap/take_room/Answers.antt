use Rattle.std.proofs.Common.{List, Option, ap, sym, subst}
use Rattle.write_room.specs.Rooms.{IsTight}
use Rattle.off_heap.specs.declared.cell.Cell.{Cell}
use Rattle.off_heap.specs.Cells.{Contents, room_of}
use Rattle.off_heap.proofs.Linking.{sound_set, tight_at}
use Rattle.off_heap.proofs.Out.{refilled}
use Rattle.off_heap.proofs.heap.Heap.take_room.Goals as goal

pub invariant_of-self : goal.invariant_of-self
invariant_of-self c =
    sound_set c.self.inside.cells.slots c.self.inside.head c.self.inside.count c.args.cell c.in-Some.found.now c.take_room.new.self (sym c.in-Some.ensures.value) c.take_room.ensures.next c.take_room.ensures.tight c.self.invariant

pub returns-clause-back : goal.returns-clause-back
returns-clause-back c =
    rw (← c.self.view_is) (ap (λ (k : List (Option Cell)). let contents : Contents = record { cells = k; head = c.self.inside.head; swept = c.self.inside.swept } in contents)
    (refilled c.self.inside.cells.slots c.args.cell c.in-Some.found.now c.take_room.new.self c.take_room.result (sym c.in-Some.ensures.value) c.take_room.ensures.back))

pub returns-clause-tight : goal.returns-clause-tight
returns-clause-tight c =
    let P : Cell → Type 0 = λ found. IsTight (room_of found.storage) in
    subst P c.take_room.ensures.back (tight_at c.self.inside.cells.slots c.args.cell c.in-Some.found.now (sym c.in-Some.ensures.value) c.self.invariant.tight)
