use Rattle.std.proofs.Common.{[], sym, refl}
use Rattle.std.proofs.lemmas.List.{append-nil}
use Rattle.off_heap.proofs.Kept.{keeps_set}
use Rattle.off_heap.proofs.Linking.{sound_set, tight_at}
use Rattle.off_heap.proofs.heap.Heap.mark.Goals as goal

pub returns-in-Some-clause-keeps : goal.returns-in-Some-clause-keeps
returns-in-Some-clause-keeps c = rw (← c.self.view_is) (keeps_set c.self.inside.cells.slots c.in-Part.cell c.in-Some.found.now _ [] (sym c.in-Some.ensures.value) (sym (append-nil _)))

pub invariant_of-self : goal.invariant_of-self
invariant_of-self c =
    let at = sym c.in-Some.ensures.value in
    sound_set c.self.inside.cells.slots c.self.inside.head c.self.inside.count c.in-Part.cell c.in-Some.found.now _ at refl
    (tight_at c.self.inside.cells.slots c.in-Part.cell c.in-Some.found.now at c.self.invariant.tight) c.self.invariant
