use Rattle.std.proofs.Common.{refl}
use Rattle.write_room.proofs.RoomBits.{length-written}
use Rattle.write_room.proofs.room.Room.spare.Goals as goal

pub returns-clause-value : goal.returns-clause-value
returns-clause-value c = rw (c.size.ensures.size, ← c.self.view_is, length-written _ _ c.self.invariant.0) refl
