use Rattle.std.proofs.Common.{sym}
use Rattle.write_room.proofs.RoomBits.{length-written}
use Rattle.write_room.proofs.room.Room.used.Goals as goal

pub returns-clause-value : goal.returns-clause-value
returns-clause-value c = rw (← c.self.view_is) (sym (length-written _ _ c.self.invariant.0))
