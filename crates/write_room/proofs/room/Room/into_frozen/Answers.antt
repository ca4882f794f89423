use Rattle.std.proofs.Common.{◌∙◌}
use Rattle.write_room.proofs.RoomBits.{written-list}
use Rattle.write_room.proofs.room.Room.into_frozen.Goals as goal

pub returns : goal.returns
returns c = rw (← c.self.view_is) (c.of.ensures ∙ written-list c.self.inside.bytes.items c.self.inside.used c.self.invariant.0)
