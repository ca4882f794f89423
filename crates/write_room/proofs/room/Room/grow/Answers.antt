use Rattle.std.proofs.Common.{◌-◌, ◌*◌, ◌<◌, length, arith}
use Rattle.write_room.proofs.RoomBits.{length-written, resized-kept}
use Rattle.write_room.proofs.room.Room.grow.Goals as goal

pub room_bytes-requires : goal.room_bytes-requires
room_bytes-requires c = record { short = rw (← c.self.view_is, length-written _ _ c.self.invariant.0) at c.requires.short }

pub returns-clause-bits : goal.returns-clause-bits
returns-clause-bits c =
    let g : 8 * length c.self.inside.bytes.items - c.self.inside.used < c.args.count = rw (← c.self.view_is, length-written _ _ c.self.invariant.0) at c.requires.grows in
    rw (c.in_ok-resize.ensures.items, ← c.self.view_is) (resized-kept _ _ _ _ (omega arith) c.self.invariant.0)

pub returns-clause-ticks : goal.returns-clause-ticks
returns-clause-ticks c = rw (← c.self.view_is, length-written _ _ c.self.invariant.0) c.add.ensures

pub returns-clause-size : goal.returns-clause-size
returns-clause-size c = rw (← c.self.view_is, length-written _ _ c.self.invariant.0) (let e = c.in_ok-resize.ensures in let r = c.room_bytes.ensures in omega arith)
