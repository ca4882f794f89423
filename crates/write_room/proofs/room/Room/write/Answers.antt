use Rattle.std.proofs.Common.{◌+◌, ◌*◌, ◌≤◌, refl, length, arith}
use Rattle.bits_value.specs.Bits.{all_bits}
use Rattle.bits_value.specs.declared.TheConstants.{MAX_BITS}
use Rattle.bits_value.proofs.Written.{length-all_bits}
use Rattle.write_room.proofs.RoomBits.{length-written, written-front}
use Rattle.write_room.proofs.room.Room.write.Goals as goal

pub write_at-requires : goal.write_at-requires
write_at-requires c = record { inside = rw (← c.self.view_is, length-written _ _ c.self.invariant.0) at c.requires.room }

pub invariant_of-self : goal.invariant_of-self
invariant_of-self c =
    let a : c.self.inside.used + length c.args.source ≤ 8 * length c.self.inside.bytes.items = rw (← c.self.view_is, length-written _ _ c.self.invariant.0) at c.requires.room in
    let b : c.self.inside.used + length c.args.source ≤ MAX_BITS = rw (← c.self.view_is, length-written _ _ c.self.invariant.0) at c.requires.short in
    (omega arith, omega arith, omega arith)

pub returns-clause-added : goal.returns-clause-added
returns-clause-added c =
    let l = length-all_bits c.self.inside.bytes.items in
    rw (c.write_at.ensures.bits, ← c.self.view_is, c.len-count.ensures)
    (written-front (all_bits c.self.inside.bytes.items) c.args.source _ c.self.inside.used (length c.args.source) (omega arith) refl)
