use Rattle.std.proofs.Common.{◌+◌, ◌*◌, ◌≤◌, length, arith}
use Rattle.bits_value.specs.Bits.{all_bits}
use Rattle.bits_value.specs.Number.{spell}
use Rattle.bits_value.specs.declared.TheConstants.{MAX_BITS}
use Rattle.bits_value.proofs.Written.{length-all_bits}
use Rattle.write_room.proofs.RoomBits.{length-written, written-front}
use Rattle.bits_value.proofs.Spellings.{length-spell}
use Rattle.std.proofs.lemmas.Int.{to_z-of_z}
use mir.Val.{SFits}
use mir.Syntax.{w128}
use Rattle.write_room.proofs.room.Room.write_number.Goals as goal

pub put_at-requires : goal.put_at-requires
put_at-requires c = record { inside = rw (← c.self.view_is, length-written _ _ c.self.invariant.0) at c.requires.room }

pub invariant_of-self : goal.invariant_of-self
invariant_of-self c =
    let a : c.self.inside.used + c.args.bits ≤ 8 * length c.self.inside.bytes.items = rw (← c.self.view_is, length-written _ _ c.self.invariant.0) at c.requires.room in
    let b : c.self.inside.used + c.args.bits ≤ MAX_BITS = rw (← c.self.view_is, length-written _ _ c.self.invariant.0) at c.requires.short in
    (omega arith, omega arith, omega arith)

pub returns-clause-added : goal.returns-clause-added
returns-clause-added c =
    let l = length-all_bits c.self.inside.bytes.items in
    let f : SFits w128 c.args.value = c.ranges.value in
    rw (c.put_at.ensures.bits, ← c.self.view_is, to_z-of_z w128 c.args.value f)
    (written-front (all_bits c.self.inside.bytes.items) (spell c.args.bits c.args.value c.args.endian) _ c.self.inside.used c.args.bits (omega arith) (length-spell c.args.bits c.args.value c.args.endian))
