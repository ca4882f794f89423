use Rattle.std.proofs.Common.{◌≡◌, ◌+◌, ◌*◌, ◌≤◌, length, take, drop, arith}
use Rattle.std.proofs.lemmas.List.{length-take-le, length-drop}
use Rattle.bits_value.specs.Bits.{all_bits}
use Rattle.bits_value.specs.declared.TheConstants.{MAX_BITS}
use Rattle.bits_value.proofs.Written.{length-all_bits}
use Rattle.write_room.proofs.RoomBits.{length-written, written-front, written-cut}
use Rattle.write_room.proofs.room.Room.write_own.Goals as goal

pub copy_at-requires-clause-inside : goal.copy_at-requires-clause-inside
copy_at-requires-clause-inside c = rw (← c.self.view_is, length-written _ _ c.self.invariant.0) at c.requires.room

pub invariant_of-self : goal.invariant_of-self
invariant_of-self c =
    let a : c.self.inside.used + c.args.bits ≤ 8 * length c.self.inside.bytes.items = rw (← c.self.view_is, length-written _ _ c.self.invariant.0) at c.requires.room in
    let b : c.self.inside.used + c.args.bits ≤ MAX_BITS = rw (← c.self.view_is, length-written _ _ c.self.invariant.0) at c.requires.short in
    (omega arith, omega arith, omega arith)

pub returns-clause-added : goal.returns-clause-added
returns-clause-added c =
    let all = all_bits c.self.inside.bytes.items in
    let l = length-all_bits c.self.inside.bytes.items in
    let o : c.args.off + c.args.bits ≤ c.self.inside.used = rw (← c.self.view_is, length-written _ _ c.self.invariant.0) at c.requires.own in
    let n : length (take c.args.bits (drop c.args.off all)) ≡ c.args.bits = length-take-le c.args.bits (drop c.args.off all) (omega (arith, length-drop c.args.off all)) in
    rw (c.copy_at.ensures.bits, ← c.self.view_is, written-cut all c.self.inside.used c.args.off c.args.bits o (omega arith))
    (written-front all (take c.args.bits (drop c.args.off all)) _ c.self.inside.used c.args.bits (omega arith) n)
