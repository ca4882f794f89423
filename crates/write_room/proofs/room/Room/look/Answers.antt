use Rattle.std.proofs.Common.{◌∙◌, ap, ℕ, List}
use Rattle.bits_value.specs.Bits.{bit_list}
use Rattle.write_room.proofs.RoomBits.{written-list}
use Rattle.write_room.proofs.room.Room.look.Goals as goal

pub returns : goal.returns
returns c = rw (← c.self.view_is) (c.of.ensures.is ∙ ap (λ (b : List ℕ). bit_list b 0 c.self.inside.used) c.as_slice.ensures.value ∙ written-list c.self.inside.bytes.items c.self.inside.used c.self.invariant.0)
