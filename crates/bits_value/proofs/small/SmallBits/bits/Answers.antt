use Rattle.std.proofs.Common.{◌∙◌, ap, List, ℕ}
use Rattle.bits_value.specs.Bits.{bit_list}
use Rattle.bits_value.proofs.Written.{bit_list-front}
use Rattle.bits_value.proofs.small.SmallBits.bits.Goals as goal

pub returns-clause-is : goal.returns-clause-is
returns-clause-is c = rw (← c.self.view_is) (c.of.ensures.is ∙ ap (λ (b : List ℕ). bit_list b 0 c.self.inside.len) c.deref.ensures.0 ∙ bit_list-front c.self.inside.bytes.items c.self.inside.len c.self.invariant.1)
