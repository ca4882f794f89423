use Rattle.std.proofs.Common.{◌≤◌, ◌+◌, ◌∙◌, List, Bool, ap, arith}
use Rattle.bits_value.specs.Number.{number, bounded}
use Rattle.bits_value.proofs.BitLists.{length-bit_list, part-bit_list}
use Rattle.bits_value.proofs.bits.Bits.int.Goals as goal

pub bounded_number-requires-clause-inside : goal.bounded_number-requires-clause-inside
bounded_number-requires-clause-inside c = let h : c.args.off + c.args.bits ≤ c.self.inside.len = rw (← c.self.view_is, length-bit_list) at c.requires.inside in omega arith

pub returns : goal.returns
returns c = let h : c.args.off + c.args.bits ≤ c.self.inside.len = rw (← c.self.view_is, length-bit_list) at c.requires.inside in
    rw (← c.self.view_is) (c.bounded_number.ensures ∙ ap (λ (w : List Bool). bounded (number w c.args.sign c.args.endian)) (part-bit_list _ _ _ _ _ h))
