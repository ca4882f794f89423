use Rattle.std.proofs.Common.{◌<◌, ◌∙◌, sym, arith, rules}
use Rattle.bits_value.proofs.BitLists.{length-bit_list, get_or-bit_list, bit_in-test}
use Rattle.bits_value.proofs.bits.Bits.get.Goals as goal

pub overflow_add-place : goal.overflow_add-place
overflow_add-place c = let h : c.args.i < c.self.inside.len = rw (← c.self.view_is, length-bit_list) at c.requires.inside in search rules

pub bounds-self-inside-place : goal.bounds-self-inside-place
bounds-self-inside-place c = let h : c.args.i < c.self.inside.len = rw (← c.self.view_is, length-bit_list) at c.requires.inside in omega arith

pub returns : goal.returns
returns c = let h : c.args.i < c.self.inside.len = rw (← c.self.view_is, length-bit_list) at c.requires.inside in
    rw (← c.self.view_is) (bit_in-test _ _ ∙ sym (get_or-bit_list _ _ _ _ _ h))
