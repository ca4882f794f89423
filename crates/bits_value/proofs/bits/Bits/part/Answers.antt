use Rattle.std.proofs.Common.{◌≤◌, ◌+◌, arith, rules}
use Rattle.bits_value.proofs.BitLists.{length-bit_list, part-bit_list}
use Rattle.bits_value.proofs.bits.Bits.part.Goals as goal

pub overflow_add-result : goal.overflow_add-result
overflow_add-result c = let h : c.args.off + c.args.bits ≤ c.self.inside.len = rw (← c.self.view_is, length-bit_list) at c.requires.inside in search rules

pub invariant_of-result : goal.invariant_of-result
invariant_of-result c = let h : c.args.off + c.args.bits ≤ c.self.inside.len = rw (← c.self.view_is, length-bit_list) at c.requires.inside in (omega arith, omega arith)

pub returns-clause-size : goal.returns-clause-size
returns-clause-size c = length-bit_list _ _ _

pub returns-clause-is : goal.returns-clause-is
returns-clause-is c = let h : c.args.off + c.args.bits ≤ c.self.inside.len = rw (← c.self.view_is, length-bit_list) at c.requires.inside in
    rw (← c.self.view_is) (part-bit_list _ _ _ _ _ h)
