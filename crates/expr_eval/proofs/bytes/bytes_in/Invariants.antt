use Rattle.std.proofs.Common.{◌≡◌, ◌-◌, ◌*◌, ◌/◌, ◌++◌, drop, length}
use Rattle.term_value.specs.BuiltIns.{bytes_of}
use Rattle.expr_eval.proofs.bytes.bytes_in.Given as goal

abbrev pub invariant-loop-index : goal.invariant-loop-index
invariant-loop-index l = l.bytes.items ++ bytes_of (l.count - l.index) (drop (8 * l.index) l.bits) ≡ bytes_of (length l.bits / 8) l.bits
