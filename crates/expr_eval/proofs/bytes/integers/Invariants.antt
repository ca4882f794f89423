use Rattle.std.proofs.Common.{◌≡◌, ◌-◌, ◌*◌, ◌/◌, ◌++◌, drop, length}
use Rattle.term_value.specs.BuiltIns.{bytes_of}
use Rattle.expr_eval.proofs.ByteTerms.{int_terms}
use Rattle.expr_eval.proofs.bytes.integers.Given as goal

abbrev pub invariant-loop-index : goal.invariant-loop-index
invariant-loop-index g l = l.items.items ++ int_terms (bytes_of (l.count - l.index) (drop (8 * l.index) l.bits)) ≡ int_terms (bytes_of (length l.bits / 8) l.bits)
