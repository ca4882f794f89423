use Rattle.std.proofs.Common.{◌≡◌, length}
use Rattle.term_value.specs.PutIn.{value_in}
use Rattle.code_match.specs.Binds.{bounds, chained}
use Rattle.code_match.proofs.bindings.Bindings.get.Given as goal

-- the newer bindings are of other variables
abbrev pub invariant-loop-chain : goal.invariant-loop-chain
invariant-loop-chain l = value_in (bounds (chained l.chain)) l.variable ≡ value_in (bounds l.self) l.variable

abbrev pub decreases-loop-chain : goal.decreases-loop-chain
decreases-loop-chain l = length (chained l.chain)
