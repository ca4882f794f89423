use Rattle.std.proofs.Common.{◌≡◌, length}
use Rattle.proc_values.specs.Binds.{chained, term_in}
use Rattle.proc_values.proofs.bindings.Bindings.get.Given as goal

-- the newer bindings are of other variables
abbrev pub invariant-loop-chain : goal.invariant-loop-chain
invariant-loop-chain g l = term_in (chained l.chain) l.variable ≡ term_in l.self l.variable

abbrev pub decreases-loop-chain : goal.decreases-loop-chain
decreases-loop-chain g l = length (chained l.chain)
