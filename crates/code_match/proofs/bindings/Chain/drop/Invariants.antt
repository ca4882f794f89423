use Rattle.std.proofs.Common.{length}
use Rattle.code_match.specs.Binds.{chained}
use Rattle.code_match.proofs.bindings.Chain.drop.Given as goal

abbrev pub decreases-loop-self : goal.decreases-loop-self
decreases-loop-self l = length (chained l.self)
