use Rattle.std.proofs.Common.{length}
use Rattle.proc_values.specs.Binds.{chained}
use Rattle.proc_values.proofs.bindings.Chain.drop.Given as goal

abbrev pub decreases-loop-self : goal.decreases-loop-self
decreases-loop-self g l = length (chained l.self)
