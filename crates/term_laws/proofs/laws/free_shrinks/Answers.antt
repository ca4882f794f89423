use Rattle.term_laws.proofs.Finishes.{free_shrinks}
use Rattle.term_laws.proofs.laws.free_shrinks.Goals as goal

-- src/laws.rt
pub returns : goal.returns
returns c = free_shrinks
