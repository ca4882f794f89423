use Rattle.term_laws.proofs.KeptMachine.{bounds_are_kept}
use Rattle.term_laws.proofs.inside.bounds_are_kept.Goals as goal

-- src/inside.rt
pub returns : goal.returns
returns c = bounds_are_kept
