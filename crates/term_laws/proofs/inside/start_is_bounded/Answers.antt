use Rattle.term_laws.proofs.KeptMachine.{start_is_bounded}
use Rattle.term_laws.proofs.inside.start_is_bounded.Goals as goal

-- src/inside.rt
pub returns : goal.returns
returns c = start_is_bounded
