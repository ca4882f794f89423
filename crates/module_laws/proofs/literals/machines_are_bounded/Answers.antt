use Rattle.module_laws.proofs.ModuleLiterals.{machines_are_bounded}
use Rattle.module_laws.proofs.literals.machines_are_bounded.Goals as goal

pub returns : goal.returns
returns c = machines_are_bounded
