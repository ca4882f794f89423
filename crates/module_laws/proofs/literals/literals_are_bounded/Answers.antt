use Rattle.module_laws.proofs.ModuleLiterals.{literals_are_bounded}
use Rattle.module_laws.proofs.literals.literals_are_bounded.Goals as goal

pub returns : goal.returns
returns c = literals_are_bounded
