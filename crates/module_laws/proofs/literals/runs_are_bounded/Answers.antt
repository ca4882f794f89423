use Rattle.module_laws.proofs.ModuleLiterals.{runs_are_bounded}
use Rattle.module_laws.proofs.literals.runs_are_bounded.Goals as goal

pub returns : goal.returns
returns c = runs_are_bounded
