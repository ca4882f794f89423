use Rattle.module_laws.proofs.ModuleVariables.{variables_rise}
use Rattle.module_laws.proofs.places.variables_rise.Goals as goal

pub returns : goal.returns
returns c = variables_rise
