use Rattle.module_laws.proofs.ModuleGuards.{guards_have_form}
use Rattle.module_laws.proofs.guards.guards_have_form.Goals as goal

pub returns : goal.returns
returns c = guards_have_form
