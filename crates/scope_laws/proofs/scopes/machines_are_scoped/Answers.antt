use Rattle.scope_laws.proofs.Whole.{machines_are_scoped}
use Rattle.scope_laws.proofs.scopes.machines_are_scoped.Goals as goal

pub returns : goal.returns
returns c = machines_are_scoped
