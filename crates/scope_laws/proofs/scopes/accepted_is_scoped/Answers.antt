use Rattle.scope_laws.proofs.Whole.{accepted_is_scoped}
use Rattle.scope_laws.proofs.scopes.accepted_is_scoped.Goals as goal

pub returns : goal.returns
returns c = accepted_is_scoped
