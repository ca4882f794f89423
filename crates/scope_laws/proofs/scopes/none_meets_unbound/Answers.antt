use Rattle.scope_laws.proofs.Whole.{none_meets_unbound}
use Rattle.scope_laws.proofs.scopes.none_meets_unbound.Goals as goal

pub returns : goal.returns
returns c = none_meets_unbound
