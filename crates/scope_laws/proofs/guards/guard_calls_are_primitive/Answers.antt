use Rattle.scope_laws.proofs.Calls.{guard_calls_are_primitive}
use Rattle.scope_laws.proofs.guards.guard_calls_are_primitive.Goals as goal

pub returns : goal.returns
returns c = guard_calls_are_primitive
