use Rattle.size_laws.proofs.GuardCalls.{guard_calls_are_built_in}
use Rattle.size_laws.proofs.calls.guard_calls_are_built_in.Goals as goal

pub returns : goal.returns
returns c = guard_calls_are_built_in
