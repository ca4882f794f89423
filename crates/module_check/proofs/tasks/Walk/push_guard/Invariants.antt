use Rattle.std.proofs.Common.{[], take, drop}
use Rattle.erl_syntax.specs.Scopes.{Scope, in_guard}
use Rattle.module_check.specs.Spots.{tests_in}
use Rattle.module_check.specs.Tasks.{Means}
use Rattle.module_check.proofs.Tasked.{Far}
use Rattle.module_check.proofs.tasks.Walk.push_guard.Given as goal

abbrev pub invariant-loop-tests : goal.invariant-loop-tests
invariant-loop-tests l = (s : Scope) → Means l.initial.self.nodes.items l.fn.facts s → Far l.initial.self l.self (tests_in (in_guard s)) [] (take l.tests-index l.alternatives) (drop l.tests-index l.alternatives) l.alternatives
