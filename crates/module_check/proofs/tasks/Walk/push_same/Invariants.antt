use Rattle.std.proofs.Common.{[], take, drop}
use Rattle.erl_syntax.specs.Scopes.{Scope}
use Rattle.module_check.specs.Spots.{same_in}
use Rattle.module_check.specs.Tasks.{Means}
use Rattle.module_check.proofs.Tasked.{Far}
use Rattle.module_check.proofs.tasks.Walk.push_same.Given as goal

abbrev pub invariant-loop-expr : goal.invariant-loop-expr
invariant-loop-expr l = (s : Scope) → Means l.initial.self.nodes.items l.facts s → Far l.initial.self l.self (same_in s) [] (take l.expr-index l.exprs) (drop l.expr-index l.exprs) l.exprs
