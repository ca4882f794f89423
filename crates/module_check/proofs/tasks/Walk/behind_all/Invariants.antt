use Rattle.std.proofs.Common.{[], take}
use Rattle.erl_syntax.specs.Scopes.{Scope, behind}
use Rattle.module_check.specs.Tasks.{Means, Adds}
use Rattle.module_check.proofs.tasks.Walk.behind_all.Given as goal

abbrev pub invariant-loop-expr : goal.invariant-loop-expr
invariant-loop-expr l = record {
  adds : Adds l.initial.self l.self [];
  means : (s : Scope) → Means l.initial.self.nodes.items l.fn.facts s → Means l.self.nodes.items l.after (behind (take l.expr-index l.exprs) s);
}
