use Rattle.std.proofs.Common.{◌≡◌, List, ◌++◌, take, drop}
use Rattle.erl_syntax.specs.Scopes.{Scope, past_patterns}
use Rattle.erl_syntax.specs.declared.pattern.Pattern.{Pattern}
use Rattle.module_check.specs.Nodes.{Sees}
use Rattle.module_check.specs.Spots.{pattern_in}
use Rattle.module_check.specs.Tasks.{Means}
use Rattle.module_check.proofs.Tasked.{Far}
use Rattle.module_check.proofs.tasks.Walk.+pattern.Given as goal

abbrev pub invariant-push_patterns-loop-pattern : goal.invariant-push_patterns-loop-pattern
invariant-push_patterns-loop-pattern l = (s : Scope) (front : List Pattern) → Means l.initial.self.nodes.items l.fn.facts (past_patterns front s) → Sees l.initial.self.nodes.items l.fn.facts.sizes s.outer → Far l.initial.self l.self (pattern_in s) front (take l.pattern-index l.patterns) (drop l.pattern-index l.patterns) l.patterns × (Means l.self.nodes.items l.after (past_patterns (front ++ take l.pattern-index l.patterns) s) × (l.after.sizes ≡ l.fn.facts.sizes))
