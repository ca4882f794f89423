use Rattle.std.proofs.Common.{[], take, drop}
use Rattle.erl_syntax.specs.Scopes.{Scope, past_quals}
use Rattle.module_check.specs.Spots.{quals_in}
use Rattle.module_check.specs.Tasks.{Means}
use Rattle.module_check.proofs.Tasked.{Far}
use Rattle.module_check.proofs.tasks.Walk.push_quals.Given as goal

abbrev pub invariant-loop-qual : goal.invariant-loop-qual
invariant-loop-qual l = (s : Scope) → Means l.initial.self.nodes.items l.fn.facts s → Far l.initial.self l.self (quals_in s) [] (take l.qual-index l.quals) (drop l.qual-index l.quals) l.quals × Means l.self.nodes.items l.after (past_quals (take l.qual-index l.quals) s)
