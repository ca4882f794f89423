use Rattle.std.proofs.Common.{[], take, drop}
use Rattle.erl_syntax.specs.Scopes.{Scope, past_segments}
use Rattle.module_check.specs.Nodes.{Sees}
use Rattle.module_check.specs.Spots.{segment_in}
use Rattle.module_check.specs.Tasks.{Means, Passes}
use Rattle.module_check.proofs.Tasked.{Far}
use Rattle.module_check.proofs.tasks.Walk.push_segments.Given as goal

abbrev pub invariant-loop-index : goal.invariant-loop-index
invariant-loop-index l = (s : Scope) → Means l.initial.self.nodes.items l.fn.facts s → Sees l.initial.self.nodes.items l.fn.facts.sizes s.outer → Far l.initial.self l.self (segment_in l.side s) [] (take l.index l.segments) (drop l.index l.segments) l.segments × Passes l.self.nodes.items l.after (past_segments (take l.index l.segments) s)
