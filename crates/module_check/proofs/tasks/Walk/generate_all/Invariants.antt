use Rattle.std.proofs.Common.{[], take}
use Rattle.erl_syntax.specs.Scopes.{Scope, generated}
use Rattle.module_check.specs.Tasks.{Means, Adds}
use Rattle.module_check.proofs.tasks.Walk.generate_all.Given as goal

abbrev pub invariant-loop-qual : goal.invariant-loop-qual
invariant-loop-qual l = record {
  adds : Adds l.initial.self l.self [];
  means : (s : Scope) → Means l.initial.self.nodes.items l.fn.facts s → Means l.self.nodes.items l.after (record s { known = generated (take l.qual-index l.quals) s.known });
}
