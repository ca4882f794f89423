use Rattle.std.proofs.Common.{List, [], ◌++◌, take}
use Rattle.erl_syntax.specs.Bindings.{Bound}
use Rattle.erl_syntax.specs.Scopes.{Scope}
use Rattle.module_check.specs.Nodes.{bounds_of}
use Rattle.module_check.specs.Tasks.{Adds, Passes, passed}
use Rattle.module_check.proofs.tasks.Walk.pass_targets.Given as goal

abbrev pub invariant-loop-target : goal.invariant-loop-target
invariant-loop-target l = record {
  adds : Adds l.initial.self l.self [];
  means : (s : Scope) (bs : List Bound) → Passes l.initial.self.nodes.items l.fn.facts (passed bs s) → Passes l.self.nodes.items l.after (passed (bs ++ bounds_of (take l.target-index l.targets)) s);
}
