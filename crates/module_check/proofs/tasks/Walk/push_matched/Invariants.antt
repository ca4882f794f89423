use Rattle.std.proofs.Common.{◌≤◌, [], take, drop, length, reverse}
use Rattle.erl_syntax.specs.Bindings.{targets_of}
use Rattle.erl_syntax.specs.Scopes.{Scope, with_known}
use Rattle.module_check.specs.Spots.{matched_in}
use Rattle.module_check.specs.Tasks.{Means}
use Rattle.module_check.proofs.Tasked.{Far}
use Rattle.module_check.proofs.tasks.Walk.push_matched.Given as goal

abbrev pub invariant-loop-left : goal.invariant-loop-left
invariant-loop-left l = record {
  within : l.left ≤ length l.patterns;
  far : (s : Scope) → Means l.initial.self.nodes.items l.fn.facts s → Far l.initial.self l.self (matched_in s) [] (reverse (drop l.left l.patterns)) (reverse (take l.left l.patterns)) (reverse l.patterns) × Means l.self.nodes.items l.after (with_known (targets_of (reverse (drop l.left l.patterns))) s);
}

abbrev pub decreases-loop-left : goal.decreases-loop-left
decreases-loop-left l = l.left
