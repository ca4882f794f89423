use Rattle.std.proofs.Common.{◌≡◌, ◌++◌, take}
use Rattle.erl_syntax.specs.Bindings.{targets_of}
use Rattle.module_check.specs.Nodes.{bounds_of}
use Rattle.module_check.proofs.targets.+targets.Given as goal

abbrev pub invariant-add_targets_of-loop-pattern : goal.invariant-add_targets_of-loop-pattern
invariant-add_targets_of-loop-pattern l = bounds_of l.found.items ≡ bounds_of l.initial.found.items ++ targets_of (take l.pattern-index l.patterns)
