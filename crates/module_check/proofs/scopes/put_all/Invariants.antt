use Rattle.std.proofs.Common.{◌≤◌, List, ◌++◌, drop, length}
use Rattle.erl_syntax.specs.Bindings.{Bound}
use Rattle.module_check.specs.Nodes.{Sees, Grown, bounds_of}
use Rattle.module_check.proofs.scopes.put_all.Given as goal

abbrev pub invariant-loop-left : goal.invariant-loop-left
invariant-loop-left l = record {
  within : l.left ≤ length l.targets;
  grown : Grown l.initial.nodes.items l.nodes.items;
  put : (bs : List Bound) → Sees l.initial.nodes.items l.before bs → Sees l.nodes.items l.last (bounds_of (drop l.left l.targets) ++ bs);
}

abbrev pub decreases-loop-left : goal.decreases-loop-left
decreases-loop-left l = l.left
