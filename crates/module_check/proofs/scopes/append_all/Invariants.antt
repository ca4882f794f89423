use Rattle.std.proofs.Common.{List, ◌++◌, take}
use Rattle.erl_syntax.specs.Bindings.{Bound}
use Rattle.module_check.specs.Nodes.{Sees, Grown, bounds_of}
use Rattle.module_check.proofs.scopes.append_all.Given as goal

abbrev pub invariant-loop-target : goal.invariant-loop-target
invariant-loop-target l = record {
  grown : Grown l.initial.nodes.items l.nodes.items;
  put : (bs : List Bound) → Sees l.initial.nodes.items l.before bs → Sees l.nodes.items l.last (bs ++ bounds_of (take l.target-index l.targets));
}
