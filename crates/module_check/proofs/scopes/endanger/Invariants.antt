use Rattle.std.proofs.Common.{List, [], ◌∷◌, ◌++◌, take}
use Rattle.erl_syntax.specs.Bindings.{Bound, names}
use Rattle.erl_syntax.specs.Scopes.{Danger}
use Rattle.module_check.specs.Nodes.{Sees, SeesUnsafe, Grown, bounds_of}
use Rattle.module_check.proofs.scopes.endanger.Given as goal

abbrev pub invariant-loop-target : goal.invariant-loop-target
invariant-loop-target l = record {
  grown : Grown l.initial.nodes.items l.nodes.items;
  put : (ds : List Danger) (bs : List Bound) → SeesUnsafe l.initial.nodes.items l.dangers ds → Sees l.initial.nodes.items l.known bs → SeesUnsafe l.nodes.items l.last (ds ++ record { left_unsafe = names (bounds_of (take l.target-index l.targets)); known = bs } ∷ []);
}
