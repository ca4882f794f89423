use Rattle.std.proofs.Common.{◌≡◌, ◌++◌, take}
use Rattle.erl_syntax.specs.Bindings.{names}
use Rattle.module_check.specs.Nodes.{bounds_of}
use Rattle.module_check.specs.Unsafe.{items_bound}
use Rattle.module_check.proofs.targets.add_bound.Given as goal

abbrev pub invariant-loop-item : goal.invariant-loop-item
invariant-loop-item l = names (bounds_of l.found.items) ≡ names (bounds_of l.initial.found.items) ++ items_bound (take l.item-index l.items)
