use Rattle.std.proofs.Common.{◌≡◌, ◌++◌, take}
use Rattle.erl_syntax.specs.Bindings.{names}
use Rattle.module_check.specs.Nodes.{bounds_of}
use Rattle.module_check.specs.Unsafe.{unsafe_of, segment_unsafe, alts_unsafe, branches_unsafe, items_unsafe}
use Rattle.module_check.proofs.targets.+left.Given as goal

abbrev pub invariant-add_unsafe_of-loop-expr : goal.invariant-add_unsafe_of-loop-expr
invariant-add_unsafe_of-loop-expr l = names (bounds_of l.found.items) ≡ names (bounds_of l.initial.found.items) ++ unsafe_of (take l.expr-index l.exprs)

abbrev pub invariant-add_segments-loop-segment : goal.invariant-add_segments-loop-segment
invariant-add_segments-loop-segment l = names (bounds_of l.found.items) ≡ names (bounds_of l.initial.found.items) ++ segment_unsafe (take l.segment-index l.segments)

abbrev pub invariant-add_alts-loop-alt : goal.invariant-add_alts-loop-alt
invariant-add_alts-loop-alt l = names (bounds_of l.found.items) ≡ names (bounds_of l.initial.found.items) ++ alts_unsafe (take l.alt-index l.alts)

abbrev pub invariant-add_branches-loop-branch : goal.invariant-add_branches-loop-branch
invariant-add_branches-loop-branch l = names (bounds_of l.found.items) ≡ names (bounds_of l.initial.found.items) ++ branches_unsafe (take l.branch-index l.branches)

abbrev pub invariant-add_body-loop-item : goal.invariant-add_body-loop-item
invariant-add_body-loop-item l = names (bounds_of l.found.items) ≡ names (bounds_of l.initial.found.items) ++ items_unsafe (take l.item-index l.items)
