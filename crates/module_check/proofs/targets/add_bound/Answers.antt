use Rattle.std.proofs.Common.{arith, ap}
use Rattle.erl_syntax.specs.Bindings.{names, targets_of}
use Rattle.module_check.specs.Nodes.{bounds_of}
use Rattle.module_check.specs.Unsafe.{item_bound}
use Rattle.module_check.proofs.Left.{flat_more, flat_end, once, names_added}
use Rattle.module_check.proofs.targets.add_bound.Goals as goal

pub loop-item-preserved : goal.loop-item-preserved
loop-item-preserved c = flat_more item_bound c.args.items.now c.loop-item.item-index c.item-item.result (names (bounds_of c.args.found.now.items)) (names (bounds_of c.loop-item.found.items)) (names (bounds_of c.add_targets_of.new.found.items)) (omega arith) c.item-item.is c.loop-item.invariant (once _ _ _ _ (names_added _ _ _ c.in_ok-add_targets_of.ensures) (ap (λ zs. names (targets_of zs)) c.items.ensures))

pub returns : goal.returns
returns c = flat_end item_bound c.args.items.now c.loop-item.item-index (names (bounds_of c.args.found.now.items)) (names (bounds_of c.loop-item.found.items)) (omega arith) c.loop-item.invariant
