use Rattle.module_check.proofs.Forked.{parted}
use Rattle.module_check.proofs.trees.split.Goals as goal

pub returns-clause-same : goal.returns-clause-same
returns-clause-same c = λ ts f. parted c.args.nodes.now.items c.add.new.nodes.items c.in_ok-left.ensures.grown c.args.node c.in-Some.right c.in_ok-left.left c.saturating_add.result ts (rw c.deref.ensures.value at c.in-Some.ensures.tree) c.in_ok-left.ensures.tree f
