use Rattle.module_check.proofs.Forked.{skewed}
use Rattle.module_check.proofs.trees.skew.Goals as goal

pub returns-clause-same : goal.returns-clause-same
returns-clause-same c = λ ts f. skewed c.args.nodes.now.items c.add.new.nodes.items c.in_ok-right.ensures.grown c.args.node c.in-Some.left c.in_ok-right.right ts (rw c.deref.ensures.value at c.in-Some.ensures.tree) c.in_ok-right.ensures.tree f
