use Rattle.std.proofs.Common.{arith}
use Rattle.module_check.proofs.Forked.{added}
use Rattle.module_check.proofs.trees.add.Goals as goal

pub returns-clause-tree : goal.returns-clause-tree
returns-clause-tree c = λ ts f. added c.args.nodes.now.items c.push.new.self.items c.len.result c.args.node ts c.in_ok-push.ensures.items (omega (arith, c.len.ensures, c.push.new.self.ok.0)) f
