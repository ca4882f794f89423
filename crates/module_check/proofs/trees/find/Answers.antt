use Rattle.std.proofs.Common.{sym}
use Rattle.module_check.proofs.Searched.{leads_start, leads_left, leads_right, find_here, find_none}
use Rattle.module_check.proofs.trees.find.Goals as goal

pub loop-node-init : goal.loop-node-init
loop-node-init c = leads_start c.args.nodes.now c.args.last c.args.name.now

pub loop-node-preserved-in-Less : goal.loop-node-preserved-in-Less
loop-node-preserved-in-Less c = leads_left c.args.nodes.now c.args.last c.loop-node.rest c.args.name.now c.in-Some.node c.in-Some.ensures.tree (sym c.in-Less.ensures) c.loop-node.invariant

pub returns-in-Equal : goal.returns-in-Equal
returns-in-Equal c = find_here c.args.nodes.now c.args.last c.loop-node.rest c.args.name.now c.in-Some.node c.in-Some.ensures.tree (sym c.in-Equal.ensures) c.loop-node.invariant

pub loop-node-preserved : goal.loop-node-preserved
loop-node-preserved c = leads_right c.args.nodes.now c.args.last c.loop-node.rest c.args.name.now c.in-Some.node c.in-Some.ensures.tree (sym c.in-Greater.ensures) c.loop-node.invariant

pub returns : goal.returns
returns c = find_none c.args.nodes.now c.args.last c.loop-node.rest c.args.name.now c.in_default.ensures.tree c.loop-node.invariant
