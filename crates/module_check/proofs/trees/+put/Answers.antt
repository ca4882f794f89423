use Rattle.std.proofs.Common.{refl, sym}
use Rattle.std.proofs.lemmas.Result.{IfOk-weaker}
use Rattle.module_check.specs.declared.trees.Node.{Node}
use Rattle.module_check.proofs.Searched.{put_leaf, put_left, put_here, put_right}
use Rattle.module_check.proofs.trees.+put.Goals as goal

pub returns-in_default-clause-put : goal.returns-in_default-clause-put
returns-in_default-clause-put t c =
    let leaf : Node = record { name = c.args.name; at = c.args.at; left = 0; right = 0; level = 1 } in
    IfOk-weaker c.add.result _ _ (λ top h. put_leaf c.args.nodes.now.items c.add.new.nodes.items c.args.before top leaf refl refl (rw c.deref.ensures.value at c.in_default.ensures.tree) h) c.add.ensures.tree

pub returns-in_ok-left-in-Less-clause-put : goal.returns-in_ok-left-in-Less-clause-put
returns-in_ok-left-in-Less-clause-put t c = IfOk-weaker c.balance.result _ _ (λ top h. put_left c.args.nodes.now.items c.put.new.nodes.items c.balance.new.nodes.items c.args.before c.in_ok-left-in-Less.left top c.in-Some.node c.args.name.now c.args.at c.in_ok-left-in-Less.ensures.grown (rw c.deref.ensures.value at c.in-Some.ensures.tree) (sym c.in-Less.ensures) c.in_ok-left-in-Less.ensures.put h) c.balance.ensures.tree

pub returns-in-Equal-clause-put : goal.returns-in-Equal-clause-put
returns-in-Equal-clause-put t c =
    let m : Node = record { name = c.args.name; at = c.args.at; left = c.in-Some.node.left; right = c.in-Some.node.right; level = c.in-Some.node.level } in
    IfOk-weaker c.add-in-Equal.result _ _ (λ top h. put_here c.args.nodes.now.items c.add-in-Equal.new.nodes.items c.args.before top c.in-Some.node m refl refl (rw c.deref.ensures.value at c.in-Some.ensures.tree) (sym c.in-Equal.ensures) h) c.add-in-Equal.ensures.tree

pub returns-in_ok-right-in-Greater-clause-put : goal.returns-in_ok-right-in-Greater-clause-put
returns-in_ok-right-in-Greater-clause-put t c = IfOk-weaker c.balance-in-Greater.result _ _ (λ top h. put_right c.args.nodes.now.items c.put-in-Greater.new.nodes.items c.balance-in-Greater.new.nodes.items c.args.before c.in_ok-right-in-Greater.right top c.in-Some.node c.args.name.now c.args.at c.in_ok-right-in-Greater.ensures.grown (rw c.deref.ensures.value at c.in-Some.ensures.tree) (sym c.in-Greater.ensures) c.in_ok-right-in-Greater.ensures.put h) c.balance-in-Greater.ensures.tree
