use Rattle.std.proofs.Common.{◌≡◌, ◌∙◌, ◌∷◌, ◌++◌, [], ℕ, List, length, arith, refl, ap}
use Rattle.module_check.specs.declared.trees.Node.{Node}
use Rattle.module_check.specs.declared.tasks.Task.{Task}
use Rattle.module_check.proofs.tasks.Walk.add.Goals as goal

pub returns : goal.returns
returns c =
    let at : ℕ → Task = λ m. record { facts = c.args.facts; part = c.args.part; mark = m; whole = c.args.whole } in
    let nodes = c.args.self.now.nodes in
    let e : c.len-mark.result ≡ length nodes.items = omega (arith, c.len-mark.ensures, nodes.ok.0) in
    (refl {A = List Node}, c.in_ok-push.ensures.items ∙ ap (λ m. c.args.self.now.tasks.items ++ at m ∷ []) e)
