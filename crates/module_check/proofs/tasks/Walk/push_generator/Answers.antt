use Rattle.std.proofs.Common.{refl, [], ◌∷◌}
use Rattle.erl_syntax.specs.Scopes.{AnExpr, to_generate}
use Rattle.module_check.specs.Spots.{spot}
use Rattle.module_check.proofs.Tasked.{adds_twice, means_grown}
use Rattle.module_check.proofs.Passing.{means_generate}
use Rattle.module_check.proofs.tasks.Walk.push_generator.Goals as goal

pub returns : goal.returns
returns c = λ s m.
    let d = spot s (AnExpr c.args.source.now) in
    let one = c.in_ok-push.ensures d (record { part = refl; means = m; sizes = tt }) in
    let k = means_grown _ _ _ _ one.grown m in
    adds_twice c.args.self.now c.push.new.self c.push_pattern.new.self (d ∷ []) _ one (c.in_ok-push_pattern.ensures (to_generate s) (means_generate _ _ s k) k.known).0
