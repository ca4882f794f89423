use Rattle.std.proofs.Common.{refl, [], ◌∷◌}
use Rattle.std.proofs.lemmas.Result.{IfOk-weaker}
use Rattle.erl_syntax.specs.Scopes.{AnExpr, to_generate}
use Rattle.module_check.specs.Spots.{spot}
use Rattle.module_check.proofs.Tasked.{adds_twice, means_grown}
use Rattle.module_check.proofs.Passing.{means_generate}
use Rattle.module_check.proofs.tasks.Walk.push_bit_generator.Goals as goal

pub returns : goal.returns
returns c = IfOk-weaker c.push_segments.result _ _ (λ u h s m.
    let d = spot s (AnExpr c.args.source.now) in
    let one = c.in_ok-push.ensures d (record { part = refl; means = m; sizes = tt }) in
    let k = means_grown _ _ _ _ one.grown m in
    adds_twice c.args.self.now c.push.new.self c.push_segments.new.self (d ∷ []) _ one (h (to_generate s) (means_generate _ _ s k) k.known)) c.push_segments.ensures
