use Rattle.std.proofs.lemmas.Result.{IfOk-weaker}
use Rattle.module_check.proofs.tasks.Walk.join_branch.Goals as goal

pub returns-else-larger : goal.returns-else-larger
returns-else-larger c = IfOk-weaker c.put_body.result _ _ (λ n h. (h.0, λ s m k. h.1 s _ m)) c.put_body.ensures
