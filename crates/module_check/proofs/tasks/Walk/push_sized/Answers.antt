use Rattle.std.proofs.lemmas.Result.{IfOk-weaker}
use Rattle.module_check.specs.Spots.{size_scope}
use Rattle.module_check.proofs.Passing.{means_size}
use Rattle.module_check.proofs.tasks.Walk.push_sized.Goals as goal

pub returns : goal.returns
returns c = IfOk-weaker c.push_size.result _ _ (λ u h s m k. h (size_scope s) (means_size _ c.args.facts s m k)) c.push_size.ensures
