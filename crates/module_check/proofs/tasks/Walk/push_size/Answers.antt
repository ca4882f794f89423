use Rattle.std.proofs.Common.{sym, refl, ap}
use Rattle.std.proofs.lemmas.Result.{IfOk-weaker}
use Rattle.erl_syntax.specs.Scopes.{AnExpr}
use Rattle.module_check.specs.Spots.{spot}
use Rattle.module_check.specs.Tasks.{size_in}
use Rattle.module_check.proofs.Tasked.{adds_none, adds_same}
use Rattle.module_check.proofs.tasks.Walk.push_size.Goals as goal

pub returns-in-Some : goal.returns-in-Some
returns-in-Some c = IfOk-weaker c.push.result _ _ (λ u h s m. adds_same _ _ _ _ (ap (size_in s) (sym c.in-Some.is)) (h (spot s (AnExpr c.in-Some.size)) (record { part = refl; means = m; sizes = tt }))) c.push.ensures

pub returns-in-None : goal.returns-in-None
returns-in-None c = λ s m. adds_same _ _ _ _ (ap (size_in s) (sym c.in-None.is)) (adds_none c.args.self.now)
