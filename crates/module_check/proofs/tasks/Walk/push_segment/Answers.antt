use Rattle.std.proofs.Common.{sym, ◌∙◌, ap}
use Rattle.std.proofs.lemmas.Result.{IfOk-weaker}
use Rattle.module_check.specs.Spots.{size_scope}
use Rattle.module_check.specs.Spots.{inside_segment}
use Rattle.module_check.proofs.Tasked.{adds_same}
use Rattle.module_check.proofs.Passing.{size_at}
use Rattle.module_check.proofs.tasks.Walk.push_segment.Goals as goal

pub returns-in_ok-push_value-in-Build : goal.returns-in_ok-push_value-in-Build
returns-in_ok-push_value-in-Build c = λ s last m k. adds_same _ _ _ _ (ap (λ z. inside_segment s z c.args.segment.now) (sym c.in-Build.is)) (c.in_ok-push_value-in-Build.ensures s m).0

pub returns-in-Match : goal.returns-in-Match
returns-in-Match c = IfOk-weaker c.push_sized.result _ _ (λ u h s last m k. adds_same _ _ _ _ (size_at (size_scope s) c.args.segment.now.size ∙ ap (λ z. inside_segment s z c.args.segment.now) (sym c.in-Match.is)) (h s m (rw c.in-Match.is at k))) c.push_sized.ensures

pub returns-in-Generator : goal.returns-in-Generator
returns-in-Generator c = IfOk-weaker c.push_sized-in-Generator.result _ _ (λ u h s last m k. adds_same _ _ _ _ (size_at (size_scope s) c.args.segment.now.size ∙ ap (λ z. inside_segment s z c.args.segment.now) (sym c.in-Generator.is)) (h s m (rw c.in-Generator.is at k))) c.push_sized-in-Generator.ensures
