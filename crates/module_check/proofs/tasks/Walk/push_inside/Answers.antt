use Rattle.std.proofs.Common.{sym, ◌∙◌, ap, subst}
use Rattle.std.proofs.lemmas.Result.{IfOk-weaker}
use Rattle.erl_syntax.specs.Scopes
use Rattle.module_check.specs.Spots.{inside}
use Rattle.module_check.specs.Tasks.{left_in, SeesSizes}
use Rattle.module_check.proofs.Tasked.{adds_none, adds_same}
use Rattle.module_check.proofs.tasks.Walk.push_inside.Goals as goal

pub returns-then-task : goal.returns-then-task
returns-then-task c = IfOk-weaker c.push_in_part.result _ _ (λ u h d f.
    let P : Scopes.Part → Type 0 = λ y. SeesSizes c.args.self.now.nodes.items c.args.task.facts.sizes d.scope y in
    adds_same _ _ _ _ (ap (λ y. inside d.scope y) f.part ∙ ap (λ z. left_in z d) (sym c.if-task.true)) (h d.scope f.means (subst P (sym f.part) f.sizes))) c.push_in_part.ensures

pub returns-else-task : goal.returns-else-task
returns-else-task c = λ d f. adds_same _ _ _ _ (ap (λ z. left_in z d) (sym c.if-task.false)) (adds_none c.args.self.now)
