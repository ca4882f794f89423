use Rattle.std.proofs.Common.{sym, ap, subst}
use Rattle.std.proofs.lemmas.Result.{IfOk-weaker}
use Rattle.erl_syntax.specs.Scopes
use Rattle.module_check.specs.Tasks.{part_of, SeesSizes}
use Rattle.module_check.specs.Spots.{inside}
use Rattle.module_check.proofs.Tasked.{adds_same}
use Rattle.module_check.proofs.tasks.Walk.push_in_part.Goals as goal

pub returns-in_ok-push_in_expr-in-Expr : goal.returns-in_ok-push_in_expr-in-Expr
returns-in_ok-push_in_expr-in-Expr c = λ s m k. adds_same _ _ _ _ (ap (λ y. inside s (part_of y)) (sym c.in-Expr.is)) (c.in_ok-push_in_expr-in-Expr.ensures s m).0

pub returns-in_ok-push_in_pattern-in-Pattern : goal.returns-in_ok-push_in_pattern-in-Pattern
returns-in_ok-push_in_pattern-in-Pattern c = λ s m k.
    let P : Scopes.Part → Type 0 = λ y. SeesSizes c.args.self.now.nodes.items c.args.facts.sizes s y in
    adds_same _ _ _ _ (ap (λ y. inside s (part_of y)) (sym c.in-Pattern.is)) (c.in_ok-push_in_pattern-in-Pattern.ensures s m (subst P (ap part_of c.in-Pattern.is) k)).0

pub returns-in_ok-push_items-in-Body : goal.returns-in_ok-push_items-in-Body
returns-in_ok-push_items-in-Body c = λ s m k. adds_same _ _ _ _ (ap (λ y. inside s (part_of y)) (sym c.in-Body.is)) (c.in_ok-push_items-in-Body.ensures s m).0

pub returns-in-Segment : goal.returns-in-Segment
returns-in-Segment c = IfOk-weaker c.push_segment.result _ _ (λ u h s m k.
    let P : Scopes.Part → Type 0 = λ y. SeesSizes c.args.self.now.nodes.items c.args.facts.sizes s y in
    adds_same _ _ _ _ (ap (λ y. inside s (part_of y)) (sym c.in-Segment.is)) (h s c.in-Segment.field-1 m (subst P (ap part_of c.in-Segment.is) k))) c.push_segment.ensures
