use Rattle.std.proofs.Common.{sym, ◌∙◌, ap, None}
use Rattle.erl_syntax.specs.Scopes.{AnExpr, APattern, ABody, ASegment}
use Rattle.module_check.specs.Tasks.{part_of}
use Rattle.module_check.proofs.Placed.{own_part}
use Rattle.module_check.proofs.places.own_place.Goals as goal

pub returns-in-Expr : goal.returns-in-Expr
returns-in-Expr c = λ d f. own_part d.scope d.part (AnExpr c.in-Expr.expr.now) c.expr_place.result (sym (ap part_of c.in-Expr.is) ∙ f.part) (c.expr_place.ensures d.scope f.means)

pub returns-in-Pattern : goal.returns-in-Pattern
returns-in-Pattern c = λ d f. own_part d.scope d.part (APattern c.in-Pattern.pattern.now) c.pattern_place.result (sym (ap part_of c.in-Pattern.is) ∙ f.part) (c.pattern_place.ensures d.scope f.means)

pub returns-in-Body : goal.returns-in-Body
returns-in-Body c = λ d f. own_part d.scope d.part (ABody c.in-Body.field-0.now) None (sym (ap part_of c.in-Body.is) ∙ f.part) (λ a k. k)

pub returns-in-Segment : goal.returns-in-Segment
returns-in-Segment c = λ d f. own_part d.scope d.part (ASegment c.in-Segment.side c.in-Segment.field-1 c.in-Segment.segment.now) c.segment_place.result (sym (ap part_of c.in-Segment.is) ∙ f.part) (c.segment_place.ensures d.scope f.means)
