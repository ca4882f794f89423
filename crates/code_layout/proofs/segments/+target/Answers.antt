use Rattle.std.proofs.Common.{◌≡◌, ◌∷◌, ◌+◌, map, drop, ap, sym, ◌∙◌, arith}
use Rattle.std.proofs.lemmas.List.{nil_from_length}
use Rattle.std.proofs.lemmas.Result.{IfOk-weaker}
use Rattle.term_value.specs.Read as read
use Rattle.code_layout.specs.Layout.{reading_of}
use Rattle.code_layout.specs.Readings.{expr_read}
use Rattle.code_layout.proofs.Layers.{target_read}
use Rattle.code_layout.proofs.Loops.{first_is}
use Rattle.code_layout.proofs.segments.+target.Goals as goal

pub first_target-returns-in-loop-expr : goal.first_target-returns-in-loop-expr
first_target-returns-in-loop-expr t c =
    IfOk-weaker c.target.result _ _ (λ u h.
    h ∙ sym (target_read (reading_of c.args.laying.now) c.expr-item.result)
    ∙ ap (λ es. read.target_of (map (expr_read (reading_of c.args.laying.now)) es)) (sym (first_is c.args.exprs.now c.loop-expr.expr-index c.expr-item.result c.loop-expr.invariant (omega arith) c.expr-item.is))) c.target.ensures

pub first_target-returns : goal.first_target-returns
first_target-returns t c = ap (λ es. read.target_of (map (expr_read (reading_of c.args.laying.now)) es)) (sym (nil_from_length c.args.exprs.now (omega (arith, c.loop-expr.invariant))))
