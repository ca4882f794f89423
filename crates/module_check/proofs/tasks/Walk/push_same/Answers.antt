use Rattle.std.proofs.Common.{arith, refl, []}
use Rattle.erl_syntax.specs.Scopes.{AnExpr}
use Rattle.module_check.specs.Spots.{spot, same_in}
use Rattle.module_check.proofs.Tasked.{means_grown, far_start, far_on, far_end}
use Rattle.module_check.proofs.tasks.Walk.push_same.Goals as goal

pub loop-expr-init : goal.loop-expr-init
loop-expr-init c = λ s m. far_start (same_in s) [] c.args.exprs.now c.args.self.now

pub loop-expr-preserved : goal.loop-expr-preserved
loop-expr-preserved c = λ s m.
    let h = c.loop-expr.invariant s m in
    let d = spot s (AnExpr c.expr-item.result) in
    far_on (same_in s) [] c.args.exprs.now c.args.self.now c.loop-expr.self c.push.new.self c.loop-expr.expr-index c.expr-item.result (omega arith) c.expr-item.is h (c.in_ok-push.ensures d (record { part = refl; means = means_grown _ _ _ _ h.adds.grown m; sizes = tt }))

pub returns : goal.returns
returns c = λ s m. far_end (same_in s) [] c.args.exprs.now c.args.self.now c.loop-expr.self c.loop-expr.expr-index (omega arith) (c.loop-expr.invariant s m)
