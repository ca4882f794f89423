use Rattle.std.proofs.Common.{arith, ◌<◌, ◌+◌, [], ◌∷◌, ◌++◌, take, length}
use Rattle.erl_syntax.specs.Scopes.{behind}
use Rattle.module_check.proofs.Tasked.{adds_none, adds_then, means_same, means_front, passed_more, behind_more}
use Rattle.module_check.proofs.Passing.{behind_none}
use Rattle.module_check.proofs.tasks.Walk.behind_all.Goals as goal

pub loop-expr-init : goal.loop-expr-init
loop-expr-init c = record { adds = adds_none c.args.self.now; means = λ s m. means_same _ _ _ _ (behind_none s) m }

pub loop-expr-preserved : goal.loop-expr-preserved
loop-expr-preserved c = record {
  adds = adds_then c.args.self.now c.loop-expr.self c.behind.new.self [] c.loop-expr.invariant.adds c.in_ok-after.ensures.0;
  means = λ s m.
      let i = c.loop-expr.expr-index in
      let xs = c.args.exprs.now in
      let one = c.expr-item.result in
      let l : i < length xs = omega arith in
      means_front _ _ (λ fs. behind fs s) (take i xs ++ one ∷ []) (take (i + 1) xs) (passed_more [] xs i one l c.expr-item.is) (means_same _ _ _ _ (behind_more s (take i xs) one) (c.in_ok-after.ensures.1 (behind (take i xs) s) (c.loop-expr.invariant.means s m)));
}
