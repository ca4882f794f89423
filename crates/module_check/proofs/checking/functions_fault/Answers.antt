use Rattle.std.proofs.Common.{◌≡◌, ◌∙◌, ap, arith, subst, length, ℕ}
use Rattle.module_check.specs.Order.{IsLeast, Below}
use Rattle.module_check.specs.Faults.{FunctionFault}
use Rattle.module_check.proofs.Firsts.{none_below, least_below}
use Rattle.module_check.proofs.checking.functions_fault.Goals as goal

pub loop-index-init : goal.loop-index-init
loop-index-init c = none_below (FunctionFault c.args.tree.now)

pub loop-index-preserved : goal.loop-index-preserved
loop-index-preserved c = least_below (FunctionFault c.args.tree.now) c.loop-index.index c.loop-index.best c.in_ok-fault.fault c.first_of-best.result c.loop-index.invariant c.in_ok-fault.ensures c.first_of-best.ensures

pub returns : goal.returns
returns c = let l : length c.items-count.result.now ≡ length c.args.tree.now.functions = ap length (c.items-count.ensures ∙ ap (λ m. m.functions) c.module.ensures) in let P : ℕ → Type 0 = λ n. IsLeast (Below (FunctionFault c.args.tree.now) n) c.loop-index.best in let e : c.loop-index.index ≡ length c.args.tree.now.functions = omega (arith, l, c.loop-index.auto.index-end) in subst P e c.loop-index.invariant
