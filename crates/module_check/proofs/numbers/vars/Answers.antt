use Rattle.std.proofs.Common.{List, [], ◌∷◌, ◌++◌, sym, ◌∙◌, ap, subst, arith}
use Rattle.erl_syntax.specs.Checking.{AreNumbered}
use Rattle.erl_syntax.specs.declared.checking.VarUse.{VarUse}
use Rattle.module_check.proofs.Numbered.{functions_on, functions_end}
use Rattle.module_check.proofs.numbers.vars.Goals as goal

pub loop-function-init : goal.loop-function-init
loop-function-init c = (let P : List (List VarUse) → Type 0 = λ us. AreNumbered [] us in subst P (sym c.new-vars.ensures.items) AreNumbered.none)

pub loop-function-preserved : goal.loop-function-preserved
loop-function-preserved c = functions_on c.args.tree.now.functions c.items-functions.result.now c.loop-function.function-index c.function-item.result c.loop-function.vars.items c.push.new.self.items c.in_ok-uses.uses.items c.items-functions.ensures (omega arith) c.function-item.is (c.in_ok-push.ensures.items ∙ ap (λ z. c.loop-function.vars.items ++ z ∷ []) c.of.ensures) c.in_ok-uses.ensures c.loop-function.invariant

pub returns : goal.returns
returns c = functions_end c.args.tree.now.functions c.items-functions.result.now c.loop-function.function-index c.loop-function.vars.items c.items-functions.ensures (omega arith) c.loop-function.invariant
