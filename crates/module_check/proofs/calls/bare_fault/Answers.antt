use Rattle.std.proofs.Common.{arith, subst}
use Rattle.std.proofs.lemmas.Bool.Decides.{nat_tests}
use Rattle.erl_syntax.specs.declared.module.Module.{Module}
use Rattle.module_check.specs.Faults.{IsOfBuiltIn}
use Rattle.module_check.proofs.Calling.{none_at_all, bare_least}
use Rattle.module_check.proofs.calls.bare_fault.Goals as goal

pub returns-then-is_of_built_in : goal.returns-then-is_of_built_in
returns-then-is_of_built_in c =
    let a = c.args in
    let P : Module → Type 0 = λ m. IsOfBuiltIn m a.home.now a.name a.arity in
    bare_least a.tree.now a.home.now a.name a.arity c.named_faults.result (none_at_all a.home.now (grind (arith, nat_tests, c.if-is_empty.ensures))) (subst P c.module.ensures c.if-is_of_built_in.ensures) c.named_faults.ensures
