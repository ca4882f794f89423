use Rattle.std.proofs.Common.{subst, List, take}
use Rattle.std.proofs.lemmas.List.{take_rest}
use Rattle.erl_syntax.specs.declared.checking.CheckCause.TheVariants as w
use Rattle.erl_syntax.specs.declared.module.Clause.{Clause}
use Rattle.module_check.specs.Order.{IsLeast, Some_of}
use Rattle.module_check.specs.Faults.{DiffersFault, ClausesFault}
use Rattle.module_check.proofs.Firsts.{least_if}
use Rattle.module_check.proofs.Formed.{clauses_least}
use Rattle.module_check.proofs.forms.clauses_fault.Goals as goal

pub returns-in-len1-up : goal.returns-in-len1-up
returns-in-len1-up c =
    let before = take c.args.place c.args.tree.now.functions in
    let P : List Clause → Type 0 = λ zs. IsLeast (Some_of (DiffersFault c.args.function.now) zs) c.differs_fault.result in
    let Q : List Clause → Type 0 = λ zs. IsLeast (ClausesFault before c.args.function.now zs) c.first_of.result in
    subst Q c.items.ensures (clauses_least before c.args.function.now c.items.result.now c.first-item.result c.fault_if-again.result c.differs_fault.result c.first_of.result c.in-len1-up.len_at_least c.first-item.is (least_if c.stands_before-again.result _ c.first-item.result.at w.FunctionAgain c.fault_if-again.result c.stands_before-again.ensures c.fault_if-again.ensures) (subst P (take_rest c.items.result.now 1) c.differs_fault.ensures) c.first_of.ensures)
