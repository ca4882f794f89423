use Rattle.std.proofs.Common.{◌≡◌, true}
use Rattle.erl_syntax.specs.declared.checking.CheckCause.TheVariants as w
use Rattle.module_check.specs.Order.{Either, At}
use Rattle.module_check.specs.Faults.{IsUndefined, IsForGuards, BareFault}
use Rattle.module_check.proofs.Firsts.{least_if, least_of_both}
use Rattle.module_check.proofs.calls.call_fault.Goals as goal

pub returns : goal.returns
returns c =
    let a = c.args in
    least_of_both (λ at why. At a.at w.UndefinedFunction at why × IsUndefined a.tree.now a.home.now a.name a.arity) (Either (λ at why. At a.at w.CallInGuard at why × ((a.guarded ≡ true) × (IsForGuards a.tree.now a.home.now a.name a.arity → ⊥))) (BareFault a.tree.now a.home.now a.name a.arity))
    _ _ _
    (least_if c.is_undefined-undefined.result _ a.at w.UndefinedFunction _ c.is_undefined-undefined.ensures c.fault_if.ensures)
    (least_of_both _ _ _ _ _ (least_if c.is_barred-barred.result _ a.at w.CallInGuard _ c.is_barred-barred.ensures c.fault_if-barred.ensures) c.bare_fault-bare.ensures c.first_of.ensures)
    c.first_of-2.ensures
