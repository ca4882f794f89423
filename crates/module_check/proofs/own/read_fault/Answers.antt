use Rattle.std.proofs.Common.{Bool, MatchBool}
use Rattle.std.proofs.Common.{sym, subst}
use Rattle.erl_syntax.specs.Scopes.{IsKnown, IsUnsafe}
use Rattle.erl_syntax.specs.declared.checking.CheckCause.TheVariants as w
use Rattle.module_check.specs.Order.{At}
use Rattle.module_check.specs.Faults.{UnsafeFault}
use Rattle.module_check.proofs.Firsts.{least_if, least_of_both}
use Rattle.module_check.proofs.Owning.{unsafe_by, known_by, neither}
use Rattle.module_check.proofs.own.read_fault.Goals as goal

pub returns : goal.returns
returns c = λ s m.
    let n = c.args.name.now in
    least_of_both (λ at why. At c.args.at w.UnboundVariable at why × ((IsKnown s.known n → ⊥) × (IsUnsafe s.dangers n → ⊥))) (UnsafeFault s c.args.at n) _ _ _
    (least_if c.is_neither.result _ c.args.at w.UnboundVariable _ (let P : Bool → Type 0 = λ b. MatchBool b ((IsKnown s.known n → ⊥) × (IsUnsafe s.dangers n → ⊥)) ((IsKnown s.known n → ⊥) × (IsUnsafe s.dangers n → ⊥) → ⊥) in subst P (sym c.is_neither.ensures) (neither (IsKnown s.known n) (IsUnsafe s.dangers n) c.is_put-known.result c.is_put-endangered.result (known_by _ _ s.known n _ c.is_put-known.ensures m.known) (unsafe_by _ _ s n _ c.is_put-endangered.ensures m.dangers))) c.fault_if-unbound.ensures)
    (c.unsafe_fault.ensures s m.dangers) c.first_of.ensures
