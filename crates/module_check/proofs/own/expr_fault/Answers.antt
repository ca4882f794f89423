use Rattle.std.proofs.Common.{ap, subst, ℕ, List, length}
use Rattle.module_check.specs.Order.{IsLeast}
use Rattle.module_check.specs.Faults.{ReadFault}
use Rattle.module_check.proofs.Owning.{at_var, at_call}
use Rattle.module_check.proofs.own.expr_fault.Goals as goal

pub returns-in-Var : goal.returns-in-Var
returns-in-Var c = λ s m. at_var c.args.tree.now s c.args.expr.now c.in-Var.at c.in-Var.name c.read_fault.result c.in-Var.is (let P : List ℕ → Type 0 = λ n. IsLeast (ReadFault s c.in-Var.at n) c.read_fault.result in subst P c.bytes.ensures (c.read_fault.ensures s m))

pub returns-in-Call : goal.returns-in-Call
returns-in-Call c = λ s m. at_call c.args.tree.now s c.args.expr.now c.in-Call.at c.in-Call.module c.in-Call.name c.in-Call.args c.args.facts.guarded c.items.result.now _ c.call_fault.result c.in-Call.is m.guarded c.items.ensures (ap length c.items-arity.ensures) c.call_fault.ensures
