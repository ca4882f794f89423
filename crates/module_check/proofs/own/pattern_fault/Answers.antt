use Rattle.std.proofs.Common.{subst, ℕ, List}
use Rattle.module_check.specs.Order.{IsLeast}
use Rattle.module_check.specs.Faults.{UnsafeFault}
use Rattle.module_check.proofs.Owning.{at_pattern}
use Rattle.module_check.proofs.own.pattern_fault.Goals as goal

pub returns-in-Var : goal.returns-in-Var
returns-in-Var c = λ s m. at_pattern s c.args.pattern.now c.in-Var.at c.in-Var.name c.unsafe_fault.result c.in-Var.is (let P : List ℕ → Type 0 = λ n. IsLeast (UnsafeFault s c.in-Var.at n) c.unsafe_fault.result in subst P c.bytes.ensures (c.unsafe_fault.ensures s m.dangers))
