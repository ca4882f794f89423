use Rattle.std.proofs.Common.{subst, ℕ, List}
use Rattle.module_check.specs.Places.{Reads, IsOnly}
use Rattle.module_check.proofs.Placed.{at_var}
use Rattle.module_check.proofs.places.expr_place.Goals as goal

pub returns-in-Var : goal.returns-in-Var
returns-in-Var c = λ s m. at_var s c.args.expr.now c.in-Var.at c.in-Var.name c.read.result c.in-Var.is (let P : List ℕ → Type 0 = λ n. IsOnly (Reads s.known c.in-Var.at n) c.read.result in subst P c.bytes.ensures (c.read.ensures s.known m.known))
