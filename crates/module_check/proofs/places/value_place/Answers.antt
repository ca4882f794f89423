use Rattle.std.proofs.Common.{subst, ℕ, List}
use Rattle.module_check.specs.Places.{Meets, IsOnly}
use Rattle.module_check.proofs.Placed.{at_value}
use Rattle.module_check.proofs.places.value_place.Goals as goal

pub returns-in-Var : goal.returns-in-Var
returns-in-Var c = λ s m. at_value s c.args.value.now c.in-Var.at c.in-Var.name c.met.result c.in-Var.is (let P : List ℕ → Type 0 = λ n. IsOnly (Meets s.known c.in-Var.at n) c.met.result in subst P c.bytes.ensures (c.met.ensures s.known m.known))
