-- Earlier bindings are fewer.
use Rattle.std.specs.Prelude.{◌≤◌, ◌∷◌, [], length, max}
use Rattle.std.proofs.Common.{arith, length-append}
use Rattle.proc_values.specs.Binds.{chained}
use Rattle.proc_values.specs.declared.bindings.Chain.{Chain}
use Rattle.proc_values.specs.declared.bindings.Chain.TheVariants.{Empty, More}
use Rattle.proc_values.specs.declared.bindings.Link.TheDeep.{deep-Chain}

pub chain_falls : {R : Type 0} (c : Chain R) → deep-Chain R c ≤ length (chained c)
chain_falls Empty = omega arith
chain_falls (More link) = omega (arith, length-append link.1 (link.0 ∷ []))

pub link_falls : {R : Type 0} (c : Chain R) → max (deep-Chain R c) 0 ≤ length (chained c)
link_falls c = omega (arith, chain_falls c)
