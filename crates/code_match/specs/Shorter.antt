-- Earlier bindings are fewer.
use Rattle.std.specs.Prelude.{◌≤◌, ◌∷◌, [], length, max}
use Rattle.std.proofs.Common.{arith, length-append}
use Rattle.code_match.specs.Binds.{chained}
use Rattle.code_match.specs.declared.bindings.Chain.{Chain}
use Rattle.code_match.specs.declared.bindings.Chain.TheVariants.{Empty, More}
use Rattle.code_match.specs.declared.bindings.Link.TheDeep.{deep-Chain}

pub chain_falls : (c : Chain) → deep-Chain c ≤ length (chained c)
chain_falls Empty = omega arith
chain_falls (More link) = omega (arith, length-append link.1 (link.0 ∷ []))

pub link_falls : (c : Chain) → max (deep-Chain c) 0 ≤ length (chained c)
link_falls c = omega (arith, chain_falls c)
