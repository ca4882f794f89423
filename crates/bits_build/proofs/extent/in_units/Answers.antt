use Rattle.std.proofs.Common.{◌<◌, ◌*◌, ◌∙◌, ap, subst, arith}
use Rattle.std.proofs.lemmas.Int.{ints, to_z-of_z}
use Rattle.std.specs.Prelude.{unsigned_abs}
use mir.Syntax.{w128}
use Rattle.bits_value.specs.declared.TheConstants.{MAX_BITS}
use Rattle.bits_build.proofs.Sizes.{past_bound}
use Rattle.bits_build.proofs.extent.in_units.Goals as goal

pub returns-else-bits-from-clause-is : goal.returns-else-bits-from-clause-is
returns-else-bits-from-clause-is c =
    past_bound c.args.unit c.unsigned_abs.result c.args.count (omega (arith, ints)) (c.unsigned_abs.ensures.value ∙ ap unsigned_abs (to_z-of_z w128 c.args.count c.ranges.count))
    (subst (λ u. MAX_BITS < c.unsigned_abs.result * u) c.from.ensures (omega (arith, c.saturating_mul-bits.ensures)))
