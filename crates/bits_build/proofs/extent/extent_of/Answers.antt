use Rattle.std.proofs.Common.{option_map, subst}
use Rattle.term_value.specs.Extent.{extent}
use Rattle.term_value.specs.Terms.{value_of}
use Rattle.bits_build.specs.Extents.{IsExtent}
use Rattle.bits_build.proofs.extent.extent_of.Goals as goal

pub returns-clause-is : goal.returns-clause-is
returns-clause-is g c shown =
    subst (λ size. IsExtent (extent c.args.part.now.typed.size c.args.part.now.typed.unit (option_map (value_of shown) size)) c.reach.result)
    c.as_ref.ensures.value (c.reach.ensures.is shown)
