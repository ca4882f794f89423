use Rattle.std.proofs.Common.{◌≡◌, ℕ, [], Some, subst, rules}
use Rattle.std.proofs.lemmas.Int.{to_z-of_z}
use mir.Syntax.{w128}
use mir.Val.{SFits, to_z, of_z}
use Rattle.bits_build.specs.Extents.{IsExtent}
use Rattle.term_value.specs.Extent.{extent}
use Rattle.term_value.specs.Value.{VInt}
use Rattle.match_context.proofs.found.extent_with.Goals as goal

pub returns : goal.returns
returns c =
    let fits : SFits w128 c.args.count = search rules in
    let same : to_z w128 (of_z w128 c.args.count) ≡ c.args.count = to_z-of_z w128 c.args.count fits in
    subst (λ n. IsExtent (extent c.args.typed.size c.args.typed.unit (Some (VInt n))) c.reach.result) same (c.reach.ensures.is (λ (r : ℕ). []))
