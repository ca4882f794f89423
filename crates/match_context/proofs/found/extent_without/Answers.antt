use Rattle.std.proofs.Common.{ℕ, []}
use Rattle.match_context.proofs.found.extent_without.Goals as goal

pub returns : goal.returns
returns c = c.reach.ensures.is (λ (r : ℕ). [])
