use Rattle.match_laws.proofs.Kept.{in_range_is_kept}
use Rattle.match_laws.proofs.in_range_is_kept.Goals as goal

-- src/lib.rt
pub returns : goal.returns
returns c = in_range_is_kept
