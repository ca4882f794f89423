use Rattle.segment_type.proofs.Unique.{one_type}
use Rattle.segment_type.proofs.laws.one_type.Goals as goal

pub returns : goal.returns
returns c = one_type
