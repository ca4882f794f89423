use Rattle.module_check.proofs.Rising.{one_for_each}
use Rattle.module_check.proofs.laws.one_numbering.Goals as goal

pub returns : goal.returns
returns c = one_for_each
