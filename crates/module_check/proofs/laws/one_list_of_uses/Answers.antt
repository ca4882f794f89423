use Rattle.module_check.proofs.Rising.{one_list}
use Rattle.module_check.proofs.laws.one_list_of_uses.Goals as goal

pub returns : goal.returns
returns c = one_list
