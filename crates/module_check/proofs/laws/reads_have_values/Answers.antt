use Rattle.module_check.proofs.Valued.{valued}
use Rattle.module_check.proofs.laws.reads_have_values.Goals as goal

pub returns : goal.returns
returns c = valued
