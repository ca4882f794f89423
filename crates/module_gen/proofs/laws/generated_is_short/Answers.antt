use Rattle.module_gen.proofs.Short.{short}
use Rattle.module_gen.proofs.laws.generated_is_short.Goals as goal

pub returns : goal.returns
returns c = short
