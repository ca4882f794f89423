use Rattle.module_check.proofs.Passing.{last_is}
use Rattle.module_check.proofs.tasks.is_last.Goals as goal

pub returns : goal.returns
returns c = last_is c.args.segments.now c.args.index c.requires
