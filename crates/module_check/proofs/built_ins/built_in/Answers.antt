use Rattle.module_check.proofs.Listed.{among_all}
use Rattle.module_check.proofs.built_ins.built_in.Goals as goal

pub returns : goal.returns
returns c = among_all c.args.name.now c.args.arity c.among.result c.among.ensures
