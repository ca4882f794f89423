use Rattle.module_check.proofs.Listed.{any_listed}
use Rattle.erl_syntax.specs.Checking.{CallsBuiltIn}
use Rattle.module_check.proofs.calls.is_of_built_in.Goals as goal

pub returns : goal.returns
returns c = any_listed (CallsBuiltIn c.args.tree.now c.args.home.now c.args.name c.args.arity) c.is_of_any.result c.is_of_any.ensures
