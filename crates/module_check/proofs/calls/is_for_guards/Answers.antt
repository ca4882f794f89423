use Rattle.std.proofs.Common.{◌≡◌, true}
use Rattle.module_check.proofs.Listed.{any_listed}
use Rattle.erl_syntax.specs.BuiltIns.{is_for_guards}
use Rattle.erl_syntax.specs.Checking.{CallsBuiltIn}
use Rattle.module_check.proofs.calls.is_for_guards.Goals as goal

pub returns : goal.returns
returns c = any_listed (λ b. CallsBuiltIn c.args.tree.now c.args.home.now c.args.name c.args.arity b × (is_for_guards b ≡ true)) c.is_for_guards_of_any.result c.is_for_guards_of_any.ensures
