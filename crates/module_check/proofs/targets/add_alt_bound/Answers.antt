use Rattle.std.proofs.Common.{◌++◌, ap}
use Rattle.std.proofs.lemmas.Result.{IfOk-weaker}
use Rattle.erl_syntax.specs.Bindings.{names, targets}
use Rattle.erl_syntax.specs.declared.clause.Alt.{out-Alt}
use Rattle.module_check.specs.Unsafe.{items_bound}
use Rattle.module_check.proofs.Left.{twice, names_added}
use Rattle.module_check.proofs.targets.add_alt_bound.Goals as goal

pub returns : goal.returns
returns c = IfOk-weaker c.add_bound.result _ _ (λ u h. twice _ _ _ _ _ _ (names_added _ _ _ c.in_ok-add_targets.ensures) h (ap (λ zs. names (targets (out-Alt c.args.alt.now).pattern) ++ items_bound zs) c.items.ensures)) c.add_bound.ensures
