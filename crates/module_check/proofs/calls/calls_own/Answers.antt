use Rattle.std.proofs.Common.{subst}
use Rattle.erl_syntax.specs.Checking.{IsOwn}
use Rattle.erl_syntax.specs.declared.module.Module.{Module}
use Rattle.module_check.proofs.Calling.{none_at_all, one_at_all, own_bare, own_home}
use Rattle.module_check.proofs.calls.calls_own.Goals as goal

pub returns-in-empty : goal.returns-in-empty
returns-in-empty c = own_bare c.args.tree.now c.args.home.now c.args.name c.args.arity (none_at_all c.args.home.now c.in-empty.len_below) c.if-not-has_function.ensures

pub returns-then-is_own : goal.returns-then-is_own
returns-then-is_own c =
    let P : Module → Type 0 = λ m. IsOwn m c.home-item.result in
    own_home c.args.tree.now c.args.home.now c.home-item.result c.args.name c.args.arity c.is_exported.result (one_at_all c.args.home.now c.home-item.result c.in-len1.len_at_least c.in-len1.len_below c.home-item.is) c.if-not-has_function.ensures (subst P c.module.ensures c.if-is_own.ensures) c.is_exported.ensures
