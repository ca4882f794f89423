use Rattle.std.proofs.Common.{◌∙◌, refl, List, ◌++◌, ap}
use Rattle.erl_syntax.specs.Bindings.{names, vars_of}
use Rattle.module_check.specs.declared.scopes.Target.{Target}
use Rattle.module_check.specs.Nodes.{bounds_of}
use Rattle.module_check.proofs.Tasked.{adds_nodes, means_behind}
use Rattle.module_check.proofs.tasks.Walk.behind.Goals as goal

pub returns : goal.returns
returns c = (
  adds_nodes c.args.self.now _ c.in_ok-dangers.ensures.grown refl,
  means_behind c.args.self.now.nodes.items c.endanger.new.nodes.items c.args.facts c.in_ok-dangers.dangers (names (bounds_of c.deref.result.now)) c.args.expr.now (ap (λ (zs : List Target). names (bounds_of zs)) c.deref.ensures.value ∙ c.in_ok-add_unsafe.ensures ∙ ap (λ (zs : List Target). names (bounds_of zs) ++ (vars_of c.args.expr.now).left_unsafe) c.new-found.ensures.items) c.in_ok-dangers.ensures.grown c.in_ok-dangers.ensures.put,
)
