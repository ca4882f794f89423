use Rattle.std.proofs.Common.{◌∙◌, refl, List, ◌++◌, ap}
use Rattle.erl_syntax.specs.Bindings.{targets}
use Rattle.module_check.specs.declared.scopes.Target.{Target}
use Rattle.module_check.specs.Nodes.{bounds_of}
use Rattle.module_check.proofs.Tasked.{adds_nodes, means_known}
use Rattle.module_check.proofs.tasks.Walk.know.Goals as goal

pub returns : goal.returns
returns c = λ s m. (
  adds_nodes c.args.self.now _ c.in_ok-known.ensures.grown refl,
  (means_known c.args.self.now.nodes.items c.append_all.new.nodes.items c.args.facts c.in_ok-known.known (bounds_of c.deref.result.now) (targets c.args.pattern.now) (ap (λ (zs : List Target). bounds_of zs) c.deref.ensures.value ∙ c.in_ok-add_targets.ensures ∙ ap (λ (zs : List Target). bounds_of zs ++ targets c.args.pattern.now) c.new-found.ensures.items) c.in_ok-known.ensures.grown c.in_ok-known.ensures.put s m, refl),
)
