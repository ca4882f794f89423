use Rattle.std.proofs.Common.{◌∙◌, refl, List, ◌++◌, ap}
use Rattle.erl_syntax.specs.Bindings.{new_names}
use Rattle.module_check.specs.declared.scopes.Target.{Target}
use Rattle.module_check.specs.Nodes.{bounds_of}
use Rattle.module_check.proofs.Tasked.{adds_nodes}
use Rattle.module_check.proofs.Passing.{means_new}
use Rattle.module_check.proofs.tasks.Walk.generate.Goals as goal

pub returns-clause-adds : goal.returns-clause-adds
returns-clause-adds c = adds_nodes c.args.self.now _ c.in_ok-known.ensures.grown refl

pub returns-clause-means : goal.returns-clause-means
returns-clause-means c = means_new c.args.self.now.nodes.items c.put_all.new.nodes.items c.args.facts c.in_ok-known.known (bounds_of c.deref.result.now) c.args.qual.now (ap (λ (zs : List Target). bounds_of zs) c.deref.ensures.value ∙ c.in_ok-add_new.ensures ∙ ap (λ (zs : List Target). bounds_of zs ++ new_names c.args.qual.now) c.new-found.ensures.items) c.in_ok-known.ensures.grown c.in_ok-known.ensures.put
