use Rattle.std.proofs.Common.{◌∙◌, refl, List, [], ◌++◌, ap}
use Rattle.erl_syntax.specs.Bindings.{names, qual_unsafe}
use Rattle.module_check.specs.declared.scopes.Target.{Target}
use Rattle.module_check.specs.Nodes.{bounds_of}
use Rattle.module_check.proofs.Tasked.{adds_nodes, adds_then}
use Rattle.module_check.proofs.Passing.{means_past_qual}
use Rattle.module_check.proofs.tasks.Walk.past_qual.Goals as goal

pub returns-clause-adds : goal.returns-clause-adds
returns-clause-adds c = adds_then c.args.self.now _ c.generate.new.self [] (adds_nodes c.args.self.now _ c.in_ok-dangers.ensures.grown refl) c.in_ok-generated.ensures.adds

pub returns-clause-means : goal.returns-clause-means
returns-clause-means c = means_past_qual c.args.self.now.nodes.items c.endanger.new.nodes.items c.generate.new.self.nodes.items c.args.facts c.in_ok-generated.generated c.in_ok-dangers.dangers (names (bounds_of c.deref.result.now)) c.args.qual.now (ap (λ (zs : List Target). names (bounds_of zs)) c.deref.ensures.value ∙ c.in_ok-add_qual_unsafe.ensures ∙ ap (λ (zs : List Target). names (bounds_of zs) ++ qual_unsafe c.args.qual.now) c.new-left.ensures.items) c.in_ok-dangers.ensures.grown c.in_ok-generated.ensures.adds.grown c.in_ok-dangers.ensures.put c.in_ok-generated.ensures.means
