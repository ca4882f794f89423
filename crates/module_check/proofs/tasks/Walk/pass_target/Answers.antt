use Rattle.std.proofs.Common.{refl}
use Rattle.module_check.specs.Nodes.{bound_of}
use Rattle.module_check.proofs.Chained.{grown_twice}
use Rattle.module_check.proofs.Tasked.{adds_nodes}
use Rattle.module_check.proofs.Passing.{pass_on, pass_known}
use Rattle.module_check.proofs.tasks.Walk.pass_target.Goals as goal

pub returns-in_default-clause-adds : goal.returns-in_default-clause-adds
returns-in_default-clause-adds c = adds_nodes c.args.self.now _ c.in_ok-known.ensures.grown refl

pub returns-in_default-clause-means : goal.returns-in_default-clause-means
returns-in_default-clause-means c = λ s bs m. absurd (pass_known c.args.self.now.nodes.items c.append.new.nodes.items c.args.facts c.in_ok-known.known (bound_of c.args.target) s bs c.in_ok-known.ensures.put (rw c.deref.ensures.value at c.in_default.ensures) m)

pub returns-clause-adds : goal.returns-clause-adds
returns-clause-adds c = adds_nodes c.args.self.now _ (grown_twice _ _ _ c.in_ok-known.ensures.grown c.in_ok-sizes.ensures.grown) refl

pub returns-clause-means : goal.returns-clause-means
returns-clause-means c = λ s bs m. pass_on c.args.self.now.nodes.items c.append.new.nodes.items c.put.new.nodes.items c.args.facts c.in_ok-known.known c.in_ok-sizes.sizes (bound_of c.args.target) c.in-Some.place s bs c.in_ok-known.ensures.grown c.in_ok-sizes.ensures.grown c.in_ok-known.ensures.put (rw c.deref.ensures.value at c.in-Some.ensures) c.in_ok-sizes.ensures.put m
