use Rattle.std.proofs.Common.{sym, [], ◌∷◌, ◌++◌, ap}
use Rattle.erl_syntax.specs.Scopes.{ABody, in_guard, to_match, past_patterns, nothing_known}
use Rattle.module_check.specs.Spots.{spot, guard_in, patterns_in}
use Rattle.module_check.specs.Tasks.{Means}
use Rattle.module_check.proofs.Tasked.{adds_twice, adds_same, means_grown, means_match, means_same, with_none}
use Rattle.module_check.proofs.Passing.{means_nothing, sees_nothing}
use Rattle.module_check.proofs.tasks.Walk.push_clause.Goals as goal

pub returns : goal.returns
returns c =
    let cl = c.args.clause.now in
    let e = c.items.ensures in
    let ps = c.items.result.now in
    let start = means_same _ _ _ _ (sym (with_none (to_match nothing_known))) (means_match _ _ nothing_known (means_nothing c.args.self.now.nodes.items)) in
    let one = c.in_ok-known.ensures (to_match nothing_known) [] start (sees_nothing c.args.self.now.nodes.items) in
    let t = past_patterns ps nothing_known in
    let k : Means c.push_patterns.new.self.nodes.items c.in_ok-known.known t = record { known = one.1.0.known; dangers = one.1.0.dangers; guarded = one.1.0.guarded } in
    let two = c.in_ok-push_guard.ensures t k in
    let three = adds_same _ _ _ _ (ap (λ zs. spot t (ABody zs) ∷ []) c.items-2.ensures) (c.in_ok-push_body.ensures t (means_grown _ _ _ _ two.grown k)).0 in
    adds_same _ _ _ _ (ap (λ zs. patterns_in (to_match nothing_known) zs ++ (guard_in (in_guard (past_patterns zs nothing_known)) cl.guard ++ spot (past_patterns zs nothing_known) (ABody cl.body) ∷ [])) e)
    (adds_twice c.args.self.now c.push_patterns.new.self c.push_body.new.self _ _ one.0 (adds_twice c.push_patterns.new.self c.push_guard.new.self c.push_body.new.self _ _ two three))
