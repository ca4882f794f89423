use Rattle.std.proofs.Common.{get_or}
use Rattle.std.proofs.lemmas.List.{get_or_default, take_all}
use Rattle.module_check.specs.declared.scopes.Target.{Target}
use Rattle.module_check.specs.Nodes.{SeesUnsafe}
use Rattle.std.proofs.Common.{arith, subst, List, [], ◌∷◌, ◌++◌}
use Rattle.erl_syntax.specs.Bindings.{names}
use Rattle.module_check.specs.Nodes.{bounds_of}
use Rattle.module_check.proofs.Chained.{grown_same, grown_twice, sees_grown, sees_same, danger_none, endanger_more}
use Rattle.module_check.proofs.scopes.endanger.Goals as goal

pub loop-target-init : goal.loop-target-init
loop-target-init c = record { grown = grown_same c.args.nodes.now.items; put = λ ds bs u s. sees_same c.args.nodes.now.items c.args.dangers ds _ (danger_none ds bs) u }

pub loop-target-preserved : goal.loop-target-preserved
loop-target-preserved c = record { grown = grown_twice c.args.nodes.now.items c.loop-target.nodes.items c.endanger_one.new.nodes.items c.loop-target.invariant.grown c.in_ok-last.ensures.grown; put = let d : Target = record { name = record { ref_ptr = (0, 0); now = [] }; at = record { line = 0; column = 0 } } in λ ds bs u s. endanger_more c.endanger_one.new.nodes.items c.in_ok-last.last c.args.targets.now c.loop-target.target-index (get_or c.args.targets.now c.loop-target.target-index d) ds bs (omega arith) (get_or_default c.args.targets.now c.loop-target.target-index d (get_or c.args.targets.now c.loop-target.target-index d) (omega arith)) (c.in_ok-last.ensures.put _ bs (c.loop-target.invariant.put ds bs u s) (sees_grown c.args.nodes.now.items c.loop-target.nodes.items c.loop-target.invariant.grown c.args.known bs s)) }

pub returns-clause-put : goal.returns-clause-put
returns-clause-put c = λ ds bs u s.
    let P : List Target → Type 0 = λ ts. SeesUnsafe c.loop-target.nodes.items c.loop-target.last (ds ++ record { left_unsafe = names (bounds_of ts); known = bs } ∷ []) in
    subst P (take_all c.loop-target.target-index c.args.targets.now (omega arith)) (c.loop-target.invariant.put ds bs u s)
