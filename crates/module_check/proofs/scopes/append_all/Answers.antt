use Rattle.std.proofs.Common.{[], arith, get_or}
use Rattle.std.proofs.lemmas.List.{get_or_default}
use Rattle.module_check.specs.declared.scopes.Target.{Target}
use Rattle.module_check.proofs.Chained.{grown_twice, append_more}
use Rattle.module_check.proofs.scopes.append_all.Goals as goal

pub loop-target-preserved : goal.loop-target-preserved
loop-target-preserved c =
    let d : Target = record { name = record { ref_ptr = (0, 0); now = [] }; at = record { line = 0; column = 0 } } in
    let one : Target = get_or c.args.targets.now c.loop-target.target-index d in
    record {
      grown = grown_twice c.args.nodes.now.items c.loop-target.nodes.items c.append.new.nodes.items c.loop-target.invariant.grown c.in_ok-last.ensures.grown;
      put = λ bs s. append_more c.append.new.nodes.items c.in_ok-last.last c.args.targets.now c.loop-target.target-index one bs (omega arith) (get_or_default c.args.targets.now c.loop-target.target-index d one (omega arith)) (c.in_ok-last.ensures.put _ (c.loop-target.invariant.put bs s));
    }
