use Rattle.std.proofs.Common.{arith, sym, ◌∙◌, ◌<◌, ◌+◌, [], ◌∷◌, ◌++◌, ap, take, length, get_or}
use Rattle.std.proofs.lemmas.List.{append-nil, append_assoc, get_or_default}
use Rattle.module_check.specs.declared.scopes.Target.{Target}
use Rattle.module_check.specs.Nodes.{bound_of, bounds_of}
use Rattle.module_check.specs.Tasks.{passed}
use Rattle.module_check.proofs.Chained.{bounds_more, bounds_all}
use Rattle.module_check.proofs.Tasked.{adds_none, adds_then}
use Rattle.module_check.proofs.Passing.{passes_front}
use Rattle.module_check.proofs.tasks.Walk.pass_targets.Goals as goal

pub loop-target-init : goal.loop-target-init
loop-target-init c = record { adds = adds_none c.args.self.now; means = λ s bs m. passes_front _ _ (λ zs. passed zs s) bs (bs ++ []) (sym (append-nil bs)) m }

pub loop-target-preserved : goal.loop-target-preserved
loop-target-preserved c = record {
  adds = adds_then c.args.self.now c.loop-target.self c.pass_target.new.self [] c.loop-target.invariant.adds c.in_ok-after.ensures.adds;
  means = λ s bs m.
      let d : Target = record { name = record { ref_ptr = (0, 0); now = [] }; at = record { line = 0; column = 0 } } in
      let i = c.loop-target.target-index in
      let xs = c.args.targets.now in
      let one = get_or xs i d in
      let l : i < length xs = omega arith in
      passes_front _ _ (λ zs. passed zs s) ((bs ++ bounds_of (take i xs)) ++ bound_of one ∷ []) (bs ++ bounds_of (take (i + 1) xs)) (append_assoc bs (bounds_of (take i xs)) (bound_of one ∷ []) ∙ ap (λ zs. bs ++ zs) (sym (bounds_more xs i one l (get_or_default xs i d one l)))) (c.in_ok-after.ensures.means s (bs ++ bounds_of (take i xs)) (c.loop-target.invariant.means s bs m));
}

pub returns-clause-means : goal.returns-clause-means
returns-clause-means c = λ s bs m.
    let xs = c.args.targets.now in
    let i = c.loop-target.target-index in
    passes_front _ _ (λ zs. passed zs s) (bs ++ bounds_of (take i xs)) (bs ++ bounds_of xs) (ap (λ zs. bs ++ zs) (bounds_all xs i (omega arith))) (c.loop-target.invariant.means s bs m)
