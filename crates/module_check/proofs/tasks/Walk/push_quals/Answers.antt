use Rattle.std.proofs.Common.{arith, ◌<◌, ◌+◌, [], ◌∷◌, ◌++◌, take, length}
use Rattle.erl_syntax.specs.Scopes.{past_quals}
use Rattle.module_check.specs.Spots.{quals_in}
use Rattle.module_check.proofs.Tasked.{adds_then, means_grown, means_same, means_front, far_start, far_on, far_end, passed_more}
use Rattle.module_check.proofs.Passing.{quals_more}
use Rattle.module_check.proofs.tasks.Walk.push_quals.Goals as goal

pub loop-qual-init : goal.loop-qual-init
loop-qual-init c = λ s m. (far_start (quals_in s) [] c.args.quals.now c.args.self.now, m)

pub loop-qual-preserved : goal.loop-qual-preserved
loop-qual-preserved c = λ s m.
    let h = c.loop-qual.invariant s m in
    let i = c.loop-qual.qual-index in
    let xs = c.args.quals.now in
    let one = c.qual-item.result in
    let l : i < length xs = omega arith in
    let t = past_quals (take i xs) s in
    let pushed = c.in_ok-push_qual.ensures t h.1 in
    let moved = c.in_ok-after.ensures in (
      far_on (quals_in s) [] xs c.args.self.now c.loop-qual.self c.past_qual.new.self i one l c.qual-item.is h.0 (adds_then c.loop-qual.self c.push_qual.new.self c.past_qual.new.self _ pushed moved.adds),
      means_front _ _ (λ fs. past_quals fs s) (take i xs ++ one ∷ []) (take (i + 1) xs) (passed_more [] xs i one l c.qual-item.is) (means_same _ _ _ _ (quals_more (take i xs) one s) (moved.means t (means_grown _ _ _ _ pushed.grown h.1))),
    )

pub returns : goal.returns
returns c = λ s m. far_end (quals_in s) [] c.args.quals.now c.args.self.now c.loop-qual.self c.loop-qual.qual-index (omega arith) (c.loop-qual.invariant s m).0
