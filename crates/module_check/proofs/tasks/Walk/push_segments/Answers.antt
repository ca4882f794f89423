use Rattle.std.proofs.Common.{arith, ◌<◌, ◌+◌, [], ◌∷◌, ◌++◌, ap, take, drop, length}
use Rattle.erl_syntax.specs.Scopes.{ASegment, past_segments, is_empty}
use Rattle.module_check.specs.Spots.{spot, segment_in}
use Rattle.module_check.proofs.Tasked.{adds_then, far_start, far_on, far_end, passed_more}
use Rattle.module_check.proofs.Passing.{sizes_any, passes_grown, passes_front, passes_none}
use Rattle.module_check.proofs.tasks.Walk.push_segments.Goals as goal

pub loop-index-init : goal.loop-index-init
loop-index-init c = λ s m o. (far_start (segment_in c.args.side s) [] c.args.segments.now c.args.self.now, passes_none _ _ s m o)

pub loop-index-preserved : goal.loop-index-preserved
loop-index-preserved c = λ s m o.
    let h = c.loop-index.invariant s m o in
    let i = c.loop-index.index in
    let xs = c.args.segments.now in
    let one = c.index-segments-index.result in
    let l : i < length xs = omega arith in
    let t = past_segments (take i xs) s in
    let d = spot t (ASegment c.args.side (is_empty (drop (i + 1) xs)) one) in
    let pushed = c.in_ok-push.ensures d (record { part = ap (λ z. ASegment c.args.side z one) c.is_last-last.ensures; means = h.1.means; sizes = sizes_any _ _ t c.args.side (is_empty (drop (i + 1) xs)) one h.1.sizes }) in
    let moved = c.in_ok-after.ensures in (
      far_on (segment_in c.args.side s) [] xs c.args.self.now c.loop-index.self c.pass_segment.new.self i one l c.index-segments-index.is h.0 (adds_then c.loop-index.self c.push.new.self c.pass_segment.new.self (d ∷ []) pushed moved.adds),
      passes_front _ _ (λ fs. past_segments fs s) (take i xs ++ one ∷ []) (take (i + 1) xs) (passed_more [] xs i one l c.index-segments-index.is) (moved.means s (take i xs) (passes_grown _ _ _ _ pushed.grown h.1)),
    )

pub returns : goal.returns
returns c = λ s m o. far_end (segment_in c.args.side s) [] c.args.segments.now c.args.self.now c.loop-index.self c.loop-index.index (omega arith) (c.loop-index.invariant s m o).0
