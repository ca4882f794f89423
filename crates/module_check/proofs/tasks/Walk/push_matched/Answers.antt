use Rattle.std.proofs.Common.{◌-◌, arith, refl, ◌≡◌, ◌<◌, ◌+◌, drop, length, reverse}
use Rattle.erl_syntax.specs.Bindings.{targets, targets_of}
use Rattle.erl_syntax.specs.Scopes.{with_known, to_match}
use Rattle.module_check.specs.Spots.{matched_in}
use Rattle.module_check.proofs.Tasked.{means_match, unmatched, means_same, back_start, back_on, back_end, back_targets, back_none, back_done}
use Rattle.module_check.proofs.tasks.Walk.push_matched.Goals as goal

pub loop-left-init : goal.loop-left-init
loop-left-init c = record { within = omega arith; far = λ s m. (back_start (matched_in s) c.args.patterns.now c.args.self.now (length c.args.patterns.now) refl, back_none _ _ c.args.patterns.now (length c.args.patterns.now) s refl m) }

pub loop-left-preserved : goal.loop-left-preserved
loop-left-preserved c = record {
  within = omega (arith, c.loop-left.invariant.within);
  far = λ s m.
      let h = c.loop-left.invariant.far s m in
      let xs = c.args.patterns.now in
      let j = c.loop-left.left in
      let i = j - 1 in
      let one = c.index-patterns-left.result in
      let t = with_known (targets_of (reverse (drop j xs))) s in
      let r = c.in_ok-after.ensures (to_match t) (means_match _ _ t h.1) h.1.known in
      let k : j ≡ i + 1 = omega arith in
      let l : i < length xs = omega (arith, c.loop-left.invariant.within) in (
        back_on (matched_in s) xs c.args.self.now c.loop-left.self c.push_pattern.new.self i j one k l c.index-patterns-left.is h.0 r.0,
        means_same _ _ _ _ (back_targets xs i j one s k l c.index-patterns-left.is) (unmatched _ _ t (targets one) r.1.0),
      );
}

pub returns : goal.returns
returns c = λ s m. let h = c.loop-left.invariant.far s m in (back_end (matched_in s) c.args.patterns.now c.args.self.now c.loop-left.self c.loop-left.left (omega arith) h.0, back_done _ _ c.args.patterns.now c.loop-left.left s (omega arith) h.1)
