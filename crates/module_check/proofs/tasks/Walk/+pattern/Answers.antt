use Rattle.std.proofs.Common.{arith, sym, ◌∙◌, refl, ◌<◌, ◌+◌, [], ◌∷◌, ◌++◌, ap, take, length}
use Rattle.std.proofs.lemmas.List.{append-nil}
use Rattle.std.proofs.lemmas.Grind.{flat_map-append}
use Rattle.std.proofs.lemmas.Result.{IfOk-weaker}
use Rattle.erl_syntax.specs.Bindings.{targets, targets_of}
use Rattle.erl_syntax.specs.Scopes.{APattern, with_known, past_patterns}
use Rattle.erl_syntax.specs.declared.typing.SideUse.TheVariants as side
use Rattle.module_check.specs.Spots.{spot, each, pattern_in, patterns_in, segment_in}
use Rattle.module_check.proofs.Chained.{sees_grown}
use Rattle.module_check.proofs.Left.{tuple_targets, list_targets, same_targets}
use Rattle.module_check.proofs.Standing.{in_pattern_tuple, in_pattern_list, in_pattern_bits, in_same, plain_pattern}
use Rattle.module_check.proofs.Tasked.{adds_twice, adds_then, adds_same, adds_inside, means_grown, means_same, means_front, sees_at, with_none, far_start, far_on, far_end, passed_more, passed_all, past_more}
use Rattle.module_check.proofs.Passing.{each_joined}
use Rattle.module_check.proofs.tasks.Walk.+pattern.Goals as goal

pub push_pattern-returns : goal.push_pattern-returns
push_pattern-returns t c = IfOk-weaker c.push_in_pattern.result _ _ (λ a h s m o.
    let d = spot s (APattern c.args.pattern.now) in
    let one = c.in_ok-push_alone.ensures d (record { part = refl; means = m; sizes = o }) in
    let r = h s (means_grown _ _ _ _ one.grown m) (sees_grown _ _ one.grown _ _ o) in
    (adds_inside c.args.self.now c.push_alone.new.self c.push_in_pattern.new.self d one r.0, r.1)) c.push_in_pattern.ensures

pub push_in_pattern-returns-in-Tuple : goal.push_in_pattern-returns-in-Tuple
push_in_pattern-returns-in-Tuple t c = IfOk-weaker c.push_patterns.result _ _ (λ a h s m o.
    let r = h s [] (means_same _ _ _ _ (sym (with_none s)) m) o in
    (adds_same _ _ _ _ (ap (λ zs. patterns_in s zs) c.items.ensures ∙ sym (in_pattern_tuple s c.args.pattern.now c.in-Tuple.at c.in-Tuple.items c.in-Tuple.is)) r.0, (means_same _ _ _ _ (ap (λ zs. with_known zs s) (ap targets_of c.items.ensures ∙ tuple_targets c.args.pattern.now c.in-Tuple.at c.in-Tuple.items c.in-Tuple.is)) r.1.0, r.1.1))) c.push_patterns.ensures

pub push_in_pattern-returns-in_ok-behind-in-List : goal.push_in_pattern-returns-in_ok-behind-in-List
push_in_pattern-returns-in_ok-behind-in-List t c = IfOk-weaker c.push_patterns-in-List-2.result _ _ (λ a h s m o.
    let e = c.items-in-List.ensures in
    let f = c.items-in-List-2.ensures in
    let ps = c.items-in-List.result.now in
    let qs = c.items-in-List-2.result.now in
    let pt = c.args.pattern.now in
    let one = c.in_ok-behind-in-List.ensures s [] (means_same _ _ _ _ (sym (with_none s)) m) o in
    let r = h s ps one.1.0 (sees_at _ _ _ _ one.1.1 (sees_grown _ _ one.0.grown _ _ o)) in (
      adds_same _ _ _ _ (each_joined (pattern_in s) [] ps qs (λ f y b z. refl) ∙ ap (λ zs. patterns_in s (zs ++ qs)) e ∙ ap (λ zs. patterns_in s (c.in-List.items ++ zs)) f ∙ sym (in_pattern_list s pt c.in-List.at c.in-List.items c.in-List.tail c.in-List.is))
          (adds_twice c.args.self.now c.push_patterns-in-List.new.self c.push_patterns-in-List-2.new.self _ _ one.0 r.0),
      (
        means_same _ _ _ _ (ap (λ zs. with_known zs s) (flat_map-append targets ps qs ∙ ap (λ zs. targets_of zs ++ targets_of qs) e ∙ ap (λ zs. targets_of c.in-List.items ++ targets_of zs) f ∙ list_targets pt c.in-List.at c.in-List.items c.in-List.tail c.in-List.is)) r.1.0,
        r.1.1 ∙ one.1.1,
      ),
    )) c.push_patterns-in-List-2.ensures

pub push_in_pattern-returns-in_ok-push_segments-in-Bits : goal.push_in_pattern-returns-in_ok-push_segments-in-Bits
push_in_pattern-returns-in_ok-push_segments-in-Bits t c = IfOk-weaker c.know.result _ _ (λ a h s m o.
    let one = c.in_ok-push_segments-in-Bits.ensures s m o in
    let r = h s (means_grown _ _ _ _ one.grown m) in
    (adds_then c.args.self.now c.push_segments.new.self c.know.new.self _ (adds_same _ _ _ _ (ap (λ zs. each (segment_in side.Match s) [] zs) c.items-in-Bits.ensures ∙ sym (in_pattern_bits s c.args.pattern.now c.in-Bits.at c.in-Bits.segments c.in-Bits.is)) one) r.0, r.1)) c.know.ensures

pub push_in_pattern-returns-in-Same : goal.push_in_pattern-returns-in-Same
push_in_pattern-returns-in-Same t c = IfOk-weaker c.push_patterns-in-Same.result _ _ (λ a h s m o.
    let r = h s [] (means_same _ _ _ _ (sym (with_none s)) m) o in
    (adds_same _ _ _ _ (ap (λ zs. patterns_in s zs) c.items-in-Same.ensures ∙ sym (in_same s c.args.pattern.now c.in-Same.at c.in-Same.patterns c.in-Same.is)) r.0, (means_same _ _ _ _ (ap (λ zs. with_known zs s) (ap targets_of c.items-in-Same.ensures ∙ same_targets c.args.pattern.now c.in-Same.at c.in-Same.patterns c.in-Same.is)) r.1.0, r.1.1))) c.push_patterns-in-Same.ensures

pub push_in_pattern-returns-in_default : goal.push_in_pattern-returns-in_default
push_in_pattern-returns-in_default t c = IfOk-weaker c.know-in_default.result _ _ (λ a h s m o. let r = h s m in let n = c.in_default in (adds_same _ _ _ _ (sym (plain_pattern s c.args.pattern.now n.not-Tuple n.not-List n.not-Bits n.not-Same)) r.0, r.1)) c.know-in_default.ensures

pub push_patterns-loop-pattern-init : goal.push_patterns-loop-pattern-init
push_patterns-loop-pattern-init t c = λ s front m o. (far_start (pattern_in s) front c.args.patterns.now c.args.self.now, (means_front c.args.self.now.nodes.items c.args.facts (λ fs. past_patterns fs s) front (front ++ []) (sym (append-nil front)) m, refl))

pub push_patterns-loop-pattern-preserved : goal.push_patterns-loop-pattern-preserved
push_patterns-loop-pattern-preserved t c = λ s front m o.
    let h = c.loop-pattern.invariant s front m o in
    let i = c.loop-pattern.pattern-index in
    let xs = c.args.patterns.now in
    let one = c.pattern-item.result in
    let pre = front ++ take i xs in
    let l : i < length xs = omega arith in
    let r = c.in_ok-after.ensures (past_patterns pre s) h.1.0 (sees_at _ _ _ _ h.1.1 (sees_grown _ _ h.0.adds.grown _ _ o)) in (
      far_on (pattern_in s) front xs c.args.self.now c.loop-pattern.self c.push_pattern.new.self i one l c.pattern-item.is h.0 r.0,
      (
        means_front c.push_pattern.new.self.nodes.items c.in_ok-after.after (λ fs. past_patterns fs s) (pre ++ one ∷ []) (front ++ take (i + 1) xs) (passed_more front xs i one l c.pattern-item.is)
            (means_same _ _ _ _ (past_more s pre one) r.1.0),
        r.1.1 ∙ h.1.1,
      ),
    )

pub push_patterns-returns : goal.push_patterns-returns
push_patterns-returns t c = λ s front m o. let h = c.loop-pattern.invariant s front m o in (far_end (pattern_in s) front c.args.patterns.now c.args.self.now c.loop-pattern.self c.loop-pattern.pattern-index (omega arith) h.0, (means_front c.loop-pattern.self.nodes.items c.loop-pattern.after (λ fs. past_patterns fs s) _ _ (passed_all front c.args.patterns.now c.loop-pattern.pattern-index (omega arith)) h.1.0, h.1.1))
