use Rattle.std.proofs.Common.{arith, sym, refl, ◌∙◌, ◌<◌, ◌≤◌, ◌+◌, [], ◌∷◌, ◌++◌, ap, take, drop, reverse, length}
use Rattle.std.proofs.lemmas.List.{append-nil, take_all}
use Rattle.std.proofs.lemmas.Result.{IfOk-weaker}
use Rattle.std.proofs.lemmas.Grind.{flat_map-append}
use Rattle.erl_syntax.specs.Bindings.{targets, targets_of, vars_of}
use Rattle.erl_syntax.specs.Scopes.{AnExpr, ABody, ASegment, with_known, behind, to_match, past_items, is_empty}
use Rattle.erl_syntax.specs.declared.typing.SideUse.TheVariants as side
use Rattle.erl_syntax.specs.declared.clause.Alt.{out-Alt}
use Rattle.module_check.specs.Spots.{spot, each, expr_in, matched_in, items_in, built_in_turn, alt_in, branch_in, comprehension_in}
use Rattle.module_check.specs.Tasks.{size_in, left_behind, built_exprs}
use Rattle.module_check.specs.Unsafe.{unsafe_of, segment_unsafe, alt_unsafe, alts_unsafe, items_unsafe, branch_unsafe, branches_unsafe}
use Rattle.module_check.proofs.Left.{flat_more, built_unsafe, tuple_unsafe, list_unsafe, call_unsafe, unary_unsafe, binary_unsafe, bits_unsafe, case_unsafe, receive_unsafe, if_unsafe}
use Rattle.module_check.proofs.Standing.{in_tuple, in_list, in_bits, in_list_for, in_bits_for, in_call, in_case, in_receive, in_if, in_unary, in_binary, plain_expr}
use Rattle.module_check.proofs.Tasked.{adds_twice, adds_then, adds_same, adds_inside, means_grown, means_same, means_front, means_match, means_item, unmatched, far_start, far_on, far_end, passed_more, passed_all, behind_more, items_more}
use Rattle.module_check.proofs.Passing.{behind_none, behind_joined, built_more, each_joined, size_at, sizes_of_some, sizes_of_none}
use Rattle.module_check.proofs.Alternatives.{means_left, means_start, means_flat, means_chosen}
use Rattle.module_check.proofs.tasks.Walk.+expr.Goals as goal

pub push_alt-returns : goal.push_alt-returns
push_alt-returns t c = IfOk-weaker c.push_body.result _ _ (λ u h s m.
    let a = out-Alt c.args.alt.now in
    let t = with_known (targets a.pattern) s in
    let one = c.in_ok-known.ensures (to_match s) (means_match _ _ s m) m.known in
    let k = unmatched _ _ s (targets a.pattern) one.1.0 in
    let two = c.in_ok-push_guard.ensures t k in
    let three = h t (means_grown _ _ _ _ two.grown k) in
    let e = c.items.ensures in (
      adds_twice c.args.self.now c.push_pattern.new.self c.push_body.new.self _ _ one.0 (adds_twice c.push_pattern.new.self c.push_guard.new.self c.push_body.new.self _ _ two (adds_same _ _ _ _ (ap (λ zs. spot t (ABody zs) ∷ []) e) three.0)),
      means_front _ _ (λ zs. past_items zs t) _ _ e three.1,
    )) c.push_body.ensures

pub push_alts-loop-index-init : goal.push_alts-loop-index-init
push_alts-loop-index-init t c = λ s m. (far_start (alt_in s) [] c.args.alts.now c.args.self.now, means_start _ _ s m)

pub push_alts-loop-index-preserved : goal.push_alts-loop-index-preserved
push_alts-loop-index-preserved t c = λ s m.
    let h = c.loop-index.invariant s m in
    let i = c.loop-index.index in
    let xs = c.args.alts.now in
    let one = c.index-alts-index.result in
    let l : i < length xs = omega arith in
    let r = c.in_ok-after.ensures s (means_grown _ _ _ _ h.0.adds.grown m) in
    let moved = c.in_ok-joined.ensures in (
      far_on (alt_in s) [] xs c.args.self.now c.loop-index.self c.join_alt.new.self i one l c.index-alts-index.is h.0 (adds_then c.loop-index.self c.push_alt.new.self c.join_alt.new.self _ r.0 moved.0),
      means_front _ _ (λ zs. left_behind zs s) (alts_unsafe (take i xs) ++ alt_unsafe one) (alts_unsafe (take (i + 1) xs)) (flat_more alt_unsafe xs i one [] (alts_unsafe (take i xs)) (alts_unsafe (take i xs) ++ alt_unsafe one) l c.index-alts-index.is refl refl) (moved.1 s (means_grown _ _ _ _ r.0.grown h.1) r.1),
    )

pub push_alts-returns : goal.push_alts-returns
push_alts-returns t c = λ s m.
    let h = c.loop-index.invariant s m in
    let i = c.loop-index.index in
    let xs = c.args.alts.now in
    let l : length xs ≤ i = omega arith in
    (far_end (alt_in s) [] xs c.args.self.now c.loop-index.self i l h.0, means_front _ _ (λ zs. left_behind (alts_unsafe zs) s) (take i xs) xs (take_all i xs l) h.1)

pub push_branch-returns : goal.push_branch-returns
push_branch-returns t c = IfOk-weaker c.push_body.result _ _ (λ u h s m.
    let one = c.in_ok-push_guard.ensures s m in
    let two = h s (means_grown _ _ _ _ one.grown m) in
    let e = c.items.ensures in (
      adds_twice c.args.self.now c.push_guard.new.self c.push_body.new.self _ _ one (adds_same _ _ _ _ (ap (λ zs. spot s (ABody zs) ∷ []) e) two.0),
      means_front _ _ (λ zs. past_items zs s) _ _ e two.1,
    )) c.push_body.ensures

pub push_branches-loop-index-init : goal.push_branches-loop-index-init
push_branches-loop-index-init t c = λ s m. (far_start (branch_in s) [] c.args.branches.now c.args.self.now, means_start _ _ s m)

pub push_branches-loop-index-preserved : goal.push_branches-loop-index-preserved
push_branches-loop-index-preserved t c = λ s m.
    let h = c.loop-index.invariant s m in
    let i = c.loop-index.index in
    let xs = c.args.branches.now in
    let one = c.index-branches-index.result in
    let l : i < length xs = omega arith in
    let r = c.in_ok-after.ensures s (means_grown _ _ _ _ h.0.adds.grown m) in
    let moved = c.in_ok-joined.ensures in (
      far_on (branch_in s) [] xs c.args.self.now c.loop-index.self c.join_branch.new.self i one l c.index-branches-index.is h.0 (adds_then c.loop-index.self c.push_branch.new.self c.join_branch.new.self _ r.0 moved.0),
      means_front _ _ (λ zs. left_behind zs s) (branches_unsafe (take i xs) ++ branch_unsafe one) (branches_unsafe (take (i + 1) xs)) (flat_more branch_unsafe xs i one [] (branches_unsafe (take i xs)) (branches_unsafe (take i xs) ++ branch_unsafe one) l c.index-branches-index.is refl refl) (means_front _ _ (λ zs. left_behind (branches_unsafe (take i xs) ++ items_unsafe zs) s) _ _ c.items-body.ensures (moved.1 s (means_grown _ _ _ _ r.0.grown h.1) (means_front _ _ (λ zs. past_items zs s) _ _ (sym c.items-body.ensures) r.1))),
    )

pub push_branches-returns : goal.push_branches-returns
push_branches-returns t c = λ s m.
    let h = c.loop-index.invariant s m in
    let i = c.loop-index.index in
    let xs = c.args.branches.now in
    let l : length xs ≤ i = omega arith in
    (far_end (branch_in s) [] xs c.args.self.now c.loop-index.self i l h.0, means_front _ _ (λ zs. left_behind (branches_unsafe zs) s) (take i xs) xs (take_all i xs l) h.1)

pub push_body-returns : goal.push_body-returns
push_body-returns t c = IfOk-weaker c.push_items.result _ _ (λ a h s m.
    let d = spot s (ABody c.args.items.now) in
    let one = c.in_ok-push_alone.ensures d (record { part = refl; means = m; sizes = tt }) in
    let r = h s (means_grown _ _ _ _ one.grown m) in
    (adds_inside c.args.self.now c.push_alone.new.self c.push_items.new.self d one r.0, r.1)) c.push_items.ensures

pub push_items-loop-item-init : goal.push_items-loop-item-init
push_items-loop-item-init t c = λ s m. (far_start (items_in s) [] c.args.items.now c.args.self.now, m)

pub push_items-loop-item-preserved : goal.push_items-loop-item-preserved
push_items-loop-item-preserved t c = λ s m.
    let h = c.loop-item.invariant s m in
    let i = c.loop-item.item-index in
    let xs = c.args.items.now in
    let one = c.item-item.result in
    let l : i < length xs = omega arith in
    let t = past_items (take i xs) s in
    let pushed = c.in_ok-behind.ensures t h.1 in
    let matched = c.in_ok-matched.ensures t (means_grown _ _ _ _ pushed.0.grown h.1) in
    let e = c.items.ensures in (
      far_on (items_in s) [] xs c.args.self.now c.loop-item.self c.push_matched.new.self i one l c.item-item.is h.0 (adds_twice c.loop-item.self c.push_expr.new.self c.push_matched.new.self _ _ pushed.0 (adds_same _ _ _ _ (ap (λ zs. each (matched_in t) [] (reverse zs)) e) matched.0)),
      means_front _ _ (λ fs. past_items fs s) (take i xs ++ one ∷ []) (take (i + 1) xs) (passed_more [] xs i one l c.item-item.is)
          (means_same _ _ _ _ (items_more (take i xs) one s) (means_item _ c.in_ok-matched.matched c.in_ok-behind.behind t one (means_same _ _ _ _ (ap (λ zs. with_known (targets_of (reverse zs)) t) e) matched.1) (means_grown _ _ _ _ matched.0.grown pushed.1))),
    )

pub push_items-returns : goal.push_items-returns
push_items-returns t c = λ s m.
    let h = c.loop-item.invariant s m in
    let i = c.loop-item.item-index in
    let xs = c.args.items.now in
    let l : length xs ≤ i = omega arith in
    (far_end (items_in s) [] xs c.args.self.now c.loop-item.self i l h.0, means_front _ _ (λ zs. past_items zs s) (take i xs) xs (take_all i xs l) h.1)

pub push_built-loop-index-init : goal.push_built-loop-index-init
push_built-loop-index-init t c = λ s m. (far_start (built_in_turn s) [] c.args.segments.now c.args.self.now, means_same _ _ _ _ (behind_none s) m)

pub push_built-loop-index-preserved : goal.push_built-loop-index-preserved
push_built-loop-index-preserved t c = λ s m.
    let h = c.loop-index.invariant s m in
    let i = c.loop-index.index in
    let xs = c.args.segments.now in
    let one = c.index-segments-index.result in
    let l : i < length xs = omega arith in
    let t = behind (built_exprs (take i xs)) s in
    let d = spot t (ASegment side.Build (is_empty (drop (i + 1) xs)) one) in
    let pushed = c.in_ok-push_alone.ensures d (record { part = ap (λ z. ASegment side.Build z one) c.is_last-last.ensures; means = h.1; sizes = tt }) in
    let r = c.in_ok-after.ensures t (means_grown _ _ _ _ pushed.grown h.1) in (
      far_on (built_in_turn s) [] xs c.args.self.now c.loop-index.self c.push_value.new.self i one l c.index-segments-index.is h.0 (adds_inside c.loop-index.self c.push_alone.new.self c.push_value.new.self d pushed r.0),
      means_front _ _ (λ fs. behind (built_exprs fs) s) (take i xs ++ one ∷ []) (take (i + 1) xs) (passed_more [] xs i one l c.index-segments-index.is) (means_same _ _ _ _ (built_more s (take i xs) one) r.1),
    )

pub push_built-returns : goal.push_built-returns
push_built-returns t c = λ s m.
    let h = c.loop-index.invariant s m in
    let i = c.loop-index.index in
    let xs = c.args.segments.now in
    let l : length xs ≤ i = omega arith in
    (far_end (built_in_turn s) [] xs c.args.self.now c.loop-index.self i l h.0, means_front _ _ (λ zs. behind (built_exprs zs) s) (take i xs) xs (take_all i xs l) h.1)

pub push_value-returns-in-Some : goal.push_value-returns-in-Some
push_value-returns-in-Some t c = IfOk-weaker c.push_expr-in-Some.result _ _ (λ a h s m.
    let sg = c.args.segment.now in
    let one = c.in_ok-behind.ensures s m in
    let t = behind (sg.value ∷ []) s in
    let two = h t one.1 in (
      adds_twice c.args.self.now c.push_expr.new.self c.push_expr-in-Some.new.self _ _ one.0 (adds_same _ _ _ _ (ap (λ o. size_in t o) (sym c.in-Some.is) ∙ size_at t sg.size) two.0),
      means_same _ _ _ _ (behind_joined s (sg.value ∷ []) (c.in-Some.size ∷ []) ∙ ap (λ zs. behind (sg.value ∷ zs) s) (sizes_of_some sg c.in-Some.size c.in-Some.is)) two.1,
    )) c.push_expr-in-Some.ensures

pub push_value-returns-in-None : goal.push_value-returns-in-None
push_value-returns-in-None t c = λ s m.
    let sg = c.args.segment.now in
    let one = c.in_ok-behind.ensures s m in
    let t = behind (sg.value ∷ []) s in (
      adds_same _ _ _ _ (ap (λ zs. spot s (AnExpr sg.value) ∷ zs) (ap (λ o. size_in t o) (sym c.in-None.is) ∙ size_at t sg.size)) one.0,
      means_same _ _ _ _ (ap (λ zs. behind (sg.value ∷ zs) s) (sizes_of_none sg c.in-None.is)) one.1,
    )

pub push_exprs-loop-expr-init : goal.push_exprs-loop-expr-init
push_exprs-loop-expr-init t c = λ s front m. (far_start (expr_in s) front c.args.exprs.now c.args.self.now, means_front c.args.self.now.nodes.items c.args.facts (λ fs. behind fs s) front (front ++ []) (sym (append-nil front)) m)

pub push_exprs-loop-expr-preserved : goal.push_exprs-loop-expr-preserved
push_exprs-loop-expr-preserved t c = λ s front m.
    let h = c.loop-expr.invariant s front m in
    let i = c.loop-expr.expr-index in
    let xs = c.args.exprs.now in
    let one = c.expr-item.result in
    let pre = front ++ take i xs in
    let l : i < length xs = omega arith in
    let r = c.in_ok-after.ensures (behind pre s) h.1 in (
      far_on (expr_in s) front xs c.args.self.now c.loop-expr.self c.push_expr.new.self i one l c.expr-item.is h.0 r.0,
      means_front c.push_expr.new.self.nodes.items c.in_ok-after.after (λ fs. behind fs s) (pre ++ one ∷ []) (front ++ take (i + 1) xs) (passed_more front xs i one l c.expr-item.is) (means_same _ _ _ _ (behind_more s pre one) r.1),
    )

pub push_exprs-returns : goal.push_exprs-returns
push_exprs-returns t c = λ s front m. let h = c.loop-expr.invariant s front m in (far_end (expr_in s) front c.args.exprs.now c.args.self.now c.loop-expr.self c.loop-expr.expr-index (omega arith) h.0, means_front c.loop-expr.self.nodes.items c.loop-expr.after (λ fs. behind fs s) _ _ (passed_all front c.args.exprs.now c.loop-expr.expr-index (omega arith)) h.1)

pub push_expr-returns : goal.push_expr-returns
push_expr-returns t c = IfOk-weaker c.push_in_expr.result _ _ (λ a h s m.
    let d = spot s (AnExpr c.args.expr.now) in
    let one = c.in_ok-push_alone.ensures d (record { part = refl; means = m; sizes = tt }) in
    let r = h s (means_grown _ _ _ _ one.grown m) in
    (adds_inside c.args.self.now c.push_alone.new.self c.push_in_expr.new.self d one r.0, r.1)) c.push_in_expr.ensures

pub push_in_expr-returns-in-Tuple : goal.push_in_expr-returns-in-Tuple
push_in_expr-returns-in-Tuple t c = IfOk-weaker c.push_exprs.result _ _ (λ a h s m.
    let e = c.args.expr.now in
    let r = h s [] (means_same _ _ _ _ (behind_none s) m) in (
      adds_same _ _ _ _ (ap (λ zs. each (expr_in s) [] zs) c.items.ensures ∙ sym (in_tuple s e c.in-Tuple.at c.in-Tuple.items c.in-Tuple.is)) r.0,
      means_flat _ _ s c.items.result.now e (ap unsafe_of c.items.ensures ∙ tuple_unsafe e c.in-Tuple.at c.in-Tuple.items c.in-Tuple.is) r.1,
    )) c.push_exprs.ensures

pub push_in_expr-returns-in_ok-behind-in-List : goal.push_in_expr-returns-in_ok-behind-in-List
push_in_expr-returns-in_ok-behind-in-List t c = IfOk-weaker c.push_exprs-in-List-2.result _ _ (λ a h s m.
    let e = c.args.expr.now in
    let a = c.items-in-List.ensures in
    let b = c.items-in-List-2.ensures in
    let ys = c.items-in-List.result.now in
    let zs = c.items-in-List-2.result.now in
    let one = c.in_ok-behind-in-List.ensures s [] (means_same _ _ _ _ (behind_none s) m) in
    let r = h s ys one.1 in (
      adds_same _ _ _ _ (each_joined (expr_in s) [] ys zs (λ f y b z. refl) ∙ ap (λ qs. each (expr_in s) [] (qs ++ zs)) a ∙ ap (λ qs. each (expr_in s) [] (c.in-List.items ++ qs)) b ∙ sym (in_list s e c.in-List.at c.in-List.items c.in-List.tail c.in-List.is))
          (adds_twice c.args.self.now c.push_exprs-in-List.new.self c.push_exprs-in-List-2.new.self _ _ one.0 r.0),
      means_flat _ _ s (ys ++ zs) e (flat_map-append (λ y. (vars_of y).left_unsafe) ys zs ∙ ap (λ qs. unsafe_of qs ++ unsafe_of zs) a ∙ ap (λ qs. unsafe_of c.in-List.items ++ unsafe_of qs) b ∙ list_unsafe e c.in-List.at c.in-List.items c.in-List.tail c.in-List.is) r.1,
    )) c.push_exprs-in-List-2.ensures

pub push_in_expr-returns-in-Bits : goal.push_in_expr-returns-in-Bits
push_in_expr-returns-in-Bits t c = IfOk-weaker c.push_built.result _ _ (λ a h s m.
    let e = c.args.expr.now in
    let sgs = c.items-in-Bits.result.now in
    let r = h s m in (
      adds_same _ _ _ _ (ap (λ zs. each (built_in_turn s) [] zs) c.items-in-Bits.ensures ∙ sym (in_bits s e c.in-Bits.at c.in-Bits.segments c.in-Bits.is)) r.0,
      means_flat _ _ s (built_exprs sgs) e (built_unsafe sgs ∙ ap segment_unsafe c.items-in-Bits.ensures ∙ bits_unsafe e c.in-Bits.at c.in-Bits.segments c.in-Bits.is) r.1,
    )) c.push_built.ensures

pub push_in_expr-returns-in_ok-push_comprehension-in-ListFor : goal.push_in_expr-returns-in_ok-push_comprehension-in-ListFor
push_in_expr-returns-in_ok-push_comprehension-in-ListFor t c = IfOk-weaker c.behind.result _ _ (λ a h s m.
    let r = c.in_ok-push_comprehension-in-ListFor.ensures s m in (
      adds_then c.args.self.now c.push_comprehension.new.self c.behind.new.self _
          (adds_same _ _ _ _ (ap (λ zs. comprehension_in s zs c.items-in-ListFor-2.result.now) c.items-in-ListFor.ensures ∙ ap (λ zs. comprehension_in s c.in-ListFor.row zs) c.items-in-ListFor-2.ensures ∙ sym (in_list_for s c.args.expr.now c.in-ListFor.at c.in-ListFor.row c.in-ListFor.quals c.in-ListFor.is)) r)
          h.0,
      h.1 s (means_grown _ _ _ _ r.grown m),
    )) c.behind.ensures

pub push_in_expr-returns-in_ok-push_comprehension-in-BitsFor : goal.push_in_expr-returns-in_ok-push_comprehension-in-BitsFor
push_in_expr-returns-in_ok-push_comprehension-in-BitsFor t c = IfOk-weaker c.behind-in-BitsFor.result _ _ (λ a h s m.
    let r = c.in_ok-push_comprehension-in-BitsFor.ensures s m in (
      adds_then c.args.self.now c.push_comprehension-in-BitsFor.new.self c.behind-in-BitsFor.new.self _
          (adds_same _ _ _ _ (ap (λ zs. comprehension_in s zs c.items-in-BitsFor-2.result.now) c.items-in-BitsFor.ensures ∙ ap (λ zs. comprehension_in s c.in-BitsFor.row zs) c.items-in-BitsFor-2.ensures ∙ sym (in_bits_for s c.args.expr.now c.in-BitsFor.at c.in-BitsFor.row c.in-BitsFor.quals c.in-BitsFor.is)) r)
          h.0,
      h.1 s (means_grown _ _ _ _ r.grown m),
    )) c.behind-in-BitsFor.ensures

pub push_in_expr-returns-in-Call : goal.push_in_expr-returns-in-Call
push_in_expr-returns-in-Call t c = IfOk-weaker c.push_exprs-in-Call.result _ _ (λ a h s m.
    let e = c.args.expr.now in
    let r = h s [] (means_same _ _ _ _ (behind_none s) m) in (
      adds_same _ _ _ _ (ap (λ zs. each (expr_in s) [] zs) c.items-in-Call.ensures ∙ sym (in_call s e c.in-Call.at c.in-Call.module c.in-Call.name c.in-Call.args c.in-Call.is)) r.0,
      means_flat _ _ s c.items-in-Call.result.now e (ap unsafe_of c.items-in-Call.ensures ∙ call_unsafe e c.in-Call.at c.in-Call.module c.in-Call.name c.in-Call.args c.in-Call.is) r.1,
    )) c.push_exprs-in-Call.ensures

pub push_in_expr-returns-in_ok-behind-in-Case : goal.push_in_expr-returns-in_ok-behind-in-Case
push_in_expr-returns-in_ok-behind-in-Case t c = IfOk-weaker c.push_alts.result _ _ (λ a h s m.
    let e = c.args.expr.now in
    let a = c.items-in-Case.ensures in
    let b = c.items-in-Case-2.ensures in
    let ys = c.items-in-Case.result.now in
    let alts = c.items-in-Case-2.result.now in
    let one = c.in_ok-behind-in-Case.ensures s [] (means_same _ _ _ _ (behind_none s) m) in
    let r = h (behind ys s) one.1 in (
      adds_same _ _ _ _ (ap (λ zs. each (expr_in s) [] zs ++ each (alt_in (behind zs s)) [] alts) a ∙ ap (λ zs. each (expr_in s) [] c.in-Case.value ++ each (alt_in (behind c.in-Case.value s)) [] zs) b ∙ sym (in_case s e c.in-Case.at c.in-Case.value c.in-Case.alts c.in-Case.is))
          (adds_twice c.args.self.now c.push_exprs-in-Case.new.self c.push_alts.new.self _ _ one.0 r.0),
      means_chosen _ _ s ys (alts_unsafe alts) e (ap (λ qs. unsafe_of qs ++ alts_unsafe alts) a ∙ ap (λ qs. unsafe_of c.in-Case.value ++ alts_unsafe qs) b ∙ case_unsafe e c.in-Case.at c.in-Case.value c.in-Case.alts c.in-Case.is) r.1,
    )) c.push_alts.ensures

pub push_in_expr-returns-in-Receive : goal.push_in_expr-returns-in-Receive
push_in_expr-returns-in-Receive t c = IfOk-weaker c.push_alts-in-Receive.result _ _ (λ a h s m.
    let e = c.args.expr.now in
    let alts = c.items-in-Receive.result.now in
    let r = h (behind [] s) (means_same _ _ _ _ (behind_none s) m) in (
      adds_same _ _ _ _ (ap (λ zs. each (alt_in (behind [] s)) [] zs) c.items-in-Receive.ensures ∙ sym (in_receive s e c.in-Receive.at c.in-Receive.alts c.in-Receive.is)) r.0,
      means_chosen _ _ s [] (alts_unsafe alts) e (ap alts_unsafe c.items-in-Receive.ensures ∙ receive_unsafe e c.in-Receive.at c.in-Receive.alts c.in-Receive.is) r.1,
    )) c.push_alts-in-Receive.ensures

pub push_in_expr-returns-in-If : goal.push_in_expr-returns-in-If
push_in_expr-returns-in-If t c = IfOk-weaker c.push_branches.result _ _ (λ a h s m.
    let e = c.args.expr.now in
    let r = h s m in (
      adds_same _ _ _ _ (ap (λ zs. each (branch_in s) [] zs) c.items-in-If.ensures ∙ sym (in_if s e c.in-If.at c.in-If.branches c.in-If.is)) r.0,
      means_left _ _ s (branches_unsafe c.items-in-If.result.now) e (ap branches_unsafe c.items-in-If.ensures ∙ if_unsafe e c.in-If.at c.in-If.branches c.in-If.is) r.1,
    )) c.push_branches.ensures

pub push_in_expr-returns-in-Unary : goal.push_in_expr-returns-in-Unary
push_in_expr-returns-in-Unary t c = IfOk-weaker c.push_exprs-in-Unary.result _ _ (λ a h s m.
    let e = c.args.expr.now in
    let r = h s [] (means_same _ _ _ _ (behind_none s) m) in (
      adds_same _ _ _ _ (ap (λ zs. each (expr_in s) [] zs) c.items-in-Unary.ensures ∙ sym (in_unary s e c.in-Unary.at c.in-Unary.op c.in-Unary.part c.in-Unary.is)) r.0,
      means_flat _ _ s c.items-in-Unary.result.now e (ap unsafe_of c.items-in-Unary.ensures ∙ unary_unsafe e c.in-Unary.at c.in-Unary.op c.in-Unary.part c.in-Unary.is) r.1,
    )) c.push_exprs-in-Unary.ensures

pub push_in_expr-returns-in-Binary : goal.push_in_expr-returns-in-Binary
push_in_expr-returns-in-Binary t c = IfOk-weaker c.push_exprs-in-Binary.result _ _ (λ a h s m.
    let e = c.args.expr.now in
    let r = h s [] (means_same _ _ _ _ (behind_none s) m) in (
      adds_same _ _ _ _ (ap (λ zs. each (expr_in s) [] zs) c.items-in-Binary.ensures ∙ sym (in_binary s e c.in-Binary.at c.in-Binary.op c.in-Binary.parts c.in-Binary.is)) r.0,
      means_flat _ _ s c.items-in-Binary.result.now e (ap unsafe_of c.items-in-Binary.ensures ∙ binary_unsafe e c.in-Binary.at c.in-Binary.op c.in-Binary.parts c.in-Binary.is) r.1,
    )) c.push_exprs-in-Binary.ensures

pub push_in_expr-returns-in_default : goal.push_in_expr-returns-in_default
push_in_expr-returns-in_default t c = IfOk-weaker c.behind-in_default.result _ _ (λ a h s m. let n = c.in_default in (adds_same _ _ _ _ (sym (plain_expr s c.args.expr.now n.not-Tuple n.not-List n.not-Bits n.not-ListFor n.not-BitsFor n.not-Call n.not-Case n.not-Receive n.not-If n.not-Unary n.not-Binary)) h.0, h.1 s m)) c.behind-in_default.ensures
