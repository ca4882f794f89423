use Rattle.std.proofs.Common.{arith, ◌∙◌, ap, ◌++◌}
use Rattle.std.proofs.lemmas.Result.{IfOk-weaker}
use Rattle.erl_syntax.specs.Bindings.{names, targets, targets_of, vars_of}
use Rattle.module_check.specs.Nodes.{bounds_of}
use Rattle.module_check.specs.Unsafe.{unsafe_of, part_unsafe, segment_unsafe, item_unsafe, items_unsafe, alt_unsafe, alts_unsafe, branch_unsafe, branches_unsafe}
use Rattle.module_check.proofs.Left.{flat_more, flat_end, once, twice, names_added, tuple_unsafe, list_unsafe, call_unsafe, unary_unsafe, binary_unsafe, bits_unsafe, case_unsafe, receive_unsafe, if_unsafe}
use Rattle.erl_syntax.specs.declared.clause.Alt.{out-Alt}
use Rattle.module_check.proofs.targets.+left.Goals as goal

pub add_unsafe-returns-in-Tuple : goal.add_unsafe-returns-in-Tuple
add_unsafe-returns-in-Tuple t c = IfOk-weaker c.add_unsafe_of.result _ _ (λ u h. once (names (bounds_of c.args.found.now.items)) _ _ _ h (ap unsafe_of c.items.ensures ∙ tuple_unsafe c.args.expr.now c.in-Tuple.at c.in-Tuple.items c.in-Tuple.is)) c.add_unsafe_of.ensures

pub add_unsafe-returns-in_ok-add_unsafe_of-in-List : goal.add_unsafe-returns-in_ok-add_unsafe_of-in-List
add_unsafe-returns-in_ok-add_unsafe_of-in-List t c = IfOk-weaker c.add_unsafe_of-in-List-2.result _ _ (λ u h. twice (names (bounds_of c.args.found.now.items)) _ _ _ _ _ c.in_ok-add_unsafe_of-in-List.ensures h (ap (λ ps. unsafe_of ps ++ unsafe_of c.items-in-List-2.result.now) c.items-in-List.ensures ∙ ap (λ ps. unsafe_of c.in-List.items ++ unsafe_of ps) c.items-in-List-2.ensures ∙ list_unsafe c.args.expr.now c.in-List.at c.in-List.items c.in-List.tail c.in-List.is)) c.add_unsafe_of-in-List-2.ensures

pub add_unsafe-returns-in-Bits : goal.add_unsafe-returns-in-Bits
add_unsafe-returns-in-Bits t c = IfOk-weaker c.add_segments.result _ _ (λ u h. once (names (bounds_of c.args.found.now.items)) _ _ _ h (ap segment_unsafe c.items-in-Bits.ensures ∙ bits_unsafe c.args.expr.now c.in-Bits.at c.in-Bits.segments c.in-Bits.is)) c.add_segments.ensures

pub add_unsafe-returns-in-Call : goal.add_unsafe-returns-in-Call
add_unsafe-returns-in-Call t c = IfOk-weaker c.add_unsafe_of-in-Call.result _ _ (λ u h. once (names (bounds_of c.args.found.now.items)) _ _ _ h (ap unsafe_of c.items-in-Call.ensures ∙ call_unsafe c.args.expr.now c.in-Call.at c.in-Call.module c.in-Call.name c.in-Call.args c.in-Call.is)) c.add_unsafe_of-in-Call.ensures

pub add_unsafe-returns-in_ok-add_unsafe_of-in-Case : goal.add_unsafe-returns-in_ok-add_unsafe_of-in-Case
add_unsafe-returns-in_ok-add_unsafe_of-in-Case t c = IfOk-weaker c.add_alts.result _ _ (λ u h. twice (names (bounds_of c.args.found.now.items)) _ _ _ _ _ c.in_ok-add_unsafe_of-in-Case.ensures h (ap (λ ps. unsafe_of ps ++ alts_unsafe c.items-in-Case-2.result.now) c.items-in-Case.ensures ∙ ap (λ ps. unsafe_of c.in-Case.value ++ alts_unsafe ps) c.items-in-Case-2.ensures ∙ case_unsafe c.args.expr.now c.in-Case.at c.in-Case.value c.in-Case.alts c.in-Case.is)) c.add_alts.ensures

pub add_unsafe-returns-in-Receive : goal.add_unsafe-returns-in-Receive
add_unsafe-returns-in-Receive t c = IfOk-weaker c.add_alts-in-Receive.result _ _ (λ u h. once (names (bounds_of c.args.found.now.items)) _ _ _ h (ap alts_unsafe c.items-in-Receive.ensures ∙ receive_unsafe c.args.expr.now c.in-Receive.at c.in-Receive.alts c.in-Receive.is)) c.add_alts-in-Receive.ensures

pub add_unsafe-returns-in-If : goal.add_unsafe-returns-in-If
add_unsafe-returns-in-If t c = IfOk-weaker c.add_branches.result _ _ (λ u h. once (names (bounds_of c.args.found.now.items)) _ _ _ h (ap branches_unsafe c.items-in-If.ensures ∙ if_unsafe c.args.expr.now c.in-If.at c.in-If.branches c.in-If.is)) c.add_branches.ensures

pub add_unsafe-returns-in-Unary : goal.add_unsafe-returns-in-Unary
add_unsafe-returns-in-Unary t c = IfOk-weaker c.add_unsafe_of-in-Unary.result _ _ (λ u h. once (names (bounds_of c.args.found.now.items)) _ _ _ h (ap unsafe_of c.items-in-Unary.ensures ∙ unary_unsafe c.args.expr.now c.in-Unary.at c.in-Unary.op c.in-Unary.part c.in-Unary.is)) c.add_unsafe_of-in-Unary.ensures

pub add_unsafe-returns-in-Binary : goal.add_unsafe-returns-in-Binary
add_unsafe-returns-in-Binary t c = IfOk-weaker c.add_unsafe_of-in-Binary.result _ _ (λ u h. once (names (bounds_of c.args.found.now.items)) _ _ _ h (ap unsafe_of c.items-in-Binary.ensures ∙ binary_unsafe c.args.expr.now c.in-Binary.at c.in-Binary.op c.in-Binary.parts c.in-Binary.is)) c.add_unsafe_of-in-Binary.ensures

pub add_unsafe_of-loop-expr-preserved : goal.add_unsafe_of-loop-expr-preserved
add_unsafe_of-loop-expr-preserved t c = flat_more (λ e. (vars_of e).left_unsafe) c.args.exprs.now c.loop-expr.expr-index c.expr-item.result (names (bounds_of c.args.found.now.items)) (names (bounds_of c.loop-expr.found.items)) (names (bounds_of c.add_unsafe.new.found.items)) (omega arith) c.expr-item.is c.loop-expr.invariant c.in_ok-add_unsafe.ensures

pub add_unsafe_of-returns : goal.add_unsafe_of-returns
add_unsafe_of-returns t c = flat_end (λ e. (vars_of e).left_unsafe) c.args.exprs.now c.loop-expr.expr-index (names (bounds_of c.args.found.now.items)) (names (bounds_of c.loop-expr.found.items)) (omega arith) c.loop-expr.invariant

pub add_segments-loop-segment-preserved : goal.add_segments-loop-segment-preserved
add_segments-loop-segment-preserved t c = flat_more part_unsafe c.args.segments.now c.loop-segment.segment-index c.segment-item.result (names (bounds_of c.args.found.now.items)) (names (bounds_of c.loop-segment.found.items)) (names (bounds_of c.add_segment.new.found.items)) (omega arith) c.segment-item.is c.loop-segment.invariant c.in_ok-add_segment.ensures

pub add_segments-returns : goal.add_segments-returns
add_segments-returns t c = flat_end part_unsafe c.args.segments.now c.loop-segment.segment-index (names (bounds_of c.args.found.now.items)) (names (bounds_of c.loop-segment.found.items)) (omega arith) c.loop-segment.invariant

pub add_branches-loop-branch-preserved : goal.add_branches-loop-branch-preserved
add_branches-loop-branch-preserved t c = flat_more branch_unsafe c.args.branches.now c.loop-branch.branch-index c.branch-item.result (names (bounds_of c.args.found.now.items)) (names (bounds_of c.loop-branch.found.items)) (names (bounds_of c.add_body.new.found.items)) (omega arith) c.branch-item.is c.loop-branch.invariant (once _ _ _ _ c.in_ok-add_body.ensures (ap items_unsafe c.items.ensures))

pub add_branches-returns : goal.add_branches-returns
add_branches-returns t c = flat_end branch_unsafe c.args.branches.now c.loop-branch.branch-index (names (bounds_of c.args.found.now.items)) (names (bounds_of c.loop-branch.found.items)) (omega arith) c.loop-branch.invariant

pub add_alt-returns : goal.add_alt-returns
add_alt-returns t c = IfOk-weaker c.add_body.result _ _ (λ u h. twice _ _ _ _ _ _ (names_added _ _ _ c.in_ok-add_targets.ensures) h (ap (λ zs. names (targets (out-Alt c.args.alt.now).pattern) ++ items_unsafe zs) c.items.ensures)) c.add_body.ensures

pub add_alts-loop-alt-preserved : goal.add_alts-loop-alt-preserved
add_alts-loop-alt-preserved t c = flat_more alt_unsafe c.args.alts.now c.loop-alt.alt-index c.alt-item.result (names (bounds_of c.args.found.now.items)) (names (bounds_of c.loop-alt.found.items)) (names (bounds_of c.add_alt.new.found.items)) (omega arith) c.alt-item.is c.loop-alt.invariant c.in_ok-add_alt.ensures

pub add_alts-returns : goal.add_alts-returns
add_alts-returns t c = flat_end alt_unsafe c.args.alts.now c.loop-alt.alt-index (names (bounds_of c.args.found.now.items)) (names (bounds_of c.loop-alt.found.items)) (omega arith) c.loop-alt.invariant

pub add_body-loop-item-preserved : goal.add_body-loop-item-preserved
add_body-loop-item-preserved t c = flat_more item_unsafe c.args.items.now c.loop-item.item-index c.item-item.result (names (bounds_of c.args.found.now.items)) (names (bounds_of c.loop-item.found.items)) (names (bounds_of c.add_unsafe.new.found.items)) (omega arith) c.item-item.is c.loop-item.invariant (twice _ _ _ _ _ _ (names_added _ _ _ c.in_ok-add_targets_of.ensures) c.in_ok-add_unsafe.ensures (ap (λ zs. names (targets_of zs) ++ (vars_of c.item-item.result.value).left_unsafe) c.items.ensures))

pub add_body-returns : goal.add_body-returns
add_body-returns t c = flat_end item_unsafe c.args.items.now c.loop-item.item-index (names (bounds_of c.args.found.now.items)) (names (bounds_of c.loop-item.found.items)) (omega arith) c.loop-item.invariant
