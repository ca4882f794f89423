use Rattle.std.proofs.Common.{arith, ◌∙◌, ap, ◌++◌}
use Rattle.std.proofs.lemmas.Result.{IfOk-weaker}
use Rattle.erl_syntax.specs.Bindings.{targets, targets_of, segment_targets}
use Rattle.module_check.specs.Nodes.{bounds_of}
use Rattle.module_check.proofs.Left.{flat_more, flat_end, once, twice, tuple_targets, list_targets, bits_targets, same_targets}
use Rattle.module_check.proofs.targets.+targets.Goals as goal

pub add_targets-returns-in-Tuple : goal.add_targets-returns-in-Tuple
add_targets-returns-in-Tuple t c = IfOk-weaker c.add_targets_of.result _ _ (λ u h. once (bounds_of c.args.found.now.items) _ _ _ h (ap targets_of c.items.ensures ∙ tuple_targets c.args.pattern.now c.in-Tuple.at c.in-Tuple.items c.in-Tuple.is)) c.add_targets_of.ensures

pub add_targets-returns-in_ok-add_targets_of-in-List : goal.add_targets-returns-in_ok-add_targets_of-in-List
add_targets-returns-in_ok-add_targets_of-in-List t c = IfOk-weaker c.add_targets_of-in-List-2.result _ _ (λ u h. twice (bounds_of c.args.found.now.items) _ _ _ _ _ c.in_ok-add_targets_of-in-List.ensures h (ap (λ ps. targets_of ps ++ targets_of c.items-in-List-2.result.now) c.items-in-List.ensures ∙ ap (λ ps. targets_of c.in-List.items ++ targets_of ps) c.items-in-List-2.ensures ∙ list_targets c.args.pattern.now c.in-List.at c.in-List.items c.in-List.tail c.in-List.is)) c.add_targets_of-in-List-2.ensures

pub add_targets-returns-in-Bits : goal.add_targets-returns-in-Bits
add_targets-returns-in-Bits t c = IfOk-weaker c.add_segment_targets.result _ _ (λ u h. once (bounds_of c.args.found.now.items) _ _ _ h (ap segment_targets c.items-in-Bits.ensures ∙ bits_targets c.args.pattern.now c.in-Bits.at c.in-Bits.segments c.in-Bits.is)) c.add_segment_targets.ensures

pub add_targets-returns-in-Same : goal.add_targets-returns-in-Same
add_targets-returns-in-Same t c = IfOk-weaker c.add_targets_of-in-Same.result _ _ (λ u h. once (bounds_of c.args.found.now.items) _ _ _ h (ap targets_of c.items-in-Same.ensures ∙ same_targets c.args.pattern.now c.in-Same.at c.in-Same.patterns c.in-Same.is)) c.add_targets_of-in-Same.ensures

pub add_targets_of-loop-pattern-preserved : goal.add_targets_of-loop-pattern-preserved
add_targets_of-loop-pattern-preserved t c = flat_more targets c.args.patterns.now c.loop-pattern.pattern-index c.pattern-item.result (bounds_of c.args.found.now.items) (bounds_of c.loop-pattern.found.items) (bounds_of c.add_targets.new.found.items) (omega arith) c.pattern-item.is c.loop-pattern.invariant c.in_ok-add_targets.ensures

pub add_targets_of-returns : goal.add_targets_of-returns
add_targets_of-returns t c = flat_end targets c.args.patterns.now c.loop-pattern.pattern-index (bounds_of c.args.found.now.items) (bounds_of c.loop-pattern.found.items) (omega arith) c.loop-pattern.invariant
