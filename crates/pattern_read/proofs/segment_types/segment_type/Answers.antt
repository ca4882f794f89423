use Rattle.std.proofs.Common.{rules, arith, ◌∙◌, refl}
use Rattle.std.proofs.lemmas.Result.{err_from_is_err_and}
use Rattle.pattern_read.proofs.Types.{type_none, type_begin, type_err, type_end, type_more}
use Rattle.pattern_read.proofs.segment_types.segment_type.Goals as goal

pub returns-then-not-is-clause-reads : goal.returns-then-not-is-clause-reads
returns-then-not-is-clause-reads c = type_none c.args.cursor.now c.args.at c.args.place c.args.value c.args.size c.of.result (c.is.ensures.no (search rules)) (c.of.ensures ∙ c.new-specs.ensures.items)

pub loop-specs-init : goal.loop-specs-init
loop-specs-init c = (omega arith, omega (arith, c.is.ensures.within (search rules)), type_begin c.args.cursor.now c.args.at c.args.place c.args.value c.args.size c.new-specs.result.items (c.is.ensures.yes (search rules)) c.new-specs.ensures.items, refl, refl)

pub returns-in_err-spec-clause-reads : goal.returns-in_err-spec-clause-reads
returns-in_err-spec-clause-reads c = let p = err_from_is_err_and c.from_residual.result c.from_residual.ensures.1 in rw (p.1, p.2) (type_err c.args.cursor.now c.args.at c.loop-specs.next c.args.place c.args.value c.args.size c.loop-specs.specs.items _ c.loop-specs.invariant.2 c.in_err-spec.ensures.reads)

pub returns-then-not-is-2-clause-reads : goal.returns-then-not-is-2-clause-reads
returns-then-not-is-2-clause-reads c = type_end c.args.cursor.now c.args.at c.loop-specs.next c.in_ok-spec.after c.args.place c.args.value _ c.args.size _ c.loop-specs.specs.items c.of-then-not-is-2.result c.in_ok-spec.spec c.loop-specs.invariant.2 c.in_ok-spec.ensures.reads (c.is-in-loop-specs.ensures.no (search rules)) (c.of-then-not-is-2.ensures ∙ c.in_ok-push.ensures.items) c.loop-specs.invariant.3 c.loop-specs.invariant.4

pub loop-specs-preserved : goal.loop-specs-preserved
loop-specs-preserved c = (omega (arith, c.loop-specs.invariant.0, c.in_ok-spec.ensures.further.0), omega (arith, c.is-in-loop-specs.ensures.within (search rules)), type_more c.args.cursor.now c.args.at c.loop-specs.next c.in_ok-spec.after c.args.place c.args.value c.args.size c.loop-specs.specs.items _ c.in_ok-spec.spec c.loop-specs.invariant.2 c.in_ok-spec.ensures.reads (c.is-in-loop-specs.ensures.yes (search rules)) c.in_ok-push.ensures.items, c.loop-specs.invariant.3, c.loop-specs.invariant.4)
