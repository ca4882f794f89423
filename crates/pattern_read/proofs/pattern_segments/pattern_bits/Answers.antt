use Rattle.std.proofs.Common.{rules, arith, ◌∙◌, drop}
use Rattle.std.proofs.lemmas.Result.{err_from_is_err_and}
use Rattle.pattern_read.specs.Wanted.{in_size}
use Rattle.pattern_read.proofs.Segs.{bits_first, bits_empty, bits_begin, bits_err, bits_end, bits_more, bits_other}
use Rattle.pattern_read.proofs.pattern_segments.pattern_bits.Goals as goal

pub returns-then-is-clause-reads : goal.returns-then-is-clause-reads
returns-then-is-clause-reads c = bits_empty (in_size c.args.deep c.args.brackets) c.args.cursor.now c.args.at c.of.result (c.is.ensures.yes (search rules)) (c.of.ensures ∙ c.new-segments.ensures.items)

pub returns-then-deep-trees-clause-reads : goal.returns-then-deep-trees-clause-reads
returns-then-deep-trees-clause-reads c = bits_first (in_size c.args.deep c.args.brackets) (drop c.args.at c.args.cursor.now.words) c.value_cause.result c.value_cause.ensures (c.is.ensures.no (search rules)) (omega arith)

pub loop-segments-init : goal.loop-segments-init
loop-segments-init c = (omega arith, c.requires.place, omega arith, bits_begin (in_size c.args.deep c.args.brackets) c.args.cursor.now c.args.at c.new-segments.result.items (omega arith) (c.is.ensures.no (search rules)) c.new-segments.ensures.items)

pub returns-in_err-segment-clause-reads : goal.returns-in_err-segment-clause-reads
returns-in_err-segment-clause-reads c = let p = err_from_is_err_and c.from_residual.result c.from_residual.ensures.1 in rw (p.1, p.2) (bits_err (in_size c.args.deep c.args.brackets) c.args.cursor.now c.args.at c.loop-segments.next c.loop-segments.segments.items c.loop-segments.height _ c.loop-segments.invariant.3 c.in_err-segment.ensures.reads)

pub returns-then-is-2-clause-reads : goal.returns-then-is-2-clause-reads
returns-then-is-2-clause-reads c = bits_end (in_size c.args.deep c.args.brackets) c.args.cursor.now c.args.at c.loop-segments.next c.in_ok-segment.after c.loop-segments.segments.items c.of-then-is-2.result c.loop-segments.height c.higher-height.result c.in_ok-segment.segment c.in_ok-segment.tall c.loop-segments.invariant.3 c.in_ok-segment.ensures.reads (c.is-in-loop-segments.ensures.yes (search rules)) (c.of-then-is-2.ensures ∙ c.in_ok-push.ensures.items) c.higher-height.ensures

pub returns-then-not-is-clause-reads : goal.returns-then-not-is-clause-reads
returns-then-not-is-clause-reads c = bits_other (in_size c.args.deep c.args.brackets) c.args.cursor.now c.args.at c.loop-segments.next c.in_ok-segment.after c.loop-segments.segments.items c.loop-segments.height c.in_ok-segment.segment c.in_ok-segment.tall c.loop-segments.invariant.3 c.in_ok-segment.ensures.reads (c.is-in-loop-segments-2.ensures.no (search rules)) (c.is-in-loop-segments.ensures.no (search rules))

pub loop-segments-preserved : goal.loop-segments-preserved
loop-segments-preserved c = (omega (arith, c.loop-segments.invariant.0, c.in_ok-segment.ensures.further.0), omega (arith, c.is-in-loop-segments-2.ensures.within (search rules)), omega (arith, c.in_ok-segment.ensures.bounded.1, c.loop-segments.invariant.2, c.higher-height.ensures), bits_more (in_size c.args.deep c.args.brackets) c.args.cursor.now c.args.at c.loop-segments.next c.in_ok-segment.after c.loop-segments.segments.items _ c.loop-segments.height c.higher-height.result c.in_ok-segment.segment c.in_ok-segment.tall c.loop-segments.invariant.3 c.in_ok-segment.ensures.reads (c.is-in-loop-segments-2.ensures.yes (search rules)) c.in_ok-push.ensures.items c.higher-height.ensures)
