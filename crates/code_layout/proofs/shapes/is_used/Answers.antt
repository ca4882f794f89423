use Rattle.std.proofs.Common.{◌≡◌, ◌+◌, sym, ap, ◌∙◌, drop, arith}
use Rattle.std.specs.Prelude.{◌||◌}
use Rattle.term_value.specs.Rows.{uses}
use Rattle.code_tree.specs.Reading.{segments_of}
use Rattle.code_layout.proofs.Shaped.{uses_here, none_used}
use Rattle.code_layout.proofs.shapes.is_used.Goals as goal

pub returns-then-size_mentions : goal.returns-then-size_mentions
returns-then-size_mentions c =
    let here = uses_here c.args.variable c.args.segments.now c.loop-segment.segment-index c.segment-item.result c.size_mentions.result (omega arith) c.segment-item.is c.size_mentions.ensures in
    sym (c.loop-segment.invariant ∙ here ∙ ap (λ b. b || uses c.args.variable (segments_of (drop (c.loop-segment.segment-index + 1) c.args.segments.now))) c.if-size_mentions.true)

pub loop-segment-preserved : goal.loop-segment-preserved
loop-segment-preserved c =
    let here = uses_here c.args.variable c.args.segments.now c.loop-segment.segment-index c.segment-item.result c.size_mentions.result (omega arith) c.segment-item.is c.size_mentions.ensures in
    c.loop-segment.invariant ∙ here ∙ ap (λ b. b || uses c.args.variable (segments_of (drop (c.loop-segment.segment-index + 1) c.args.segments.now))) c.if-size_mentions.false

pub returns : goal.returns
returns c = sym (c.loop-segment.invariant ∙ none_used c.args.variable c.args.segments.now c.loop-segment.segment-index (omega arith))
