use Rattle.std.proofs.Common.{sym}
use Rattle.std.proofs.lemmas.List.{take_all}
use Rattle.std.proofs.lemmas.List.Elements.{All-more, All-same}
use Rattle.std.specs.Prelude.{take}
use Rattle.pattern_compile.specs.Patterns.{IsTyped}
use Rattle.match_tests.proofs.fitting.are_typed.Goals as goal

pub loop-segment-preserved : goal.loop-segment-preserved
loop-segment-preserved c = All-more IsTyped c.args.segments.now c.loop-segment.segment-index _ c.loop-segment-test.true c.loop-segment.invariant (c.is_typed.ensures c.if-not-is_typed.false)

pub returns : goal.returns
returns c = λ e. All-same IsTyped c.args.segments.now (take c.loop-segment.segment-index c.args.segments.now) (sym (take_all c.loop-segment.segment-index c.args.segments.now c.loop-segment-test.false)) c.loop-segment.invariant
