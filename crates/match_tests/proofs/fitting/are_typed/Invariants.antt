use Rattle.std.proofs.Common.{All, take}
use Rattle.pattern_compile.specs.Patterns.{IsTyped}
use Rattle.match_tests.proofs.fitting.are_typed.Given as goal

abbrev pub invariant-loop-segment : goal.invariant-loop-segment
invariant-loop-segment l = All IsTyped (take l.segment-index l.segments)
