use Rattle.std.proofs.Common.{All, take}
use Rattle.pattern_compile.specs.Meaning.{size_form}
use Rattle.pattern_compile.specs.Patterns.{SizeFits, given}
use Rattle.match_tests.proofs.fitting.sizes_fit.Given as goal

abbrev pub invariant-loop-op : goal.invariant-loop-op
invariant-loop-op l = All (λ op. SizeFits l.count (given (size_form op))) (take l.op-index l.ops)
