use Rattle.std.proofs.Common.{length}
use Rattle.match_tests.proofs.fitting.+targets_fit.Given as goal

abbrev pub decreases-targets_fit : goal.decreases-targets_fit
decreases-targets_fit l = length l.ops.now
