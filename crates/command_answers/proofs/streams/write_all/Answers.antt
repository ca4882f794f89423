use Rattle.std.proofs.Common.{arith}
use Rattle.command_answers.proofs.Written.{appends_more}
use Rattle.command_answers.proofs.streams.write_all.Goals as goal

pub loop-at-preserved : goal.loop-at-preserved
loop-at-preserved g c = record {
  within = omega (arith, c.in_ok-at.ensures.bound);
  written = appends_more _ _ _ _ _ _ c.loop-at.invariant.written c.in_ok-at.ensures.bytes;
  later = omega (arith, c.in_ok-at.ensures.cause);
}
