use Rattle.std.proofs.Common.{refl, arith}
use Rattle.bits_value.specs.Bits.{bit_list}
use Rattle.bits_value.proofs.Gathered.{gather_step}
use Rattle.bits_value.proofs.reading.gather_bytes.Goals as goal

pub loop-done-init : goal.loop-done-init
unfolding bit_list
loop-done-init c = record { within = omega arith; sum_is = refl }

pub loop-done-preserved : goal.loop-done-preserved
loop-done-preserved c = record {
  within = omega arith;
  sum_is = rw (c.loop-done.invariant.sum_is, c.window.ensures) (gather_step c.args.bytes.now c.args.start c.loop-done.done c.reach-step.result 64 (omega arith));
}
