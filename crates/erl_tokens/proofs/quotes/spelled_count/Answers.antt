use Rattle.std.proofs.Common.{length, arith, ap}
use Rattle.std.proofs.lemmas.List.{take_rest}
use Rattle.erl_tokens.proofs.Spelled.{spelled_step}
use Rattle.erl_tokens.proofs.quotes.spelled_count.Goals as goal

pub loop-at-preserved : goal.loop-at-preserved
loop-at-preserved c =
    let s = ap length (spelled_step c.loop-at.at _ c.args.bs.now _ (take_rest c.args.bs.now c.loop-at.at) (omega arith) c.unit-at.ensures.within.0 c.unit-at.ensures.len) in
    record { within = omega arith; small = omega arith; so_far = omega (arith, s, c.loop-at.invariant.so_far) }
