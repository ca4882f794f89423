use Rattle.std.proofs.Common.{arith}
use Rattle.std.proofs.lemmas.List.{take_rest}
use Rattle.erl_tokens.proofs.Spelled.{spelled_push}
use Rattle.erl_tokens.proofs.values.string_characters.Goals as goal

pub loop-at-preserved : goal.loop-at-preserved
loop-at-preserved c = record {
  within = omega arith;
  so_far = spelled_push c.loop-at.at _ _ _ _ _ _ (take_rest c.between_quotes-bs.result.now c.loop-at.at) c.loop-at-test.true c.unit-unit.ensures.within.0 c.unit-unit.ensures.len c.unit-unit.ensures.number
      c.in_ok-push.ensures.items c.loop-at.invariant.so_far;
}
