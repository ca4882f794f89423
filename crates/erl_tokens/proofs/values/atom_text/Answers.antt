use Rattle.std.proofs.Common.{arith, ap, ◌∙◌, ◌++◌, string_bytes}
use Rattle.std.proofs.lemmas.List.{take_rest}
use Rattle.std.specs.Char.{encode_utf8}
use Rattle.erl_tokens.proofs.Spelled.{text_push}
use Rattle.erl_tokens.proofs.values.atom_text.Goals as goal

pub loop-at-preserved : goal.loop-at-preserved
loop-at-preserved c = record {
  within = omega arith;
  so_far = text_push c.loop-at.at _ _ _ _ _ _ (take_rest c.between_quotes-bs.result.now c.loop-at.at) c.loop-at-test.true c.unit-unit.ensures.within.0 c.unit-unit.ensures.len c.unit-unit.ensures.number
      (c.in_ok-push.ensures.bytes ∙ ap (λ n. string_bytes c.loop-at.text ++ encode_utf8 n) c.as_character.ensures) c.loop-at.invariant.so_far;
}
