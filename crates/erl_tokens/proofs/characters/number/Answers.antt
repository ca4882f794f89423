use Rattle.std.proofs.Common.{◌≡◌, ◌∙◌, ◌^◌, sym, subst, drop, ℕ, ◌+◌}
use Rattle.erl_syntax.specs.Characters.{number, number_after}
use Rattle.erl_tokens.proofs.Numbers.{number_step, too_wide}
use Rattle.erl_tokens.proofs.characters.number.Goals as goal

pub returns-in_default-clause-value : goal.returns-in_default-clause-value
returns-in_default-clause-value c =
    too_wide c.args.base c.loop-b.number c.loop-b.b-index (2 ^ 127) c.args.bs.now c.loop-b-test.true c.requires.0 c.loop-b.invariant.so_far c.in_default.ensures.value

pub loop-b-preserved : goal.loop-b-preserved
loop-b-preserved c = record {
  small = c.in-Some.ensures.small;
  so_far = let P : ℕ → Type 0 = λ n. number c.args.base c.args.bs.now ≡ number_after c.args.base n (drop (c.loop-b.b-index + 1) c.args.bs.now) in
      subst P (sym c.in-Some.ensures.value) (c.loop-b.invariant.so_far ∙ number_step c.args.base c.loop-b.number c.loop-b.b-index c.args.bs.now c.loop-b-test.true);
}
