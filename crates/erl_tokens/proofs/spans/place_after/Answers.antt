use Rattle.std.proofs.Common.{◌∙◌, ◌+◌, ◌-◌, arith, sym, ap, length, drop}
use Rattle.erl_syntax.specs.Tokens.{place_from}
use Rattle.erl_tokens.proofs.Placed.{place_step}
use Rattle.erl_tokens.proofs.spans.place_after.Goals as goal

pub loop-b-preserved : goal.loop-b-preserved
loop-b-preserved c = record {
  line = omega arith;
  column = omega arith;
  so_far = c.loop-b.invariant.so_far ∙ place_step c.loop-b.place c.loop-b.b-index c.args.bs.now c.loop-b-test.true ∙
      ap (λ s. place_from s (length c.args.bs.now - (c.loop-b.b-index + 1)) (drop (c.loop-b.b-index + 1) c.args.bs.now)) (sym c.after-place.ensures.value);
}
