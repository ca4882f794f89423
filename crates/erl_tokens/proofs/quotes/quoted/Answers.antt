use Rattle.std.proofs.Common.{◌+◌, arith, ◌∙◌, sym}
use Rattle.std.proofs.lemmas.List.{take_rest}
use Rattle.erl_tokens.proofs.Spelled.{quoted_closed, after_plain, after_escape, quoted_no_escape}
use Rattle.erl_tokens.proofs.quotes.quoted.Goals as goal
use Rattle.erl_tokens.proofs.quotes.quoted.Goals.{then-bs-at-eq92+in-Some, else-bs-at-eq92}

pub returns-then-bs-at-clause-value : goal.returns-then-bs-at-clause-value
returns-then-bs-at-clause-value c = sym (c.loop-at.invariant.so_far ∙ quoted_closed _ _ _ c.loop-at.at c.args.bs.now (omega arith) (omega arith))

pub returns-in_default-clause-value : goal.returns-in_default-clause-value
returns-in_default-clause-value c =
    c.no_escape.ensures.value ∙ sym (c.loop-at.invariant.so_far ∙ quoted_no_escape _ _ _ c.loop-at.at c.args.bs.now _ (take_rest c.args.bs.now (c.loop-at.at + 1)) (omega arith) c.if-bs-at.false (omega arith) c.in_default.ensures.value)

pub loop-at-preserved : goal.loop-at-preserved
loop-at-preserved c =
    elim c.if-bs-at-eq92.branch [
      | then-bs-at-eq92+in-Some w ↦
          record {
            begun = omega arith;
            within = omega (arith, w.in-Some.ensures.within);
            so_far = c.loop-at.invariant.so_far ∙
                after_escape _ _ _ c.loop-at.at _ _ c.args.bs.now _ w.at-is (take_rest c.args.bs.now (c.loop-at.at + 1)) (omega arith) c.if-bs-at.false (omega arith) w.in-Some.ensures.value.0 w.in-Some.ensures.within.1;
          }
      | else-bs-at-eq92 w ↦
          record {
            begun = omega arith;
            within = omega arith;
            so_far = c.loop-at.invariant.so_far ∙ after_plain _ _ _ c.loop-at.at _ c.args.bs.now w.at-is (omega arith) c.if-bs-at.false w.if-bs-at-eq92.false;
          }
    ]
