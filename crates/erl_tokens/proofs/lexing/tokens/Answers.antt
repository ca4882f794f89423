use Rattle.std.proofs.Common.{arith, rules, ap, inr}
use Rattle.std.proofs.lemmas.List.{take_rest}
use Rattle.erl_tokens.proofs.Placed.{place_next}
use Rattle.erl_tokens.proofs.Cut.{skip_step, find_step, fault_step, cut_step, end_step, lexes_text, moved, take_within}
use Rattle.erl_tokens.proofs.AllValues.{text_integers}
use Rattle.erl_tokens.proofs.AllWithin.{all_within, few_tokens}
use Rattle.erl_tokens.proofs.lexing.tokens.Goals as goal
use Rattle.erl_tokens.proofs.lexing.tokens.Goals.{in-Blank, in-Token+in_ok-push-in-Token}

pub returns-in-Fault-clause-fault : goal.returns-in-Fault-clause-fault
returns-in-Fault-clause-fault c =
    let front = c.front-front.result.now in
    let t = take_rest front c.loop-at.at in
    let a = place_next c.loop-at.at c.in-Fault.ahead c.loop-at.span c.place_after.result front _ t c.loop-at.invariant.place c.in-Fault.ensures.within c.place_after.ensures.value in
    inr (
      _,
      lexes_text c.args.text.now front _ _ c.front-front.ensures
          (fault_step front _ _ c.loop-at.at c.in-Fault.ahead c.in-Fault.why _ _ t c.loop-at-test.true c.in-Fault.ensures.value a c.loop-at.invariant.found),
    )

pub returns-then-cut-clause-fault : goal.returns-then-cut-clause-fault
returns-then-cut-clause-fault c =
    inr (
      _,
      lexes_text c.args.text.now c.front-front.result.now _ _ c.front-front.ensures
          (cut_step c.front-front.result.now _ c.loop-at.at _ _ c.loop-at.invariant.within (omega arith) (search rules) c.loop-at.invariant.place c.loop-at.invariant.found),
    )

pub returns-clause-tokens : goal.returns-clause-tokens
returns-clause-tokens c =
    lexes_text c.args.text.now c.front-front.result.now _ _ c.front-front.ensures
    (end_step c.front-front.result.now _ c.loop-at.at _ c.loop-at.invariant.within (omega arith) (search rules) c.loop-at.invariant.found)

pub returns-clause-integers : goal.returns-clause-integers
returns-clause-integers c = text_integers c.args.text.now _ (returns-clause-tokens c)

pub returns-clause-within : goal.returns-clause-within
returns-clause-within c = all_within c.args.text.now _ _ (returns-clause-tokens c)

pub returns-clause-few : goal.returns-clause-few
returns-clause-few c = few_tokens c.args.text.now _ _ (returns-clause-tokens c)

pub loop-at-preserved : goal.loop-at-preserved
loop-at-preserved c =
    elim c.match-front_piece.branch [
      | in-Blank w ↦
          (let t = take_rest c.front-front.result.now c.loop-at.at in
          record {
            within = omega (arith, w.in-Blank.ensures.within);
            line = omega (arith, c.place_after-span.ensures.near.0, w.in-Blank.ensures.within, take_within);
            column = omega (arith, c.place_after-span.ensures.near.1, w.in-Blank.ensures.within, take_within);
            place = place_next c.loop-at.at c.match-front_piece.len c.loop-at.span _ c.front-front.result.now _ t c.loop-at.invariant.place (omega (arith, w.in-Blank.ensures.within)) c.place_after-span.ensures.value;
            found = moved c.front-front.result.now _ c.loop-at.at _ _ _ _ w.len-is (ap (λ v. v.items) w.tokens-is)
                (skip_step c.front-front.result.now _ _ c.loop-at.at w.in-Blank.len _ t c.loop-at-test.true w.in-Blank.ensures.value c.loop-at.invariant.found);
          })
      | in-Token+in_ok-push-in-Token w ↦
          (let t = take_rest c.front-front.result.now c.loop-at.at in
          record {
            within = omega (arith, w.in-Token.ensures.within);
            line = omega (arith, c.place_after-span.ensures.near.0, w.in-Token.ensures.within, take_within);
            column = omega (arith, c.place_after-span.ensures.near.1, w.in-Token.ensures.within, take_within);
            place = place_next c.loop-at.at c.match-front_piece.len c.loop-at.span _ c.front-front.result.now _ t c.loop-at.invariant.place (omega (arith, w.in-Token.ensures.within)) c.place_after-span.ensures.value;
            found = moved c.front-front.result.now _ c.loop-at.at _ _ _ _ w.len-is (ap (λ v. v.items) w.tokens-is)
                (find_step c.front-front.result.now _ _ c.loop-at.at w.in-Token.len w.in-Token.kind c.loop-at.span _ _ t c.loop-at-test.true w.in-Token.ensures.value c.loop-at.invariant.place w.in_ok-push-in-Token.ensures.items c.loop-at.invariant.found);
          })
    ]
