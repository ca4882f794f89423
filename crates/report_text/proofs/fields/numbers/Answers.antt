use Rattle.std.proofs.Common.{◌≡◌, ◌≤◌, ◌++◌, ap, codes, length, rules, ◌∙◌, arith}
use Rattle.report_text.specs.Fields.{spaced}
use Rattle.report_text.proofs.Numbers.{fewer_remain, none_remain, one_more_small, one_more_spelled, too_many}
use Rattle.report_text.proofs.fields.numbers.Goals as goal

pub returns-then-len-ge-MOST : goal.returns-then-len-ge-MOST
returns-then-len-ge-MOST c = λ ns h.
    let full : 4 ≤ length c.loop-found.numbers.items = search rules in
    too_many ns c.loop-found.numbers.items c.loop-found.rest.now c.in-Some.found.rest.now c.in-Some.found.number c.in-Some.ensures (c.loop-found.invariant.remain ns h) full h.few

pub loop-found-preserved : goal.loop-found-preserved
loop-found-preserved c = record {
  spelled = rw c.push.ensures.items (one_more_spelled c.args.bytes.now c.loop-found.numbers.items c.loop-found.rest.now c.in-Some.found.rest.now c.in-Some.found.number c.loop-found.invariant.spelled c.in-Some.ensures);
  small = rw c.push.ensures.items (one_more_small c.loop-found.numbers.items c.in-Some.found.number c.loop-found.invariant.small c.in-Some.ensures.small);
  few = search rules;
  remain = λ ns h. rw c.push.ensures.items (fewer_remain ns c.loop-found.numbers.items c.loop-found.rest.now c.in-Some.found.rest.now c.in-Some.found.number c.in-Some.ensures (c.loop-found.invariant.remain ns h));
}

pub returns-then-not-is_same : goal.returns-then-not-is_same
returns-then-not-is_same c = λ ns h.
    let rest_is : c.loop-found.rest.now ≡ codes "\n" = none_remain ns c.loop-found.numbers.items c.loop-found.rest.now c.in_default.ensures (c.loop-found.invariant.remain ns h) in
    search rules

pub returns : goal.returns
returns c =
    let rest_is : c.loop-found.rest.now ≡ codes "\n" = search rules in
    record { small = c.loop-found.invariant.small; few = c.loop-found.invariant.few; spelled = c.loop-found.invariant.spelled ∙ ap (λ r. spaced c.loop-found.numbers.items ++ r) rest_is }
