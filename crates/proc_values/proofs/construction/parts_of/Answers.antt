use Rattle.std.proofs.Common.{◌++◌, ◌∷◌, [], ap, ◌∙◌, rules}
use Rattle.std.proofs.lemmas.List.Elements.{All-same, All-push}
use Rattle.bits_build.specs.Parts.{HasPart}
use Rattle.term_value.specs.Encode.{filled_with}
use Rattle.term_value.specs.Seen.{meanings}
use Rattle.term_value.specs.Terms.{row}
use Rattle.proc_values.proofs.Filled.{filled_on, filled_more, none_for_size}
use Rattle.proc_values.proofs.construction.parts_of.Goals as goal

pub loop-typed-preserved : goal.loop-typed-preserved
loop-typed-preserved g c =
    let shown = g.S.Store.shown c.args.store.now in
    let has = g.S.Store.has c.args.store.now in
    let parts = c.loop-typed.parts.items in
    let part = c.in-Some-2.part in
    let pushed = c.in_ok-push-in-Some-2.ensures.items in
    record {
      rest = ap (λ ps. filled_on shown ps (filled_with c.in-Some.later.now (meanings shown (row c.in-Some-2.rest.now)))) pushed
          ∙ filled_more shown parts c.loop-typed.waiting.now c.loop-typed.left.now (filled_with c.args.types.now (meanings shown (row c.args.values.now))) c.loop-typed.invariant.rest
          c.in-Some.typed.now c.in-Some.later.now (search rules) c.in-Some-split_first.value.now c.in-Some-split_first.rest.now (search rules) part c.in-Some-2.rest.now
          (rw c.in-Some-2.is at c.in_ok-part.ensures.is (filled_with c.in-Some.later.now));
      parts = All-same (HasPart has) c.push.new.self.items (parts ++ part ∷ []) pushed (All-push (HasPart has) parts part c.loop-typed.invariant.parts (search rules));
      left = search rules;
    }

pub returns-in-None-clause-is : goal.returns-in-None-clause-is
returns-in-None-clause-is g c =
    let shown = g.S.Store.shown c.args.store.now in
    none_for_size shown c.loop-typed.parts.items c.loop-typed.waiting.now c.loop-typed.left.now (filled_with c.args.types.now (meanings shown (row c.args.values.now))) c.loop-typed.invariant.rest
    c.in-Some.typed.now c.in-Some.later.now (search rules) c.in-Some-split_first.value.now c.in-Some-split_first.rest.now (search rules)
    (rw c.in-None.is at c.in_ok-part.ensures.is (filled_with c.in-Some.later.now))
