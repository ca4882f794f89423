use Rattle.std.proofs.Common.{◌≡◌, ◌+◌, ◌<◌, ◌^◌, pos, Some, subst, ap, sym, ◌∙◌, length, arith, SFits}
use Rattle.std.specs.Int.{w128}
use Rattle.std.proofs.lemmas.Int.{to_z-of_z}
use Rattle.term_value.specs.BuiltIns.{element}
use Rattle.term_value.specs.Bounds.{within}
use Rattle.term_value.specs.Primitives.{bounded_result}
use Rattle.term_value.specs.Seen.{meanings}
use Rattle.term_value.specs.Terms.{value_of, row, IsOver}
use Rattle.term_value.specs.Value.{VInt, VTuple}
use Rattle.term_value.specs.declared.term.Term.{Term}
use Rattle.bit_store.specs.Stores.{AnyAtom}
use Rattle.expr_eval.proofs.Evaluations.{evaluated, refused}
use Rattle.expr_eval.proofs.RowItems.{item_of, no_item, known_item, element_is, element_past, element_nowhere}
use Rattle.expr_eval.proofs.items.item_at.Goals as goal

pub shared-requires : goal.shared-requires
shared-requires g c =
    let look = c.in-Some-get.ensures.lookup in
    let has = g.S.Store.has c.args.store.now in
    let P : Term g.row.R.Denot → Type 0 = λ t. IsOver has AnyAtom t in
    subst P (sym look.1) (known_item has AnyAtom c.args.items.now c.in-Some.index c.in-Some-get.item.now look.3.0 c.requires)

pub returns-in-Some-get-clause-is : goal.returns-in-Some-get-clause-is
returns-in-Some-get-clause-is g c =
    let look = c.in-Some-get.ensures.lookup in
    let shown = g.S.Store.shown c.args.store.now in
    let vs = meanings shown (row c.args.items.now) in
    let fits : SFits w128 c.args.place = c.ranges.place in
    let place : c.args.place ≡ pos (c.in-Some.index + 1) = sym (to_z-of_z w128 c.args.place fits) ∙ c.in-Some.ensures.some in
    let item = item_of shown c.args.items.now c.in-Some.index c.in-Some-get.item.now look.3.0 ∙ ap (λ (t : Term g.row.R.Denot). Some (value_of shown t)) (sym look.1) in
    evaluated shown c.shared.result (within (value_of shown c.in-Some-get.item.now)) (bounded_result (element (VInt c.args.place) (VTuple vs)))
    (ap bounded_result (sym (element_is vs c.args.place c.in-Some.index (value_of shown c.in-Some-get.item.now) place item))) c.shared.ensures.is

pub returns-in-None-get-clause-is : goal.returns-in-None-get-clause-is
returns-in-None-get-clause-is g c =
    let look = c.in-None-get.ensures.lookup in
    let shown = g.S.Store.shown c.args.store.now in
    let vs = meanings shown (row c.args.items.now) in
    let fits : SFits w128 c.args.place = c.ranges.place in
    let place : c.args.place ≡ pos (c.in-Some.index + 1) = sym (to_z-of_z w128 c.args.place fits) ∙ c.in-Some.ensures.some in
    refused shown c.bad_argument.result (element (VInt c.args.place) (VTuple vs)) c.bad_argument.ensures
    (element_past vs c.args.place c.in-Some.index place (no_item shown c.args.items.now c.in-Some.index look.3))

pub returns-in-None-clause-is : goal.returns-in-None-clause-is
returns-in-None-clause-is g c =
    let shown = g.S.Store.shown c.args.store.now in
    let fits : SFits w128 c.args.place = c.ranges.place in
    let same = to_z-of_z w128 c.args.place fits in
    let small : length c.args.items.now < 2 ^ 64 = omega arith in
    refused shown c.bad_argument-in-None.result (element (VInt c.args.place) (VTuple (meanings shown (row c.args.items.now)))) c.bad_argument-in-None.ensures
    (element_nowhere shown c.args.items.now c.args.place small (λ i h e. c.in-None.ensures.none i h (same ∙ e)))
