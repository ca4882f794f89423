use Rattle.std.proofs.Common.{ap, sym, refl, ◌∙◌, Ok}
use Rattle.term_value.specs.BuiltIns.{native_1}
use Rattle.term_value.specs.Primitives.{bounded_result}
use Rattle.term_value.specs.Terms.{value_of}
use Rattle.expr_eval.proofs.Evaluations.{refused}
use Rattle.expr_eval.proofs.GuardCalls.{other_badarg, kind_is, plain_known}
use Rattle.expr_eval.proofs.Operations.{truth_is, plain_truth}
use Rattle.expr_eval.proofs.guards.of_one.Goals as goal

pub returns-in-Some-clause-is : goal.returns-in-Some-clause-is
returns-in-Some-clause-is g c =
    let shown = g.S.Store.shown c.args.store.now in
    truth_is shown c.truth_term.result c.in-Some.holds c.in-Some.holds c.truth_term.ensures refl
    ∙ ap bounded_result (kind_is c.args.which (value_of shown c.args.value.now) c.in-Some.holds (sym c.in-Some.is ∙ c.is_of_kind.ensures))

pub returns-in-Some-clause-known : goal.returns-in-Some-clause-known
returns-in-Some-clause-known g c = plain_known (g.S.Store.has c.args.store.now) (Ok c.truth_term.result) (plain_truth c.truth_term.result c.in-Some.holds c.truth_term.ensures)

pub returns-else-is_measure-clause-is : goal.returns-else-is_measure-clause-is
returns-else-is_measure-clause-is g c =
    let shown = g.S.Store.shown c.args.store.now in
    refused shown c.bad_argument.result (native_1 c.args.which (value_of shown c.args.value.now)) c.bad_argument.ensures
    (other_badarg c.args.which (value_of shown c.args.value.now) c.requires.guard (sym c.is_of_kind.ensures ∙ c.in-None.is) (sym c.is_measure.ensures ∙ c.if-is_measure.false))
