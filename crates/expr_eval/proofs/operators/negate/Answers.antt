use Rattle.std.proofs.Common.{ap, sym, ◌∙◌, refl, not, Option, Bool}
use Rattle.term_value.specs.Operators.{negated_truth}
use Rattle.term_value.specs.Primitives.{bounded_result}
use Rattle.expr_eval.proofs.Operations.{truth_is, plain_truth}
use Rattle.expr_eval.proofs.operators.negate.Goals as goal

pub returns-in-Some-clause-is : goal.returns-in-Some-clause-is
returns-in-Some-clause-is g c = λ shown. truth_is shown c.truth_term.result (not c.in-Some.holds) (not c.in-Some.holds) c.truth_term.ensures refl
    ∙ ap (λ (o : Option Bool). bounded_result (negated_truth o)) (sym c.in-Some.is ∙ c.truth.ensures shown)

pub returns-in-Some-clause-plain : goal.returns-in-Some-clause-plain
returns-in-Some-clause-plain g c = plain_truth c.truth_term.result (not c.in-Some.holds) c.truth_term.ensures

pub returns-in-None-clause-is : goal.returns-in-None-clause-is
returns-in-None-clause-is g c = λ shown. ap (λ (o : Option Bool). bounded_result (negated_truth o)) (sym c.in-None.is ∙ c.truth.ensures shown)
