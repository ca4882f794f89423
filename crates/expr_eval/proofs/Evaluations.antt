-- Answers of evaluations that are due, moved along equal results.
use Rattle.std.proofs.Common.{◌≡◌, Bool, List, ap, sym, subst}
use Rattle.std.specs.declared.result.Result.{Result as Answer}
use Rattle.std.specs.declared.result.Result.TheVariants.{Err}
use Rattle.term_value.specs.BuiltIns.{badarg}
use Rattle.term_value.specs.Primitives.{bounded_result}
use Rattle.term_value.specs.Result.{Result}
use Rattle.term_value.specs.declared.term.Term.{Term}
use Rattle.expr_eval.specs.Answers.{IsEvaluated}
use Rattle.expr_eval.specs.declared.reason.EvalFault.{EvalFault}
use Rattle.expr_eval.specs.declared.reason.EvalFault.TheVariants.{Raised}
use Rattle.expr_eval.specs.declared.reason.Reason.TheVariants.{BadArg}

module _ {R : Type 0} (shown : R → List Bool) where
  pub evaluated : (answer : Answer (Term R) (EvalFault R)) (r s : Result) → r ≡ s → IsEvaluated shown answer r → IsEvaluated shown answer s
  evaluated answer r s e h = let P : Result → Type 0 = λ q. IsEvaluated shown answer q in subst P e h

  pub refused : (answer : Answer (Term R) (EvalFault R)) (r : Result) → answer ≡ Err (Raised BadArg) → badarg ≡ r → IsEvaluated shown answer (bounded_result r)
  refused answer r ae re =
      let P : Answer (Term R) (EvalFault R) → Type 0 = λ a. IsEvaluated shown a (bounded_result r) in
      subst P (sym ae) (ap bounded_result re)
