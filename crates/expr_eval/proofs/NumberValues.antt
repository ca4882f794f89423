-- What the code of a built-in function that reads gives is the definition's value.
use Rattle.std.proofs.Common.{◌≡◌, ℕ, pos, ◌<◌, ◌^◌, Bool, List, ap, sym, ◌∙◌, arith}
use Rattle.std.specs.declared.result.Result.{Result as Answer}
use Rattle.bits_value.specs.Number.{bounded}
use Rattle.bits_value.proofs.Values.{bounded-pos}
use Rattle.term_value.specs.Arithmetic.{value_or_limit}
use Rattle.term_value.specs.BuiltIns.{number}
use Rattle.term_value.specs.Operators.{arithmetic_result}
use Rattle.term_value.specs.Primitives.{bounded_result}
use Rattle.term_value.specs.Result.{Result}
use Rattle.term_value.specs.declared.computed.Arith.{Arith}
use Rattle.term_value.specs.declared.computed.Arith.TheVariants as a
use Rattle.term_value.specs.declared.term.Term.{Term}
use Rattle.expr_eval.specs.Answers.{IsComputed}
use Rattle.expr_eval.specs.declared.reason.EvalFault.{EvalFault}
use Rattle.expr_eval.proofs.Operations.{number_within, due}

-- a number of items is within the bound
pub counts : (n : ℕ) → n < 2 ^ 64 → a.Value (pos n) ≡ value_or_limit (bounded (pos n))
counts n h = sym (ap value_or_limit (bounded-pos n (omega arith)))

module _ {R : Type 0} (shown : R → List Bool) where
  pub number_is : (answer : Answer (Term R) (EvalFault R)) (value : Arith) (n : ℕ) (r : Result)
      → value ≡ value_or_limit (bounded (pos n)) → number n ≡ r → IsComputed shown answer (arithmetic_result value) → IsComputed shown answer (bounded_result r)
  number_is answer value n r ve re h = due shown answer (arithmetic_result value) (bounded_result r) (ap arithmetic_result ve ∙ sym (number_within (pos n)) ∙ ap bounded_result re) h
