-- Terms and answers whose bitstrings are known.
use Rattle.std.proofs.Common.{◌≡◌, List, [], ◌∷◌, ◌++◌, subst, sym}
use Rattle.bit_store.specs.Stores.{AnyAtom}
use Rattle.term_value.specs.Seen.{Seen, IsKnown, AreKnown}
use Rattle.term_value.specs.Terms.{seen, row, IsOver}
use Rattle.term_value.specs.declared.term.Term.{Term}
use Rattle.std.specs.declared.result.Result.{Result as Answer}
use Rattle.expr_eval.specs.declared.reason.EvalFault.{EvalFault}
use Rattle.expr_eval.specs.Answers.{IsPlain, HasAnswer}
use Rattle.expr_eval.proofs.GuardCalls.{plain_known}

module _ {R : Type 0} (has : R → Type 0) where
  pub known_last : (ts : List (Term R)) (t : Term R) → AreKnown has AnyAtom (row ts) → IsOver has AnyAtom t → AreKnown has AnyAtom (row (ts ++ t ∷ []))
  known_last [] t known over = (over, tt)
  known_last (u ∷ us) t known over = (known.0, known_last us t known.1 over)

  -- of a term that is seen so
  pub seen_known : (t : Term R) (s : Seen R) → seen t ≡ s → IsKnown has AnyAtom s → IsOver has AnyAtom t
  seen_known t s is known = let P : Seen R → Type 0 = λ u. IsKnown has AnyAtom u in subst P (sym is) known

  -- of an operator's answer, which has no bitstring in it
  pub plain_answer : (answer : Answer (Term R) (EvalFault R)) → IsPlain answer → HasAnswer has answer
  plain_answer answer plain = plain_known has answer plain
