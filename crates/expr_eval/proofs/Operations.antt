-- What the code of an operator gives is the definition's value.
use Rattle.std.proofs.Common.{◌≡◌, ℕ, ℤ, pos, negsuc, ◌^◌, Bool, true, false, cond, nat_lt, is_some, List, Option, Some, None, refl, ap, sym, subst, ◌∙◌, inl, inr, SFits}
use Rattle.std.specs.Int.{w128}
use Rattle.std.specs.declared.cmp.Ordering.{Ordering}
use Rattle.std.specs.declared.result.Result.{Result as Answer}
use Rattle.std.specs.declared.result.Result.TheVariants.{Ok}
use Rattle.bits_value.specs.Number.{bounded}
use Rattle.erl_syntax.specs.declared.expr.Op.{Op}
use Rattle.erl_syntax.specs.declared.expr.Op.TheVariants as o
use Rattle.term_value.specs.Arithmetic.{arithmetic, exact, is_arithmetic, value_or_limit, within_bound}
use Rattle.term_value.specs.Bounds.{value_or_limit as value_within}
use Rattle.term_value.specs.Operators.{operate, computed, arithmetic_result}
use Rattle.term_value.specs.Order.{order}
use Rattle.term_value.specs.Primitives.{bounded_result}
use Rattle.term_value.specs.Result.{Result, Gives, truth}
use Rattle.term_value.specs.Terms.{value_of}
use Rattle.term_value.specs.Value.{Value, VInt, VAtom}
use Rattle.term_value.specs.declared.computed.Arith.TheVariants as a
use Rattle.term_value.specs.declared.term.Term.{Term}
use Rattle.term_value.specs.declared.term.Term.TheVariants as term
use Rattle.term_value.proofs.Bitwise.{fits-value}
use Rattle.expr_eval.specs.Answers.{IsComputed, IsPlain}
use Rattle.expr_eval.specs.Truths.{truth_number, is_comparison, holds_in}
use Rattle.expr_eval.specs.declared.reason.EvalFault.{EvalFault}

-- ---- numbers
-- the bound's test on an exact number
pub number_within : (z : ℤ) → bounded_result (Gives (VInt z)) ≡ arithmetic_result (value_or_limit (bounded z))
number_within (pos n) = elim (nat_lt n (2 ^ 127)) as (λ b. value_within (is_some (cond b (Some (pos n)) None)) (VInt (pos n)) ≡ arithmetic_result (value_or_limit (cond b (Some (pos n)) None))) [ true ↦ refl | false ↦ refl ]
number_within (negsuc n) = elim (nat_lt n (2 ^ 127)) as (λ b. value_within (is_some (cond b (Some (negsuc n)) None)) (VInt (negsuc n)) ≡ arithmetic_result (value_or_limit (cond b (Some (negsuc n)) None))) [ true ↦ refl | false ↦ refl ]

bounded_case : (b : Bool) (z y : ℤ) → cond b (Some z) None ≡ Some y → y ≡ z
bounded_case true z y e = cc
bounded_case false z y e = cc

bounded_is : (z y : ℤ) → bounded z ≡ Some y → y ≡ z
bounded_is (pos n) y e = bounded_case (nat_lt n (2 ^ 127)) (pos n) y e
bounded_is (negsuc n) y e = bounded_case (nat_lt n (2 ^ 127)) (negsuc n) y e

within_stays : (z : ℤ) (r : Option ℤ) → bounded z ≡ r → bounded_result (arithmetic_result (value_or_limit r)) ≡ arithmetic_result (value_or_limit r)
within_stays z None e = refl
within_stays z (Some y) e = number_within y ∙ ap (λ (r : Option ℤ). arithmetic_result (value_or_limit r)) (ap bounded (bounded_is z y e) ∙ e)

arithmetic_stays : (r : Option ℤ) → bounded_result (arithmetic_result (within_bound r)) ≡ arithmetic_result (within_bound r)
arithmetic_stays None = refl
arithmetic_stays (Some z) = within_stays z (bounded z) refl

pub arithmetic_is : (op : Op) (m n : ℤ) → arithmetic_result (arithmetic op m n) ≡ bounded_result (computed op (VInt m) (VInt n))
arithmetic_is op m n = sym (arithmetic_stays (exact op m n))

pub fits_within : (z : ℤ) → SFits w128 z → Gives (VInt z) ≡ bounded_result (Gives (VInt z))
fits_within z f = sym (number_within z ∙ ap arithmetic_result (fits-value z f))

-- ---- operators
pub no_arithmetic : (op : Op) (m n : ℤ) → is_arithmetic op ≡ false → a.BadArith ≡ arithmetic op m n
no_arithmetic o.Mul m n h = cc
no_arithmetic o.Div m n h = cc
no_arithmetic o.Rem m n h = cc
no_arithmetic o.Band m n h = cc
no_arithmetic o.Add m n h = cc
no_arithmetic o.Sub m n h = cc
no_arithmetic o.Bor m n h = cc
no_arithmetic o.Bxor m n h = cc
no_arithmetic o.Bsl m n h = cc
no_arithmetic o.Bsr m n h = cc
no_arithmetic op m n h = refl

module _ (names : ℕ → List ℕ) (v w : Value) where
  pub compared_op : (op : Op) → is_comparison op ≡ true → operate names op v w ≡ Gives (truth (holds_in op (order names v w)))
  compared_op o.Eq h = refl
  compared_op o.Same h = refl
  compared_op o.Ne h = refl
  compared_op o.NotSame h = refl
  compared_op o.Lt h = refl
  compared_op o.Le h = refl
  compared_op o.Gt h = refl
  compared_op o.Ge h = refl
  compared_op op h = cc

  pub computed_op : (op : Op) → is_comparison op ≡ false → operate names op v w ≡ computed op v w
  computed_op o.Eq h = cc
  computed_op o.Same h = cc
  computed_op o.Ne h = cc
  computed_op o.NotSame h = cc
  computed_op o.Lt h = cc
  computed_op o.Le h = cc
  computed_op o.Gt h = cc
  computed_op o.Ge h = cc
  computed_op op h = refl

pub decided : (b : Bool) → Gives (VAtom (truth_number b)) ≡ bounded_result (Gives (truth b))
decided true = refl
decided false = refl

module _ {R : Type 0} where
  pub plain_truth : (t : Term R) (b : Bool) → t ≡ term.Atom (truth_number b) → IsPlain (Ok t)
  plain_truth t b e =
      let P : Term R → Type 0 = λ u. IsPlain (Ok u) in
      let known : (c : Bool) → P (term.Atom (truth_number c)) = elim [ true ↦ inl refl | false ↦ inr refl ] in
      subst P (sym e) (known b)

  module _ (shown : R → List Bool) where
    pub truth_is : (t : Term R) (b c : Bool) → t ≡ term.Atom (truth_number b) → b ≡ c → Gives (value_of shown t) ≡ bounded_result (Gives (truth c))
    truth_is t b c te be = ap (λ (u : Term R). Gives (value_of shown u)) te ∙ decided b ∙ ap (λ (d : Bool). bounded_result (Gives (truth d))) be

    pub compared_is : (names : ℕ → List ℕ) (op : Op) (v w : Value) (t : Term R) (b : Bool) (r : Ordering)
        → is_comparison op ≡ true → t ≡ term.Atom (truth_number b) → b ≡ holds_in op r → r ≡ order names v w → Gives (value_of shown t) ≡ bounded_result (operate names op v w)
    compared_is names op v w t b r h te be re = truth_is t b (holds_in op (order names v w)) te (be ∙ ap (holds_in op) re) ∙ ap bounded_result (sym (compared_op names v w op h))

    pub due : (answer : Answer (Term R) (EvalFault R)) (r s : Result) → r ≡ s → IsComputed shown answer r → IsComputed shown answer s
    due answer r s e h = let P : Result → Type 0 = λ q. IsComputed shown answer q in subst P e h

    pub computed_is : (names : ℕ → List ℕ) (op : Op) (v w : Value) (answer : Answer (Term R) (EvalFault R))
        → is_comparison op ≡ false → IsComputed shown answer (bounded_result (computed op v w)) → IsComputed shown answer (bounded_result (operate names op v w))
    computed_is names op v w answer h is = due answer (bounded_result (computed op v w)) (bounded_result (operate names op v w)) (ap bounded_result (sym (computed_op names v w op h))) is
