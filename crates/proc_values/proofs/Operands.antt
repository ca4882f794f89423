-- An operator's operands, by their number.
use Rattle.std.proofs.Common.{◌≡◌, ◌≢◌, List, [], ◌∷◌, Bool, length, get_or, refl, ap, ◌∙◌, arith}
use Rattle.erl_syntax.specs.declared.expr.Op.{Op}
use Rattle.erl_syntax.specs.declared.expr.Prefix.{Prefix}
use Rattle.term_value.specs.BuiltIns.{badarg}
use Rattle.term_value.specs.Operators.{operate}
use Rattle.term_value.specs.Primitives.{exact}
use Rattle.term_value.specs.Seen.{meanings}
use Rattle.term_value.specs.Setting.{Setting}
use Rattle.term_value.specs.Terms.{value_of, row}
use Rattle.term_value.specs.Tree.{Operate, Prefixed}
use Rattle.term_value.specs.declared.term.Term.{Term}

module _ {R : Type 0} (shown : R → List Bool) (s : Setting) where
  pub two_are : (op : Op) (ts : List (Term R)) (left right : Term R) → length ts ≡ 2 → left ≡ get_or ts 0 left → right ≡ get_or ts 1 right
      → operate s.names op (value_of shown left) (value_of shown right) ≡ exact s (Operate op) (meanings shown (row ts))
  two_are op [] left right l f e = absurd (omega arith)
  two_are op (t ∷ []) left right l f e = absurd (omega arith)
  two_are op (t ∷ u ∷ []) left right l f e =
      ap (λ (x : Term R). operate s.names op (value_of shown x) (value_of shown right)) f ∙ ap (λ (y : Term R). operate s.names op (value_of shown t) (value_of shown y)) e
  two_are op (t ∷ u ∷ x ∷ ts) left right l f e = absurd (omega arith)

  pub not_two : (op : Op) (ts : List (Term R)) → length ts ≢ 2 → badarg ≡ exact s (Operate op) (meanings shown (row ts))
  not_two op [] l = refl
  not_two op (t ∷ []) l = refl
  not_two op (t ∷ u ∷ []) l = absurd (l refl)
  not_two op (t ∷ u ∷ x ∷ ts) l = refl

  pub not_one : (op : Prefix) (ts : List (Term R)) → length ts ≢ 1 → badarg ≡ exact s (Prefixed op) (meanings shown (row ts))
  not_one op [] l = refl
  not_one op (t ∷ []) l = absurd (l refl)
  not_one op (t ∷ u ∷ ts) l = refl
