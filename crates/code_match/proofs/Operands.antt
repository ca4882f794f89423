-- An operator's operands, by their number.
use Rattle.std.proofs.Common.{◌≡◌, ◌≢◌, List, [], ◌∷◌, Bool, length, get_or, refl, ap, ◌∙◌, arith}
use Rattle.bit_store.specs.Stores.{itself}
use Rattle.erl_syntax.specs.declared.expr.Op.{Op}
use Rattle.erl_syntax.specs.declared.expr.Prefix.{Prefix}
use Rattle.term_value.specs.BuiltIns.{badarg}
use Rattle.term_value.specs.Operators.{operate}
use Rattle.term_value.specs.Primitives.{exact}
use Rattle.term_value.specs.Seen.{meanings}
use Rattle.term_value.specs.Setting.{Setting}
use Rattle.term_value.specs.Terms.{value_of, row}
use Rattle.term_value.specs.Tree.{Operate, Prefixed}
use Rattle.term_value.specs.declared.term.Term.{Term}

module _ (s : Setting) (op : Op) where
  pub two_are : (ts : List (Term (List Bool))) (left right : Term (List Bool)) → length ts ≡ 2 → left ≡ get_or ts 0 left → right ≡ get_or ts 1 right
      → operate s.names op (value_of itself left) (value_of itself right) ≡ exact s (Operate op) (meanings itself (row ts))
  two_are [] left right l f e = absurd (omega arith)
  two_are (t ∷ []) left right l f e = absurd (omega arith)
  two_are (t ∷ u ∷ []) left right l f e =
      ap (λ (x : Term (List Bool)). operate s.names op (value_of itself x) (value_of itself right)) f ∙ ap (λ (y : Term (List Bool)). operate s.names op (value_of itself t) (value_of itself y)) e
  two_are (t ∷ u ∷ x ∷ ts) left right l f e = absurd (omega arith)

  pub not_two : (ts : List (Term (List Bool))) → length ts ≢ 2 → badarg ≡ exact s (Operate op) (meanings itself (row ts))
  not_two [] l = refl
  not_two (t ∷ []) l = refl
  not_two (t ∷ u ∷ []) l = absurd (l refl)
  not_two (t ∷ u ∷ x ∷ ts) l = refl

module _ (s : Setting) (op : Prefix) where
  pub not_one : (ts : List (Term (List Bool))) → length ts ≢ 1 → badarg ≡ exact s (Prefixed op) (meanings itself (row ts))
  not_one [] l = refl
  not_one (t ∷ []) l = absurd (l refl)
  not_one (t ∷ u ∷ ts) l = refl
