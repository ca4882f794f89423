-- What is next where a clause is chosen, patterns are matched or a truth value decides.
use Rattle.std.proofs.Common.{◌≡◌, List, [], refl, ap, sym, ◌∙◌, Bool, true, false, Option}
use Rattle.erl_syntax.specs.Atoms.{a_case_clause, a_if_clause}
use Rattle.term_value.specs.Value.{Value, Values, none, more}
use Rattle.term_value.specs.Result.{raise, raise_of, truth_of}
use Rattle.term_value.specs.Setting.{Setting}
use Rattle.term_value.specs.Match.{Matched, all_matched}
use Rattle.term_value.specs.PutIn.{put_in}
use Rattle.term_value.specs.Step.{World, Step, Ready, lift, setting, step, of_match, second_by}
use Rattle.term_value.specs.Tree.{Bound, Tree, Val, Choose, Clauses, Patterns, Then, Last, Alts, AndAlso, OrElse}
use Rattle.term_layers.specs.Environments as e
use Rattle.term_layers.specs.Layers.{wrap}
use Rattle.plain_moves.proofs.Alike.{open_does, give_does}

module _ (w : World) (s : Setting) (same : s ≡ setting w) (env : List Bound) where
  pub if_goes : (cs : Clauses) (c : e.Choice) → c ≡ e.chosen s env cs none → step w (put_in env (Choose cs)) ≡ lift Ready e.tree_in (e.of_choice 0 (raise a_if_clause) c)
  if_goes cs c h =
      open_does w (e.Open env (Choose cs)) (e.of_choice 0 (raise a_if_clause) (e.chosen (setting w) env cs none)) refl
      ∙ ap (λ d. lift Ready e.tree_in (e.of_choice 0 (raise a_if_clause) d)) (ap (λ z. e.chosen z env cs none) (sym same) ∙ sym h)

  module _ (v : Value) where
    pub case_goes : (cs : Clauses) (c : e.Choice) → c ≡ e.chosen s env cs (more v none) → step w (wrap (e.layer_of (e.BeforeIn (Alts cs) env)) (Val v)) ≡ lift Ready e.tree_in (e.of_choice 0 (raise_of a_case_clause v) c)
    case_goes cs c h =
        give_does w (e.BeforeIn (Alts cs) env) v (e.of_choice 0 (raise_of a_case_clause v) (e.chosen (setting w) env cs (more v none))) refl
        ∙ ap (λ d. lift Ready e.tree_in (e.of_choice 0 (raise_of a_case_clause v) d)) (ap (λ z. e.chosen z env cs (more v none)) (sym same) ∙ sym h)

    pub then_goes : (ps : Patterns) (rest : Tree) (m : Matched) → m ≡ all_matched s ps v env → step w (wrap (e.layer_of (e.BeforeIn (Then ps rest) env)) (Val v)) ≡ lift Ready e.tree_in (of_match v (λ bs. e.Open bs rest) m)
    then_goes ps rest m h =
        give_does w (e.BeforeIn (Then ps rest) env) v (of_match v (λ bs. e.Open bs rest) (all_matched (setting w) ps v env)) refl
        ∙ ap (λ d. lift Ready e.tree_in (of_match v (λ bs. e.Open bs rest) d)) (ap (λ z. all_matched z ps v env) (sym same) ∙ sym h)

    pub last_goes : (ps : Patterns) (m : Matched) → m ≡ all_matched s ps v env → step w (wrap (e.layer_of (e.BeforeIn (Last ps) env)) (Val v)) ≡ lift Ready e.tree_in (of_match v (λ bs. e.Open [] (Val v)) m)
    last_goes ps m h =
        give_does w (e.BeforeIn (Last ps) env) v (of_match v (λ bs. e.Open [] (Val v)) (all_matched (setting w) ps v env)) refl
        ∙ ap (λ d. lift Ready e.tree_in (of_match v (λ bs. e.Open [] (Val v)) d)) (ap (λ z. all_matched z ps v env) (sym same) ∙ sym h)

module _ (w : World) (env : List Bound) (second : Tree) (v : Value) (o : Option Bool) (h : o ≡ truth_of v) where
  pub and_goes : step w (wrap (e.layer_of (e.BeforeIn (AndAlso second) env)) (Val v)) ≡ lift Ready e.tree_in (second_by true (e.Open env second) (e.Open [] (Val v)) v o)
  and_goes =
      give_does w (e.BeforeIn (AndAlso second) env) v (second_by true (e.Open env second) (e.Open [] (Val v)) v (truth_of v)) refl
      ∙ ap (λ p. lift Ready e.tree_in (second_by true (e.Open env second) (e.Open [] (Val v)) v p)) (sym h)

  pub or_goes : step w (wrap (e.layer_of (e.BeforeIn (OrElse second) env)) (Val v)) ≡ lift Ready e.tree_in (second_by false (e.Open env second) (e.Open [] (Val v)) v o)
  or_goes =
      give_does w (e.BeforeIn (OrElse second) env) v (second_by false (e.Open env second) (e.Open [] (Val v)) v (truth_of v)) refl
      ∙ ap (λ p. lift Ready e.tree_in (second_by false (e.Open env second) (e.Open [] (Val v)) v p)) (sym h)
