-- What is next in a comprehension, at its rows, at its qualifiers and with the value of a part.
use Rattle.std.proofs.Common.{◌≡◌, ℕ, Bool, List, [], ◌∷◌, Option, ap, sym, ◌∙◌, subst}
use Rattle.term_value.specs.Value.{Value}
use Rattle.term_value.specs.Seen.{Seen}
use Rattle.term_value.specs.Result.{Limit, truth_of}
use Rattle.term_value.specs.Tree as t
use Rattle.term_value.specs.Rows.{rows_of}
use Rattle.term_value.specs.PutIn.{in_quals}
use Rattle.term_value.specs.Step.{World, Step, Ready, Goes, Falls, setting, lift, collect_by, generated_by, filtered_by, step}
use Rattle.term_layers.specs.Environments as e
use Rattle.code_tree.specs.Reading.{qualifiers_of}
use Rattle.code_tree.specs.declared.qualifier.Qualifier.{Qualifier}
use Rattle.code_tree.specs.declared.tree.Tree.{Tree}
use Rattle.code_match.specs.Binds.{bounds}
use Rattle.code_rows.specs.Gathering.{step_of}
use Rattle.code_rows.specs.Remaining.{IsBefore}
use Rattle.code_rows.specs.declared.gathered.Collecting.{Collecting}
use Rattle.code_rows.specs.declared.rows.RowFound.TheVariants as r
use Rattle.code_rows.proofs.Collects.{collects_by}
use Rattle.plain_moves.specs.Moving.{IsMove}
use Rattle.plain_moves.specs.declared.moves.Move.{Move}
use Rattle.plain_moves.proofs.Alike.{open_does}

module _ (w : World) (got : t.Got) (env : List t.Bound) (quals : t.Quals) (levels : e.LevelsUnder) where
  -- the comprehension at the rows of its innermost generator
  abbrev at_rows : List t.Row → t.Tree
  at_rows rows = t.Gather got t.turn (t.level rows (in_quals env quals) (e.levels_of levels))

  turned_to : (rows due : List t.Row) → rows ≡ due → step w (at_rows rows) ≡ lift Ready e.tree_in (e.turned_in got (e.level_under env due quals levels))
  turned_to rows due is =
      open_does w (e.Gathers got [] t.turn (e.level_under env rows quals levels)) (e.turned_in got (e.level_under env due quals levels)) (ap (λ rs. e.Does (e.turned_in got (e.level_under env rs quals levels))) is)

  module _ (rest before : List t.Row) where
    pub row_found : (found : List (ℕ × Seen (List Bool))) → IsBefore env (r.Found found) rest before
        → step w (at_rows before) ≡ Goes 1 0 (t.Gather got (in_quals (bounds found) quals) (t.level rest (in_quals env quals) (e.levels_of levels)))
    row_found found h =
        turned_to before (t.Found h.0 ∷ rest) h.1.1 ∙ ap (λ bs. Goes 1 0 (t.Gather got (in_quals bs quals) (t.level rest (in_quals env quals) (e.levels_of levels)))) (sym h.1.0)

    pub row_skipped : IsBefore env r.Skipped rest before → step w (at_rows before) ≡ Goes 1 0 (at_rows rest)
    row_skipped h = turned_to before (t.Skipped ∷ rest) h

    pub row_at_limit : IsBefore env r.Limit rest before → step w (at_rows before) ≡ Falls 1 Limit
    row_at_limit h = turned_to before (t.RowLimit ∷ []) h

    pub rows_ended : IsBefore env r.Ended rest before → step w (at_rows before) ≡ Goes 0 0 (t.Gather got t.turn (e.levels_of levels))
    rows_ended h = turned_to before [] h

module _ (w : World) (got : t.Got) (levels : t.Levels) (v : Value) where
  -- a row's value
  pub row_given : (c : Collecting) (more : t.Got) → step_of c more ≡ collect_by (λ g. g) got v → step w (t.Gather got (t.give (t.Val v)) levels) ≡ lift Ready (λ g. t.Gather g t.turn levels) (step_of c more)
  row_given c more is = collects_by (λ g. t.Gather g t.turn levels) got v ∙ ap (lift Ready (λ g. t.Gather g t.turn levels)) (sym is)

  -- the value of a generator's source
  pub source_given : (generator : t.Generator) (quals : t.Quals) (rows : Option (List t.Row)) → rows_of (setting w) generator v ≡ rows
      → step w (t.Gather got (t.from (t.Val v) generator quals) levels) ≡ generated_by (λ rs. t.Gather got t.turn (t.level rs quals levels)) v rows
  source_given generator quals rows is = ap (generated_by (λ rs. t.Gather got t.turn (t.level rs quals levels)) v) is

  -- the value of a filter
  pub test_given : (quals : t.Quals) (truth : Option Bool) → truth ≡ truth_of v
      → step w (t.Gather got (t.test (t.Val v) quals) levels) ≡ filtered_by (t.Gather got quals levels) (t.Gather got t.turn levels) v truth
  test_given quals truth is = ap (filtered_by (t.Gather got quals levels) (t.Gather got t.turn levels) v) (sym is)

-- the first qualifier, and those behind it in the same bindings
pub qualifier_first : (w : World) (got : t.Got) (env same : List (ℕ × Seen (List Bool))) (qs rest : List Qualifier) (q : Qualifier) (row : Tree) (levels : t.Levels) (move : Move) → qs ≡ q ∷ rest → same ≡ env
    → IsMove w (t.Gather got (in_quals (bounds same) (qualifiers_of (q ∷ rest) row)) levels) move → IsMove w (t.Gather got (in_quals (bounds env) (qualifiers_of qs row)) levels) move
qualifier_first w got env same qs rest q row levels move first is made =
    let Q : List Qualifier → Type 0 = λ ys. IsMove w (t.Gather got (in_quals (bounds env) (qualifiers_of ys row)) levels) move in
    let B : List (ℕ × Seen (List Bool)) → Type 0 = λ bs. IsMove w (t.Gather got (in_quals (bounds bs) (qualifiers_of (q ∷ rest) row)) levels) move in
    subst Q (sym first) (subst B is made)
