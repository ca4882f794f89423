use Rattle.std.proofs.Common.{◌≡◌, List, map, sym, ap, ◌∙◌, [], ◌++◌, ◌∷◌}
use Rattle.std.specs.Prelude.{option_map}
use Rattle.std.proofs.lemmas.List.{map-append}
use Rattle.term_value.specs.Tree as t
use Rattle.code_tree.specs.Reading as laid
use Rattle.code_tree.specs.Reading.{tree_of}
use Rattle.code_layout.proofs.Same.{list_without, list_on}
use Rattle.code_layout.proofs.operations.list.Goals as goal

pub returns-in-None : goal.returns-in-None
returns-in-None c = λ reads tails h k. c.all.ensures ∙ list_without reads tails (map tree_of c.args.items.items) h (ap (option_map tree_of) (sym c.in-None.is) ∙ k)

pub returns-in_ok-push-in-Some : goal.returns-in_ok-push-in-Some
returns-in_ok-push-in-Some c = λ reads tails h k.
    c.all-in-Some.ensures ∙ ap (λ us. t.All (t.Table t.MakeListOn) (laid.trees us)) (ap (map tree_of) c.in_ok-push-in-Some.ensures.items ∙ map-append tree_of c.args.items.items (c.in-Some.last ∷ []))
    ∙ list_on reads tails (map tree_of c.args.items.items) (tree_of c.in-Some.last) h (ap (option_map tree_of) (sym c.in-Some.is) ∙ k)
