use Rattle.std.proofs.Common.{◌≡◌, ◌∙◌, ℕ, List, length, map, sym, ap, arith}
use Rattle.std.proofs.lemmas.List.{length-map}
use Rattle.std.proofs.lemmas.Grind.{common_steps}
use Rattle.term_value.specs.Read.{Read}
use Rattle.code_tree.specs.Reading as laid
use Rattle.code_tree.specs.Reading.{tree_of}
use Rattle.code_layout.proofs.Same.{guard_same}
use Rattle.code_layout.proofs.clauses.guard_of_tests.Goals as goal

pub returns : goal.returns
returns c = λ readss h.
    ap laid.guard_of c.of-2.ensures
    ∙ guard_same readss (map (map tree_of) c.args.alternatives.items) h
    (λ e. let none : length c.args.alternatives.items ≡ 0 = sym (length-map c.args.alternatives.items (map tree_of)) ∙ ap length (h ∙ ap (map (map (λ (q : Read). q.tree))) e) in grind (arith, common_steps, c.if-is_empty.ensures, c.is_empty.ensures))
