use Rattle.std.proofs.Common.{List, map, sym, ap, ◌∙◌}
use Rattle.std.proofs.lemmas.List.{length-map}
use Rattle.erl_syntax.specs.declared.expr.Op.TheVariants as op
use Rattle.term_value.specs.Tree as t
use Rattle.code_tree.specs.Reading as laid
use Rattle.code_tree.specs.Reading.{tree_of}
use Rattle.code_layout.proofs.Same.{not_and}
use Rattle.code_layout.proofs.operations.and_also.Goals as goal

pub returns-in-Err : goal.returns-in-Err
returns-in-Err c = λ reads h.
    c.all.ensures ∙ ap (λ us. t.All (t.Table (t.Operate op.AndAlso)) (laid.trees (map tree_of us))) c.in-Err.ensures.0 ∙ not_and (map tree_of c.args.parts.items) reads h (λ e. c.in-Err.ensures.1 (sym (length-map c.args.parts.items tree_of) ∙ e))
