use Rattle.std.proofs.Common.{◌≡◌, List, map, sym, ap, ◌∙◌}
use Rattle.term_value.specs.Tree as t
use Rattle.term_value.specs.Read as read
use Rattle.code_tree.specs.Reading as laid
use Rattle.code_tree.specs.Reading.{tree_of}
use Rattle.code_layout.proofs.Same.{trees_of_reads, other_operation}
use Rattle.code_layout.proofs.operations.operation.Goals as goal

pub returns-in-Send : goal.returns-in-Send
returns-in-Send c = λ reads h. c.all.ensures ∙ ap (t.All t.Send) (ap laid.trees h ∙ trees_of_reads reads) ∙ ap (λ o. read.operation o reads) (sym c.in-Send.is)

pub returns-in_default : goal.returns-in_default
returns-in_default c = λ reads h.
    c.all-in_default.ensures ∙ ap (t.All (t.Table (t.Operate c.args.op))) (ap laid.trees h ∙ trees_of_reads reads) ∙ sym (other_operation c.args.op reads c.in_default.not-Send c.in_default.not-AndAlso c.in_default.not-OrElse)
