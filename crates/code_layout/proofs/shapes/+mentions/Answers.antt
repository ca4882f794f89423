use Rattle.std.proofs.Common.{ap, ◌∙◌}
use Rattle.term_value.specs.Rows.{one_mentions}
use Rattle.code_tree.specs.Reading.{trees_of}
use Rattle.code_layout.proofs.Shaped as by
use Rattle.code_layout.proofs.shapes.+mentions.Goals as goal

pub mentions-returns-in-All : goal.mentions-returns-in-All
mentions-returns-in-All t c = by.mentions-All c.args.variable c.args.tree.now c.in-All.field-0 c.in-All.parts _ c.in-All.is (c.one_mentions.ensures ∙ ap (λ us. one_mentions c.args.variable (trees_of us)) c.items.ensures)
