use Rattle.std.proofs.Common.{◌≡◌, drop}
use Rattle.term_value.specs.Rows.{one_mentions}
use Rattle.code_tree.specs.Reading.{trees_of}
use Rattle.code_layout.proofs.shapes.+mentions.Given as goal

abbrev pub invariant-one_mentions-loop-part : goal.invariant-one_mentions-loop-part
invariant-one_mentions-loop-part l = one_mentions l.variable (trees_of l.parts) ≡ one_mentions l.variable (trees_of (drop l.part-index l.parts))
