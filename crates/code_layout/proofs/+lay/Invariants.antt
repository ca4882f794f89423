use Rattle.std.proofs.Common.{◌≡◌, map, take}
use Rattle.std.specs.List.{flat_map}
use Rattle.term_value.specs.Read.{types}
use Rattle.code_tree.specs.Reading.{tree_of, pattern_of, segment_of, clause_of, line_of, qualifier_of}
use Rattle.code_layout.specs.Layout.{reading_of, expr_tree, pattern_tree, line_read, parts_of, read_parts, qualifier_read, Adds, letter_pieces, size_tree, piece_trees, piece_segment}
use Rattle.code_layout.specs.Readings.{alt_read, branch_read, qual_read, pieces_read}
use Rattle.code_layout.proofs.+lay.Given as goal

abbrev pub invariant-expressions::expressions-loop-expr : goal.invariant-expressions::expressions-loop-expr
invariant-expressions::expressions-loop-expr l = map tree_of l.trees.items ≡ map (expr_tree l.laying) (take l.expr-index l.exprs)

abbrev pub invariant-segments::bit_expression-loop-segment : goal.invariant-segments::bit_expression-loop-segment
invariant-segments::bit_expression-loop-segment l =
    (l.built.types.items ≡ types (pieces_read (reading_of l.laying) (take l.segment-index l.segments))) × (map tree_of l.built.parts.items ≡ flat_map piece_trees (pieces_read (reading_of l.laying) (take l.segment-index l.segments)))

abbrev pub invariant-segments::add_letters-loop-letter : goal.invariant-segments::add_letters-loop-letter
invariant-segments::add_letters-loop-letter l = Adds l.initial.built l.built (letter_pieces l.typed (size_tree l.laying l.written) (take l.letter-index l.letters))

abbrev pub invariant-segments::matched-loop-segment : goal.invariant-segments::matched-loop-segment
invariant-segments::matched-loop-segment l = map segment_of l.found.items ≡ map piece_segment (pieces_read (reading_of l.laying) (take l.segment-index l.segments))

abbrev pub invariant-patterns::patterns-loop-read : goal.invariant-patterns::patterns-loop-read
invariant-patterns::patterns-loop-read l = map pattern_of l.found.items ≡ map (pattern_tree l.laying) (take l.read-index l.reads)

abbrev pub invariant-patterns::from_right-loop-read : goal.invariant-patterns::from_right-loop-read
invariant-patterns::from_right-loop-read l = map pattern_of l.found.items ≡ map (pattern_tree l.laying) (take l.read-index l.reads)

abbrev pub invariant-clauses::tests-loop-expr : goal.invariant-clauses::tests-loop-expr
invariant-clauses::tests-loop-expr l = map tree_of l.tests.items ≡ map (expr_tree l.laying) (take l.expr-index l.exprs)

abbrev pub invariant-clauses::tests_of-loop-exprs : goal.invariant-clauses::tests_of-loop-exprs
invariant-clauses::tests_of-loop-exprs l = map (map tree_of) l.found.items ≡ map (map (expr_tree l.laying)) (take l.exprs-index l.reads)

abbrev pub invariant-clauses::body-loop-item : goal.invariant-clauses::body-loop-item
invariant-clauses::body-loop-item l = map line_of l.lines.items ≡ map (line_read l.laying) (take l.item-index l.items)

abbrev pub invariant-clauses::alternatives-loop-alt : goal.invariant-clauses::alternatives-loop-alt
invariant-clauses::alternatives-loop-alt l = map (λ k. parts_of (clause_of k)) l.clauses.items ≡ map (λ a. read_parts (alt_read (reading_of l.laying) a)) (take l.alt-index l.alts)

abbrev pub invariant-clauses::branches-loop-read : goal.invariant-clauses::branches-loop-read
invariant-clauses::branches-loop-read l = map (λ k. parts_of (clause_of k)) l.clauses.items ≡ map (λ b. read_parts (branch_read (reading_of l.laying) b)) (take l.read-index l.branches)

abbrev pub invariant-qualifiers::qualifiers-loop-qual : goal.invariant-qualifiers::qualifiers-loop-qual
invariant-qualifiers::qualifiers-loop-qual l = map qualifier_of l.found.items ≡ map (λ g. qualifier_read (qual_read (reading_of l.laying) g)) (take l.qual-index l.quals)

abbrev pub invariant-expressions::first-loop-expr : goal.invariant-expressions::first-loop-expr
invariant-expressions::first-loop-expr l = l.expr-index ≡ 0

abbrev pub invariant-patterns::first-loop-read : goal.invariant-patterns::first-loop-read
invariant-patterns::first-loop-read l = l.read-index ≡ 0
