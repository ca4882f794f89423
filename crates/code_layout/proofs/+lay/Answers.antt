use Rattle.std.proofs.Common.{◌≡◌, ℕ, ◌+◌, ◌<◌, ◌≤◌, List, [], ◌∷◌, ◌++◌, map, length, get_or, take, reverse, Option, Some, None, arith, refl, sym, ap, ◌∙◌, subst, rules}
use Rattle.std.specs.Prelude.{option_map, is_some}
use Rattle.std.specs.List.{flat_map}
use Rattle.std.proofs.lemmas.List.{append_assoc, append-nil, take_all, length-map, nil_from_length, get_or_default}
use Rattle.std.proofs.lemmas.Result.{IfOk-weaker}
use Rattle.std.proofs.lemmas.Int.{to_z-of_z}
use mir.Val.{SFits}
use mir.Syntax.{w128}
use Rattle.bit_store.specs.Stores.{itself}
use Rattle.erl_syntax.specs.Typing.{type_by}
use Rattle.erl_syntax.specs.declared.clause.Alt.{out-Alt}
use Rattle.erl_syntax.specs.declared.clause.Branch.{out-Branch}
use Rattle.term_value.specs.Calls.{called}
use Rattle.term_value.specs.Value.{VInt, VList}
use Rattle.term_value.specs.Seen.{SAtom, SInt, meaning}
use Rattle.term_value.specs.BuiltIns.{integers}
use Rattle.term_value.specs.Tree as tree
use Rattle.term_value.specs.Read as read
use Rattle.term_value.specs.Rows as rows
use Rattle.term_value.specs.ReadTrees as text
use Rattle.term_layers.proofs.Readings as form
use Rattle.code_tree.specs.Reading as laid
use Rattle.code_tree.specs.Reading.{tree_of, pattern_of, segment_of, clause_of, line_of, qualifier_of, nothing_of, form_of}
use Rattle.code_tree.proofs.Equations.{tree_of-Value, tree_of-Variable, tree_of-Case, tree_of-If, tree_of-Receive, tree_of-Comprehension, pattern_of-Anything, pattern_of-Variable, pattern_of-Value, pattern_of-Tuple, pattern_of-Bits, pattern_of-Same, generator_of-InList, generator_of-InBits, qualifier_of-Generates, qualifier_of-Filters, clause_of-parts, line_of-parts}
use Rattle.code_layout.specs.Layout.{reading_of, expr_tree, pattern_tree, line_read, parts_of, read_parts, qualifier_read, Adds, letter_pieces, size_tree, piece_trees, piece_segment, first_by, first_pattern_by, size_by}
use Rattle.code_layout.specs.Readings.{expr_read, alt_read, branch_read, qual_read, segment_read, pieces_read}
use Rattle.code_layout.proofs.Forms as by
use Rattle.code_layout.proofs.Loops.{grown, grown_all, first_is}
use Rattle.code_layout.proofs.Layers.{target_read}
use Rattle.code_layout.proofs.Same as same
use Rattle.code_layout.proofs.Pieces as segs
use Rattle.code_layout.proofs.+lay.Goals as goal

pub expressions::expression-returns-in-Var : goal.expressions::expression-returns-in-Var
expressions::expression-returns-in-Var t c = by.tree-Var (reading_of c.args.laying.now) c.args.expr.now c.in-Var.at c.in-Var.name _ c.in-Var.is (tree_of-Variable c.number.result ∙ ap tree.Var c.number.ensures)

pub expressions::expression-returns-in-Wild : goal.expressions::expression-returns-in-Wild
expressions::expression-returns-in-Wild t c = by.tree-Wild (reading_of c.args.laying.now) c.args.expr.now c.in-Wild.at _ c.in-Wild.is (tree_of-Value c.atom.result ∙ ap (λ s. tree.Val (meaning itself s)) c.atom.ensures)

pub expressions::expression-returns-in-Int : goal.expressions::expression-returns-in-Int
expressions::expression-returns-in-Int t c =
    let fits : SFits w128 c.in-Int.value = search rules in
    by.tree-Int (reading_of c.args.laying.now) c.args.expr.now c.in-Int.at c.in-Int.value _ c.in-Int.is (tree_of-Value c.integer.result ∙ ap (λ s. tree.Val (meaning itself s)) c.integer.ensures ∙ ap (λ z. tree.Val (VInt z)) (to_z-of_z w128 c.in-Int.value fits))

pub expressions::expression-returns-in-Char : goal.expressions::expression-returns-in-Char
expressions::expression-returns-in-Char t c =
    let fits : SFits w128 c.from.result = search rules in
    by.tree-Char (reading_of c.args.laying.now) c.args.expr.now c.in-Char.at c.in-Char.value _ c.in-Char.is (tree_of-Value c.integer-in-Char.result ∙ ap (λ s. tree.Val (meaning itself s)) c.integer-in-Char.ensures ∙ ap (λ z. tree.Val (VInt z)) (to_z-of_z w128 c.from.result fits ∙ c.from.ensures))

pub expressions::expression-returns-in-Atom : goal.expressions::expression-returns-in-Atom
expressions::expression-returns-in-Atom t c = by.tree-Atom (reading_of c.args.laying.now) c.args.expr.now c.in-Atom.at c.in-Atom.number _ c.in-Atom.is (tree_of-Value c.atom-in-Atom.result ∙ ap (λ s. tree.Val (meaning itself s)) c.atom-in-Atom.ensures)

pub expressions::expression-returns-in-ModuleName : goal.expressions::expression-returns-in-ModuleName
expressions::expression-returns-in-ModuleName t c = by.tree-ModuleName (reading_of c.args.laying.now) c.args.expr.now c.in-ModuleName.at _ c.in-ModuleName.is (tree_of-Value c.atom-in-ModuleName.result ∙ ap (λ s. tree.Val (meaning itself s)) (c.atom-in-ModuleName.ensures ∙ ap SAtom c.own_name.ensures))

pub expressions::expression-returns-in-Str : goal.expressions::expression-returns-in-Str
expressions::expression-returns-in-Str t c = IfOk-weaker c.text.result _ _ (λ u h. by.tree-Str (reading_of c.args.laying.now) c.args.expr.now c.in-Str.at c.in-Str.chars _ c.in-Str.is (h ∙ ap (λ zs. tree.Val (VList (integers zs))) c.items.ensures)) c.text.ensures

pub expressions::expression-returns-in-Tuple : goal.expressions::expression-returns-in-Tuple
expressions::expression-returns-in-Tuple t c = IfOk-weaker c.strict.result _ _ (λ u h. by.tree-Tuple (reading_of c.args.laying.now) c.args.expr.now c.in-Tuple.at c.in-Tuple.items _ c.in-Tuple.is (h ∙ ap (λ zs. tree.All (tree.Table tree.MakeTuple) (read.trees (map (expr_read (reading_of c.args.laying.now)) zs))) c.items-in-Tuple.ensures)) c.strict.ensures

pub expressions::expression-returns-in_ok-last-in-List : goal.expressions::expression-returns-in_ok-last-in-List
expressions::expression-returns-in_ok-last-in-List t c = IfOk-weaker c.list.result _ _ (λ u h. by.tree-List (reading_of c.args.laying.now) c.args.expr.now c.in-List.at c.in-List.items c.in-List.tail _ c.in-List.is (h (map (expr_read (reading_of c.args.laying.now)) c.in-List.items) (map (expr_read (reading_of c.args.laying.now)) c.in-List.tail) (c.in_ok-trees-in-List.ensures ∙ ap (map (expr_tree c.args.laying.now)) c.items-in-List.ensures ∙ same.read_trees (reading_of c.args.laying.now) c.in-List.items) (c.in_ok-last-in-List.ensures ∙ ap (first_by (reading_of c.args.laying.now)) c.items-in-List-2.ensures ∙ same.first_read (reading_of c.args.laying.now) c.in-List.tail))) c.list.ensures

pub expressions::expression-returns-in-Bits : goal.expressions::expression-returns-in-Bits
expressions::expression-returns-in-Bits t c = IfOk-weaker c.bit_expression.result _ _ (λ u h. by.tree-Bits (reading_of c.args.laying.now) c.args.expr.now c.in-Bits.at c.in-Bits.segments _ c.in-Bits.is (h ∙ ap (λ zs. read.built_from (pieces_read (reading_of c.args.laying.now) zs)) c.items-in-Bits.ensures ∙ ap read.built_from (same.pieces_mapped (reading_of c.args.laying.now) c.in-Bits.segments))) c.bit_expression.ensures

pub expressions::expression-returns-in_ok-found-in-ListFor : goal.expressions::expression-returns-in_ok-found-in-ListFor
expressions::expression-returns-in_ok-found-in-ListFor t c = IfOk-weaker c.comprehension.result _ _ (λ u h. by.tree-ListFor (reading_of c.args.laying.now) c.args.expr.now c.in-ListFor.at c.in-ListFor.row c.in-ListFor.quals _ c.in-ListFor.is (h ∙ same.gathered (reading_of c.args.laying.now) (tree.Items []) _ _ c.in-ListFor.quals c.in-ListFor.row (c.in_ok-found-in-ListFor.ensures ∙ ap (map (λ g. qualifier_read (qual_read (reading_of c.args.laying.now) g))) c.items-in-ListFor-2.ensures) (c.in_ok-tree-in-ListFor.ensures ∙ ap (λ zs. read.only (map (expr_read (reading_of c.args.laying.now)) zs)) c.items-in-ListFor.ensures))) c.comprehension.ensures

pub expressions::expression-returns-in_ok-found-in-BitsFor : goal.expressions::expression-returns-in_ok-found-in-BitsFor
expressions::expression-returns-in_ok-found-in-BitsFor t c = IfOk-weaker c.comprehension-in-BitsFor.result _ _ (λ u h. by.tree-BitsFor (reading_of c.args.laying.now) c.args.expr.now c.in-BitsFor.at c.in-BitsFor.row c.in-BitsFor.quals _ c.in-BitsFor.is (h ∙ same.gathered (reading_of c.args.laying.now) (tree.Bits []) _ _ c.in-BitsFor.quals c.in-BitsFor.row (c.in_ok-found-in-BitsFor.ensures ∙ ap (map (λ g. qualifier_read (qual_read (reading_of c.args.laying.now) g))) c.items-in-BitsFor-2.ensures) (c.in_ok-tree-in-BitsFor.ensures ∙ ap (λ zs. read.only (map (expr_read (reading_of c.args.laying.now)) zs)) c.items-in-BitsFor.ensures))) c.comprehension-in-BitsFor.ensures

pub expressions::expression-returns-in-Call : goal.expressions::expression-returns-in-Call
expressions::expression-returns-in-Call t c = IfOk-weaker c.call.result _ _ (λ u h. by.tree-Call (reading_of c.args.laying.now) c.args.expr.now c.in-Call.at c.in-Call.module c.in-Call.name c.in-Call.args _ c.in-Call.is (h ∙ ap (λ zs. read.call (reading_of c.args.laying.now) (map (expr_read (reading_of c.args.laying.now)) zs) c.in-Call.name (map (expr_read (reading_of c.args.laying.now)) c.items-in-Call.result.now)) c.items-in-Call-2.ensures ∙ ap (λ zs. read.call (reading_of c.args.laying.now) (map (expr_read (reading_of c.args.laying.now)) c.in-Call.module) c.in-Call.name (map (expr_read (reading_of c.args.laying.now)) zs)) c.items-in-Call.ensures)) c.call.ensures

pub expressions::expression-returns-in_ok-clauses-in-Case : goal.expressions::expression-returns-in_ok-clauses-in-Case
expressions::expression-returns-in_ok-clauses-in-Case t c = IfOk-weaker c.case.result _ _ (λ u h. by.tree-Case (reading_of c.args.laying.now) c.args.expr.now c.in-Case.at c.in-Case.value c.in-Case.alts _ c.in-Case.is (h ∙ ap (λ z. tree.First z (tree.Alts (laid.clauses_of c.in_ok-clauses-in-Case.clauses))) (c.in_ok-tree-in-Case.ensures ∙ ap (λ zs. read.only (map (expr_read (reading_of c.args.laying.now)) zs)) c.items-in-Case.ensures) ∙ ap (λ z. tree.First (read.only (map (expr_read (reading_of c.args.laying.now)) c.in-Case.value)) (tree.Alts z)) (c.in_ok-clauses-in-Case.ensures ∙ ap (λ zs. read.clauses (map (alt_read (reading_of c.args.laying.now)) zs)) c.items-in-Case-2.ensures))) c.case.ensures

pub expressions::expression-returns-in-Receive : goal.expressions::expression-returns-in-Receive
expressions::expression-returns-in-Receive t c = IfOk-weaker c.receive.result _ _ (λ u h. by.tree-Receive (reading_of c.args.laying.now) c.args.expr.now c.in-Receive.at c.in-Receive.alts _ c.in-Receive.is (h ∙ ap (λ zs. tree.Receive (read.clauses (map (alt_read (reading_of c.args.laying.now)) zs))) c.items-in-Receive.ensures)) c.receive.ensures

pub expressions::expression-returns-in-If : goal.expressions::expression-returns-in-If
expressions::expression-returns-in-If t c = IfOk-weaker c.choice.result _ _ (λ u h. by.tree-If (reading_of c.args.laying.now) c.args.expr.now c.in-If.at c.in-If.branches _ c.in-If.is (h ∙ ap (λ zs. tree.Choose (read.clauses (map (branch_read (reading_of c.args.laying.now)) zs))) c.items-in-If.ensures)) c.choice.ensures

pub expressions::expression-returns-in-Unary : goal.expressions::expression-returns-in-Unary
expressions::expression-returns-in-Unary t c = IfOk-weaker c.strict-in-Unary.result _ _ (λ u h. by.tree-Unary (reading_of c.args.laying.now) c.args.expr.now c.in-Unary.at c.in-Unary.op c.in-Unary.part _ c.in-Unary.is (h ∙ ap (λ zs. tree.All (tree.Table (tree.Prefixed c.in-Unary.op)) (read.trees (map (expr_read (reading_of c.args.laying.now)) zs))) c.items-in-Unary.ensures)) c.strict-in-Unary.ensures

pub expressions::expression-returns-in-Binary : goal.expressions::expression-returns-in-Binary
expressions::expression-returns-in-Binary t c = IfOk-weaker c.binary.result _ _ (λ u h. by.tree-Binary (reading_of c.args.laying.now) c.args.expr.now c.in-Binary.at c.in-Binary.op c.in-Binary.parts _ c.in-Binary.is (h ∙ ap (λ zs. read.operation c.in-Binary.op (map (expr_read (reading_of c.args.laying.now)) zs)) c.items-in-Binary.ensures)) c.binary.ensures

pub expressions::strict-returns : goal.expressions::strict-returns
expressions::strict-returns t c = c.all.ensures ∙ ap (λ zs. tree.All (form_of c.args.form) (laid.trees zs)) c.in_ok-trees.ensures ∙ ap (tree.All (form_of c.args.form)) (same.trees_same (reading_of c.args.laying.now) c.args.parts.now)

pub expressions::call-returns : goal.expressions::call-returns
expressions::call-returns t c = IfOk-weaker c.strict.result _ _ (λ u h. h ∙ ap (λ f. tree.All f (read.trees (map (expr_read (reading_of c.args.laying.now)) c.args.args.now))) c.in_ok-form.ensures ∙ ap (λ n. tree.All (called (read.called_module (reading_of c.args.laying.now) (map (expr_read (reading_of c.args.laying.now)) c.args.home.now)) ((reading_of c.args.laying.now).names c.args.name) n ((reading_of c.args.laying.now).place c.args.name n)) (read.trees (map (expr_read (reading_of c.args.laying.now)) c.args.args.now))) (sym (length-map c.args.args.now (expr_read (reading_of c.args.laying.now))))) c.strict.ensures

pub expressions::receive-returns : goal.expressions::receive-returns
expressions::receive-returns t c = tree_of-Receive _ ∙ ap tree.Receive c.in_ok-clauses.ensures

pub expressions::choice-returns : goal.expressions::choice-returns
expressions::choice-returns t c = tree_of-If _ ∙ ap tree.Choose c.in_ok-clauses.ensures

pub expressions::binary-returns : goal.expressions::binary-returns
expressions::binary-returns t c = IfOk-weaker c.operation.result _ _ (λ u h. h (map (expr_read (reading_of c.args.laying.now)) c.args.parts.now) (c.in_ok-trees.ensures ∙ same.read_trees (reading_of c.args.laying.now) c.args.parts.now)) c.operation.ensures

pub expressions::expressions-loop-expr-preserved : goal.expressions::expressions-loop-expr-preserved
expressions::expressions-loop-expr-preserved t c = grown tree_of (expr_tree c.args.laying.now) c.args.exprs.now c.loop-expr.expr-index c.expr-item.result c.loop-expr.trees.items _ c.in_ok-tree.tree (omega arith) c.expr-item.is c.in_ok-push.ensures.items c.in_ok-tree.ensures c.loop-expr.invariant

pub expressions::expressions-returns : goal.expressions::expressions-returns
expressions::expressions-returns t c = grown_all tree_of (expr_tree c.args.laying.now) c.args.exprs.now c.loop-expr.expr-index c.loop-expr.trees.items (omega arith) c.loop-expr.invariant

pub segments::bit_expression-loop-segment-preserved : goal.segments::bit_expression-loop-segment-preserved
segments::bit_expression-loop-segment-preserved t c = segs.built_more (reading_of c.args.laying.now) c.args.segments.now c.loop-segment.segment-index c.segment-item.result c.loop-segment.built c.add_segment.new.built (omega arith) c.segment-item.is c.in_ok-add_segment.ensures c.loop-segment.invariant

pub segments::bit_expression-returns : goal.segments::bit_expression-returns
segments::bit_expression-returns t c = segs.built_all (reading_of c.args.laying.now) c.args.segments.now c.loop-segment.segment-index c.loop-segment.built _ _ (omega arith) c.loop-segment.invariant c.of.ensures c.all.ensures

pub segments::add_segment-returns-in-Some : goal.segments::add_segment-returns-in-Some
segments::add_segment-returns-in-Some t c = IfOk-weaker c.add_letters.result _ _ (λ u h. segs.adds_same _ _ _ _ (ap (λ ty. letter_pieces ty (size_tree c.args.laying.now c.args.segment.now.size) c.in-Some.letters.now) c.in_ok-typed.ensures ∙ sym (segs.string_segment (reading_of c.args.laying.now) c.args.segment.now c.in-Some.letters.now c.in-Some.ensures)) h) c.add_letters.ensures

pub segments::add_segment-returns-in_ok-size-in-None : goal.segments::add_segment-returns-in_ok-size-in-None
segments::add_segment-returns-in_ok-size-in-None t c = IfOk-weaker c.push.result _ _ (λ u h. segs.adds_same _ _ _ _ (sym (segs.plain_segment (reading_of c.args.laying.now) c.args.segment.now c.in-None.ensures)) (h _ c.in_ok-typed.ensures c.in_ok-value-in-None.ensures c.in_ok-size-in-None.ensures)) c.push.ensures

pub segments::add_letters-loop-letter-init : goal.segments::add_letters-loop-letter-init
segments::add_letters-loop-letter-init t c = segs.adds_none c.args.built.now

pub segments::add_letters-loop-letter-preserved : goal.segments::add_letters-loop-letter-preserved
segments::add_letters-loop-letter-preserved t c =
    let inside : c.loop-letter.letter-index < length c.args.letters.now = omega arith in
    let fits : SFits w128 c.from.result = search rules in
    segs.adds_same _ _ _ _ (sym (segs.letters_more c.args.typed (size_tree c.args.laying.now c.args.written.now) c.args.letters.now c.loop-letter.letter-index (get_or c.args.letters.now c.loop-letter.letter-index 0) inside (get_or_default c.args.letters.now c.loop-letter.letter-index _ _ inside)))
    (segs.adds_more c.args.built.now c.loop-letter.built c.push.new.self _ _ c.loop-letter.invariant (c.in_ok-push.ensures _ refl (tree_of-Value c.integer.result ∙ ap (λ s. tree.Val (meaning itself s)) c.integer.ensures ∙ ap (λ z. tree.Val (VInt z)) (to_z-of_z w128 c.from.result fits ∙ c.from.ensures)) c.in_ok-size.ensures))

pub segments::add_letters-returns : goal.segments::add_letters-returns
segments::add_letters-returns t c = segs.adds_same _ _ _ _ (ap (letter_pieces c.args.typed (size_tree c.args.laying.now c.args.written.now)) (take_all c.loop-letter.letter-index c.args.letters.now (omega arith))) c.loop-letter.invariant

pub segments::matched-loop-segment-preserved : goal.segments::matched-loop-segment-preserved
segments::matched-loop-segment-preserved t c = segs.matched_on (reading_of c.args.laying.now) c.args.segments.now c.loop-segment.segment-index c.segment-item.result c.loop-segment.found.items c.add_matched.new.found.items (omega arith) c.segment-item.is c.in_ok-add_matched.ensures c.loop-segment.invariant

pub segments::matched-returns : goal.segments::matched-returns
segments::matched-returns t c = c.loop-segment.invariant ∙ ap (λ ss. map piece_segment (pieces_read (reading_of c.args.laying.now) ss)) (take_all c.loop-segment.segment-index c.args.segments.now (omega arith))

pub segments::add_matched-returns-in-Some : goal.segments::add_matched-returns-in-Some
segments::add_matched-returns-in-Some t c = IfOk-weaker c.matched_letters.result _ _ (λ u h. h ∙ ap (λ ps. map segment_of c.args.found.now.items ++ map piece_segment ps) (ap (λ ty. letter_pieces ty (option_map tree_of c.in_ok-size.size) c.in-Some.letters.now) c.in_ok-typed.ensures ∙ ap (λ o. letter_pieces (type_by (is_some c.args.segment.now.size) c.args.segment.now.specs) o c.in-Some.letters.now) c.in_ok-size.ensures ∙ sym (segs.string_segment (reading_of c.args.laying.now) c.args.segment.now c.in-Some.letters.now c.in-Some.ensures))) c.matched_letters.ensures

pub patterns::patterns-loop-read-preserved : goal.patterns::patterns-loop-read-preserved
patterns::patterns-loop-read-preserved t c = grown pattern_of (pattern_tree c.args.laying.now) c.args.reads.now c.loop-read.read-index c.read-item.result c.loop-read.found.items _ c.in_ok-pattern.pattern (omega arith) c.read-item.is c.in_ok-push.ensures.items c.in_ok-pattern.ensures c.loop-read.invariant

pub patterns::pattern-returns-in-Var : goal.patterns::pattern-returns-in-Var
patterns::pattern-returns-in-Var t c = by.pattern-Var (reading_of c.args.laying.now) c.args.read.now c.in-Var.at c.in-Var.name _ c.in-Var.is (pattern_of-Variable c.number.result ∙ ap tree.PVar c.number.ensures)

pub patterns::pattern-returns-in-Wild : goal.patterns::pattern-returns-in-Wild
patterns::pattern-returns-in-Wild t c = by.pattern-Wild (reading_of c.args.laying.now) c.args.read.now c.in-Wild.at _ c.in-Wild.is pattern_of-Anything

pub patterns::pattern-returns-in-Int : goal.patterns::pattern-returns-in-Int
patterns::pattern-returns-in-Int t c =
    let fits : SFits w128 c.in-Int.value = search rules in
    by.pattern-Int (reading_of c.args.laying.now) c.args.read.now c.in-Int.at c.in-Int.value _ c.in-Int.is (pattern_of-Value c.integer.result ∙ ap (λ s. tree.PVal (meaning itself s)) c.integer.ensures ∙ ap (λ z. tree.PVal (VInt z)) (to_z-of_z w128 c.in-Int.value fits))

pub patterns::pattern-returns-in-Char : goal.patterns::pattern-returns-in-Char
patterns::pattern-returns-in-Char t c =
    let fits : SFits w128 c.from.result = search rules in
    by.pattern-Char (reading_of c.args.laying.now) c.args.read.now c.in-Char.at c.in-Char.value _ c.in-Char.is (pattern_of-Value c.integer-in-Char.result ∙ ap (λ s. tree.PVal (meaning itself s)) c.integer-in-Char.ensures ∙ ap (λ z. tree.PVal (VInt z)) (to_z-of_z w128 c.from.result fits ∙ c.from.ensures))

pub patterns::pattern-returns-in-Atom : goal.patterns::pattern-returns-in-Atom
patterns::pattern-returns-in-Atom t c = by.pattern-Atom (reading_of c.args.laying.now) c.args.read.now c.in-Atom.at c.in-Atom.number _ c.in-Atom.is (pattern_of-Value c.atom.result ∙ ap (λ s. tree.PVal (meaning itself s)) c.atom.ensures)

pub patterns::pattern-returns-in-Str : goal.patterns::pattern-returns-in-Str
patterns::pattern-returns-in-Str t c = IfOk-weaker c.text.result _ _ (λ u h. by.pattern-Str (reading_of c.args.laying.now) c.args.read.now c.in-Str.at c.in-Str.chars _ c.in-Str.is (h ∙ ap (λ zs. tree.PVal (VList (integers zs))) c.items.ensures)) c.text.ensures

pub patterns::pattern-returns-in-Tuple : goal.patterns::pattern-returns-in-Tuple
patterns::pattern-returns-in-Tuple t c = IfOk-weaker c.tuple.result _ _ (λ u h. by.pattern-Tuple (reading_of c.args.laying.now) c.args.read.now c.in-Tuple.at c.in-Tuple.items _ c.in-Tuple.is (h ∙ ap (λ zs. tree.PTuple (read.patterns (map (pattern_tree c.args.laying.now) zs))) c.items-in-Tuple.ensures)) c.tuple.ensures

pub patterns::pattern-returns-in_ok-last-in-List : goal.patterns::pattern-returns-in_ok-last-in-List
patterns::pattern-returns-in_ok-last-in-List t c = IfOk-weaker c.list.result _ _ (λ u h. by.pattern-List (reading_of c.args.laying.now) c.args.read.now c.in-List.at c.in-List.items c.in-List.tail _ c.in-List.is (h (map (pattern_tree c.args.laying.now) c.in-List.items) (map (pattern_tree c.args.laying.now) c.in-List.tail) (c.in_ok-found-in-List.ensures ∙ ap (map (pattern_tree c.args.laying.now)) c.items-in-List.ensures) (c.in_ok-last-in-List.ensures ∙ ap (first_pattern_by (reading_of c.args.laying.now)) c.items-in-List-2.ensures ∙ same.first_pattern_read (reading_of c.args.laying.now) c.in-List.tail))) c.list.ensures

pub patterns::pattern-returns-in-Bits : goal.patterns::pattern-returns-in-Bits
patterns::pattern-returns-in-Bits t c = IfOk-weaker c.bits.result _ _ (λ u h. by.pattern-Bits (reading_of c.args.laying.now) c.args.read.now c.in-Bits.at c.in-Bits.segments _ c.in-Bits.is (h ∙ ap (λ zs. tree.PBits (read.segments (pieces_read (reading_of c.args.laying.now) zs))) c.items-in-Bits.ensures ∙ ap (λ ps. tree.PBits (read.segments ps)) (same.pieces_mapped (reading_of c.args.laying.now) c.in-Bits.segments))) c.bits.ensures

pub patterns::pattern-returns-in-Same : goal.patterns::pattern-returns-in-Same
patterns::pattern-returns-in-Same t c = IfOk-weaker c.same.result _ _ (λ u h. by.pattern-Same (reading_of c.args.laying.now) c.args.read.now c.in-Same.at c.in-Same.patterns _ c.in-Same.is (h ∙ ap (λ zs. tree.PSame (read.patterns (map (pattern_tree c.args.laying.now) zs))) c.items-in-Same.ensures)) c.same.ensures

pub patterns::tuple-returns : goal.patterns::tuple-returns
patterns::tuple-returns t c = pattern_of-Tuple _ ∙ ap (λ zs. tree.PTuple (laid.patterns zs)) c.in_ok-items.ensures ∙ ap tree.PTuple (same.patterns_same (map (pattern_tree c.args.laying.now) c.args.items.now))

pub patterns::same-returns : goal.patterns::same-returns
patterns::same-returns t c = pattern_of-Same _ ∙ ap (λ zs. tree.PSame (laid.patterns zs)) c.in_ok-patterns.ensures ∙ ap tree.PSame (same.patterns_same (map (pattern_tree c.args.laying.now) c.args.reads.now))

pub patterns::bits-returns : goal.patterns::bits-returns
patterns::bits-returns t c = pattern_of-Bits _ ∙ ap (λ zs. tree.PBits (laid.segments (map segment_of zs))) c.of.ensures ∙ ap (λ zs. tree.PBits (laid.segments zs)) c.in_ok-segments.ensures ∙ ap tree.PBits (same.segments_same (pieces_read (reading_of c.args.laying.now) c.args.segments.now))

pub clauses::line-returns : goal.clauses::line-returns
clauses::line-returns t c = line_of-parts _ ∙ same.line_is (reading_of c.args.laying.now) c.args.item.now _ _ (c.in_ok-patterns.ensures ∙ ap (λ zs. reverse (map (pattern_tree c.args.laying.now) zs)) c.items.ensures) c.in_ok-value.ensures

pub clauses::body-loop-item-preserved : goal.clauses::body-loop-item-preserved
clauses::body-loop-item-preserved t c = grown line_of (line_read c.args.laying.now) c.args.items.now c.loop-item.item-index c.item-item.result c.loop-item.lines.items _ c.in_ok-line.line (omega arith) c.item-item.is c.in_ok-push.ensures.items c.in_ok-line.ensures c.loop-item.invariant

pub clauses::alternative-returns : goal.clauses::alternative-returns
clauses::alternative-returns t c =
    c.clause.ensures
    ∙ same.parts_are _ _ _ _ _ _ (ap (λ ps. laid.patterns (map pattern_of ps)) (c.of.ensures ∙ c.in_ok-push.ensures.items ∙ ap (λ zs. zs ++ c.in_ok-pattern.pattern ∷ []) c.new-patterns.ensures.items) ∙ ap (λ z. tree.pattern_and z tree.no_pattern) c.in_ok-pattern.ensures) c.in_ok-guard.ensures
    (same.body_lines (reading_of c.args.laying.now) (out-Alt c.args.alt.now).body _ (c.in_ok-body.ensures ∙ ap (map (line_read c.args.laying.now)) c.items.ensures))
    ∙ sym (same.alt_parts (reading_of c.args.laying.now) c.args.alt.now)

pub clauses::branch-returns : goal.clauses::branch-returns
clauses::branch-returns t c =
    c.clause.ensures
    ∙ same.parts_are _ _ _ _ _ _ (ap (λ ps. laid.patterns (map pattern_of ps)) (c.of-patterns.ensures ∙ c.new.ensures.items)) c.in_ok-guard.ensures
    (same.body_lines (reading_of c.args.laying.now) (out-Branch c.args.read.now).body _ (c.in_ok-body.ensures ∙ ap (map (line_read c.args.laying.now)) c.items.ensures))
    ∙ sym (same.branch_parts (reading_of c.args.laying.now) c.args.read.now)

pub clauses::guard-returns : goal.clauses::guard-returns
clauses::guard-returns t c = IfOk-weaker c.guard_of_tests.result _ _ (λ u h. h (map (map (expr_read (reading_of c.args.laying.now))) c.args.read.now.alternatives) (c.in_ok-alternatives.ensures ∙ same.tests_read (reading_of c.args.laying.now) c.args.read.now.alternatives) ∙ sym (form.guard_tree-parts (reading_of c.args.laying.now) c.args.read.now)) c.guard_of_tests.ensures

pub clauses::alternatives-loop-alt-preserved : goal.clauses::alternatives-loop-alt-preserved
clauses::alternatives-loop-alt-preserved t c = grown (λ k. parts_of (clause_of k)) (λ a. read_parts (alt_read (reading_of c.args.laying.now) a)) c.args.alts.now c.loop-alt.alt-index c.alt-item.result c.loop-alt.clauses.items _ c.in_ok-clause.clause (omega arith) c.alt-item.is c.in_ok-push.ensures.items c.in_ok-clause.ensures c.loop-alt.invariant

pub qualifiers::qualifiers-loop-qual-preserved : goal.qualifiers::qualifiers-loop-qual-preserved
qualifiers::qualifiers-loop-qual-preserved t c = grown qualifier_of (λ g. qualifier_read (qual_read (reading_of c.args.laying.now) g)) c.args.quals.now c.loop-qual.qual-index c.qual-item.result c.loop-qual.found.items _ c.in_ok-qualifier.qualifier (omega arith) c.qual-item.is c.in_ok-push.ensures.items c.in_ok-qualifier.ensures c.loop-qual.invariant

pub clauses::alternatives-returns : goal.clauses::alternatives-returns
clauses::alternatives-returns t c =
    ap laid.clauses_of c.of.ensures
    ∙ same.clauses_same (map clause_of c.loop-alt.clauses.items) (map (alt_read (reading_of c.args.laying.now)) c.args.alts.now)
    (sym (same.mapped clause_of parts_of c.loop-alt.clauses.items) ∙ grown_all (λ k. parts_of (clause_of k)) (λ a. read_parts (alt_read (reading_of c.args.laying.now) a)) c.args.alts.now c.loop-alt.alt-index c.loop-alt.clauses.items (omega arith) c.loop-alt.invariant ∙ same.mapped (alt_read (reading_of c.args.laying.now)) read_parts c.args.alts.now)

pub clauses::branches-returns : goal.clauses::branches-returns
clauses::branches-returns t c =
    ap laid.clauses_of c.of.ensures
    ∙ same.clauses_same (map clause_of c.loop-read.clauses.items) (map (branch_read (reading_of c.args.laying.now)) c.args.branches.now)
    (sym (same.mapped clause_of parts_of c.loop-read.clauses.items) ∙ grown_all (λ k. parts_of (clause_of k)) (λ b. read_parts (branch_read (reading_of c.args.laying.now) b)) c.args.branches.now c.loop-read.read-index c.loop-read.clauses.items (omega arith) c.loop-read.invariant ∙ same.mapped (branch_read (reading_of c.args.laying.now)) read_parts c.args.branches.now)

pub segments::add_matched-returns-in_ok-push-in-None : goal.segments::add_matched-returns-in_ok-push-in-None
segments::add_matched-returns-in_ok-push-in-None t c =
    segs.matched_same _ _ _ _ (sym (segs.plain_segment (reading_of c.args.laying.now) c.args.segment.now c.in-None.ensures))
    (segs.matched_one c.args.found.now.items _ _ _ _ (record { typed = type_by (is_some c.args.segment.now.size) c.args.segment.now.specs; value = expr_read (reading_of c.args.laying.now) c.args.segment.now.value; size = size_by (reading_of c.args.laying.now) c.args.segment.now.size }) c.in_ok-push-in-None.ensures.items c.in_ok-typed.ensures (c.in_ok-target-in-None.ensures ∙ sym (target_read (reading_of c.args.laying.now) c.args.segment.now.value)) c.in_ok-size.ensures)

pub qualifiers::qualifier-returns-in_ok-shape-in-Bits : goal.qualifiers::qualifier-returns-in_ok-shape-in-Bits
qualifiers::qualifier-returns-in_ok-shape-in-Bits t c =
    qualifier_of-Generates _ _ ∙ ap (laid.Generates (tree_of c.in_ok-source-in-Bits.source)) (generator_of-InBits _ _ ∙ ap (λ ss. tree.InBits (laid.segments_of ss) (laid.segments_of c.of-in-Bits.result)) c.of.ensures ∙ ap (λ ss. tree.InBits (laid.segments_of c.in_ok-segments-in-Bits.segments.items) (laid.segments_of ss)) c.of-in-Bits.ensures ∙ same.bits_same (reading_of c.args.laying.now) c.in-Bits.segments c.in_ok-segments-in-Bits.segments.items c.in_ok-shape-in-Bits.shape.items (c.in_ok-segments-in-Bits.ensures ∙ ap (λ ss. map piece_segment (pieces_read (reading_of c.args.laying.now) ss)) c.items.ensures) (c.in_ok-shape-in-Bits.ensures ∙ ap (λ zs. rows.shape (laid.segments_of zs)) c.deref.ensures.value))
    ∙ ap (λ z. laid.Generates z (rows.bits_generator (read.segments (flat_map (λ q. q) (map (segment_read (reading_of c.args.laying.now)) c.in-Bits.segments))))) c.in_ok-source-in-Bits.ensures ∙ ap qualifier_read (sym (ap (qual_read (reading_of c.args.laying.now)) c.in-Bits.is ∙ form.qual_read-Bits (reading_of c.args.laying.now) c.in-Bits.at c.in-Bits.segments c.in-Bits.source))

pub patterns::from_right-returns : goal.patterns::from_right-returns
patterns::from_right-returns t c = ap (map pattern_of) (c.of.ensures ∙ c.reverse.ensures.items) ∙ same.map_reversed pattern_of c.loop-read.found.items ∙ ap reverse (grown_all pattern_of (pattern_tree c.args.laying.now) c.args.reads.now c.loop-read.read-index c.loop-read.found.items (omega arith) c.loop-read.invariant)

pub expressions::first-returns-in-loop-expr : goal.expressions::first-returns-in-loop-expr
expressions::first-returns-in-loop-expr t c = ap Some c.in_ok-expression.ensures ∙ ap (first_by (reading_of c.args.laying.now)) (sym (first_is c.args.exprs.now c.loop-expr.expr-index c.expr-item.result c.loop-expr.invariant (omega arith) c.expr-item.is))

pub expressions::first-returns : goal.expressions::first-returns
expressions::first-returns t c = ap (first_by (reading_of c.args.laying.now)) (sym (nil_from_length c.args.exprs.now (omega (arith, c.loop-expr.invariant))))

pub patterns::first-returns-in-loop-read : goal.patterns::first-returns-in-loop-read
patterns::first-returns-in-loop-read t c = ap Some c.in_ok-pattern.ensures ∙ ap (first_pattern_by (reading_of c.args.laying.now)) (sym (first_is c.args.reads.now c.loop-read.read-index c.read-item.result c.loop-read.invariant (omega arith) c.read-item.is))

pub patterns::first-returns : goal.patterns::first-returns
patterns::first-returns t c = ap (first_pattern_by (reading_of c.args.laying.now)) (sym (nil_from_length c.args.reads.now (omega (arith, c.loop-read.invariant))))
