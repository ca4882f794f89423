use Rattle.body_read.proofs.+expr.Goals.{bodies::tests-else-is-2+else-not-is, bodies::tests-then-is-2+in_ok-push-2}
use Rattle.body_read.proofs.BitsExits.{bits_deep, bits_empty_ok, bits_signed_deep, bits_signed_err, bits_signed_then, bits_value_err, bits_value_then, no_size_mode, segments_end, segments_err, segments_next, segments_other, value_rest_err, value_rest_then, value_row_err, value_row_ok}
use Rattle.body_read.proofs.BodiedBegins.{exprs_first_in, not_size}
use Rattle.body_read.proofs.BodiedExits.{alts_err, case_parts_ok, common_at_end, common_bits_deep, common_bits_err, common_bits_ok, common_close, common_close_err, common_inner_err, common_paren_deep, last_block, literal_low, of_err, operand_at_end, operand_block_deep, operand_case_err, operand_case_ok, operand_common, operand_if_err, operand_if_ok, operand_list_deep, operand_list_err, operand_list_ok, operand_receive_err, operand_receive_ok, operand_tuple_deep, operand_tuple_err, operand_tuple_ok, value_err}
use Rattle.body_read.proofs.BodiedLevels.{alone_in, left_ok, operator_deep, operator_err, right_ok}
use Rattle.body_read.proofs.BodyExits.{body_begin, body_end, body_err, body_more}
use Rattle.body_read.proofs.ClauseExits.{alt_body_err, alt_guard_err, alt_ok, alt_pattern_err, alts_begin, alts_end, alts_err as clauses_err, alts_more, alts_other, branch_body_err, branch_ok, branch_tests_err, branches_begin, branches_end, branches_err, branches_more, branches_other}
use Rattle.pattern_read.proofs.Exits.{atom_alone, atom_call, atom_deep, atom_err, exprs_begin, exprs_empty, exprs_end, exprs_err, exprs_more, exprs_other, level_first, level_operand, level_tail, level_whole, operand_atom_err, operand_atom_ok, operand_macro_err, operand_macro_ok, operand_no_module, operand_prefix_deep, operand_prefix_err, operand_prefix_ok, qualified_alone, qualified_deep, qualified_err, qualified_no_name, qualified_no_open, qualified_ok}
use Rattle.body_read.proofs.GuardExits.{TestsBegun, guarded_err, guarded_none, guarded_ok, guarded_other, tests_begin, tests_comma, tests_end, tests_err, tests_first_err, tests_more, tests_other, tests_semicolon}
use Rattle.body_read.proofs.ItemExits.{item_end, item_err, item_start, item_turn, read_bounded, read_further}
use Rattle.body_read.proofs.ListExits.{items_begin, items_end, items_err, items_next, items_other, items_tail_err, items_tail_ok, last_close_err, last_err, last_ok, list_deep, list_empty_ok, list_first_err, list_first_then, list_row_err, list_row_ok}
use Rattle.body_read.proofs.QualExits.{bits_err, bits_ok, items_err as generator_err, items_ok, opens_at}
use Rattle.body_read.proofs.QualLists.{ends, qual_full_at, quals_begin, quals_end, quals_err, quals_more, quals_other}
use Rattle.body_read.proofs.SegmentExits.{prefixed_err, prefixed_then, segment_deep, segment_signed, segment_then, segment_value_err, simple_at_end, simple_atom_ok, simple_common, size_err, sized_err, sized_ok, unsized_err, unsized_ok}
use Rattle.body_read.specs.WantedExprs.{in_body, in_guard, in_site}
use Rattle.std.proofs.Common.{ap, arith, drop, inl, inr, refl, rules, ◌+◌, ◌∙◌}
use Rattle.std.proofs.lemmas.Result.{err_from_is_err_and}
use Rattle.erl_syntax.specs.declared.token.TokenKind.TheVariants as k
use Rattle.body_read.proofs.+expr.Goals as goal

pub operand::after_atom-returns-then-not-is-clause-reads : goal.operand::after_atom-returns-then-not-is-clause-reads
operand::after_atom-returns-then-not-is-clause-reads t c = atom_alone (in_site c.args.site c.args.deep c.args.brackets) c.args.cursor.now c.args.at c.args.place c.args.name c.qualified.result (c.is.ensures.no (search rules)) c.qualified.ensures.reads

pub operand::after_atom-returns-then-brackets-clause-reads : goal.operand::after_atom-returns-then-brackets-clause-reads
operand::after_atom-returns-then-brackets-clause-reads t c = atom_deep (in_site c.args.site c.args.deep c.args.brackets) c.args.cursor.now c.args.at c.args.place c.args.name (c.is.ensures.yes (search rules)) (omega arith)

pub operand::after_atom-returns-in_err-args-clause-reads : goal.operand::after_atom-returns-in_err-args-clause-reads
operand::after_atom-returns-in_err-args-clause-reads t c = let p = err_from_is_err_and c.from_residual.result c.from_residual.ensures.1 in rw (p.1, p.2) (atom_err (in_site c.args.site c.args.deep c.args.brackets) c.args.cursor.now c.args.at c.args.place c.args.name _ (c.is.ensures.yes (search rules)) (omega arith) c.in_err-args.ensures.reads)

pub operand::after_atom-returns-clause-reads : goal.operand::after_atom-returns-clause-reads
operand::after_atom-returns-clause-reads t c = atom_call (in_site c.args.site c.args.deep c.args.brackets) c.args.cursor.now c.args.at c.in_ok-args.next c.args.place c.args.name c.of-module.result c.in_ok-args.args c.in_ok-args.height (c.is.ensures.yes (search rules)) (omega arith) (c.of-module.ensures ∙ c.new.ensures.items) c.in_ok-args.ensures.reads

pub exprs::exprs-returns-then-is-clause-reads : goal.exprs::exprs-returns-then-is-clause-reads
exprs::exprs-returns-then-is-clause-reads t c = exprs_empty c.args.close (in_site c.args.site c.args.deep c.args.brackets) c.args.cursor.now c.args.at c.of.result c.requires.closes (c.is.ensures.yes (search rules)) (c.of.ensures ∙ c.new-items.ensures.items)

pub exprs::exprs-returns-then-deep-trees-clause-reads : goal.exprs::exprs-returns-then-deep-trees-clause-reads
exprs::exprs-returns-then-deep-trees-clause-reads t c = exprs_first_in c.args.site c.args.close (in_site c.args.site c.args.deep c.args.brackets) (drop c.args.at c.args.cursor.now.words) c.cause_of_first.result refl c.cause_of_first.ensures (c.is.ensures.no (search rules)) (omega arith)

pub exprs::exprs-loop-items-init : goal.exprs::exprs-loop-items-init
exprs::exprs-loop-items-init t c = (omega arith, c.requires.place, omega arith, exprs_begin c.args.close (in_site c.args.site c.args.deep c.args.brackets) c.args.cursor.now c.args.at c.new-items.result.items (omega arith) (c.is.ensures.no (search rules)) c.new-items.ensures.items)

pub exprs::exprs-returns-in_err-item-clause-reads : goal.exprs::exprs-returns-in_err-item-clause-reads
exprs::exprs-returns-in_err-item-clause-reads t c = let p = err_from_is_err_and c.from_residual.result c.from_residual.ensures.1 in rw (p.1, p.2) (exprs_err c.args.close (in_site c.args.site c.args.deep c.args.brackets) c.args.cursor.now c.args.at c.loop-items.next c.loop-items.items.items c.loop-items.height _ c.requires.closes c.loop-items.invariant.3 c.in_err-item.ensures.reads)

pub exprs::exprs-returns-then-is-2-clause-reads : goal.exprs::exprs-returns-then-is-2-clause-reads
exprs::exprs-returns-then-is-2-clause-reads t c = exprs_end c.args.close (in_site c.args.site c.args.deep c.args.brackets) c.args.cursor.now c.args.at c.loop-items.next c.in_ok-item.after c.loop-items.items.items c.of-then-is-2.result c.loop-items.height c.higher-height.result c.in_ok-item.item c.requires.closes c.loop-items.invariant.3 c.in_ok-item.ensures.reads (c.is-in-loop-items.ensures.yes (search rules)) (c.of-then-is-2.ensures ∙ c.in_ok-push.ensures.items) c.higher-height.ensures

pub exprs::exprs-returns-then-not-is-clause-reads : goal.exprs::exprs-returns-then-not-is-clause-reads
exprs::exprs-returns-then-not-is-clause-reads t c = exprs_other c.args.close (in_site c.args.site c.args.deep c.args.brackets) c.args.cursor.now c.args.at c.loop-items.next c.in_ok-item.after c.loop-items.items.items c.loop-items.height c.in_ok-item.item c.requires.closes c.loop-items.invariant.3 c.in_ok-item.ensures.reads (c.is-in-loop-items-2.ensures.no (search rules)) (c.is-in-loop-items.ensures.no (search rules))

pub exprs::exprs-loop-items-preserved : goal.exprs::exprs-loop-items-preserved
exprs::exprs-loop-items-preserved t c = (omega (arith, c.loop-items.invariant.0, c.in_ok-item.ensures.further.0), omega (arith, c.is-in-loop-items-2.ensures.within (search rules)), omega (arith, c.in_ok-item.ensures.bounded.1, c.loop-items.invariant.2, c.higher-height.ensures), exprs_more c.args.close (in_site c.args.site c.args.deep c.args.brackets) c.args.cursor.now c.args.at c.loop-items.next c.in_ok-item.after c.loop-items.items.items _ c.loop-items.height c.higher-height.result c.in_ok-item.item c.requires.closes c.loop-items.invariant.3 c.in_ok-item.ensures.reads (c.is-in-loop-items-2.ensures.yes (search rules)) c.in_ok-push.ensures.items c.higher-height.ensures)

pub exprs::level-returns-then-wanted-eq6-clause-reads : goal.exprs::level-returns-then-wanted-eq6-clause-reads
exprs::level-returns-then-wanted-eq6-clause-reads t c = level_operand (in_site c.args.site c.args.deep c.args.brackets) c.args.wanted c.args.cursor.now c.args.at c.operand.result (omega arith) c.operand.ensures.reads

pub exprs::level-returns-in_err-first-clause-reads : goal.exprs::level-returns-in_err-first-clause-reads
exprs::level-returns-in_err-first-clause-reads t c = let p = err_from_is_err_and c.from_residual.result c.from_residual.ensures.1 in rw (p.1, p.2) (level_first (in_site c.args.site c.args.deep c.args.brackets) c.args.wanted c.args.cursor.now c.args.at _ (omega arith) c.in_err-first.ensures.reads)

pub exprs::level-returns-in_err-tree-clause-reads : goal.exprs::level-returns-in_err-tree-clause-reads
exprs::level-returns-in_err-tree-clause-reads t c = let p = err_from_is_err_and c.from_residual-in_err-tree.result c.from_residual-in_err-tree.ensures.1 in rw (p.1, p.2) (level_tail (in_site c.args.site c.args.deep c.args.brackets) c.args.wanted c.args.cursor.now c.args.at c.in_ok-first.after c.in_ok-first.first _ (omega arith) c.in_ok-first.ensures.reads c.in_err-tree.ensures.reads)

pub exprs::level-returns-clause-reads : goal.exprs::level-returns-clause-reads
exprs::level-returns-clause-reads t c = level_whole (in_site c.args.site c.args.deep c.args.brackets) c.args.wanted c.args.cursor.now c.args.at c.in_ok-first.after c.in_ok-tree.next c.in_ok-first.first c.in_ok-tree.tree c.in_ok-tree.height (omega arith) c.in_ok-first.ensures.reads c.in_ok-tree.ensures.reads

pub operand::qualified-returns-then-not-is-clause-reads : goal.operand::qualified-returns-then-not-is-clause-reads
operand::qualified-returns-then-not-is-clause-reads t c = qualified_alone (in_site c.args.site c.args.deep c.args.brackets) c.args.cursor.now c.args.at c.args.place c.args.qualifier (c.is.ensures.no (search rules))

pub operand::qualified-returns-then-deep-trees-clause-reads : goal.operand::qualified-returns-then-deep-trees-clause-reads
operand::qualified-returns-then-deep-trees-clause-reads t c = qualified_deep (in_site c.args.site c.args.deep c.args.brackets) c.args.cursor.now c.args.at c.args.place c.args.qualifier (c.is.ensures.yes (search rules)) (inr (omega arith))

pub operand::qualified-returns-then-brackets-clause-reads : goal.operand::qualified-returns-then-brackets-clause-reads
operand::qualified-returns-then-brackets-clause-reads t c = qualified_deep (in_site c.args.site c.args.deep c.args.brackets) c.args.cursor.now c.args.at c.args.place c.args.qualifier (c.is.ensures.yes (search rules)) (inl (omega arith))

pub operand::qualified-returns-in_default-clause-reads : goal.operand::qualified-returns-in_default-clause-reads
operand::qualified-returns-in_default-clause-reads t c = qualified_no_name (in_site c.args.site c.args.deep c.args.brackets) c.args.cursor.now c.args.at c.args.place c.args.qualifier (c.is.ensures.yes (search rules)) (omega arith) (omega arith) c.in_default.ensures.atom

pub operand::qualified-returns-then-not-is-2-clause-reads : goal.operand::qualified-returns-then-not-is-2-clause-reads
operand::qualified-returns-then-not-is-2-clause-reads t c = qualified_no_open (in_site c.args.site c.args.deep c.args.brackets) c.args.cursor.now c.args.at c.args.place c.args.qualifier c.in-Some.name (c.is.ensures.yes (search rules)) c.in-Some.ensures.atom (omega arith) (omega arith) (c.is-2.ensures.no (search rules))

pub operand::qualified-returns-in_err-args-clause-reads : goal.operand::qualified-returns-in_err-args-clause-reads
operand::qualified-returns-in_err-args-clause-reads t c = let p = err_from_is_err_and c.from_residual.result c.from_residual.ensures.1 in rw (p.1, p.2) (qualified_err (in_site c.args.site c.args.deep c.args.brackets) c.args.cursor.now c.args.at c.args.place c.args.qualifier c.in-Some.name _ (c.is.ensures.yes (search rules)) c.in-Some.ensures.atom (c.is-2.ensures.yes (search rules)) (omega arith) (omega arith) c.in_err-args.ensures.reads)

pub operand::qualified-returns-clause-reads : goal.operand::qualified-returns-clause-reads
operand::qualified-returns-clause-reads t c = qualified_ok (in_site c.args.site c.args.deep c.args.brackets) c.args.cursor.now c.args.at c.in_ok-args.next c.args.place c.args.qualifier c.in-Some.name c.in_ok-module.module c.in_ok-args.args c.in_ok-args.height _ (c.is.ensures.yes (search rules)) c.in-Some.ensures.atom (c.is-2.ensures.yes (search rules)) (omega arith) (omega arith) c.in_ok-module.ensures.list (ap (λ v. v + 1) c.higher.ensures) c.in_ok-args.ensures.reads

pub exprs::tail-returns-in_default-clause-reads : goal.exprs::tail-returns-in_default-clause-reads
exprs::tail-returns-in_default-clause-reads t c = alone_in c.args.site (in_site c.args.site c.args.deep c.args.brackets) c.args.wanted c.args.cursor.now c.args.at c.args.left refl c.in_default.ensures.operator

pub exprs::tail-returns-then-deep-left-clause-reads : goal.exprs::tail-returns-then-deep-left-clause-reads
exprs::tail-returns-then-deep-left-clause-reads t c = operator_deep c.args.site (in_site c.args.site c.args.deep c.args.brackets) c.args.wanted c.args.cursor.now c.args.at c.args.left c.in-Some.op refl c.in-Some.ensures.operator (omega arith)

pub exprs::tail-returns-in_err-right-clause-reads : goal.exprs::tail-returns-in_err-right-clause-reads
exprs::tail-returns-in_err-right-clause-reads t c = let p = err_from_is_err_and c.from_residual.result c.from_residual.ensures.1 in rw (p.1, p.2) (operator_err c.args.site (in_site c.args.site c.args.deep c.args.brackets) c.args.wanted c.right_of.result c.args.cursor.now c.args.at c.args.left c.in-Some.op _ refl c.in-Some.ensures.operator c.right_of.ensures.level (omega arith) c.in_err-right.ensures.reads)

pub exprs::tail-returns-then-wanted-lt4-clause-reads : goal.exprs::tail-returns-then-wanted-lt4-clause-reads
exprs::tail-returns-then-wanted-lt4-clause-reads t c = right_ok c.args.site (in_site c.args.site c.args.deep c.args.brackets) c.args.wanted c.right_of.result c.args.cursor.now c.args.at c.in_ok-right.next c.args.left c.in_ok-right.right c.in_ok-placed_binary.placed_binary c.in-Some.op refl c.in-Some.ensures.operator (omega arith) c.right_of.ensures.level (omega arith) c.in_ok-placed_binary.ensures.placed_binary c.in_ok-right.ensures.reads

pub exprs::tail-returns-clause-reads : goal.exprs::tail-returns-clause-reads
exprs::tail-returns-clause-reads t c = left_ok c.args.site (in_site c.args.site c.args.deep c.args.brackets) c.args.wanted c.right_of.result c.args.cursor.now c.args.at c.in_ok-right.next c.args.left c.in_ok-right.right c.in_ok-placed_binary.placed_binary c.in-Some.op c.tail.result c.in-Some.ensures.operator (omega arith) c.right_of.ensures.level (omega arith) c.in_ok-placed_binary.ensures.placed_binary c.in_ok-right.ensures.reads c.tail.ensures.reads

pub operand::operand-returns-in_default-clause-reads : goal.operand::operand-returns-in_default-clause-reads
operand::operand-returns-in_default-clause-reads t c = operand_at_end (in_site c.args.site c.args.deep c.args.brackets) c.args.cursor.now c.args.at c.in_default.ensures.token

pub operand::operand-returns-in_err-tree-in-Atom-clause-reads : goal.operand::operand-returns-in_err-tree-in-Atom-clause-reads
operand::operand-returns-in_err-tree-in-Atom-clause-reads t c = let p = err_from_is_err_and c.from_residual.result c.from_residual.ensures.1 in rw (p.1, p.2) (operand_atom_err (in_site c.args.site c.args.deep c.args.brackets) c.args.cursor.now c.args.at c.in-Some.numbered _ c.in-Some.ensures.token c.in-Atom.is c.in_err-tree-in-Atom.ensures.reads)

pub operand::operand-returns-in_ok-tree-in-Atom-clause-reads : goal.operand::operand-returns-in_ok-tree-in-Atom-clause-reads
operand::operand-returns-in_ok-tree-in-Atom-clause-reads t c = operand_atom_ok (in_site c.args.site c.args.deep c.args.brackets) c.args.cursor.now c.args.at c.in_ok-tree-in-Atom.next c.in-Some.numbered c.in_ok-tree-in-Atom.tree c.in_ok-tree-in-Atom.height c.in-Some.ensures.token c.in-Atom.is c.in_ok-tree-in-Atom.ensures.reads

pub operand::operand-returns-then-not-is_module-clause-reads : goal.operand::operand-returns-then-not-is_module-clause-reads
operand::operand-returns-then-not-is_module-clause-reads t c = operand_no_module (in_site c.args.site c.args.deep c.args.brackets) c.args.cursor.now c.args.at c.in-Some.numbered c.in-Some.ensures.token c.in-Question.is (c.is_module.ensures.no (search rules))

pub operand::operand-returns-in_err-tree-in-Question-clause-reads : goal.operand::operand-returns-in_err-tree-in-Question-clause-reads
operand::operand-returns-in_err-tree-in-Question-clause-reads t c = let p = err_from_is_err_and c.from_residual-in_err-tree-in-Question.result c.from_residual-in_err-tree-in-Question.ensures.1 in rw (p.1, p.2) (operand_macro_err (in_site c.args.site c.args.deep c.args.brackets) c.args.cursor.now c.args.at c.in-Some.numbered _ c.in-Some.ensures.token c.in-Question.is (c.is_module.ensures.yes (search rules)) c.in_err-tree-in-Question.ensures.reads)

pub operand::operand-returns-in_ok-tree-in-Question-clause-reads : goal.operand::operand-returns-in_ok-tree-in-Question-clause-reads
operand::operand-returns-in_ok-tree-in-Question-clause-reads t c = operand_macro_ok (in_site c.args.site c.args.deep c.args.brackets) c.args.cursor.now c.args.at c.in_ok-tree-in-Question.next c.in-Some.numbered c.in_ok-tree-in-Question.tree c.in_ok-tree-in-Question.height c.in-Some.ensures.token c.in-Question.is (c.is_module.ensures.yes (search rules)) c.in_ok-tree-in-Question.ensures.reads

pub operand::operand-returns-then-brackets-clause-reads : goal.operand::operand-returns-then-brackets-clause-reads
operand::operand-returns-then-brackets-clause-reads t c = operand_list_deep (in_site c.args.site c.args.deep c.args.brackets) c.args.cursor.now c.args.at c.in-Some.numbered (not_size c.args.site _ refl) c.in-Some.ensures.token c.in-LeftBracket.is (omega arith)

pub operand::operand-returns-in_err-tree-in-LeftBracket-clause-reads : goal.operand::operand-returns-in_err-tree-in-LeftBracket-clause-reads
operand::operand-returns-in_err-tree-in-LeftBracket-clause-reads t c = let p = err_from_is_err_and c.from_residual-in_err-tree-in-LeftBracket.result c.from_residual-in_err-tree-in-LeftBracket.ensures.1 in rw (p.1, p.2) (operand_list_err (in_site c.args.site c.args.deep c.args.brackets) c.args.cursor.now c.args.at c.in-Some.numbered _ (not_size c.args.site _ refl) c.in-Some.ensures.token c.in-LeftBracket.is (omega arith) c.in_err-tree-in-LeftBracket.ensures.reads)

pub operand::operand-returns-in_ok-tree-in-LeftBracket-clause-reads : goal.operand::operand-returns-in_ok-tree-in-LeftBracket-clause-reads
operand::operand-returns-in_ok-tree-in-LeftBracket-clause-reads t c = operand_list_ok (in_site c.args.site c.args.deep c.args.brackets) c.args.cursor.now c.args.at c.in_ok-tree-in-LeftBracket.next c.in-Some.numbered c.in_ok-tree-in-LeftBracket.tree c.in_ok-tree-in-LeftBracket.height (not_size c.args.site _ refl) c.in-Some.ensures.token c.in-LeftBracket.is (omega arith) c.in_ok-tree-in-LeftBracket.ensures.reads

pub operand::operand-returns-in_default-kind : goal.operand::operand-returns-in_default-kind
operand::operand-returns-in_default-kind t c = record { reads = operand_common c.args.site c.args.deep c.args.brackets c.args.cursor.now c.args.at c.in-Some.numbered c.common.result c.in-Some.ensures.token (λ op e. c.in_default-prefix.not-Some op (c.prefix.ensures ∙ e)) c.in_default-kind.not-Atom c.in_default-kind.not-Question c.in_default-kind.not-LeftBrace c.in_default-kind.not-LeftBracket (λ h. search rules) c.common.ensures.reads; further = c.common.ensures.further; bounded = c.common.ensures.bounded }

pub operand::prefixed-returns-then-deep-trees-clause-reads : goal.operand::prefixed-returns-then-deep-trees-clause-reads
operand::prefixed-returns-then-deep-trees-clause-reads t c = operand_prefix_deep (in_site c.args.site c.args.deep c.args.brackets) c.args.cursor.now c.args.at c.args.numbered c.args.op c.requires.token c.requires.operator (omega arith)

pub operand::prefixed-returns-in_err-part-clause-reads : goal.operand::prefixed-returns-in_err-part-clause-reads
operand::prefixed-returns-in_err-part-clause-reads t c = let p = err_from_is_err_and c.from_residual.result c.from_residual.ensures.1 in rw (p.1, p.2) (operand_prefix_err (in_site c.args.site c.args.deep c.args.brackets) c.args.cursor.now c.args.at c.args.numbered c.args.op _ c.requires.token c.requires.operator (omega arith) c.in_err-part.ensures.reads)

pub operand::prefixed-returns-clause-reads : goal.operand::prefixed-returns-clause-reads
operand::prefixed-returns-clause-reads t c = operand_prefix_ok (in_site c.args.site c.args.deep c.args.brackets) c.args.cursor.now c.args.at c.in_ok-part.next c.args.numbered c.args.op c.in_ok-part.part c.in_ok-one.field-0 c.requires.token c.requires.operator (omega arith) c.in_ok-one.ensures.list c.in_ok-part.ensures.reads

pub operand::tuple-returns-then-brackets-clause-reads : goal.operand::tuple-returns-then-brackets-clause-reads
operand::tuple-returns-then-brackets-clause-reads t c = operand_tuple_deep (in_site c.args.site c.args.deep c.args.brackets) c.args.cursor.now c.args.at c.args.numbered (not_size c.args.site _ refl) c.requires.token c.requires.brace (omega arith)

pub operand::tuple-returns-in_err-items-clause-reads : goal.operand::tuple-returns-in_err-items-clause-reads
operand::tuple-returns-in_err-items-clause-reads t c = let p = err_from_is_err_and c.from_residual.result c.from_residual.ensures.1 in rw (p.1, p.2) (operand_tuple_err (in_site c.args.site c.args.deep c.args.brackets) c.args.cursor.now c.args.at c.args.numbered _ (not_size c.args.site _ refl) c.requires.token c.requires.brace (omega arith) c.in_err-items.ensures.reads)

pub operand::tuple-returns-clause-reads : goal.operand::tuple-returns-clause-reads
operand::tuple-returns-clause-reads t c = operand_tuple_ok (in_site c.args.site c.args.deep c.args.brackets) c.args.cursor.now c.args.at c.in_ok-items.next c.args.numbered c.in_ok-items.items c.in_ok-items.height (not_size c.args.site _ refl) c.requires.token c.requires.brace (omega arith) c.in_ok-items.ensures.reads

pub operand::block-returns-then-deep-trees-clause-reads : goal.operand::block-returns-then-deep-trees-clause-reads
operand::block-returns-then-deep-trees-clause-reads t c = operand_block_deep (in_body c.args.deep c.args.brackets) c.args.cursor.now c.args.at c.args.numbered refl c.requires.token c.requires.begins (inr (omega arith))

pub operand::block-returns-then-brackets-clause-reads : goal.operand::block-returns-then-brackets-clause-reads
operand::block-returns-then-brackets-clause-reads t c = operand_block_deep (in_body c.args.deep c.args.brackets) c.args.cursor.now c.args.at c.args.numbered refl c.requires.token c.requires.begins (inl (omega arith))

pub operand::block-returns-in_err-value-in-Case-clause-reads : goal.operand::block-returns-in_err-value-in-Case-clause-reads
operand::block-returns-in_err-value-in-Case-clause-reads t c = let p = err_from_is_err_and c.from_residual.result c.from_residual.ensures.1 in rw (p.1, p.2) (operand_case_err (in_body c.args.deep c.args.brackets) c.args.cursor.now c.args.at c.args.numbered _ refl c.requires.token c.in-Case.is (omega arith) (omega arith) c.in_err-value-in-Case.ensures.reads)

pub operand::block-returns-in_ok-one-in-Case-clause-reads : goal.operand::block-returns-in_ok-one-in-Case-clause-reads
operand::block-returns-in_ok-one-in-Case-clause-reads t c = operand_case_ok (in_body c.args.deep c.args.brackets) c.args.cursor.now c.args.at c.in_ok-value-in-Case.next c.args.numbered c.in_ok-value-in-Case.value c.in_ok-value-in-Case.alts c.in_ok-one-in-Case.field-0 c.in_ok-value-in-Case.height (c.higher-height.result + 1) refl c.requires.token c.in-Case.is (omega arith) (omega arith) c.in_ok-one-in-Case.ensures.list (ap (λ v. v + 1) c.higher-height.ensures) c.in_ok-value-in-Case.ensures.reads

pub operand::block-returns-in_err-alts-in-Receive-clause-reads : goal.operand::block-returns-in_err-alts-in-Receive-clause-reads
operand::block-returns-in_err-alts-in-Receive-clause-reads t c = let p = err_from_is_err_and c.from_residual-in_err-alts-in-Receive.result c.from_residual-in_err-alts-in-Receive.ensures.1 in rw (p.1, p.2) (operand_receive_err (in_body c.args.deep c.args.brackets) c.args.cursor.now c.args.at c.args.numbered _ refl c.requires.token c.in-Receive.is (omega arith) (omega arith) c.in_err-alts-in-Receive.ensures.reads)

pub operand::block-returns-in_ok-alts-in-Receive-clause-reads : goal.operand::block-returns-in_ok-alts-in-Receive-clause-reads
operand::block-returns-in_ok-alts-in-Receive-clause-reads t c = operand_receive_ok (in_body c.args.deep c.args.brackets) c.args.cursor.now c.args.at c.in_ok-alts-in-Receive.next c.args.numbered c.in_ok-alts-in-Receive.alts c.in_ok-alts-in-Receive.height refl c.requires.token c.in-Receive.is (omega arith) (omega arith) c.in_ok-alts-in-Receive.ensures.reads

pub operand::block-returns-in_err-branches-in_default : goal.operand::block-returns-in_err-branches-in_default
operand::block-returns-in_err-branches-in_default t c = let p = err_from_is_err_and c.from_residual-in_err-branches-in_default.result c.from_residual-in_err-branches-in_default.ensures.1 in rw (p.1, p.2) (record { reads = operand_if_err (in_body c.args.deep c.args.brackets) c.args.cursor.now c.args.at c.args.numbered _ refl c.requires.token (last_block c.args.numbered.token.kind c.requires.begins c.in_default.not-Case c.in_default.not-Receive) (omega arith) (omega arith) c.in_err-branches-in_default.ensures.reads; further = tt; bounded = tt })

pub operand::block-returns-in_ok-branches-in_default : goal.operand::block-returns-in_ok-branches-in_default
operand::block-returns-in_ok-branches-in_default t c = record { reads = operand_if_ok (in_body c.args.deep c.args.brackets) c.args.cursor.now c.args.at c.in_ok-branches-in_default.next c.args.numbered c.in_ok-branches-in_default.branches c.in_ok-branches-in_default.height refl c.requires.token (last_block c.args.numbered.token.kind c.requires.begins c.in_default.not-Case c.in_default.not-Receive) (omega arith) (omega arith) c.in_ok-branches-in_default.ensures.reads; further = (omega (arith, c.in_ok-branches-in_default.ensures.further.0), c.in_ok-branches-in_default.ensures.further.1); bounded = (omega arith, omega (arith, c.in_ok-branches-in_default.ensures.bounded.1)) }

pub operand::common-returns-in_default-clause-reads : goal.operand::common-returns-in_default-clause-reads
operand::common-returns-in_default-clause-reads t c = common_at_end (in_site c.args.site c.args.deep c.args.brackets) c.args.cursor.now c.args.at c.in_default.ensures.token

pub operand::common-returns-then-brackets-clause-reads : goal.operand::common-returns-then-brackets-clause-reads
operand::common-returns-then-brackets-clause-reads t c = common_bits_deep (in_site c.args.site c.args.deep c.args.brackets) c.args.cursor.now c.args.at c.in-Some.numbered (not_size c.args.site _ refl) c.in-Some.ensures.token c.in-LeftBits.is (omega arith)

pub operand::common-returns-in_err-tree-in-LeftBits-clause-reads : goal.operand::common-returns-in_err-tree-in-LeftBits-clause-reads
operand::common-returns-in_err-tree-in-LeftBits-clause-reads t c = let p = err_from_is_err_and c.from_residual.result c.from_residual.ensures.1 in rw (p.1, p.2) (common_bits_err (in_site c.args.site c.args.deep c.args.brackets) c.args.cursor.now c.args.at c.in-Some.numbered _ (not_size c.args.site _ refl) c.in-Some.ensures.token c.in-LeftBits.is (omega arith) c.in_err-tree-in-LeftBits.ensures.reads)

pub operand::common-returns-in_ok-tree-in-LeftBits-clause-reads : goal.operand::common-returns-in_ok-tree-in-LeftBits-clause-reads
operand::common-returns-in_ok-tree-in-LeftBits-clause-reads t c = common_bits_ok (in_site c.args.site c.args.deep c.args.brackets) c.args.cursor.now c.args.at c.in_ok-tree-in-LeftBits.next c.in-Some.numbered c.in_ok-tree-in-LeftBits.tree c.in_ok-tree-in-LeftBits.height (not_size c.args.site _ refl) c.in-Some.ensures.token c.in-LeftBits.is (omega arith) c.in_ok-tree-in-LeftBits.ensures.reads

pub operand::common-returns-then-brackets-2-clause-reads : goal.operand::common-returns-then-brackets-2-clause-reads
operand::common-returns-then-brackets-2-clause-reads t c = common_paren_deep (in_site c.args.site c.args.deep c.args.brackets) c.args.cursor.now c.args.at c.in-Some.numbered c.in-Some.ensures.token c.in-LeftParen.is (omega arith)

pub operand::common-returns-in_err-inner-in-LeftParen-clause-reads : goal.operand::common-returns-in_err-inner-in-LeftParen-clause-reads
operand::common-returns-in_err-inner-in-LeftParen-clause-reads t c = let p = err_from_is_err_and c.from_residual-in_err-inner-in-LeftParen.result c.from_residual-in_err-inner-in-LeftParen.ensures.1 in rw (p.1, p.2) (common_inner_err (in_site c.args.site c.args.deep c.args.brackets) c.args.cursor.now c.args.at c.in-Some.numbered _ c.in-Some.ensures.token c.in-LeftParen.is (omega arith) c.in_err-inner-in-LeftParen.ensures.reads)

pub operand::common-returns-in_err-next-in-LeftParen-clause-reads : goal.operand::common-returns-in_err-next-in-LeftParen-clause-reads
operand::common-returns-in_err-next-in-LeftParen-clause-reads t c = let p = err_from_is_err_and c.from_residual-in_err-next-in-LeftParen.result c.from_residual-in_err-next-in-LeftParen.ensures.1 in rw (p.1, p.2) (common_close_err (in_site c.args.site c.args.deep c.args.brackets) c.args.cursor.now c.args.at c.in_ok-inner-in-LeftParen.after c.in-Some.numbered c.in_ok-inner-in-LeftParen.inner _ c.in-Some.ensures.token c.in-LeftParen.is (omega arith) c.in_ok-inner-in-LeftParen.ensures.reads c.in_err-next-in-LeftParen.ensures.reads)

pub operand::common-returns-in_ok-next-in-LeftParen-clause-reads : goal.operand::common-returns-in_ok-next-in-LeftParen-clause-reads
operand::common-returns-in_ok-next-in-LeftParen-clause-reads t c = common_close (in_site c.args.site c.args.deep c.args.brackets) c.args.cursor.now c.args.at c.in_ok-inner-in-LeftParen.after c.in_ok-next-in-LeftParen.next c.in-Some.numbered c.in_ok-inner-in-LeftParen.inner _ c.in-Some.ensures.token c.in-LeftParen.is (omega arith) c.in_ok-inner-in-LeftParen.ensures.reads c.in_ok-next-in-LeftParen.ensures.reads

pub operand::common-returns-in_default-kind : goal.operand::common-returns-in_default-kind
operand::common-returns-in_default-kind t c = record { reads = c.literal.ensures.reads (in_site c.args.site c.args.deep c.args.brackets) (not_size c.args.site _ refl); further = c.literal.ensures.further; bounded = literal_low c.args.cursor.now.limits c.args.deep c.literal.result c.requires.tree c.literal.ensures.height }

pub operand::case_parts-returns-in_err-value-clause-reads : goal.operand::case_parts-returns-in_err-value-clause-reads
operand::case_parts-returns-in_err-value-clause-reads t c = let p = err_from_is_err_and c.from_residual.result c.from_residual.ensures.1 in rw (p.1, p.2) (value_err (in_body c.args.deep c.args.brackets) c.args.cursor.now c.args.at _ c.in_err-value.ensures.reads)

pub operand::case_parts-returns-in_err-first-clause-reads : goal.operand::case_parts-returns-in_err-first-clause-reads
operand::case_parts-returns-in_err-first-clause-reads t c = let p = err_from_is_err_and c.from_residual-in_err-first.result c.from_residual-in_err-first.ensures.1 in rw (p.1, p.2) (of_err (in_body c.args.deep c.args.brackets) c.args.cursor.now c.args.at c.in_ok-value.after c.in_ok-value.value _ c.in_ok-value.ensures.reads c.in_err-first.ensures.reads)

pub operand::case_parts-returns-in_err-alts-clause-reads : goal.operand::case_parts-returns-in_err-alts-clause-reads
operand::case_parts-returns-in_err-alts-clause-reads t c = let p = err_from_is_err_and c.from_residual-in_err-alts.result c.from_residual-in_err-alts.ensures.1 in rw (p.1, p.2) (alts_err (in_body c.args.deep c.args.brackets) c.args.cursor.now c.args.at c.in_ok-value.after c.in_ok-first.first c.in_ok-value.value _ _ c.in_ok-value.ensures.reads c.in_ok-first.ensures.reads c.in_err-alts.ensures.reads)

pub operand::case_parts-returns-clause-reads : goal.operand::case_parts-returns-clause-reads
operand::case_parts-returns-clause-reads t c = case_parts_ok (in_body c.args.deep c.args.brackets) c.args.cursor.now c.args.at c.in_ok-value.after c.in_ok-first.first c.in_ok-alts.next c.in_ok-value.value _ c.in_ok-alts.alts c.in_ok-alts.height c.in_ok-value.ensures.reads c.in_ok-first.ensures.reads c.in_ok-alts.ensures.reads

pub lists::list-returns-then-is-clause-reads : goal.lists::list-returns-then-is-clause-reads
lists::list-returns-then-is-clause-reads t c = list_empty_ok (in_site c.args.site c.args.deep c.args.brackets) c.args.cursor.now c.args.at c.args.place c.of-items.result c.of-tail.result (c.is.ensures.yes (search rules)) (c.of-items.ensures ∙ c.new.ensures.items) (c.of-tail.ensures ∙ c.new-then-is.ensures.items)

pub lists::list-returns-then-deep-trees-clause-reads : goal.lists::list-returns-then-deep-trees-clause-reads
lists::list-returns-then-deep-trees-clause-reads t c = list_deep c.args.site (in_site c.args.site c.args.deep c.args.brackets) c.args.cursor.now c.args.at c.args.place c.cause_of_first.result refl c.cause_of_first.ensures (c.is.ensures.no (search rules)) (omega arith)

pub lists::list-returns-in_err-first-clause-reads : goal.lists::list-returns-in_err-first-clause-reads
lists::list-returns-in_err-first-clause-reads t c = let p = err_from_is_err_and c.from_residual.result c.from_residual.ensures.1 in rw (p.1, p.2) (list_first_err (in_site c.args.site c.args.deep c.args.brackets) c.args.cursor.now c.args.at c.args.place _ (omega arith) (c.is.ensures.no (search rules)) c.in_err-first.ensures.reads)

pub lists::list-returns-clause-reads : goal.lists::list-returns-clause-reads
lists::list-returns-clause-reads t c = list_first_then (in_site c.args.site c.args.deep c.args.brackets) c.args.cursor.now c.args.at c.in_ok-first.next c.args.place c.in_ok-first.first c.after_first.result (omega arith) (c.is.ensures.no (search rules)) c.in_ok-first.ensures.reads c.after_first.ensures.reads

pub lists::after_first-returns-in_err-quals-clause-reads : goal.lists::after_first-returns-in_err-quals-clause-reads
lists::after_first-returns-in_err-quals-clause-reads t c = let p = err_from_is_err_and c.from_residual.result c.from_residual.ensures.1 in rw (p.1, p.2) (list_row_err (in_site c.args.site c.args.deep c.args.brackets) c.args.cursor.now c.args.at c.args.place c.args.first _ (c.is_row.ensures.body (search rules)) (c.is_row.ensures.yes (search rules)) c.in_err-quals.ensures.reads)

pub lists::after_first-returns-clause-reads : goal.lists::after_first-returns-clause-reads
lists::after_first-returns-clause-reads t c = list_row_ok (in_site c.args.site c.args.deep c.args.brackets) c.args.cursor.now c.args.at c.in_ok-quals.next c.args.place c.args.first c.of-row.result c.in_ok-quals.quals c.in_ok-quals.height _ (c.is_row.ensures.body (search rules)) (c.is_row.ensures.yes (search rules)) c.in_ok-quals.ensures.reads (c.of-row.ensures ∙ c.in_ok-vec.ensures.items) (ap (λ v. v + 1) c.higher-highest.ensures)

pub lists::list_items-loop-site-init : goal.lists::list_items-loop-site-init
lists::list_items-loop-site-init t c = (omega arith, c.requires.place, c.requires.tall, c.requires.height, items_begin (in_site c.args.site c.args.deep c.args.brackets) c.args.place c.args.first c.args.cursor.now c.args.at c.in_ok-items.items.items c.requires.row c.in_ok-items.ensures.items)

pub lists::list_items-returns-then-is-clause-reads : goal.lists::list_items-returns-then-is-clause-reads
lists::list_items-returns-then-is-clause-reads t c = items_end (in_site c.args.site c.args.deep c.args.brackets) c.args.place c.args.first c.args.cursor.now c.args.at c.loop-site.next c.loop-site.items.items c.of.result c.of-then-is.result c.loop-site.height c.loop-site.invariant.4 (c.is.ensures.yes (search rules)) c.of.ensures (c.of-then-is.ensures ∙ c.new.ensures.items)

pub lists::list_items-returns-in_err-last-clause-reads : goal.lists::list_items-returns-in_err-last-clause-reads
lists::list_items-returns-in_err-last-clause-reads t c = let p = err_from_is_err_and c.from_residual-in_err-last.result c.from_residual-in_err-last.ensures.1 in rw (p.1, p.2) (items_tail_err (in_site c.args.site c.args.deep c.args.brackets) c.args.place c.args.first c.args.cursor.now c.args.at c.loop-site.next c.loop-site.items.items c.loop-site.height _ c.loop-site.invariant.4 (c.is-in-loop-site.ensures.yes (search rules)) c.in_err-last.ensures.reads)

pub lists::list_items-returns-then-is-2-clause-reads : goal.lists::list_items-returns-then-is-2-clause-reads
lists::list_items-returns-then-is-2-clause-reads t c = items_tail_ok (in_site c.args.site c.args.deep c.args.brackets) c.args.place c.args.first c.args.cursor.now c.args.at c.loop-site.next c.in_ok-last.after c.loop-site.items.items c.of-then-is-2.result c.of-then-is-2-2.result c.loop-site.height _ c.in_ok-last.last c.loop-site.invariant.4 (c.is-in-loop-site.ensures.yes (search rules)) c.in_ok-last.ensures.reads c.of-then-is-2.ensures (c.of-then-is-2-2.ensures ∙ c.in_ok-vec.ensures.items) (ap (λ v. v + 1) c.higher-highest.ensures)

pub lists::list_items-returns-then-not-is-clause-reads : goal.lists::list_items-returns-then-not-is-clause-reads
lists::list_items-returns-then-not-is-clause-reads t c = items_other (in_site c.args.site c.args.deep c.args.brackets) c.args.place c.args.first c.args.cursor.now c.args.at c.loop-site.next c.loop-site.items.items c.loop-site.height c.loop-site.invariant.4 (c.is-in-loop-site-2.ensures.no (search rules)) (c.is-in-loop-site.ensures.no (search rules)) (c.is.ensures.no (search rules))

pub lists::list_items-returns-in_err-item-clause-reads : goal.lists::list_items-returns-in_err-item-clause-reads
lists::list_items-returns-in_err-item-clause-reads t c = let p = err_from_is_err_and c.from_residual-in_err-item.result c.from_residual-in_err-item.ensures.1 in rw (p.1, p.2) (items_err (in_site c.args.site c.args.deep c.args.brackets) c.args.place c.args.first c.args.cursor.now c.args.at c.loop-site.next c.loop-site.items.items c.loop-site.height _ c.loop-site.invariant.4 (c.is-in-loop-site-2.ensures.yes (search rules)) c.in_err-item.ensures.reads)

pub lists::list_items-loop-site-preserved : goal.lists::list_items-loop-site-preserved
lists::list_items-loop-site-preserved t c = (omega (arith, c.loop-site.invariant.0, c.in_ok-item.ensures.further.0), c.in_ok-item.ensures.further.1, omega (arith, c.loop-site.invariant.2, c.higher-height.ensures), omega (arith, c.in_ok-item.ensures.bounded.1, c.loop-site.invariant.3, c.higher-height.ensures), items_next (in_site c.args.site c.args.deep c.args.brackets) c.args.place c.args.first c.args.cursor.now c.args.at c.loop-site.next c.in_ok-item.after c.loop-site.items.items _ c.loop-site.height c.higher-height.result c.in_ok-item.item c.loop-site.invariant.4 (c.is-in-loop-site-2.ensures.yes (search rules)) c.in_ok-item.ensures.reads c.in_ok-push.ensures.items c.higher-height.ensures)

pub lists::last-returns-in_err-tail-clause-reads : goal.lists::last-returns-in_err-tail-clause-reads
lists::last-returns-in_err-tail-clause-reads t c = let p = err_from_is_err_and c.from_residual.result c.from_residual.ensures.1 in rw (p.1, p.2) (last_err k.RightBracket (in_site c.args.site c.args.deep c.args.brackets) c.args.cursor.now c.args.at _ refl c.in_err-tail.ensures.reads)

pub lists::last-returns-in_err-next-clause-reads : goal.lists::last-returns-in_err-next-clause-reads
lists::last-returns-in_err-next-clause-reads t c = let p = err_from_is_err_and c.from_residual-in_err-next.result c.from_residual-in_err-next.ensures.1 in rw (p.1, p.2) (last_close_err k.RightBracket (in_site c.args.site c.args.deep c.args.brackets) c.args.cursor.now c.args.at c.in_ok-tail.after c.in_ok-tail.tail _ refl c.in_ok-tail.ensures.reads c.in_err-next.ensures.reads)

pub lists::last-returns-clause-reads : goal.lists::last-returns-clause-reads
lists::last-returns-clause-reads t c = last_ok k.RightBracket (in_site c.args.site c.args.deep c.args.brackets) c.args.cursor.now c.args.at c.in_ok-tail.after c.in_ok-next.next c.in_ok-tail.tail _ refl c.in_ok-tail.ensures.reads c.in_ok-next.ensures.reads

pub segments::bits-returns-then-is-clause-reads : goal.segments::bits-returns-then-is-clause-reads
segments::bits-returns-then-is-clause-reads t c = bits_empty_ok (in_site c.args.site c.args.deep c.args.brackets) c.args.cursor.now c.args.at c.args.place c.of-segments.result (c.is.ensures.yes (search rules)) (c.of-segments.ensures ∙ c.new.ensures.items)

pub segments::bits-returns-then-deep-trees-clause-reads : goal.segments::bits-returns-then-deep-trees-clause-reads
segments::bits-returns-then-deep-trees-clause-reads t c = bits_signed_deep (in_site c.args.site c.args.deep c.args.brackets) c.args.cursor.now c.args.at c.args.place c.in-Some.sign c.in-Some.op c.in-Some.ensures.operator (omega arith)

pub segments::bits-returns-in_err-first-clause-reads : goal.segments::bits-returns-in_err-first-clause-reads
segments::bits-returns-in_err-first-clause-reads t c = let p = err_from_is_err_and c.from_residual.result c.from_residual.ensures.1 in rw (p.1, p.2) (bits_signed_err (in_site c.args.site c.args.deep c.args.brackets) c.args.cursor.now c.args.at c.args.place c.in-Some.sign c.in-Some.op _ c.in-Some.ensures.operator (omega arith) c.in_err-first.ensures.reads)

pub segments::bits-returns-in-Some-clause-reads : goal.segments::bits-returns-in-Some-clause-reads
segments::bits-returns-in-Some-clause-reads t c = bits_signed_then (in_site c.args.site c.args.deep c.args.brackets) c.args.cursor.now c.args.at c.in_ok-first.next c.args.place c.in-Some.sign c.in-Some.op c.in_ok-first.first c.in_ok-first.height c.more_segments.result c.in-Some.ensures.operator (omega arith) c.in_ok-first.ensures.reads c.more_segments.ensures.reads

pub segments::bits-returns-then-deep-trees-2-clause-reads : goal.segments::bits-returns-then-deep-trees-2-clause-reads
segments::bits-returns-then-deep-trees-2-clause-reads t c = bits_deep (in_site c.args.site c.args.deep c.args.brackets) c.args.cursor.now c.args.at c.args.place c.simple_cause.result (no_size_mode c.args.site) (omega arith) (c.is.ensures.no (search rules)) c.in_default.ensures.operator c.simple_cause.ensures

pub segments::bits-returns-in_err-value-clause-reads : goal.segments::bits-returns-in_err-value-clause-reads
segments::bits-returns-in_err-value-clause-reads t c = let p = err_from_is_err_and c.from_residual-in_err-value.result c.from_residual-in_err-value.ensures.1 in rw (p.1, p.2) (bits_value_err (in_site c.args.site c.args.deep c.args.brackets) c.args.cursor.now c.args.at c.args.place _ (omega arith) (c.is.ensures.no (search rules)) c.in_default.ensures.operator c.in_err-value.ensures.reads)

pub segments::bits-returns-clause-reads : goal.segments::bits-returns-clause-reads
segments::bits-returns-clause-reads t c = bits_value_then (in_site c.args.site c.args.deep c.args.brackets) c.args.cursor.now c.args.at c.in_ok-value.next c.args.place c.in_ok-value.value c.after_value.result (omega arith) (c.is.ensures.no (search rules)) c.in_default.ensures.operator c.in_ok-value.ensures.reads c.after_value.ensures.reads

pub segments::after_value-returns-in_err-first-clause-reads : goal.segments::after_value-returns-in_err-first-clause-reads
segments::after_value-returns-in_err-first-clause-reads t c = let p = err_from_is_err_and c.from_residual.result c.from_residual.ensures.1 in rw (p.1, p.2) (value_rest_err (in_site c.args.site c.args.deep c.args.brackets) c.args.cursor.now c.args.at c.args.place c.args.value _ (c.is_row.ensures.no (search rules)) c.in_err-first.ensures.reads)

pub segments::after_value-returns-then-not-is_row-clause-reads : goal.segments::after_value-returns-then-not-is_row-clause-reads
segments::after_value-returns-then-not-is_row-clause-reads t c = value_rest_then (in_site c.args.site c.args.deep c.args.brackets) c.args.cursor.now c.args.at c.in_ok-first.next c.args.place c.args.value c.in_ok-first.first c.in_ok-first.height c.more_segments.result (c.is_row.ensures.no (search rules)) c.in_ok-first.ensures.reads c.more_segments.ensures.reads

pub segments::after_value-returns-in_err-quals-clause-reads : goal.segments::after_value-returns-in_err-quals-clause-reads
segments::after_value-returns-in_err-quals-clause-reads t c = let p = err_from_is_err_and c.from_residual-in_err-quals.result c.from_residual-in_err-quals.ensures.1 in rw (p.1, p.2) (value_row_err (in_site c.args.site c.args.deep c.args.brackets) c.args.cursor.now c.args.at c.args.place c.args.value _ (c.is_row.ensures.body (search rules)) (c.is_row.ensures.yes (search rules)) c.in_err-quals.ensures.reads)

pub segments::after_value-returns-clause-reads : goal.segments::after_value-returns-clause-reads
segments::after_value-returns-clause-reads t c = value_row_ok (in_site c.args.site c.args.deep c.args.brackets) c.args.cursor.now c.args.at c.in_ok-quals.next c.args.place c.args.value c.of-row.result c.in_ok-quals.quals c.in_ok-quals.height _ (c.is_row.ensures.body (search rules)) (c.is_row.ensures.yes (search rules)) c.in_ok-quals.ensures.reads (c.of-row.ensures ∙ c.in_ok-vec.ensures.items) (ap (λ v. v + 1) c.higher-highest.ensures)

pub segments::more_segments-returns-then-is-clause-reads : goal.segments::more_segments-returns-then-is-clause-reads
segments::more_segments-returns-then-is-clause-reads t c = segments_end (in_site c.args.site c.args.deep c.args.brackets) c.args.place c.args.cursor.now c.args.at c.loop-alloc.next c.args.first c.args.height c.loop-alloc.segments.items c.of-segments.result c.loop-alloc.highest c.loop-alloc.invariant.4 (c.is.ensures.yes (search rules)) c.of-segments.ensures

pub segments::more_segments-returns-then-not-is-clause-reads : goal.segments::more_segments-returns-then-not-is-clause-reads
segments::more_segments-returns-then-not-is-clause-reads t c = segments_other (in_site c.args.site c.args.deep c.args.brackets) c.args.place c.args.cursor.now c.args.at c.loop-alloc.next c.args.first c.args.height c.loop-alloc.segments.items c.loop-alloc.highest c.loop-alloc.invariant.4 (c.is-in-loop-alloc.ensures.no (search rules)) (c.is.ensures.no (search rules))

pub segments::more_segments-returns-in_err-item-clause-reads : goal.segments::more_segments-returns-in_err-item-clause-reads
segments::more_segments-returns-in_err-item-clause-reads t c = let p = err_from_is_err_and c.from_residual-in_err-item.result c.from_residual-in_err-item.ensures.1 in rw (p.1, p.2) (segments_err (in_site c.args.site c.args.deep c.args.brackets) c.args.place c.args.cursor.now c.args.at c.loop-alloc.next c.args.first c.args.height c.loop-alloc.segments.items c.loop-alloc.highest _ c.loop-alloc.invariant.4 (c.is-in-loop-alloc.ensures.yes (search rules)) c.in_err-item.ensures.reads)

pub segments::more_segments-loop-alloc-preserved : goal.segments::more_segments-loop-alloc-preserved
segments::more_segments-loop-alloc-preserved t c = (omega (arith, c.loop-alloc.invariant.0, c.in_ok-item.ensures.further.0), c.in_ok-item.ensures.further.1, omega (arith, c.loop-alloc.invariant.2, c.higher-highest.ensures), omega (arith, c.in_ok-item.ensures.bounded.1, c.loop-alloc.invariant.3, c.higher-highest.ensures), segments_next (in_site c.args.site c.args.deep c.args.brackets) c.args.place c.args.cursor.now c.args.at c.loop-alloc.next c.in_ok-item.after c.args.first c.args.height c.loop-alloc.segments.items _ c.loop-alloc.highest c.higher-highest.result c.in_ok-item.item c.in_ok-item.tall c.loop-alloc.invariant.4 (c.is-in-loop-alloc.ensures.yes (search rules)) c.in_ok-item.ensures.reads c.in_ok-push.ensures.items c.higher-highest.ensures)

pub segments::segment-returns-then-deep-trees-clause-reads : goal.segments::segment-returns-then-deep-trees-clause-reads
segments::segment-returns-then-deep-trees-clause-reads t c = segment_deep (in_site c.args.site c.args.deep c.args.brackets) c.args.cursor.now c.args.at c.in-Some.sign c.in-Some.op c.in-Some.ensures.operator (omega arith)

pub segments::segment-returns-in-Some-clause-reads : goal.segments::segment-returns-in-Some-clause-reads
segments::segment-returns-in-Some-clause-reads t c = segment_signed (in_site c.args.site c.args.deep c.args.brackets) c.args.cursor.now c.args.at c.in-Some.sign c.in-Some.op c.prefixed.result c.in-Some.ensures.operator c.prefixed.ensures.reads

pub segments::segment-returns-in_err-value-clause-reads : goal.segments::segment-returns-in_err-value-clause-reads
segments::segment-returns-in_err-value-clause-reads t c = let p = err_from_is_err_and c.from_residual.result c.from_residual.ensures.1 in rw (p.1, p.2) (segment_value_err (in_site c.args.site c.args.deep c.args.brackets) c.args.cursor.now c.args.at _ c.in_default.ensures.operator c.in_err-value.ensures.reads)

pub segments::segment-returns-clause-reads : goal.segments::segment-returns-clause-reads
segments::segment-returns-clause-reads t c = segment_then (in_site c.args.site c.args.deep c.args.brackets) c.args.cursor.now c.args.at c.in_ok-value.next c.in_ok-value.value c.segment_rest.result c.in_default.ensures.operator c.in_ok-value.ensures.reads c.segment_rest.ensures.reads

pub segments::prefixed-returns-in_err-part-clause-reads : goal.segments::prefixed-returns-in_err-part-clause-reads
segments::prefixed-returns-in_err-part-clause-reads t c = let p = err_from_is_err_and c.from_residual.result c.from_residual.ensures.1 in rw (p.1, p.2) (prefixed_err (in_site c.args.site c.args.deep c.args.brackets) c.args.cursor.now c.args.at c.args.sign c.args.op _ c.requires.operator (omega arith) c.in_err-part.ensures.reads)

pub segments::prefixed-returns-clause-reads : goal.segments::prefixed-returns-clause-reads
segments::prefixed-returns-clause-reads t c = prefixed_then (in_site c.args.site c.args.deep c.args.brackets) c.args.cursor.now c.args.at c.in_ok-part.next c.args.sign c.args.op c.in_ok-part.part c.of-part.result c.segment_rest.result c.requires.operator (omega arith) c.in_ok-part.ensures.reads (c.of-part.ensures ∙ c.in_ok-vec.ensures.items) c.segment_rest.ensures.reads

pub segments::simple-returns-in_default-clause-reads : goal.segments::simple-returns-in_default-clause-reads
segments::simple-returns-in_default-clause-reads t c = simple_at_end (in_site c.args.site c.args.deep c.args.brackets) c.args.cursor.now c.args.at c.common.result c.in_default.ensures.token c.common.ensures.reads

pub segments::simple-returns-in_default-kind-clause-reads : goal.segments::simple-returns-in_default-kind-clause-reads
segments::simple-returns-in_default-kind-clause-reads t c = simple_common (in_site c.args.site c.args.deep c.args.brackets) c.args.cursor.now c.args.at c.in-Some.numbered _ c.in-Some.ensures.token c.in_default-kind.not-Atom c.common-in_default-kind.ensures.reads

pub segments::simple-returns-in-Atom-clause-reads : goal.segments::simple-returns-in-Atom-clause-reads
segments::simple-returns-in-Atom-clause-reads t c = simple_atom_ok (in_site c.args.site c.args.deep c.args.brackets) c.args.cursor.now c.args.at c.in-Some.numbered c.in-Some.ensures.token c.in-Atom.is

pub segments::segment_rest-returns-in_err-segment-clause-reads : goal.segments::segment_rest-returns-in_err-segment-clause-reads
segments::segment_rest-returns-in_err-segment-clause-reads t c = let p = err_from_is_err_and c.from_residual.result c.from_residual.ensures.1 in rw (p.1, p.2) (unsized_err (in_site c.args.site c.args.deep c.args.brackets) c.args.cursor.now c.args.at c.args.value _ (c.is.ensures.no (search rules)) c.in_err-segment.ensures.reads)

pub segments::segment_rest-returns-then-not-is-clause-reads : goal.segments::segment_rest-returns-then-not-is-clause-reads
segments::segment_rest-returns-then-not-is-clause-reads t c = unsized_ok (in_site c.args.site c.args.deep c.args.brackets) c.args.cursor.now c.args.at c.in_ok-segment.next c.args.value c.in_ok-segment.segment (c.is.ensures.no (search rules)) c.in_ok-segment.ensures.reads

pub segments::segment_rest-returns-in_err-size-clause-reads : goal.segments::segment_rest-returns-in_err-size-clause-reads
segments::segment_rest-returns-in_err-size-clause-reads t c = let p = err_from_is_err_and c.from_residual-in_err-size.result c.from_residual-in_err-size.ensures.1 in rw (p.1, p.2) (size_err (in_site c.args.site c.args.deep c.args.brackets) c.args.cursor.now c.args.at c.args.value _ (c.is.ensures.yes (search rules)) c.in_err-size.ensures.reads)

pub segments::segment_rest-returns-in_err-segment-2-clause-reads : goal.segments::segment_rest-returns-in_err-segment-2-clause-reads
segments::segment_rest-returns-in_err-segment-2-clause-reads t c = let p = err_from_is_err_and c.from_residual-in_err-segment-2.result c.from_residual-in_err-segment-2.ensures.1 in rw (p.1, p.2) (sized_err (in_site c.args.site c.args.deep c.args.brackets) c.args.cursor.now c.args.at c.in_ok-size.after c.args.value c.in_ok-size.size _ (c.is.ensures.yes (search rules)) c.in_ok-size.ensures.reads c.in_err-segment-2.ensures.reads)

pub segments::segment_rest-returns-clause-reads : goal.segments::segment_rest-returns-clause-reads
segments::segment_rest-returns-clause-reads t c = sized_ok (in_site c.args.site c.args.deep c.args.brackets) c.args.cursor.now c.args.at c.in_ok-size.after c.in_ok-segment-2.next c.args.value c.in_ok-size.size c.in_ok-segment-2.segment _ (c.is.ensures.yes (search rules)) c.in_ok-size.ensures.reads c.in_ok-segment-2.ensures.reads c.higher-highest.ensures

pub bodies::guarded-returns-then-is-clause-reads : goal.bodies::guarded-returns-then-is-clause-reads
bodies::guarded-returns-then-is-clause-reads t c = guarded_none (in_body c.args.deep c.args.brackets) c.args.cursor.now c.args.at c.of-alternatives.result (c.is.ensures.yes (search rules)) (c.of-alternatives.ensures ∙ c.new.ensures.items)

pub bodies::guarded-returns-then-not-is-clause-reads : goal.bodies::guarded-returns-then-not-is-clause-reads
bodies::guarded-returns-then-not-is-clause-reads t c = guarded_other (in_body c.args.deep c.args.brackets) c.args.cursor.now c.args.at (c.is.ensures.no (search rules)) (c.is-2.ensures.no (search rules))

pub bodies::guarded-returns-in_err-read-clause-reads : goal.bodies::guarded-returns-in_err-read-clause-reads
bodies::guarded-returns-in_err-read-clause-reads t c = let p = err_from_is_err_and c.from_residual.result c.from_residual.ensures.1 in rw (p.1, p.2) (guarded_err (in_body c.args.deep c.args.brackets) c.args.cursor.now c.args.at _ (c.is-2.ensures.yes (search rules)) c.in_err-read.ensures.reads)

pub bodies::guarded-returns-clause-reads : goal.bodies::guarded-returns-clause-reads
bodies::guarded-returns-clause-reads t c = guarded_ok (in_body c.args.deep c.args.brackets) c.args.cursor.now c.args.at c.in_ok-read.next c.in_ok-read.read (c.is-2.ensures.yes (search rules)) c.in_ok-read.ensures.reads

pub bodies::tests-returns-in_err-first-clause-reads : goal.bodies::tests-returns-in_err-first-clause-reads
bodies::tests-returns-in_err-first-clause-reads t c = let p = err_from_is_err_and c.from_residual.result c.from_residual.ensures.1 in rw (p.1, p.2) (tests_first_err (in_guard c.args.deep c.args.brackets) c.args.cursor.now c.args.at _ c.in_err-first.ensures.reads)

pub bodies::tests-loop-alloc-init : goal.bodies::tests-loop-alloc-init
bodies::tests-loop-alloc-init t c = (c.in_ok-first.ensures.further.0, c.in_ok-first.ensures.further.1, c.in_ok-first.ensures.bounded.0, c.in_ok-first.ensures.bounded.1, tests_begin (in_guard c.args.deep c.args.brackets) c.args.cursor.now c.args.at c.in_ok-first.after c.in_ok-first.first c.new-alternatives.result.items c.in_ok-tests.tests.items c.in_ok-first.ensures.reads c.new-alternatives.ensures.items c.in_ok-tests.ensures.items)

pub bodies::tests-returns-then-is-clause-reads : goal.bodies::tests-returns-then-is-clause-reads
bodies::tests-returns-then-is-clause-reads t c = tests_end (in_guard c.args.deep c.args.brackets) c.args.cursor.now c.args.at c.loop-alloc.next c.in_ok-first.first.at c.loop-alloc.alternatives.items c.of-tree.result c.loop-alloc.tests.items c.loop-alloc.height c.of.result c.loop-alloc.invariant.4 (c.is.ensures.yes (search rules)) c.of.ensures (c.of-tree.ensures ∙ c.in_ok-push.ensures.items)

pub bodies::tests-returns-then-not-is-clause-reads : goal.bodies::tests-returns-then-not-is-clause-reads
bodies::tests-returns-then-not-is-clause-reads t c = tests_other (in_guard c.args.deep c.args.brackets) c.args.cursor.now c.args.at c.loop-alloc.next c.in_ok-first.first.at c.loop-alloc.alternatives.items c.loop-alloc.tests.items c.loop-alloc.height c.loop-alloc.invariant.4 (c.is-else-is-2.ensures.no (search rules)) (c.is-in-loop-alloc.ensures.no (search rules)) (c.is.ensures.no (search rules))

pub bodies::tests-returns-in_err-test-clause-reads : goal.bodies::tests-returns-in_err-test-clause-reads
bodies::tests-returns-in_err-test-clause-reads t c =
    let begun : TestsBegun (in_guard c.args.deep c.args.brackets) c.args.cursor.now c.args.at (c.loop-alloc.next + 1) c.in_ok-first.first.at c.if-is-2.alternatives.items c.if-is-2.tests.items c.loop-alloc.height = elim c.if-is-2.branch [
      | bodies::tests-then-is-2+in_ok-push-2 w ↦ tests_semicolon (in_guard c.args.deep c.args.brackets) c.args.cursor.now c.args.at c.loop-alloc.next c.in_ok-first.first.at c.loop-alloc.alternatives.items c.if-is-2.alternatives.items c.loop-alloc.tests.items c.if-is-2.tests.items c.loop-alloc.height w.of-then-is-2.result c.loop-alloc.invariant.4 (c.is-in-loop-alloc.ensures.yes w.if-is-2.true) w.of-then-is-2.ensures (ap (λ v. v.items) w.alternatives-is ∙ w.in_ok-push-2.ensures.items) (ap (λ v. v.items) w.tests-is ∙ w.new-tests.ensures.items)
      | bodies::tests-else-is-2+else-not-is w ↦ tests_comma (in_guard c.args.deep c.args.brackets) c.args.cursor.now c.args.at c.loop-alloc.next c.in_ok-first.first.at c.loop-alloc.alternatives.items c.if-is-2.alternatives.items c.loop-alloc.tests.items c.if-is-2.tests.items c.loop-alloc.height c.loop-alloc.invariant.4 (w.is-else-is-2.ensures.yes (search (rules, w.if-not-is))) (ap (λ v. v.items) w.alternatives-is) (ap (λ v. v.items) w.tests-is)
    ] in
    let p = err_from_is_err_and c.from_residual-in_err-test.result c.from_residual-in_err-test.ensures.1 in
    rw (p.1, p.2) (tests_err (in_guard c.args.deep c.args.brackets) c.args.cursor.now c.args.at (c.loop-alloc.next + 1) c.in_ok-first.first.at c.if-is-2.alternatives.items c.if-is-2.tests.items c.loop-alloc.height _ begun c.in_err-test.ensures.reads)

pub bodies::tests-loop-alloc-preserved : goal.bodies::tests-loop-alloc-preserved
bodies::tests-loop-alloc-preserved t c =
    let begun : TestsBegun (in_guard c.args.deep c.args.brackets) c.args.cursor.now c.args.at (c.loop-alloc.next + 1) c.in_ok-first.first.at c.if-is-2.alternatives.items c.if-is-2.tests.items c.loop-alloc.height = elim c.if-is-2.branch [
      | bodies::tests-then-is-2+in_ok-push-2 w ↦ tests_semicolon (in_guard c.args.deep c.args.brackets) c.args.cursor.now c.args.at c.loop-alloc.next c.in_ok-first.first.at c.loop-alloc.alternatives.items c.if-is-2.alternatives.items c.loop-alloc.tests.items c.if-is-2.tests.items c.loop-alloc.height w.of-then-is-2.result c.loop-alloc.invariant.4 (c.is-in-loop-alloc.ensures.yes w.if-is-2.true) w.of-then-is-2.ensures (ap (λ v. v.items) w.alternatives-is ∙ w.in_ok-push-2.ensures.items) (ap (λ v. v.items) w.tests-is ∙ w.new-tests.ensures.items)
      | bodies::tests-else-is-2+else-not-is w ↦ tests_comma (in_guard c.args.deep c.args.brackets) c.args.cursor.now c.args.at c.loop-alloc.next c.in_ok-first.first.at c.loop-alloc.alternatives.items c.if-is-2.alternatives.items c.loop-alloc.tests.items c.if-is-2.tests.items c.loop-alloc.height c.loop-alloc.invariant.4 (w.is-else-is-2.ensures.yes (search (rules, w.if-not-is))) (ap (λ v. v.items) w.alternatives-is) (ap (λ v. v.items) w.tests-is)
    ] in (
      omega (arith, c.loop-alloc.invariant.0, c.in_ok-test.ensures.further.0),
      c.in_ok-test.ensures.further.1,
      omega (arith, c.in_ok-test.ensures.bounded.0, c.higher-height.ensures),
      omega (arith, c.in_ok-test.ensures.bounded.1, c.loop-alloc.invariant.3, c.higher-height.ensures),
      tests_more (in_guard c.args.deep c.args.brackets) c.args.cursor.now c.args.at (c.loop-alloc.next + 1) c.in_ok-test.after c.in_ok-first.first.at c.if-is-2.alternatives.items c.if-is-2.tests.items _ c.loop-alloc.height c.higher-height.result c.in_ok-test.test begun c.in_ok-test.ensures.reads c.in_ok-push-3.ensures.items c.higher-height.ensures,
    )

pub bodies::body-loop-items-init : goal.bodies::body-loop-items-init
bodies::body-loop-items-init t c = (omega arith, c.requires.place, omega arith, body_begin (in_body c.args.deep c.args.brackets) c.args.cursor.now c.args.at c.new-items.result.items c.new-items.ensures.items)

pub bodies::body-returns-in_err-read-clause-reads : goal.bodies::body-returns-in_err-read-clause-reads
bodies::body-returns-in_err-read-clause-reads t c = let p = err_from_is_err_and c.from_residual.result c.from_residual.ensures.1 in rw (p.1, p.2) (body_err (in_body c.args.deep c.args.brackets) c.args.cursor.now c.args.at c.loop-items.next c.loop-items.items.items c.loop-items.height _ c.loop-items.invariant.3 c.in_err-read.ensures.reads)

pub bodies::body-returns-then-not-is-clause-reads : goal.bodies::body-returns-then-not-is-clause-reads
bodies::body-returns-then-not-is-clause-reads t c = body_end (in_body c.args.deep c.args.brackets) c.args.cursor.now c.args.at c.loop-items.next c.in_ok-read.after c.loop-items.items.items c.of.result c.loop-items.height c.higher-height.result c.in_ok-read.read c.in_ok-read.tall c.loop-items.invariant.3 c.in_ok-read.ensures.reads (c.is.ensures.no (search rules)) (c.of.ensures ∙ c.in_ok-push.ensures.items) c.higher-height.ensures

pub bodies::body-returns-then-not-is-clause-bounded : goal.bodies::body-returns-then-not-is-clause-bounded
bodies::body-returns-then-not-is-clause-bounded t c = (omega (arith, c.in_ok-read.ensures.bounded.0, c.higher-height.ensures), omega (arith, c.in_ok-read.ensures.bounded.1, c.loop-items.invariant.2, c.higher-height.ensures))

pub bodies::body-loop-items-preserved : goal.bodies::body-loop-items-preserved
bodies::body-loop-items-preserved t c = (omega (arith, c.loop-items.invariant.0, c.in_ok-read.ensures.further.0), omega (arith, c.is.ensures.within (search rules)), omega (arith, c.in_ok-read.ensures.bounded.1, c.loop-items.invariant.2, c.higher-height.ensures), body_more (in_body c.args.deep c.args.brackets) c.args.cursor.now c.args.at c.loop-items.next c.in_ok-read.after c.loop-items.items.items _ c.loop-items.height c.higher-height.result c.in_ok-read.read c.in_ok-read.tall c.loop-items.invariant.3 c.in_ok-read.ensures.reads (c.is.ensures.yes (search rules)) c.in_ok-push.ensures.items c.higher-height.ensures)

pub alternatives::alts-loop-alts-init : goal.alternatives::alts-loop-alts-init
alternatives::alts-loop-alts-init t c = (omega arith, c.requires.place, omega arith, alts_begin (in_body c.args.deep c.args.brackets) c.args.cursor.now c.args.at c.new-alts.result.items c.new-alts.ensures.items)

pub alternatives::alts-returns-in_err-read-clause-reads : goal.alternatives::alts-returns-in_err-read-clause-reads
alternatives::alts-returns-in_err-read-clause-reads t c = let p = err_from_is_err_and c.from_residual.result c.from_residual.ensures.1 in rw (p.1, p.2) (clauses_err (in_body c.args.deep c.args.brackets) c.args.cursor.now c.args.at c.loop-alts.next c.loop-alts.alts.items c.loop-alts.height _ c.loop-alts.invariant.3 c.in_err-read.ensures.reads)

pub alternatives::alts-returns-then-is-clause-reads : goal.alternatives::alts-returns-then-is-clause-reads
alternatives::alts-returns-then-is-clause-reads t c = alts_end (in_body c.args.deep c.args.brackets) c.args.cursor.now c.args.at c.loop-alts.next c.in_ok-read.after c.loop-alts.alts.items c.of.result c.loop-alts.height c.higher-height.result c.in_ok-read.read c.in_ok-read.tall c.loop-alts.invariant.3 c.in_ok-read.ensures.reads (c.is.ensures.yes (search rules)) (c.of.ensures ∙ c.in_ok-push.ensures.items) c.higher-height.ensures

pub alternatives::alts-returns-then-is-clause-bounded : goal.alternatives::alts-returns-then-is-clause-bounded
alternatives::alts-returns-then-is-clause-bounded t c = (omega (arith, c.in_ok-read.ensures.bounded.0, c.higher-height.ensures), omega (arith, c.in_ok-read.ensures.bounded.1, c.loop-alts.invariant.2, c.higher-height.ensures))

pub alternatives::alts-returns-then-not-is-clause-reads : goal.alternatives::alts-returns-then-not-is-clause-reads
alternatives::alts-returns-then-not-is-clause-reads t c = alts_other (in_body c.args.deep c.args.brackets) c.args.cursor.now c.args.at c.loop-alts.next c.in_ok-read.after c.loop-alts.alts.items c.loop-alts.height c.in_ok-read.read c.in_ok-read.tall c.loop-alts.invariant.3 c.in_ok-read.ensures.reads (c.is-in-loop-alts.ensures.no (search rules)) (c.is.ensures.no (search rules))

pub alternatives::alts-loop-alts-preserved : goal.alternatives::alts-loop-alts-preserved
alternatives::alts-loop-alts-preserved t c = (omega (arith, c.loop-alts.invariant.0, c.in_ok-read.ensures.further.0), omega (arith, c.is-in-loop-alts.ensures.within (search rules)), omega (arith, c.in_ok-read.ensures.bounded.1, c.loop-alts.invariant.2, c.higher-height.ensures), alts_more (in_body c.args.deep c.args.brackets) c.args.cursor.now c.args.at c.loop-alts.next c.in_ok-read.after c.loop-alts.alts.items _ c.loop-alts.height c.higher-height.result c.in_ok-read.read c.in_ok-read.tall c.loop-alts.invariant.3 c.in_ok-read.ensures.reads (c.is-in-loop-alts.ensures.yes (search rules)) c.in_ok-push.ensures.items c.higher-height.ensures)

pub alternatives::alt-returns-in_err-first-clause-reads : goal.alternatives::alt-returns-in_err-first-clause-reads
alternatives::alt-returns-in_err-first-clause-reads t c = let p = err_from_is_err_and c.from_residual.result c.from_residual.ensures.1 in rw (p.1, p.2) (alt_pattern_err (in_body c.args.deep c.args.brackets) c.args.cursor.now c.args.at _ c.in_err-first.ensures.reads)

pub alternatives::alt-returns-in_err-guard-clause-reads : goal.alternatives::alt-returns-in_err-guard-clause-reads
alternatives::alt-returns-in_err-guard-clause-reads t c = let p = err_from_is_err_and c.from_residual-in_err-guard.result c.from_residual-in_err-guard.ensures.1 in rw (p.1, p.2) (alt_guard_err (in_body c.args.deep c.args.brackets) c.args.cursor.now c.args.at c.in_ok-first.after c.in_ok-first.first _ c.in_ok-first.ensures.reads c.in_err-guard.ensures.reads)

pub alternatives::alt-returns-in_err-items-clause-reads : goal.alternatives::alt-returns-in_err-items-clause-reads
alternatives::alt-returns-in_err-items-clause-reads t c = let p = err_from_is_err_and c.from_residual-in_err-items.result c.from_residual-in_err-items.ensures.1 in rw (p.1, p.2) (alt_body_err (in_body c.args.deep c.args.brackets) c.args.cursor.now c.args.at c.in_ok-first.after c.in_ok-guard.then c.in_ok-first.first c.in_ok-guard.guard c.in_ok-guard.guard_height _ c.in_ok-first.ensures.reads c.in_ok-guard.ensures.reads c.in_err-items.ensures.reads)

pub alternatives::alt-returns-clause-reads : goal.alternatives::alt-returns-clause-reads
alternatives::alt-returns-clause-reads t c = alt_ok (in_body c.args.deep c.args.brackets) c.args.cursor.now c.args.at c.in_ok-first.after c.in_ok-guard.then c.in_ok-items.next c.in_ok-first.first c.in_ok-guard.guard c.in_ok-guard.guard_height c.in_ok-items.items c.in_ok-items.body_height c.higher-height.result c.higher.result c.higher.ensures c.higher-height.ensures c.in_ok-first.ensures.reads c.in_ok-guard.ensures.reads c.in_ok-items.ensures.reads

pub alternatives::branches-loop-branches-init : goal.alternatives::branches-loop-branches-init
alternatives::branches-loop-branches-init t c = (omega arith, c.requires.place, omega arith, branches_begin (in_body c.args.deep c.args.brackets) c.args.cursor.now c.args.at c.new-branches.result.items c.new-branches.ensures.items)

pub alternatives::branches-returns-in_err-read-clause-reads : goal.alternatives::branches-returns-in_err-read-clause-reads
alternatives::branches-returns-in_err-read-clause-reads t c = let p = err_from_is_err_and c.from_residual.result c.from_residual.ensures.1 in rw (p.1, p.2) (branches_err (in_body c.args.deep c.args.brackets) c.args.cursor.now c.args.at c.loop-branches.next c.loop-branches.branches.items c.loop-branches.height _ c.loop-branches.invariant.3 c.in_err-read.ensures.reads)

pub alternatives::branches-returns-then-is-clause-reads : goal.alternatives::branches-returns-then-is-clause-reads
alternatives::branches-returns-then-is-clause-reads t c = branches_end (in_body c.args.deep c.args.brackets) c.args.cursor.now c.args.at c.loop-branches.next c.in_ok-read.after c.loop-branches.branches.items c.of.result c.loop-branches.height c.higher-height.result c.in_ok-read.read c.in_ok-read.tall c.loop-branches.invariant.3 c.in_ok-read.ensures.reads (c.is.ensures.yes (search rules)) (c.of.ensures ∙ c.in_ok-push.ensures.items) c.higher-height.ensures

pub alternatives::branches-returns-then-is-clause-bounded : goal.alternatives::branches-returns-then-is-clause-bounded
alternatives::branches-returns-then-is-clause-bounded t c = (omega (arith, c.in_ok-read.ensures.bounded.0, c.higher-height.ensures), omega (arith, c.in_ok-read.ensures.bounded.1, c.loop-branches.invariant.2, c.higher-height.ensures))

pub alternatives::branches-returns-then-not-is-clause-reads : goal.alternatives::branches-returns-then-not-is-clause-reads
alternatives::branches-returns-then-not-is-clause-reads t c = branches_other (in_body c.args.deep c.args.brackets) c.args.cursor.now c.args.at c.loop-branches.next c.in_ok-read.after c.loop-branches.branches.items c.loop-branches.height c.in_ok-read.read c.in_ok-read.tall c.loop-branches.invariant.3 c.in_ok-read.ensures.reads (c.is-in-loop-branches.ensures.no (search rules)) (c.is.ensures.no (search rules))

pub alternatives::branches-loop-branches-preserved : goal.alternatives::branches-loop-branches-preserved
alternatives::branches-loop-branches-preserved t c = (omega (arith, c.loop-branches.invariant.0, c.in_ok-read.ensures.further.0), omega (arith, c.is-in-loop-branches.ensures.within (search rules)), omega (arith, c.in_ok-read.ensures.bounded.1, c.loop-branches.invariant.2, c.higher-height.ensures), branches_more (in_body c.args.deep c.args.brackets) c.args.cursor.now c.args.at c.loop-branches.next c.in_ok-read.after c.loop-branches.branches.items _ c.loop-branches.height c.higher-height.result c.in_ok-read.read c.in_ok-read.tall c.loop-branches.invariant.3 c.in_ok-read.ensures.reads (c.is-in-loop-branches.ensures.yes (search rules)) c.in_ok-push.ensures.items c.higher-height.ensures)

pub alternatives::branch-returns-in_err-read-clause-reads : goal.alternatives::branch-returns-in_err-read-clause-reads
alternatives::branch-returns-in_err-read-clause-reads t c = let p = err_from_is_err_and c.from_residual.result c.from_residual.ensures.1 in rw (p.1, p.2) (branch_tests_err (in_body c.args.deep c.args.brackets) c.args.cursor.now c.args.at _ c.in_err-read.ensures.reads)

pub alternatives::branch-returns-in_err-items-clause-reads : goal.alternatives::branch-returns-in_err-items-clause-reads
alternatives::branch-returns-in_err-items-clause-reads t c = let p = err_from_is_err_and c.from_residual-in_err-items.result c.from_residual-in_err-items.ensures.1 in rw (p.1, p.2) (branch_body_err (in_body c.args.deep c.args.brackets) c.args.cursor.now c.args.at c.in_ok-read.after c.in_ok-read.read _ c.in_ok-read.ensures.reads c.in_err-items.ensures.reads)

pub alternatives::branch-returns-clause-reads : goal.alternatives::branch-returns-clause-reads
alternatives::branch-returns-clause-reads t c = branch_ok (in_body c.args.deep c.args.brackets) c.args.cursor.now c.args.at c.in_ok-read.after c.in_ok-items.next c.in_ok-read.read c.in_ok-items.items c.in_ok-items.body_height c.higher.result c.higher.ensures c.in_ok-read.ensures.reads c.in_ok-items.ensures.reads

pub items::item-loop-pattern-init : goal.items::item-loop-pattern-init
items::item-loop-pattern-init t c = (omega arith, c.requires.place, omega arith, item_start (in_body c.args.deep c.args.brackets) c.args.cursor.now c.args.at c.new-patterns.result.items c.new-patterns.ensures.items)

pub items::item-matched-requires-clause-place : goal.items::item-matched-requires-clause-place
items::item-matched-requires-clause-place t c = c.loop-pattern.invariant.1

pub items::item-level-read-requires : goal.items::item-level-read-requires
items::item-level-read-requires t c = (omega (arith, c.loop-pattern.invariant.0, c.decreases), (c.loop-pattern.invariant.1, (c.requires.tree, (c.requires.bracket, omega arith))))

pub items::item-loop-pattern-smaller : goal.items::item-loop-pattern-smaller
items::item-loop-pattern-smaller t c = omega (arith, c.loop-pattern.invariant.1, c.in-Ok.ensures.further.0, c.in-Ok.ensures.further.1)

pub items::item-loop-pattern-preserved : goal.items::item-loop-pattern-preserved
items::item-loop-pattern-preserved t c = (omega (arith, c.loop-pattern.invariant.0, c.in-Ok.ensures.further.0), c.in-Ok.ensures.further.1, omega (arith, c.in-Ok.ensures.bounded.1, c.loop-pattern.invariant.2, c.higher-height.ensures), item_turn (in_body c.args.deep c.args.brackets) c.args.cursor.now c.args.at c.loop-pattern.next c.in-Ok.after c.loop-pattern.patterns.items _ c.loop-pattern.height c.higher-height.result c.in-Ok.pattern c.loop-pattern.invariant.3 c.in-Ok.ensures.reads c.in_ok-push-in-Ok.ensures.items c.higher-height.ensures)

pub items::item-returns-in_err-value-in-Err-clause-reads : goal.items::item-returns-in_err-value-in-Err-clause-reads
items::item-returns-in_err-value-in-Err-clause-reads t c = let p = err_from_is_err_and c.from_residual-in_err-value-in-Err.result c.from_residual-in_err-value-in-Err.ensures.1 in rw (p.1, p.2) (item_err (in_body c.args.deep c.args.brackets) c.args.cursor.now c.args.at c.loop-pattern.next c.loop-pattern.patterns.items c.loop-pattern.height _ c.loop-pattern.invariant.3 (c.in_err-value-in-Err.ensures.reads (in_body c.args.deep c.args.brackets) c.in-Err.ensures.reads c.level-read.ensures.reads))

pub items::item-returns-in-Err-clause-reads : goal.items::item-returns-in-Err-clause-reads
items::item-returns-in-Err-clause-reads t c = item_end (in_body c.args.deep c.args.brackets) c.args.cursor.now c.args.at c.loop-pattern.next c.in_ok-value-in-Err.after c.loop-pattern.patterns.items c.of-patterns.result c.loop-pattern.height c.higher-height-in-Err.result c.in_ok-value-in-Err.value c.loop-pattern.invariant.3 (c.in_ok-value-in-Err.ensures.reads (in_body c.args.deep c.args.brackets) c.in-Err.ensures.reads c.level-read.ensures.reads) c.of-patterns.ensures c.higher-height-in-Err.ensures

pub items::item-returns-in-Err-clause-further : goal.items::item-returns-in-Err-clause-further
items::item-returns-in-Err-clause-further t c = let m = read_further c.args.cursor.now c.loop-pattern.next c.level-read.result _ c.in_ok-value-in-Err.ensures.kept c.level-read.ensures.further in (omega (arith, c.loop-pattern.invariant.0, m.0), m.1)

pub items::item-returns-in-Err-clause-bounded : goal.items::item-returns-in-Err-clause-bounded
items::item-returns-in-Err-clause-bounded t c = let m = read_bounded c.args.cursor.now.limits c.args.deep c.level-read.result _ c.in_ok-value-in-Err.ensures.kept c.level-read.ensures.bounded in (omega (arith, c.higher-height-in-Err.ensures, m.0), omega (arith, c.higher-height-in-Err.ensures, m.1, c.loop-pattern.invariant.2))

pub quals::qual-returns-in_err-list-in-Ok-clause-reads : goal.quals::qual-returns-in_err-list-in-Ok-clause-reads
quals::qual-returns-in_err-list-in-Ok-clause-reads t c = let p = err_from_is_err_and c.from_residual.result c.from_residual.ensures.1 in rw (p.1, p.2) (generator_err (in_body c.args.deep c.args.brackets) c.args.cursor.now c.args.at c.in-Ok.after c.in-Ok.first _ c.in-Ok.ensures.reads c.in_err-list-in-Ok.ensures.reads)

pub quals::qual-returns-in-Ok-clause-reads : goal.quals::qual-returns-in-Ok-clause-reads
quals::qual-returns-in-Ok-clause-reads t c = items_ok (in_body c.args.deep c.args.brackets) c.args.cursor.now c.args.at c.in-Ok.after c.in_ok-list-in-Ok.next c.higher-height.result c.in-Ok.first c.in_ok-list-in-Ok.list c.in-Ok.ensures.reads c.in_ok-list-in-Ok.ensures.reads c.higher-height.ensures

pub quals::qual-returns-in_default-clause-reads : goal.quals::qual-returns-in_default-clause-reads
quals::qual-returns-in_default-clause-reads t c = c.filter.ensures.reads (in_body c.args.deep c.args.brackets) c.in-Err.ensures.reads c.in_default.ensures.opening c.level-read.ensures.reads

pub quals::qual-returns-then-brackets-clause-reads : goal.quals::qual-returns-then-brackets-clause-reads
quals::qual-returns-then-brackets-clause-reads t c = qual_full_at (in_body c.args.deep c.args.brackets) c.args.cursor.now c.args.at (opens_at c.args.cursor.now c.args.at c.in-Some.place c.in-Some.ensures.opening) (omega arith)

pub quals::qual-returns-in_err-bits-in-Ok-segments-clause-reads : goal.quals::qual-returns-in_err-bits-in-Ok-segments-clause-reads
quals::qual-returns-in_err-bits-in-Ok-segments-clause-reads t c = let p = err_from_is_err_and c.from_residual-in_err-bits-in-Ok-segments.result c.from_residual-in_err-bits-in-Ok-segments.ensures.1 in rw (p.1, p.2) (bits_err (in_body c.args.deep c.args.brackets) c.args.cursor.now c.args.at c.in-Ok-segments.after c.in-Ok-segments.read _ (omega arith) (opens_at c.args.cursor.now c.args.at c.in-Some.place c.in-Some.ensures.opening) c.in-Ok-segments.ensures.reads c.in_err-bits-in-Ok-segments.ensures.reads)

pub quals::qual-returns-in_ok-bits-in-Ok-segments-clause-reads : goal.quals::qual-returns-in_ok-bits-in-Ok-segments-clause-reads
quals::qual-returns-in_ok-bits-in-Ok-segments-clause-reads t c = bits_ok (in_body c.args.deep c.args.brackets) c.args.cursor.now c.args.at c.in-Ok-segments.after c.in_ok-bits-in-Ok-segments.next c.higher-height-in-Ok-segments.result c.in-Some.place c.in-Ok-segments.read.0 c.in-Ok-segments.read.1 c.in_ok-bits-in-Ok-segments.bits (omega arith) (opens_at c.args.cursor.now c.args.at c.in-Some.place c.in-Some.ensures.opening) c.in-Some.ensures.opening.place_is c.in-Ok-segments.ensures.reads c.in_ok-bits-in-Ok-segments.ensures.reads c.higher-height-in-Ok-segments.ensures

pub quals::qual-returns-in-Err-segments-clause-reads : goal.quals::qual-returns-in-Err-segments-clause-reads
quals::qual-returns-in-Err-segments-clause-reads t c = c.filter-in-Err-segments.ensures.reads (in_body c.args.deep c.args.brackets) c.in-Err.ensures.reads (omega arith, opens_at c.args.cursor.now c.args.at c.in-Some.place c.in-Some.ensures.opening, c.in-Err-segments.ensures.reads) c.level-read-in-Err-segments.ensures.reads

pub quals::quals-loop-items-init : goal.quals::quals-loop-items-init
quals::quals-loop-items-init t c = (omega arith, c.requires.place, omega arith, quals_begin c.args.close (in_body c.args.deep c.args.brackets) c.args.cursor.now c.args.at c.new-items.result.items c.new-items.ensures.items)

pub quals::quals-returns-in_err-item-clause-reads : goal.quals::quals-returns-in_err-item-clause-reads
quals::quals-returns-in_err-item-clause-reads t c = let p = err_from_is_err_and c.from_residual.result c.from_residual.ensures.1 in rw (p.1, p.2) (quals_err c.args.close (in_body c.args.deep c.args.brackets) c.args.cursor.now c.args.at c.loop-items.next c.loop-items.items.items c.loop-items.height _ (ends c.args.close c.requires.closes c.requires.ends) c.loop-items.invariant.3 c.in_err-item.ensures.reads)

pub quals::quals-returns-then-is-clause-reads : goal.quals::quals-returns-then-is-clause-reads
quals::quals-returns-then-is-clause-reads t c = quals_end c.args.close (in_body c.args.deep c.args.brackets) c.args.cursor.now c.args.at c.loop-items.next c.in_ok-item.after c.loop-items.items.items c.of.result c.loop-items.height c.higher-height.result (c.in_ok-item.item, c.in_ok-item.tall) (ends c.args.close c.requires.closes c.requires.ends) c.loop-items.invariant.3 c.in_ok-item.ensures.reads (c.is.ensures.yes (search rules)) (c.of.ensures ∙ c.in_ok-push.ensures.items) c.higher-height.ensures

pub quals::quals-returns-then-not-is-clause-reads : goal.quals::quals-returns-then-not-is-clause-reads
quals::quals-returns-then-not-is-clause-reads t c = quals_other c.args.close (in_body c.args.deep c.args.brackets) c.args.cursor.now c.args.at c.loop-items.next c.in_ok-item.after c.loop-items.items.items c.loop-items.height (c.in_ok-item.item, c.in_ok-item.tall) (ends c.args.close c.requires.closes c.requires.ends) c.loop-items.invariant.3 c.in_ok-item.ensures.reads (c.is-in-loop-items.ensures.no (search rules)) (c.is.ensures.no (search rules))

pub quals::quals-loop-items-preserved : goal.quals::quals-loop-items-preserved
quals::quals-loop-items-preserved t c = (omega (arith, c.loop-items.invariant.0, c.in_ok-item.ensures.further.0), omega (arith, c.is-in-loop-items.ensures.within (search rules)), omega (arith, c.in_ok-item.ensures.bounded.1, c.loop-items.invariant.2, c.higher-height.ensures), quals_more c.args.close (in_body c.args.deep c.args.brackets) c.args.cursor.now c.args.at c.loop-items.next c.in_ok-item.after c.loop-items.items.items _ c.loop-items.height c.higher-height.result (c.in_ok-item.item, c.in_ok-item.tall) (ends c.args.close c.requires.closes c.requires.ends) c.loop-items.invariant.3 c.in_ok-item.ensures.reads (c.is-in-loop-items.ensures.yes (search rules)) c.in_ok-push.ensures.items c.higher-height.ensures)
