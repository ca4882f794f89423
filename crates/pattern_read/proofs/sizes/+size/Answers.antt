use Rattle.std.proofs.Common.{rules, arith, ◌<◌, ◌≤◌, length, ◌+◌, ◌∙◌, sym, refl, ap, inl, inr, drop}
use Rattle.std.proofs.Math.Facts.{to_z-of_z}
use mir.Syntax.{w128}
use Rattle.std.proofs.lemmas.Result.{err_from_is_err_and}
use Rattle.pattern_read.specs.Wanted.{in_size}
use Rattle.pattern_read.proofs.Exits.{atom_alone, atom_call, atom_deep, atom_err, exprs_begin, exprs_empty, exprs_end, exprs_err, exprs_first, exprs_more, exprs_other, level_first, level_operand, level_tail, level_whole, operand_atom_err, operand_atom_ok, operand_character, operand_close, operand_close_err, operand_end, operand_integer, operand_macro_err, operand_macro_ok, operand_no_module, operand_none, operand_paren_deep, operand_paren_err, operand_prefix_deep, operand_prefix_err, operand_prefix_ok, operand_variable, qualified_alone, qualified_deep, qualified_err, qualified_no_name, qualified_no_open, qualified_ok, tail_deep, tail_err, tail_left_ok, tail_none, tail_right_ok}
use Rattle.pattern_read.proofs.sizes.+size.Goals as goal

pub size_after_atom-returns-then-not-is-clause-reads : goal.size_after_atom-returns-then-not-is-clause-reads
size_after_atom-returns-then-not-is-clause-reads t c = atom_alone (in_size c.args.deep c.args.brackets) c.args.cursor.now c.args.at c.args.place c.args.name c.size_qualified.result (c.is.ensures.no (search rules)) c.size_qualified.ensures.reads

pub size_after_atom-returns-then-brackets-clause-reads : goal.size_after_atom-returns-then-brackets-clause-reads
size_after_atom-returns-then-brackets-clause-reads t c = atom_deep (in_size c.args.deep c.args.brackets) c.args.cursor.now c.args.at c.args.place c.args.name (c.is.ensures.yes (search rules)) (omega arith)

pub size_after_atom-returns-in_err-args-clause-reads : goal.size_after_atom-returns-in_err-args-clause-reads
size_after_atom-returns-in_err-args-clause-reads t c = let p = err_from_is_err_and c.from_residual.result c.from_residual.ensures.1 in rw (p.1, p.2) (atom_err (in_size c.args.deep c.args.brackets) c.args.cursor.now c.args.at c.args.place c.args.name _ (c.is.ensures.yes (search rules)) (omega arith) c.in_err-args.ensures.reads)

pub size_after_atom-returns-clause-reads : goal.size_after_atom-returns-clause-reads
size_after_atom-returns-clause-reads t c = atom_call (in_size c.args.deep c.args.brackets) c.args.cursor.now c.args.at c.in_ok-args.next c.args.place c.args.name c.of-module.result c.in_ok-args.args c.in_ok-args.height (c.is.ensures.yes (search rules)) (omega arith) (c.of-module.ensures ∙ c.new.ensures.items) c.in_ok-args.ensures.reads

pub size_exprs-returns-then-is-clause-reads : goal.size_exprs-returns-then-is-clause-reads
size_exprs-returns-then-is-clause-reads t c = exprs_empty c.args.close (in_size c.args.deep c.args.brackets) c.args.cursor.now c.args.at c.of.result c.requires.closes (c.is.ensures.yes (search rules)) (c.of.ensures ∙ c.new-items.ensures.items)

pub size_exprs-returns-then-deep-trees-clause-reads : goal.size_exprs-returns-then-deep-trees-clause-reads
size_exprs-returns-then-deep-trees-clause-reads t c = exprs_first c.args.close (in_size c.args.deep c.args.brackets) (drop c.args.at c.args.cursor.now.words) c.first_cause.result refl c.first_cause.ensures (c.is.ensures.no (search rules)) (omega arith)

pub size_exprs-loop-items-init : goal.size_exprs-loop-items-init
size_exprs-loop-items-init t c = (omega arith, c.requires.place, omega arith, exprs_begin c.args.close (in_size c.args.deep c.args.brackets) c.args.cursor.now c.args.at c.new-items.result.items (omega arith) (c.is.ensures.no (search rules)) c.new-items.ensures.items)

pub size_exprs-returns-in_err-item-clause-reads : goal.size_exprs-returns-in_err-item-clause-reads
size_exprs-returns-in_err-item-clause-reads t c = let p = err_from_is_err_and c.from_residual.result c.from_residual.ensures.1 in rw (p.1, p.2) (exprs_err c.args.close (in_size c.args.deep c.args.brackets) c.args.cursor.now c.args.at c.loop-items.next c.loop-items.items.items c.loop-items.height _ c.requires.closes c.loop-items.invariant.3 c.in_err-item.ensures.reads)

pub size_exprs-returns-then-is-2-clause-reads : goal.size_exprs-returns-then-is-2-clause-reads
size_exprs-returns-then-is-2-clause-reads t c = exprs_end c.args.close (in_size c.args.deep c.args.brackets) c.args.cursor.now c.args.at c.loop-items.next c.in_ok-item.after c.loop-items.items.items c.of-then-is-2.result c.loop-items.height c.higher-height.result c.in_ok-item.item c.requires.closes c.loop-items.invariant.3 c.in_ok-item.ensures.reads (c.is-in-loop-items.ensures.yes (search rules)) (c.of-then-is-2.ensures ∙ c.in_ok-push.ensures.items) c.higher-height.ensures

pub size_exprs-returns-then-not-is-clause-reads : goal.size_exprs-returns-then-not-is-clause-reads
size_exprs-returns-then-not-is-clause-reads t c = exprs_other c.args.close (in_size c.args.deep c.args.brackets) c.args.cursor.now c.args.at c.loop-items.next c.in_ok-item.after c.loop-items.items.items c.loop-items.height c.in_ok-item.item c.requires.closes c.loop-items.invariant.3 c.in_ok-item.ensures.reads (c.is-in-loop-items-2.ensures.no (search rules)) (c.is-in-loop-items.ensures.no (search rules))

pub size_exprs-loop-items-preserved : goal.size_exprs-loop-items-preserved
size_exprs-loop-items-preserved t c = (omega (arith, c.loop-items.invariant.0, c.in_ok-item.ensures.further.0), omega (arith, c.is-in-loop-items-2.ensures.within (search rules)), omega (arith, c.in_ok-item.ensures.bounded.1, c.loop-items.invariant.2, c.higher-height.ensures), exprs_more c.args.close (in_size c.args.deep c.args.brackets) c.args.cursor.now c.args.at c.loop-items.next c.in_ok-item.after c.loop-items.items.items _ c.loop-items.height c.higher-height.result c.in_ok-item.item c.requires.closes c.loop-items.invariant.3 c.in_ok-item.ensures.reads (c.is-in-loop-items-2.ensures.yes (search rules)) c.in_ok-push.ensures.items c.higher-height.ensures)

pub size_level-returns-then-wanted-eq6-clause-reads : goal.size_level-returns-then-wanted-eq6-clause-reads
size_level-returns-then-wanted-eq6-clause-reads t c = level_operand (in_size c.args.deep c.args.brackets) c.args.wanted c.args.cursor.now c.args.at c.size_operand.result (omega arith) c.size_operand.ensures.reads

pub size_level-returns-in_err-first-clause-reads : goal.size_level-returns-in_err-first-clause-reads
size_level-returns-in_err-first-clause-reads t c = let p = err_from_is_err_and c.from_residual.result c.from_residual.ensures.1 in rw (p.1, p.2) (level_first (in_size c.args.deep c.args.brackets) c.args.wanted c.args.cursor.now c.args.at _ (omega arith) c.in_err-first.ensures.reads)

pub size_level-returns-in_err-tree-clause-reads : goal.size_level-returns-in_err-tree-clause-reads
size_level-returns-in_err-tree-clause-reads t c = let p = err_from_is_err_and c.from_residual-in_err-tree.result c.from_residual-in_err-tree.ensures.1 in rw (p.1, p.2) (level_tail (in_size c.args.deep c.args.brackets) c.args.wanted c.args.cursor.now c.args.at c.in_ok-first.after c.in_ok-first.first _ (omega arith) c.in_ok-first.ensures.reads c.in_err-tree.ensures.reads)

pub size_level-returns-clause-reads : goal.size_level-returns-clause-reads
size_level-returns-clause-reads t c = level_whole (in_size c.args.deep c.args.brackets) c.args.wanted c.args.cursor.now c.args.at c.in_ok-first.after c.in_ok-tree.next c.in_ok-first.first c.in_ok-tree.tree c.in_ok-tree.height (omega arith) c.in_ok-first.ensures.reads c.in_ok-tree.ensures.reads

pub size_operand-returns-in_default-clause-reads : goal.size_operand-returns-in_default-clause-reads
size_operand-returns-in_default-clause-reads t c = operand_end (in_size c.args.deep c.args.brackets) c.args.cursor.now c.args.at refl c.in_default.ensures.token

pub size_operand-returns-then-deep-trees-clause-reads : goal.size_operand-returns-then-deep-trees-clause-reads
size_operand-returns-then-deep-trees-clause-reads t c = operand_prefix_deep (in_size c.args.deep c.args.brackets) c.args.cursor.now c.args.at c.in-Some.numbered c.in-Some-prefix.op c.in-Some.ensures.token (sym c.prefix.ensures ∙ c.in-Some-prefix.is) (omega arith)

pub size_operand-returns-in_err-part-clause-reads : goal.size_operand-returns-in_err-part-clause-reads
size_operand-returns-in_err-part-clause-reads t c = let p = err_from_is_err_and c.from_residual.result c.from_residual.ensures.1 in rw (p.1, p.2) (operand_prefix_err (in_size c.args.deep c.args.brackets) c.args.cursor.now c.args.at c.in-Some.numbered c.in-Some-prefix.op _ c.in-Some.ensures.token (sym c.prefix.ensures ∙ c.in-Some-prefix.is) (omega arith) c.in_err-part.ensures.reads)

pub size_operand-returns-in-Some-prefix-clause-reads : goal.size_operand-returns-in-Some-prefix-clause-reads
size_operand-returns-in-Some-prefix-clause-reads t c = operand_prefix_ok (in_size c.args.deep c.args.brackets) c.args.cursor.now c.args.at c.in_ok-part.next c.in-Some.numbered c.in-Some-prefix.op c.in_ok-part.part c.in_ok-one.field-0 c.in-Some.ensures.token (sym c.prefix.ensures ∙ c.in-Some-prefix.is) (omega arith) c.in_ok-one.ensures.list c.in_ok-part.ensures.reads

pub size_operand-returns-in_err-tree-in-Atom-clause-reads : goal.size_operand-returns-in_err-tree-in-Atom-clause-reads
size_operand-returns-in_err-tree-in-Atom-clause-reads t c = let p = err_from_is_err_and c.from_residual-in_err-tree-in-Atom.result c.from_residual-in_err-tree-in-Atom.ensures.1 in rw (p.1, p.2) (operand_atom_err (in_size c.args.deep c.args.brackets) c.args.cursor.now c.args.at c.in-Some.numbered _ c.in-Some.ensures.token c.in-Atom.is c.in_err-tree-in-Atom.ensures.reads)

pub size_operand-returns-then-not-is_module-clause-reads : goal.size_operand-returns-then-not-is_module-clause-reads
size_operand-returns-then-not-is_module-clause-reads t c = operand_no_module (in_size c.args.deep c.args.brackets) c.args.cursor.now c.args.at c.in-Some.numbered c.in-Some.ensures.token c.in-Question.is (c.is_module.ensures.no (search rules))

pub size_operand-returns-in_err-tree-in-Question-clause-reads : goal.size_operand-returns-in_err-tree-in-Question-clause-reads
size_operand-returns-in_err-tree-in-Question-clause-reads t c = let p = err_from_is_err_and c.from_residual-in_err-tree-in-Question.result c.from_residual-in_err-tree-in-Question.ensures.1 in rw (p.1, p.2) (operand_macro_err (in_size c.args.deep c.args.brackets) c.args.cursor.now c.args.at c.in-Some.numbered _ c.in-Some.ensures.token c.in-Question.is (c.is_module.ensures.yes (search rules)) c.in_err-tree-in-Question.ensures.reads)

pub size_operand-returns-then-brackets-clause-reads : goal.size_operand-returns-then-brackets-clause-reads
size_operand-returns-then-brackets-clause-reads t c = operand_paren_deep (in_size c.args.deep c.args.brackets) c.args.cursor.now c.args.at c.in-Some.numbered c.in-Some.ensures.token c.in-LeftParen.is (omega arith)

pub size_operand-returns-in_err-inner-in-LeftParen-clause-reads : goal.size_operand-returns-in_err-inner-in-LeftParen-clause-reads
size_operand-returns-in_err-inner-in-LeftParen-clause-reads t c = let p = err_from_is_err_and c.from_residual-in_err-inner-in-LeftParen.result c.from_residual-in_err-inner-in-LeftParen.ensures.1 in rw (p.1, p.2) (operand_paren_err (in_size c.args.deep c.args.brackets) c.args.cursor.now c.args.at c.in-Some.numbered _ c.in-Some.ensures.token c.in-LeftParen.is (omega arith) c.in_err-inner-in-LeftParen.ensures.reads)

pub size_operand-returns-in_err-next-in-LeftParen-clause-reads : goal.size_operand-returns-in_err-next-in-LeftParen-clause-reads
size_operand-returns-in_err-next-in-LeftParen-clause-reads t c = let p = err_from_is_err_and c.from_residual-in_err-next-in-LeftParen.result c.from_residual-in_err-next-in-LeftParen.ensures.1 in rw (p.1, p.2) (operand_close_err (in_size c.args.deep c.args.brackets) c.args.cursor.now c.args.at c.in_ok-inner-in-LeftParen.after c.in-Some.numbered c.in_ok-inner-in-LeftParen.inner _ c.in-Some.ensures.token c.in-LeftParen.is (omega arith) c.in_ok-inner-in-LeftParen.ensures.reads c.in_err-next-in-LeftParen.ensures.reads)

pub size_operand-returns-in_ok-name-in-Variable-clause-reads : goal.size_operand-returns-in_ok-name-in-Variable-clause-reads
size_operand-returns-in_ok-name-in-Variable-clause-reads t c = operand_variable (in_size c.args.deep c.args.brackets) c.args.cursor.now c.args.at c.in-Some.numbered c.in_ok-name-in-Variable.name c.in-Some.ensures.token c.in-Variable.is (c.in_ok-name-in-Variable.ensures c.in-Some.ensures.token.word (drop (c.args.at + 1) c.args.cursor.now.words) c.in-Some.ensures.token.is (c.in-Some.ensures.token.kind ∙ c.in-Variable.is))

pub size_operand-returns-in-Integer-clause-reads : goal.size_operand-returns-in-Integer-clause-reads
size_operand-returns-in-Integer-clause-reads t c = operand_integer (in_size c.args.deep c.args.brackets) c.args.cursor.now c.args.at c.in-Some.numbered _ c.in-Some.ensures.token c.in-Integer.is (to_z-of_z {w = w128} {z = c.integer-value.result} (record { sfits = c.integer-value.type_inv }) ∙ c.integer-value.ensures)

pub size_operand-returns-in-Character-clause-reads : goal.size_operand-returns-in-Character-clause-reads
size_operand-returns-in-Character-clause-reads t c = operand_character (in_size c.args.deep c.args.brackets) c.args.cursor.now c.args.at c.in-Some.numbered c.in-Some.ensures.token c.in-Character.is

pub size_operand-returns-in_ok-tree-in-Atom-clause-reads : goal.size_operand-returns-in_ok-tree-in-Atom-clause-reads
size_operand-returns-in_ok-tree-in-Atom-clause-reads t c = operand_atom_ok (in_size c.args.deep c.args.brackets) c.args.cursor.now c.args.at c.in_ok-tree-in-Atom.next c.in-Some.numbered c.in_ok-tree-in-Atom.tree c.in_ok-tree-in-Atom.height c.in-Some.ensures.token c.in-Atom.is c.in_ok-tree-in-Atom.ensures.reads

pub size_operand-returns-in_ok-tree-in-Question-clause-reads : goal.size_operand-returns-in_ok-tree-in-Question-clause-reads
size_operand-returns-in_ok-tree-in-Question-clause-reads t c = operand_macro_ok (in_size c.args.deep c.args.brackets) c.args.cursor.now c.args.at c.in_ok-tree-in-Question.next c.in-Some.numbered c.in_ok-tree-in-Question.tree c.in_ok-tree-in-Question.height c.in-Some.ensures.token c.in-Question.is (c.is_module.ensures.yes (search rules)) c.in_ok-tree-in-Question.ensures.reads

pub size_operand-returns-in_ok-next-in-LeftParen-clause-reads : goal.size_operand-returns-in_ok-next-in-LeftParen-clause-reads
size_operand-returns-in_ok-next-in-LeftParen-clause-reads t c = operand_close (in_size c.args.deep c.args.brackets) c.args.cursor.now c.args.at c.in_ok-inner-in-LeftParen.after c.in_ok-next-in-LeftParen.next c.in-Some.numbered c.in_ok-inner-in-LeftParen.inner _ c.in-Some.ensures.token c.in-LeftParen.is (omega arith) c.in_ok-inner-in-LeftParen.ensures.reads c.in_ok-next-in-LeftParen.ensures.reads

pub size_operand-returns-in_default-kind : goal.size_operand-returns-in_default-kind
size_operand-returns-in_default-kind t c = record { reads = operand_none (in_size c.args.deep c.args.brackets) c.args.cursor.now c.args.at c.in-Some.numbered refl c.in-Some.ensures.token (λ op e. c.in_default-prefix.not-Some op (c.prefix.ensures ∙ e)) c.in_default-kind.not-Atom c.in_default-kind.not-Question c.in_default-kind.not-Variable c.in_default-kind.not-Integer c.in_default-kind.not-Character c.in_default-kind.not-LeftParen; further = tt; bounded = tt }

pub size_qualified-returns-then-not-is-clause-reads : goal.size_qualified-returns-then-not-is-clause-reads
size_qualified-returns-then-not-is-clause-reads t c = qualified_alone (in_size c.args.deep c.args.brackets) c.args.cursor.now c.args.at c.args.place c.args.qualifier (c.is.ensures.no (search rules))

pub size_qualified-returns-then-deep-trees-clause-reads : goal.size_qualified-returns-then-deep-trees-clause-reads
size_qualified-returns-then-deep-trees-clause-reads t c = qualified_deep (in_size c.args.deep c.args.brackets) c.args.cursor.now c.args.at c.args.place c.args.qualifier (c.is.ensures.yes (search rules)) (inr (omega arith))

pub size_qualified-returns-then-brackets-clause-reads : goal.size_qualified-returns-then-brackets-clause-reads
size_qualified-returns-then-brackets-clause-reads t c = qualified_deep (in_size c.args.deep c.args.brackets) c.args.cursor.now c.args.at c.args.place c.args.qualifier (c.is.ensures.yes (search rules)) (inl (omega arith))

pub size_qualified-returns-in_default-clause-reads : goal.size_qualified-returns-in_default-clause-reads
size_qualified-returns-in_default-clause-reads t c = qualified_no_name (in_size c.args.deep c.args.brackets) c.args.cursor.now c.args.at c.args.place c.args.qualifier (c.is.ensures.yes (search rules)) (omega arith) (omega arith) c.in_default.ensures.atom

pub size_qualified-returns-then-not-is-2-clause-reads : goal.size_qualified-returns-then-not-is-2-clause-reads
size_qualified-returns-then-not-is-2-clause-reads t c = qualified_no_open (in_size c.args.deep c.args.brackets) c.args.cursor.now c.args.at c.args.place c.args.qualifier c.in-Some.name (c.is.ensures.yes (search rules)) c.in-Some.ensures.atom (omega arith) (omega arith) (c.is-2.ensures.no (search rules))

pub size_qualified-returns-in_err-args-clause-reads : goal.size_qualified-returns-in_err-args-clause-reads
size_qualified-returns-in_err-args-clause-reads t c = let p = err_from_is_err_and c.from_residual.result c.from_residual.ensures.1 in rw (p.1, p.2) (qualified_err (in_size c.args.deep c.args.brackets) c.args.cursor.now c.args.at c.args.place c.args.qualifier c.in-Some.name _ (c.is.ensures.yes (search rules)) c.in-Some.ensures.atom (c.is-2.ensures.yes (search rules)) (omega arith) (omega arith) c.in_err-args.ensures.reads)

pub size_qualified-returns-clause-reads : goal.size_qualified-returns-clause-reads
size_qualified-returns-clause-reads t c = qualified_ok (in_size c.args.deep c.args.brackets) c.args.cursor.now c.args.at c.in_ok-args.next c.args.place c.args.qualifier c.in-Some.name c.in_ok-module.module c.in_ok-args.args c.in_ok-args.height _ (c.is.ensures.yes (search rules)) c.in-Some.ensures.atom (c.is-2.ensures.yes (search rules)) (omega arith) (omega arith) c.in_ok-module.ensures.list (ap (λ v. v + 1) c.higher.ensures) c.in_ok-args.ensures.reads

pub size_tail-returns-in_default-clause-reads : goal.size_tail-returns-in_default-clause-reads
size_tail-returns-in_default-clause-reads t c = tail_none (in_size c.args.deep c.args.brackets) c.args.wanted c.args.cursor.now c.args.at c.args.left refl c.in_default.ensures.operator

pub size_tail-returns-then-deep-left-clause-reads : goal.size_tail-returns-then-deep-left-clause-reads
size_tail-returns-then-deep-left-clause-reads t c = tail_deep (in_size c.args.deep c.args.brackets) c.args.wanted c.args.cursor.now c.args.at c.args.left c.in-Some.op c.in-Some.ensures.operator (omega arith)

pub size_tail-returns-in_err-right-clause-reads : goal.size_tail-returns-in_err-right-clause-reads
size_tail-returns-in_err-right-clause-reads t c = let p = err_from_is_err_and c.from_residual.result c.from_residual.ensures.1 in rw (p.1, p.2) (tail_err (in_size c.args.deep c.args.brackets) c.args.wanted c.right_of.result c.args.cursor.now c.args.at c.args.left c.in-Some.op _ c.in-Some.ensures.operator c.right_of.ensures.level (omega arith) c.in_err-right.ensures.reads)

pub size_tail-returns-then-wanted-lt4-clause-reads : goal.size_tail-returns-then-wanted-lt4-clause-reads
size_tail-returns-then-wanted-lt4-clause-reads t c = tail_right_ok (in_size c.args.deep c.args.brackets) c.args.wanted c.right_of.result c.args.cursor.now c.args.at c.in_ok-right.next c.args.left c.in_ok-right.right c.in_ok-placed_binary.placed_binary c.in-Some.op c.in-Some.ensures.operator (omega arith) c.right_of.ensures.level (omega arith) c.in_ok-placed_binary.ensures.placed_binary c.in_ok-right.ensures.reads

pub size_tail-returns-clause-reads : goal.size_tail-returns-clause-reads
size_tail-returns-clause-reads t c = tail_left_ok (in_size c.args.deep c.args.brackets) c.args.wanted c.right_of.result c.args.cursor.now c.args.at c.in_ok-right.next c.args.left c.in_ok-right.right c.in_ok-placed_binary.placed_binary c.in-Some.op c.size_tail.result c.in-Some.ensures.operator (omega arith) c.right_of.ensures.level (omega arith) c.in_ok-placed_binary.ensures.placed_binary c.in_ok-right.ensures.reads c.size_tail.ensures.reads

pub size_tail-size_level-requires : goal.size_tail-size_level-requires
size_tail-size_level-requires t c = let w : c.args.at < length c.args.cursor.now.words = c.in-Some.ensures.within in let l : c.right_of.result ≤ 6 = c.right_of.ensures.low in (omega (arith, c.decreases), (omega arith, (omega arith, (c.requires.bracket, l))))
