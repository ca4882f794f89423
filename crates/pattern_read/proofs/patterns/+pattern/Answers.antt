use Rattle.std.proofs.Common.{rules, arith, ◌∙◌, sym, refl, drop}
use Rattle.std.proofs.lemmas.Result.{err_from_is_err_and}
use Rattle.pattern_read.specs.Wanted.{in_size}
use Rattle.pattern_read.proofs.LeafExits.{pat_end}
use Rattle.pattern_read.proofs.PatTails.{patterns_first, list_first}
use Rattle.pattern_read.proofs.PatExits.{pattern_first, pattern_same, pattern_whole, same_none, same_deep, same_begin, same_err, same_end, same_more, bracket_deep, paren_err, paren_close_err, paren_close, brace_err, brace_ok, square_err, square_ok, bits_err, bits_ok, is_bits, patterns_empty, patterns_begin, patterns_err, patterns_end, patterns_more, patterns_other, list_empty, list_begin, list_err, list_more, list_end_err, list_end, end_shut, end_other, tail_err, tail_close_err, tail_close}
use Rattle.pattern_read.proofs.patterns.+pattern.Goals as goal

pub pat-returns-in_default-clause-reads : goal.pat-returns-in_default-clause-reads
pat-returns-in_default-clause-reads t c = pat_end (in_size c.args.deep c.args.brackets) c.args.cursor.now c.args.at c.in_default.ensures.token

pub pat-returns-then-not-opens_pattern-clause-reads : goal.pat-returns-then-not-opens_pattern-clause-reads
pat-returns-then-not-opens_pattern-clause-reads t c = c.leaf.ensures.reads (in_size c.args.deep c.args.brackets)

pub pat-returns-then-brackets-clause-reads : goal.pat-returns-then-brackets-clause-reads
pat-returns-then-brackets-clause-reads t c = bracket_deep (in_size c.args.deep c.args.brackets) c.args.cursor.now c.args.at c.in-Some.numbered c.in-Some.ensures.token (sym c.opens_pattern.ensures ∙ c.if-not-opens_pattern.false) (omega arith)

pub pat-returns-in_err-inner-in-LeftParen-clause-reads : goal.pat-returns-in_err-inner-in-LeftParen-clause-reads
pat-returns-in_err-inner-in-LeftParen-clause-reads t c = let p = err_from_is_err_and c.from_residual.result c.from_residual.ensures.1 in rw (p.1, p.2) (paren_err (in_size c.args.deep c.args.brackets) c.args.cursor.now c.args.at c.in-Some.numbered _ c.in-Some.ensures.token c.in-LeftParen.is (omega arith) c.in_err-inner-in-LeftParen.ensures.reads)

pub pat-returns-in_err-next-in-LeftParen-clause-reads : goal.pat-returns-in_err-next-in-LeftParen-clause-reads
pat-returns-in_err-next-in-LeftParen-clause-reads t c = let p = err_from_is_err_and c.from_residual-in_err-next-in-LeftParen.result c.from_residual-in_err-next-in-LeftParen.ensures.1 in rw (p.1, p.2) (paren_close_err (in_size c.args.deep c.args.brackets) c.args.cursor.now c.args.at c.in_ok-inner-in-LeftParen.after c.in-Some.numbered c.in_ok-inner-in-LeftParen.inner _ c.in-Some.ensures.token c.in-LeftParen.is (omega arith) c.in_ok-inner-in-LeftParen.ensures.reads c.in_err-next-in-LeftParen.ensures.reads)

pub pat-returns-in_ok-next-in-LeftParen-clause-reads : goal.pat-returns-in_ok-next-in-LeftParen-clause-reads
pat-returns-in_ok-next-in-LeftParen-clause-reads t c = paren_close (in_size c.args.deep c.args.brackets) c.args.cursor.now c.args.at c.in_ok-inner-in-LeftParen.after c.in_ok-next-in-LeftParen.next c.in-Some.numbered c.in_ok-inner-in-LeftParen.inner _ c.in-Some.ensures.token c.in-LeftParen.is (omega arith) c.in_ok-inner-in-LeftParen.ensures.reads c.in_ok-next-in-LeftParen.ensures.reads

pub pat-returns-in_err-items-in-LeftBrace-clause-reads : goal.pat-returns-in_err-items-in-LeftBrace-clause-reads
pat-returns-in_err-items-in-LeftBrace-clause-reads t c = let p = err_from_is_err_and c.from_residual-in_err-items-in-LeftBrace.result c.from_residual-in_err-items-in-LeftBrace.ensures.1 in rw (p.1, p.2) (brace_err (in_size c.args.deep c.args.brackets) c.args.cursor.now c.args.at c.in-Some.numbered _ c.in-Some.ensures.token c.in-LeftBrace.is (omega arith) c.in_err-items-in-LeftBrace.ensures.reads)

pub pat-returns-in_ok-items-in-LeftBrace-clause-reads : goal.pat-returns-in_ok-items-in-LeftBrace-clause-reads
pat-returns-in_ok-items-in-LeftBrace-clause-reads t c = brace_ok (in_size c.args.deep c.args.brackets) c.args.cursor.now c.args.at c.in_ok-items-in-LeftBrace.next c.in-Some.numbered c.in_ok-items-in-LeftBrace.items c.in_ok-items-in-LeftBrace.height c.in-Some.ensures.token c.in-LeftBrace.is (omega arith) c.in_ok-items-in-LeftBrace.ensures.reads

pub pat-returns-in_err-items-in-LeftBracket-clause-reads : goal.pat-returns-in_err-items-in-LeftBracket-clause-reads
pat-returns-in_err-items-in-LeftBracket-clause-reads t c = let p = err_from_is_err_and c.from_residual-in_err-items-in-LeftBracket.result c.from_residual-in_err-items-in-LeftBracket.ensures.1 in rw (p.1, p.2) (square_err (in_size c.args.deep c.args.brackets) c.args.cursor.now c.args.at c.in-Some.numbered _ c.in-Some.ensures.token c.in-LeftBracket.is (omega arith) c.in_err-items-in-LeftBracket.ensures.reads)

pub pat-returns-in_ok-items-in-LeftBracket-clause-reads : goal.pat-returns-in_ok-items-in-LeftBracket-clause-reads
pat-returns-in_ok-items-in-LeftBracket-clause-reads t c = square_ok (in_size c.args.deep c.args.brackets) c.args.cursor.now c.args.at c.in_ok-items-in-LeftBracket.next c.in-Some.numbered c.in_ok-items-in-LeftBracket.items c.in_ok-items-in-LeftBracket.tail c.in_ok-items-in-LeftBracket.height c.in-Some.ensures.token c.in-LeftBracket.is (omega arith) c.in_ok-items-in-LeftBracket.ensures.reads

pub pat-returns-in_err-segments-in_default-kind : goal.pat-returns-in_err-segments-in_default-kind
pat-returns-in_err-segments-in_default-kind t c = let p = err_from_is_err_and c.from_residual-in_err-segments-in_default-kind.result c.from_residual-in_err-segments-in_default-kind.ensures.1 in rw (p.1, p.2) (record { reads = bits_err (in_size c.args.deep c.args.brackets) c.args.cursor.now c.args.at c.in-Some.numbered _ c.in-Some.ensures.token (is_bits c.in-Some.numbered.token.kind (sym c.opens_pattern.ensures ∙ c.if-not-opens_pattern.false) c.in_default-kind.not-LeftParen c.in_default-kind.not-LeftBrace c.in_default-kind.not-LeftBracket) (omega arith) c.in_err-segments-in_default-kind.ensures.reads; further = tt; bounded = tt })

pub pat-returns-in_ok-segments-in_default-kind : goal.pat-returns-in_ok-segments-in_default-kind
pat-returns-in_ok-segments-in_default-kind t c = record { reads = bits_ok (in_size c.args.deep c.args.brackets) c.args.cursor.now c.args.at c.in_ok-segments-in_default-kind.next c.in-Some.numbered c.in_ok-segments-in_default-kind.segments c.in_ok-segments-in_default-kind.height c.in-Some.ensures.token (is_bits c.in-Some.numbered.token.kind (sym c.opens_pattern.ensures ∙ c.if-not-opens_pattern.false) c.in_default-kind.not-LeftParen c.in_default-kind.not-LeftBrace c.in_default-kind.not-LeftBracket) (omega arith) c.in_ok-segments-in_default-kind.ensures.reads; further = (omega (arith, c.in_ok-segments-in_default-kind.ensures.further.0), c.in_ok-segments-in_default-kind.ensures.further.1); bounded = c.in_ok-segments-in_default-kind.ensures.bounded }

pub pattern-returns-in_err-first-clause-reads : goal.pattern-returns-in_err-first-clause-reads
pattern-returns-in_err-first-clause-reads t c = let p = err_from_is_err_and c.from_residual.result c.from_residual.ensures.1 in rw (p.1, p.2) (pattern_first (in_size c.args.deep c.args.brackets) c.args.cursor.now c.args.at _ c.in_err-first.ensures.reads)

pub pattern-returns-in_err-tree-clause-reads : goal.pattern-returns-in_err-tree-clause-reads
pattern-returns-in_err-tree-clause-reads t c = let p = err_from_is_err_and c.from_residual-in_err-tree.result c.from_residual-in_err-tree.ensures.1 in rw (p.1, p.2) (pattern_same (in_size c.args.deep c.args.brackets) c.args.cursor.now c.args.at c.in_ok-first.after c.in_ok-first.first _ c.in_ok-first.ensures.reads c.in_err-tree.ensures.reads)

pub pattern-returns-clause-reads : goal.pattern-returns-clause-reads
pattern-returns-clause-reads t c = pattern_whole (in_size c.args.deep c.args.brackets) c.args.cursor.now c.args.at c.in_ok-first.after c.in_ok-tree.next c.in_ok-first.first c.in_ok-tree.tree c.in_ok-tree.height c.in_ok-first.ensures.reads c.in_ok-tree.ensures.reads

pub same-returns-then-not-is-clause-reads : goal.same-returns-then-not-is-clause-reads
same-returns-then-not-is-clause-reads t c = same_none (in_size c.args.deep c.args.brackets) c.args.cursor.now c.args.at c.args.first (c.is.ensures.no (search rules))

pub same-returns-then-deep-first-clause-reads : goal.same-returns-then-deep-first-clause-reads
same-returns-then-deep-first-clause-reads t c = same_deep (in_size c.args.deep c.args.brackets) c.args.cursor.now c.args.at c.args.first (c.is.ensures.yes (search rules)) (omega arith)

pub same-loop-patterns-init : goal.same-loop-patterns-init
same-loop-patterns-init t c = (omega arith, omega (arith, c.is.ensures.within (search rules)), omega arith, same_begin (in_size c.args.deep c.args.brackets) c.args.first c.args.cursor.now c.args.at c.in_ok-patterns.patterns.items (c.is.ensures.yes (search rules)) (omega arith) c.in_ok-patterns.ensures.items, refl)

pub same-returns-in_err-item-clause-reads : goal.same-returns-in_err-item-clause-reads
same-returns-in_err-item-clause-reads t c = let p = err_from_is_err_and c.from_residual-in_err-item.result c.from_residual-in_err-item.ensures.1 in rw (p.1, p.2) (same_err (in_size c.args.deep c.args.brackets) c.args.first c.args.cursor.now c.args.at c.loop-patterns.next c.loop-patterns.patterns.items c.loop-patterns.height _ c.loop-patterns.invariant.3 c.in_err-item.ensures.reads)

pub same-returns-then-not-is-2-clause-reads : goal.same-returns-then-not-is-2-clause-reads
same-returns-then-not-is-2-clause-reads t c = same_end (in_size c.args.deep c.args.brackets) c.args.first c.args.cursor.now c.args.at c.loop-patterns.next c.in_ok-item.after c.loop-patterns.patterns.items c.of.result c.loop-patterns.height c.higher-height.result c.in_ok-item.item c.loop-patterns.invariant.3 c.in_ok-item.ensures.reads (c.is-in-loop-patterns.ensures.no (search rules)) (c.of.ensures ∙ c.in_ok-push.ensures.items) c.higher-height.ensures

pub same-loop-patterns-preserved : goal.same-loop-patterns-preserved
same-loop-patterns-preserved t c = (omega (arith, c.loop-patterns.invariant.0, c.in_ok-item.ensures.further.0), omega (arith, c.is-in-loop-patterns.ensures.within (search rules)), omega (arith, c.in_ok-item.ensures.bounded.1, c.loop-patterns.invariant.2, c.higher-height.ensures), same_more (in_size c.args.deep c.args.brackets) c.args.first c.args.cursor.now c.args.at c.loop-patterns.next c.in_ok-item.after c.loop-patterns.patterns.items _ c.loop-patterns.height c.higher-height.result c.in_ok-item.item c.loop-patterns.invariant.3 c.in_ok-item.ensures.reads (c.is-in-loop-patterns.ensures.yes (search rules)) c.in_ok-push.ensures.items c.higher-height.ensures, c.loop-patterns.invariant.4)

pub patterns-returns-then-is-clause-reads : goal.patterns-returns-then-is-clause-reads
patterns-returns-then-is-clause-reads t c = patterns_empty c.args.close (in_size c.args.deep c.args.brackets) c.args.cursor.now c.args.at c.of.result c.requires.closes (c.is.ensures.yes (search rules)) (c.of.ensures ∙ c.new-items.ensures.items)

pub patterns-returns-then-deep-trees-clause-reads : goal.patterns-returns-then-deep-trees-clause-reads
patterns-returns-then-deep-trees-clause-reads t c = patterns_first c.args.close (in_size c.args.deep c.args.brackets) (drop c.args.at c.args.cursor.now.words) c.pattern_cause.result c.pattern_cause.ensures (c.is.ensures.no (search rules)) (omega arith)

pub patterns-loop-items-init : goal.patterns-loop-items-init
patterns-loop-items-init t c = (omega arith, c.requires.place, omega arith, patterns_begin c.args.close (in_size c.args.deep c.args.brackets) c.args.cursor.now c.args.at c.new-items.result.items (omega arith) (c.is.ensures.no (search rules)) c.new-items.ensures.items)

pub patterns-returns-in_err-item-clause-reads : goal.patterns-returns-in_err-item-clause-reads
patterns-returns-in_err-item-clause-reads t c = let p = err_from_is_err_and c.from_residual.result c.from_residual.ensures.1 in rw (p.1, p.2) (patterns_err c.args.close (in_size c.args.deep c.args.brackets) c.args.cursor.now c.args.at c.loop-items.next c.loop-items.items.items c.loop-items.height _ c.requires.closes c.loop-items.invariant.3 c.in_err-item.ensures.reads)

pub patterns-returns-then-is-2-clause-reads : goal.patterns-returns-then-is-2-clause-reads
patterns-returns-then-is-2-clause-reads t c = patterns_end c.args.close (in_size c.args.deep c.args.brackets) c.args.cursor.now c.args.at c.loop-items.next c.in_ok-item.after c.loop-items.items.items c.of-then-is-2.result c.loop-items.height c.higher-height.result c.in_ok-item.item c.requires.closes c.loop-items.invariant.3 c.in_ok-item.ensures.reads (c.is-in-loop-items.ensures.yes (search rules)) (c.of-then-is-2.ensures ∙ c.in_ok-push.ensures.items) c.higher-height.ensures

pub patterns-returns-then-not-is-clause-reads : goal.patterns-returns-then-not-is-clause-reads
patterns-returns-then-not-is-clause-reads t c = patterns_other c.args.close (in_size c.args.deep c.args.brackets) c.args.cursor.now c.args.at c.loop-items.next c.in_ok-item.after c.loop-items.items.items c.loop-items.height c.in_ok-item.item c.requires.closes c.loop-items.invariant.3 c.in_ok-item.ensures.reads (c.is-in-loop-items-2.ensures.no (search rules)) (c.is-in-loop-items.ensures.no (search rules))

pub patterns-loop-items-preserved : goal.patterns-loop-items-preserved
patterns-loop-items-preserved t c = (omega (arith, c.loop-items.invariant.0, c.in_ok-item.ensures.further.0), omega (arith, c.is-in-loop-items-2.ensures.within (search rules)), omega (arith, c.in_ok-item.ensures.bounded.1, c.loop-items.invariant.2, c.higher-height.ensures), patterns_more c.args.close (in_size c.args.deep c.args.brackets) c.args.cursor.now c.args.at c.loop-items.next c.in_ok-item.after c.loop-items.items.items _ c.loop-items.height c.higher-height.result c.in_ok-item.item c.requires.closes c.loop-items.invariant.3 c.in_ok-item.ensures.reads (c.is-in-loop-items-2.ensures.yes (search rules)) c.in_ok-push.ensures.items c.higher-height.ensures)

pub pattern_list-returns-then-is-clause-reads : goal.pattern_list-returns-then-is-clause-reads
pattern_list-returns-then-is-clause-reads t c = list_empty (in_size c.args.deep c.args.brackets) c.args.cursor.now c.args.at c.of.result c.of-tail.result (c.is.ensures.yes (search rules)) (c.of.ensures ∙ c.new-items.ensures.items) (c.of-tail.ensures ∙ c.new.ensures.items)

pub pattern_list-returns-then-deep-trees-clause-reads : goal.pattern_list-returns-then-deep-trees-clause-reads
pattern_list-returns-then-deep-trees-clause-reads t c = list_first (in_size c.args.deep c.args.brackets) (drop c.args.at c.args.cursor.now.words) c.pattern_cause.result c.pattern_cause.ensures (c.is.ensures.no (search rules)) (omega arith)

pub pattern_list-loop-items-init : goal.pattern_list-loop-items-init
pattern_list-loop-items-init t c = (omega arith, c.requires.place, omega arith, list_begin (in_size c.args.deep c.args.brackets) c.args.cursor.now c.args.at c.new-items.result.items (omega arith) (c.is.ensures.no (search rules)) c.new-items.ensures.items)

pub pattern_list-returns-in_err-item-clause-reads : goal.pattern_list-returns-in_err-item-clause-reads
pattern_list-returns-in_err-item-clause-reads t c = let p = err_from_is_err_and c.from_residual.result c.from_residual.ensures.1 in rw (p.1, p.2) (list_err (in_size c.args.deep c.args.brackets) c.args.cursor.now c.args.at c.loop-items.next c.loop-items.items.items c.loop-items.height _ c.loop-items.invariant.3 c.in_err-item.ensures.reads)

pub pattern_list-returns-in_err-tail-clause-reads : goal.pattern_list-returns-in_err-tail-clause-reads
pattern_list-returns-in_err-tail-clause-reads t c = let p = err_from_is_err_and c.from_residual-in_err-tail.result c.from_residual-in_err-tail.ensures.1 in rw (p.1, p.2) (list_end_err (in_size c.args.deep c.args.brackets) c.args.cursor.now c.args.at c.loop-items.next c.in_ok-item.after c.loop-items.items.items c.loop-items.height c.in_ok-item.item _ c.loop-items.invariant.3 c.in_ok-item.ensures.reads (c.is-in-loop-items.ensures.no (search rules)) c.in_err-tail.ensures.reads)

pub pattern_list-returns-then-not-is-clause-reads : goal.pattern_list-returns-then-not-is-clause-reads
pattern_list-returns-then-not-is-clause-reads t c = list_end (in_size c.args.deep c.args.brackets) c.args.cursor.now c.args.at c.loop-items.next c.in_ok-item.after c.in_ok-tail.end c.loop-items.items.items c.of-then-not-is.result c.in_ok-tail.tail c.loop-items.height c.higher-height.result c.in_ok-tail.tall c.higher.result c.in_ok-item.item c.loop-items.invariant.3 c.in_ok-item.ensures.reads (c.is-in-loop-items.ensures.no (search rules)) c.in_ok-tail.ensures.reads (c.of-then-not-is.ensures ∙ c.in_ok-push.ensures.items) c.higher-height.ensures c.higher.ensures

pub pattern_list-loop-items-preserved : goal.pattern_list-loop-items-preserved
pattern_list-loop-items-preserved t c = (omega (arith, c.loop-items.invariant.0, c.in_ok-item.ensures.further.0), omega (arith, c.is-in-loop-items.ensures.within (search rules)), omega (arith, c.in_ok-item.ensures.bounded.1, c.loop-items.invariant.2, c.higher-height.ensures), list_more (in_size c.args.deep c.args.brackets) c.args.cursor.now c.args.at c.loop-items.next c.in_ok-item.after c.loop-items.items.items _ c.loop-items.height c.higher-height.result c.in_ok-item.item c.loop-items.invariant.3 c.in_ok-item.ensures.reads (c.is-in-loop-items.ensures.yes (search rules)) c.in_ok-push.ensures.items c.higher-height.ensures)

pub pattern_end-returns-then-is-clause-reads : goal.pattern_end-returns-then-is-clause-reads
pattern_end-returns-then-is-clause-reads t c = end_shut (in_size c.args.deep c.args.brackets) c.args.cursor.now c.args.at c.of.result (c.is.ensures.yes (search rules)) (c.of.ensures ∙ c.new.ensures.items)

pub pattern_end-returns-then-not-is-clause-reads : goal.pattern_end-returns-then-not-is-clause-reads
pattern_end-returns-then-not-is-clause-reads t c = end_other (in_size c.args.deep c.args.brackets) c.args.cursor.now c.args.at (c.is-2.ensures.no (search rules)) (c.is.ensures.no (search rules))

pub pattern_end-returns-in_err-tail-clause-reads : goal.pattern_end-returns-in_err-tail-clause-reads
pattern_end-returns-in_err-tail-clause-reads t c = let p = err_from_is_err_and c.from_residual.result c.from_residual.ensures.1 in rw (p.1, p.2) (tail_err (in_size c.args.deep c.args.brackets) c.args.cursor.now c.args.at _ (c.is-2.ensures.yes (search rules)) c.in_err-tail.ensures.reads)

pub pattern_end-returns-in_err-next-clause-reads : goal.pattern_end-returns-in_err-next-clause-reads
pattern_end-returns-in_err-next-clause-reads t c = let p = err_from_is_err_and c.from_residual-in_err-next.result c.from_residual-in_err-next.ensures.1 in rw (p.1, p.2) (tail_close_err (in_size c.args.deep c.args.brackets) c.args.cursor.now c.args.at c.in_ok-tail.after c.in_ok-tail.tail _ (c.is-2.ensures.yes (search rules)) c.in_ok-tail.ensures.reads c.in_err-next.ensures.reads)

pub pattern_end-returns-clause-reads : goal.pattern_end-returns-clause-reads
pattern_end-returns-clause-reads t c = tail_close (in_size c.args.deep c.args.brackets) c.args.cursor.now c.args.at c.in_ok-tail.after c.in_ok-next.next c.in_ok-tail.tail c.of-2.result _ (c.is-2.ensures.yes (search rules)) (c.of-2.ensures ∙ c.in_ok-items.ensures.items) c.in_ok-tail.ensures.reads c.in_ok-next.ensures.reads
