use Rattle.std.proofs.Common.{rules, ◌∙◌, sym, drop, ◌+◌}
use Rattle.pattern_read.proofs.Types.{spec_none, spec_ok, spec_other}
use Rattle.pattern_read.proofs.segment_types.spec.Goals as goal

pub returns-then-not-is-clause-reads : goal.returns-then-not-is-clause-reads
returns-then-not-is-clause-reads c = spec_none c.args.cursor.now c.args.at (c.is.ensures.no (search rules))

pub returns-in-Some-clause-reads : goal.returns-in-Some-clause-reads
returns-in-Some-clause-reads c = let s = c.is.ensures.yes c.if-not-is.false in spec_ok c.args.cursor.now c.args.at c.bytes-2.result.now _ s (c.bytes-2.ensures ∙ c.in_ok-chars.ensures s.word (drop (c.args.at + 1) c.args.cursor.now.words) s.is s.kind_is) c.in-Some.ensures

pub returns-clause-reads : goal.returns-clause-reads
returns-clause-reads c = let s = c.is.ensures.yes c.if-not-is.false in spec_other c.args.cursor.now c.args.at c.bytes-2.result.now s (c.bytes-2.ensures ∙ c.in_ok-chars.ensures s.word (drop (c.args.at + 1) c.args.cursor.now.words) s.is s.kind_is) (λ e. c.same.ensures.no c.if-same.false (c.bytes.ensures ∙ sym c.bytes-2.ensures ∙ e)) c.in-None.ensures
