use Rattle.std.proofs.Common.{arith, rules}
use Rattle.clause_read.proofs.FormExits.{skipped_stop, skipped_more, skipped_end}
use Rattle.clause_read.proofs.forms.skipped.Goals as goal

pub returns-then-eq-clause-reads : goal.returns-then-eq-clause-reads
returns-then-eq-clause-reads c = skipped_stop c.args.cursor.now c.args.at c.loop-numbered.next c.in-Some.numbered _ c.loop-numbered.invariant.2 c.in-Some.ensures.token (search rules)

pub loop-numbered-preserved : goal.loop-numbered-preserved
loop-numbered-preserved c = (omega (arith, c.loop-numbered.invariant.0), omega (arith, c.in-Some.ensures.within), skipped_more c.args.cursor.now c.args.at c.loop-numbered.next c.in-Some.numbered c.loop-numbered.invariant.2 c.in-Some.ensures.token (search rules))

pub returns-clause-reads : goal.returns-clause-reads
returns-clause-reads c = skipped_end c.args.cursor.now c.args.at c.loop-numbered.next c.loop-numbered.invariant.2 c.in_default.ensures.token
