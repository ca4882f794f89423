use Rattle.std.proofs.Common.{rules, drop}
use Rattle.pattern_read.proofs.Operands.{mark_passes, mark_refused}
use Rattle.pattern_read.proofs.cursor.mark.Goals as goal

pub returns-then-is-clause-reads : goal.returns-then-is-clause-reads
returns-then-is-clause-reads c = mark_passes c.args.cursor.now c.args.at c.args.kind (c.is.ensures.yes (search rules))

pub returns-else-is-clause-reads : goal.returns-else-is-clause-reads
returns-else-is-clause-reads c = mark_refused c.args.kind (drop c.args.at c.args.cursor.now.words) (c.is.ensures.no (search rules))
