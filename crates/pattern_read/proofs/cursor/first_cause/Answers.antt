use Rattle.std.proofs.Common.{rules, drop}
use Rattle.pattern_read.proofs.Depths.{cause_none, cause_deep, cause_other}
use Rattle.pattern_read.proofs.cursor.first_cause.Goals as goal

pub returns-in_default : goal.returns-in_default
returns-in_default c = cause_none (drop c.args.at c.args.cursor.now.words) c.in_default.ensures.token

pub returns-then-begins_size : goal.returns-then-begins_size
returns-then-begins_size c = cause_deep c.args.cursor.now c.args.at c.in-Some.numbered c.in-Some.ensures.token (search rules)

pub returns-else-begins_size : goal.returns-else-begins_size
returns-else-begins_size c = cause_other c.args.cursor.now c.args.at c.in-Some.numbered c.in-Some.ensures.token (search rules)
