use Rattle.std.proofs.Common.{rules, drop}
use Rattle.body_read.proofs.BitsExits.{cause_end, cause_deeper, cause_none}
use Rattle.body_read.proofs.segments.simple_cause.Goals as goal

pub returns-in_default : goal.returns-in_default
returns-in_default c = cause_end (drop c.args.at c.args.cursor.now.words) c.in_default.ensures.token

pub returns-then-begins_simple : goal.returns-then-begins_simple
returns-then-begins_simple c = cause_deeper c.args.cursor.now c.args.at c.in-Some.numbered c.in-Some.ensures.token (search rules)

pub returns-else-begins_simple : goal.returns-else-begins_simple
returns-else-begins_simple c = cause_none c.args.cursor.now c.args.at c.in-Some.numbered c.in-Some.ensures.token (search rules)
