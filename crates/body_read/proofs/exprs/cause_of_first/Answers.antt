use Rattle.std.proofs.Common.{rules, drop}
use Rattle.body_read.proofs.BodiedBegins.{first_at_end, first_deep, first_other}
use Rattle.body_read.proofs.exprs.cause_of_first.Goals as goal

pub returns-in_default : goal.returns-in_default
returns-in_default c = first_at_end c.args.site (drop c.args.at c.args.cursor.now.words) c.in_default.ensures.token

pub returns-then-begins : goal.returns-then-begins
returns-then-begins c = first_deep c.args.site c.args.cursor.now c.args.at c.in-Some.numbered c.in-Some.ensures.token (search rules)

pub returns-else-begins : goal.returns-else-begins
returns-else-begins c = first_other c.args.site c.args.cursor.now c.args.at c.in-Some.numbered c.in-Some.ensures.token (search rules)
