use Rattle.std.proofs.Common.{drop, sym, ◌∙◌}
use Rattle.pattern_read.specs.WantedPatterns.{begins_pattern}
use Rattle.pattern_read.proofs.FirstTokens.{cause_none, cause_deep, cause_other}
use Rattle.pattern_read.proofs.pattern_starts.pattern_cause.Goals as goal

pub returns-in_default : goal.returns-in_default
returns-in_default c = cause_none begins_pattern (drop c.args.at c.args.cursor.now.words) c.in_default.ensures.token

pub returns-then-begins_pattern : goal.returns-then-begins_pattern
returns-then-begins_pattern c = cause_deep begins_pattern c.args.cursor.now c.args.at c.in-Some.numbered c.in-Some.ensures.token (sym c.begins_pattern.ensures ∙ c.if-begins_pattern.true)

pub returns-else-begins_pattern : goal.returns-else-begins_pattern
returns-else-begins_pattern c = cause_other begins_pattern c.args.cursor.now c.args.at c.in-Some.numbered c.in-Some.ensures.token (sym c.begins_pattern.ensures ∙ c.if-begins_pattern.false)
