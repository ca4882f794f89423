use Rattle.std.proofs.Common.{drop, sym, ◌∙◌}
use Rattle.pattern_read.specs.WantedPatterns.{begins_value}
use Rattle.pattern_read.proofs.FirstTokens.{cause_none, cause_deep, cause_other}
use Rattle.pattern_read.proofs.pattern_starts.value_cause.Goals as goal

pub returns-in_default : goal.returns-in_default
returns-in_default c = cause_none begins_value (drop c.args.at c.args.cursor.now.words) c.in_default.ensures.token

pub returns-then-begins_value : goal.returns-then-begins_value
returns-then-begins_value c = cause_deep begins_value c.args.cursor.now c.args.at c.in-Some.numbered c.in-Some.ensures.token (sym c.begins_value.ensures ∙ c.if-begins_value.true)

pub returns-else-begins_value : goal.returns-else-begins_value
returns-else-begins_value c = cause_other begins_value c.args.cursor.now c.args.at c.in-Some.numbered c.in-Some.ensures.token (sym c.begins_value.ensures ∙ c.if-begins_value.false)
