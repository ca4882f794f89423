use Rattle.std.proofs.Common.{drop, ◌∙◌, sym}
use Rattle.body_read.proofs.SegmentExits.{prefix_none, prefix_other, prefix_there}
use Rattle.body_read.proofs.segments.prefix_at.Goals as goal

pub returns-in_default-clause-operator : goal.returns-in_default-clause-operator
returns-in_default-clause-operator c = prefix_none (drop c.args.at c.args.cursor.now.words) c.in_default.ensures.token

pub returns-in_default-prefix-clause-operator : goal.returns-in_default-prefix-clause-operator
returns-in_default-prefix-clause-operator c = prefix_other c.args.cursor.now c.args.at c.in-Some.numbered c.in-Some.ensures.token (λ op e. c.in_default-prefix.not-Some op (c.prefix.ensures ∙ e))

pub returns-clause-operator : goal.returns-clause-operator
returns-clause-operator c = prefix_there c.args.cursor.now c.args.at c.in-Some.numbered c.in-Some-prefix.op c.in-Some.ensures.token (sym c.prefix.ensures ∙ c.in-Some-prefix.is)
