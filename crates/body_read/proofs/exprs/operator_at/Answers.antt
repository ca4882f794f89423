use Rattle.std.proofs.Common.{rules, arith, ◌∙◌, sym, drop, inl, inr}
use Rattle.body_read.proofs.BodiedLevels.{no_operator_at_end, no_operator_there, other_operator}
use Rattle.body_read.proofs.exprs.operator_at.Goals as goal
use Rattle.body_read.proofs.exprs.operator_at.Goals.{else-level-wanted-via-then-level-wanted+else-may_stand, else-level-wanted-via-else-level-wanted}

pub returns-in_default-clause-operator : goal.returns-in_default-clause-operator
returns-in_default-clause-operator c = no_operator_at_end c.args.site c.args.wanted (drop c.args.at c.args.cursor.now.words) c.in_default.ensures.token

pub returns-in_default-operator-clause-operator : goal.returns-in_default-operator-clause-operator
returns-in_default-operator-clause-operator c = no_operator_there c.args.site c.args.wanted c.args.cursor.now c.args.at c.in-Some.numbered c.in-Some.ensures.token (λ op e. c.in_default-operator.not-Some op (c.operator.ensures ∙ e))

pub returns-else-level-wanted-clause-operator : goal.returns-else-level-wanted-clause-operator
returns-else-level-wanted-clause-operator c = elim c.else-level-wanted.branch [ else-level-wanted-via-then-level-wanted+else-may_stand w ↦ other_operator c.args.site c.args.wanted c.args.cursor.now c.args.at c.in-Some.numbered c.in-Some-operator.op c.in-Some.ensures.token (sym c.operator.ensures ∙ c.in-Some-operator.is) (inr (λ e. search rules)) | else-level-wanted-via-else-level-wanted w ↦ other_operator c.args.site c.args.wanted c.args.cursor.now c.args.at c.in-Some.numbered c.in-Some-operator.op c.in-Some.ensures.token (sym c.operator.ensures ∙ c.in-Some-operator.is) (inl (λ e. omega (arith, e, c.level.ensures))) ]
