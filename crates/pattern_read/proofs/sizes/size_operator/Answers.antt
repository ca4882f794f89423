use Rattle.std.proofs.Common.{arith, ◌∙◌, sym, drop, inl, inr}
use denote.Enum.Bare.{differs_false}
use Rattle.erl_syntax.specs.contracts.expr.Op.{the_type}
use Rattle.pattern_read.proofs.Exits.{operator_end, operator_none, operator_other}
use Rattle.pattern_read.proofs.sizes.size_operator.Goals as goal
use Rattle.pattern_read.proofs.sizes.size_operator.Goals.{else-level-wanted-via-then-level-wanted+else-ne, else-level-wanted-via-else-level-wanted}

pub returns-in_default-clause-operator : goal.returns-in_default-clause-operator
returns-in_default-clause-operator c = operator_end c.args.wanted (drop c.args.at c.args.cursor.now.words) c.in_default.ensures.token

pub returns-in_default-operator-clause-operator : goal.returns-in_default-operator-clause-operator
returns-in_default-operator-clause-operator c = operator_none c.args.wanted c.args.cursor.now c.args.at c.in-Some.numbered c.in-Some.ensures.token (λ op e. c.in_default-operator.not-Some op (c.operator.ensures ∙ e))

pub returns-else-level-wanted-clause-operator : goal.returns-else-level-wanted-clause-operator
returns-else-level-wanted-clause-operator c = elim c.else-level-wanted.branch [ else-level-wanted-via-then-level-wanted+else-ne w ↦ operator_other c.args.wanted c.args.cursor.now c.args.at c.in-Some.numbered c.in-Some-operator.op c.in-Some.ensures.token (sym c.operator.ensures ∙ c.in-Some-operator.is) (inr (differs_false the_type _ _ _ (sym w.ne.ensures ∙ w.if-ne.false))) | else-level-wanted-via-else-level-wanted w ↦ operator_other c.args.wanted c.args.cursor.now c.args.at c.in-Some.numbered c.in-Some-operator.op c.in-Some.ensures.token (sym c.operator.ensures ∙ c.in-Some-operator.is) (inl (λ e. omega (arith, e, c.level.ensures))) ]
