use Rattle.std.proofs.Common.{ap, arith}
use Rattle.term_value.specs.Operators.{operate}
use Rattle.term_value.specs.Primitives.{bounded_result, prim}
use Rattle.term_value.specs.Seen.{meanings}
use Rattle.term_value.specs.Terms.{value_of, row}
use Rattle.term_value.specs.Tree.{Operate}
use Rattle.expr_eval.specs.Answers.{setting}
use Rattle.expr_eval.proofs.Evaluations.{evaluated}
use Rattle.expr_eval.proofs.GuardCalls.{computed_evaluated, plain_known}
use Rattle.proc_values.proofs.Operands.{two_are, not_two}
use Rattle.proc_values.proofs.primitives.binary.Goals as goal
use Rattle.proc_values.proofs.primitives.binary.Goals.{in_default-via-then-values-lt2, in_default-via-else-values-lt2+else-values-lt3}

pub returns-in-len2-clause-is : goal.returns-in-len2-clause-is
returns-in-len2-clause-is g c =
    let shown = g.S.Store.shown c.args.store.now in
    let s = setting c.args.caller.now.names.now c.args.caller.now.pid in
    let due = bounded_result (operate s.names c.args.op (value_of shown c.left-item.result) (value_of shown c.right-item.result)) in
    evaluated shown c.binary_op.result due (prim s (Operate c.args.op) (meanings shown (row c.args.values.now)))
    (ap bounded_result (two_are shown s c.args.op c.args.values.now c.left-item.result c.right-item.result (omega arith) c.left-item.is c.right-item.is))
    (computed_evaluated shown c.binary_op.result due c.binary_op.ensures.is)

pub returns-in-len2-clause-known : goal.returns-in-len2-clause-known
returns-in-len2-clause-known g c = plain_known (g.S.Store.has c.args.store.now) c.binary_op.result c.binary_op.ensures.plain

pub returns-in_default-clause-is : goal.returns-in_default-clause-is
returns-in_default-clause-is g c = ap bounded_result (not_two (g.S.Store.shown c.args.store.now) (setting c.args.caller.now.names.now c.args.caller.now.pid) c.args.op c.args.values.now (elim c.in_default.branch [ in_default-via-then-values-lt2 w ↦ grind arith | in_default-via-else-values-lt2+else-values-lt3 w ↦ grind arith ]))
