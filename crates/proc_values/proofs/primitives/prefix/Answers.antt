use Rattle.std.proofs.Common.{ap, arith}
use Rattle.term_value.specs.Primitives.{bounded_result}
use Rattle.proc_values.proofs.Operands.{not_one}
use Rattle.proc_values.proofs.primitives.prefix.Goals as goal
use Rattle.proc_values.proofs.primitives.prefix.Goals.{in_default-via-then-values-lt1, in_default-via-else-values-lt1+else-values-lt2}

pub returns-in_default-clause-is : goal.returns-in_default-clause-is
returns-in_default-clause-is g c = λ s. ap bounded_result (not_one (g.S.Store.shown c.args.store.now) s c.args.op c.args.values.now (elim c.in_default.branch [ in_default-via-then-values-lt1 w ↦ grind arith | in_default-via-else-values-lt1+else-values-lt2 w ↦ grind arith ]))
