use Rattle.std.proofs.Common.{arith}
use Rattle.erl_syntax.specs.declared.checking.CheckCause.TheVariants as w
use Rattle.module_check.specs.Faults.{DiffersFault}
use Rattle.module_check.proofs.Firsts.{least_if, least_more, least_all}
use Rattle.module_check.proofs.forms.differs_fault.Goals as goal

pub loop-clause-preserved : goal.loop-clause-preserved
loop-clause-preserved c = least_more (DiffersFault c.args.function.now) c.args.clauses.now c.loop-clause.clause-index c.clause-item.result c.loop-clause.best c.fault_if.result c.first_of-best.result (omega arith) c.clause-item.is c.loop-clause.invariant (least_if c.differs-differs.result _ c.clause-item.result.at w.HeadsDiffer c.fault_if.result c.differs-differs.ensures c.fault_if.ensures) c.first_of-best.ensures

pub returns : goal.returns
returns c = least_all (DiffersFault c.args.function.now) c.args.clauses.now c.loop-clause.clause-index c.loop-clause.best (omega arith) c.loop-clause.invariant
