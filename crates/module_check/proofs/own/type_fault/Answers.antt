use Rattle.module_check.proofs.Owning.{type_some, type_none}
use Rattle.module_check.proofs.own.type_fault.Goals as goal

pub returns-in-Ok : goal.returns-in-Ok
returns-in-Ok c = type_none c.args.side c.args.last c.args.segment.now c.in-Ok.ensures.0

pub returns-in-Err : goal.returns-in-Err
returns-in-Err c = type_some c.args.side c.args.last c.args.segment.now c.in-Err.fault c.in-Err.ensures
