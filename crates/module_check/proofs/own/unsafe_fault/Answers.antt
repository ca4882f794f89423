use Rattle.module_check.proofs.Owning.{unsafe_least}
use Rattle.module_check.proofs.own.unsafe_fault.Goals as goal

pub returns : goal.returns
returns c = unsafe_least c.args.nodes.now c.args.dangers c.args.at c.args.name.now c.is_put-put.result c.fault_if.result c.is_put-put.ensures c.fault_if.ensures
