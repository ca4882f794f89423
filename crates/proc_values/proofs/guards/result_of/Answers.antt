use Rattle.proc_values.proofs.Known.{bound_there}
use Rattle.proc_values.proofs.guards.result_of.Goals as goal

pub evaluated-requires : goal.evaluated-requires
evaluated-requires g c = record { there = bound_there (g.S.Store.has c.args.storage.now.store) c.args.bindings.now c.requires }
