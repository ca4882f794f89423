use Rattle.bits_top.proofs.Copies.{bad_entries}
use Rattle.bits_top.proofs.copying.entries_copied.Goals as goal

pub returns-in_ok-fault_line-in-Err : goal.returns-in_ok-fault_line-in-Err
returns-in_ok-fault_line-in-Err c = λ text short spells. bad_entries _ text _ c.args.entries.items c.in-Err.fault short spells c.in-Err.ensures c.in_ok-fault_line-in-Err.ensures
