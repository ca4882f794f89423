use Rattle.clause_read.proofs.Numbers.{each_next}
use Rattle.clause_read.proofs.numbering.Atoms.of.Goals as goal

pub loop-name-preserved : goal.loop-name-preserved
loop-name-preserved c = each_next c.loop-name.atoms c.number.new.self _ c.args.names.now c.loop-name.name-index _ c.loop-name-test.true c.in_ok-number.ensures.table c.loop-name.invariant
