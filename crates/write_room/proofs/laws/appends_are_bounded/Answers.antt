use Rattle.write_room.proofs.Takes.{bounded, tight_all}
use Rattle.write_room.proofs.laws.appends_are_bounded.Goals as goal

pub returns-clause-bounded : goal.returns-clause-bounded
returns-clause-bounded c = bounded

pub returns-clause-tight : goal.returns-clause-tight
returns-clause-tight c = tight_all
