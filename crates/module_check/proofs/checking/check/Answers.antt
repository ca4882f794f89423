use Rattle.std.proofs.Common.{inr}
use Rattle.module_check.proofs.Whole.{first_fault, accepted}
use Rattle.module_check.proofs.checking.check.Goals as goal

pub returns-in-Ok-Some-clause-refused : goal.returns-in-Ok-Some-clause-refused
returns-in-Ok-Some-clause-refused c = inr (first_fault c.args.tree c.in-Ok-Some.fault (rw c.in-Ok-Some.field-0-is at c.in-Ok-Some.ensures))

pub numbered-requires : goal.numbered-requires
numbered-requires c = accepted c.args.tree (rw c.in-Ok-None.field-0-is at c.in-Ok-None.ensures)
