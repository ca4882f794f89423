use Rattle.std.proofs.Common.{subst, Option}
use Rattle.module_check.specs.declared.index.Named.{Named}
use Rattle.module_check.specs.Index.{AreNamed}
use Rattle.module_check.proofs.Indexing.{named_first, named_again}
use Rattle.module_check.proofs.index.with_one_more.Goals as goal

pub returns-in-Some : goal.returns-in-Some
returns-in-Some c = λ before key e has are. let P : Option Named → Type 0 = AreNamed before key in named_again before c.args.function.now key c.in-Some.named c.again_fault-again.result c.first_of.result has (subst P c.in-Some.is are) c.again_fault-again.ensures c.first_of.ensures

pub returns-in-None : goal.returns-in-None
returns-in-None c = λ before key e has are. let P : Option Named → Type 0 = AreNamed before key in named_first before c.args.function.now key c.args.place c.again_fault-again.result e has (subst P c.in-None.is are) c.again_fault-again.ensures
