use Rattle.std.proofs.Common.{subst}
use Rattle.module_check.specs.Index.{Key, IsNamedIn}
use Rattle.module_check.proofs.Indexing.{before_by}
use Rattle.module_check.proofs.index.Indexed.stands_before.Goals as goal

pub returns-in-Some : goal.returns-in-Some
returns-in-Some c = let P : Key → Type 0 = λ k. IsNamedIn c.args.self.now.functions k c.in-Some.named in before_by c.args.self.now c.args.name c.args.arity c.args.place c.in-Some.named (subst P c.key.ensures c.in-Some.ensures)
