use Rattle.std.proofs.Common.{subst}
use Rattle.module_check.specs.Index.{Key, AreNamed}
use Rattle.module_check.proofs.Indexing.{missing_by}
use Rattle.module_check.proofs.index.Indexed.is_missing.Goals as goal

pub returns : goal.returns
returns c = let P : Key → Type 0 = λ k. AreNamed c.args.self.now.functions k c.named.result in missing_by c.args.self.now c.args.export.now c.named.result c.is_none.result c.is_none.ensures (subst P c.export_key.ensures c.named.ensures)
