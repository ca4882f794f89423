use Rattle.module_check.proofs.Indexing.{exported_by}
use Rattle.module_check.proofs.index.Indexed.is_exported.Goals as goal

pub returns : goal.returns
returns c = exported_by c.args.self.now c.args.name c.args.arity c.self.inside.tree.now c.key.result c.self.inside.exports c.contains.result c.self.view_is c.key.ensures c.contains.ensures c.self.invariant.1
