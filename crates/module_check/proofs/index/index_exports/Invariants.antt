use Rattle.std.proofs.Common.{take}
use Rattle.module_check.specs.Index.{ListsExports}
use Rattle.module_check.proofs.index.index_exports.Given as goal

abbrev pub invariant-loop-export : goal.invariant-loop-export
invariant-loop-export l = ListsExports (take l.export-index l.exports) l.index
