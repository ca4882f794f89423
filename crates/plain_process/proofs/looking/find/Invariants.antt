use Rattle.code_tree.specs.Reading.{clauses_of}
use Rattle.code_match.specs.Binds.{bounds}
use Rattle.plain_moves.specs.Worlds.{world_of}
use Rattle.plain_process.proofs.Looked.{NoneBefore}
use Rattle.plain_process.proofs.looking.find.Given as goal

abbrev pub invariant-loop-index : goal.invariant-loop-index
invariant-loop-index l = NoneBefore (world_of l.scene) (bounds l.bindings) (clauses_of l.clauses) l.seen l.index
