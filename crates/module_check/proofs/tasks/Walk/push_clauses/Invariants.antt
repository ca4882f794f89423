use Rattle.std.proofs.Common.{[], take, drop}
use Rattle.module_check.specs.Spots.{clause_in}
use Rattle.module_check.proofs.Tasked.{Far}
use Rattle.module_check.proofs.tasks.Walk.push_clauses.Given as goal

abbrev pub invariant-loop-clause : goal.invariant-loop-clause
invariant-loop-clause l = Far l.initial.self l.self clause_in [] (take l.clause-index l.clauses) (drop l.clause-index l.clauses) l.clauses
