use Rattle.std.proofs.Common.{◌≡◌, map, take}
use Rattle.code_tree.specs.Reading.{clause_of}
use Rattle.code_layout.specs.Layout.{reading_of, parts_of, clause_parts}
use Rattle.code_layout.proofs.clauses.function_clauses.Given as goal

abbrev pub invariant-loop-read : goal.invariant-loop-read
invariant-loop-read l = map (λ k. parts_of (clause_of k)) l.clauses.items ≡ map (clause_parts (reading_of l.laying)) (take l.read-index l.reads)
