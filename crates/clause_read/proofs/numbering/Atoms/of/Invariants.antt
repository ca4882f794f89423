use Rattle.std.proofs.Common.{◌≡◌, [], map, drop}
use Rattle.clause_read.specs.Numbering.{with_each}
use Rattle.clause_read.proofs.numbering.Atoms.of.Given as goal

abbrev pub invariant-loop-name : goal.invariant-loop-name
invariant-loop-name l = with_each l.atoms (drop l.name-index (map (λ name. name.now) l.names)) ≡ with_each [] (map (λ name. name.now) l.names)
