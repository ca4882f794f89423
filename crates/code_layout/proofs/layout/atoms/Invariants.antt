use Rattle.std.proofs.Common.{◌≡◌, take}
use Rattle.code_layout.proofs.layout.atoms.Given as goal

abbrev pub invariant-loop-name : goal.invariant-loop-name
invariant-loop-name l = l.atoms.items ≡ take l.name-index l.names
