use Rattle.clause_read.proofs.Once.{atoms_once, atoms_longer}
use Rattle.clause_read.proofs.numbering.atoms_stand_once.Goals as goal

pub returns-clause-fixed : goal.returns-clause-fixed
returns-clause-fixed c = λ text tokens. atoms_longer text tokens

pub returns-clause-once : goal.returns-clause-once
returns-clause-once c = λ text tokens. atoms_once text tokens
