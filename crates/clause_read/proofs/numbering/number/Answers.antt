use Rattle.std.proofs.Common.{arith}
use Rattle.clause_read.proofs.Numbers.{atoms_done, words_done}
use Rattle.clause_read.proofs.numbering.number.Goals as goal

pub returns-clause-atoms : goal.returns-clause-atoms
returns-clause-atoms c = atoms_done c.args.text.now c.args.tokens.now c.loop-at.at c.loop-at.numbering (omega arith) c.loop-at.invariant.numbered

pub returns-clause-words : goal.returns-clause-words
returns-clause-words c = words_done c.args.text.now c.args.tokens.now c.loop-at.at c.loop-at.numbering (omega arith) c.loop-at.invariant.numbered

pub returns-clause-sound : goal.returns-clause-sound
returns-clause-sound c = c.loop-at.invariant.numbered.sound
