use Rattle.bits_value.proofs.Spellings.{number-spell-rest, spell-rest}
use Rattle.bits_value.proofs.laws.number_reads_back.Goals as goal

pub returns-clause-number : goal.returns-clause-number
returns-clause-number c = λ rest. number-spell-rest c.args.sign c.args.endian c.args.bits c.args.value rest c.requires

pub returns-clause-rest : goal.returns-clause-rest
returns-clause-rest c = λ rest. spell-rest c.args.endian c.args.bits c.args.value rest
