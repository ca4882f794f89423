use Rattle.std.proofs.Common.{pos, ap}
use Rattle.bits_value.proofs.Spellings.{length-spell, natural-spell, spell-alone}
use Rattle.bits_value.proofs.laws.one_spelling.Goals as goal

pub returns-clause-long : goal.returns-clause-long
returns-clause-long c = length-spell c.args.bits c.args.value c.args.endian

pub returns-clause-number : goal.returns-clause-number
returns-clause-number c = ap pos (natural-spell c.args.bits c.args.value c.args.endian)

pub returns-clause-alone : goal.returns-clause-alone
returns-clause-alone c = λ other l e. spell-alone c.args.bits c.args.value c.args.endian other l (cc e)
