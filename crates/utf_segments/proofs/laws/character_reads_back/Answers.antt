use Rattle.bits_value.specs.Utf.{utf_bytes}
use Rattle.utf_segments.proofs.Fronts.{alone, after}
use Rattle.utf_segments.proofs.laws.character_reads_back.Goals as goal

pub returns-clause-alone : goal.returns-clause-alone
returns-clause-alone c = λ rest other is h. alone c.args.kind c.args.endian c.args.character other rest c.requires is h

pub returns-clause-rest : goal.returns-clause-rest
returns-clause-rest c = λ rest. after (utf_bytes c.args.kind c.args.endian c.args.character) rest
