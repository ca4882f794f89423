use Rattle.pattern_read.proofs.Words.{atom_read}
use Rattle.pattern_read.proofs.cursor.Cursor.atom_characters.Goals as goal

pub returns : goal.returns
returns c = atom_read c.args.self.now c.args.at c.bytes.result.now c.atom_text.result c.bytes.ensures c.atom_text.ensures
