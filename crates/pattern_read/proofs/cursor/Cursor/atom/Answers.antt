use Rattle.std.proofs.Common.{rules}
use Rattle.pattern_read.proofs.Words.{is_no, is_none}
use Rattle.pattern_read.proofs.cursor.Cursor.atom.Goals as goal

pub returns-in_default-clause-atom : goal.returns-in_default-clause-atom
returns-in_default-clause-atom c = is_none c.args.self.now c.args.at _ c.in_default.ensures.token

pub returns-else-eq-clause-atom : goal.returns-else-eq-clause-atom
returns-else-eq-clause-atom c = is_no c.args.self.now c.args.at c.in-Some.numbered _ c.in-Some.ensures.token (λ h. search rules)
