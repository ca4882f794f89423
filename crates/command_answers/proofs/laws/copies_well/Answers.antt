use Rattle.command_answers.proofs.Commands.{copies_well}
use Rattle.command_answers.proofs.laws.copies_well.Goals as goal

pub returns : goal.returns
returns c = copies_well c.bad_or_legal.ensures c.one_numbering.ensures
