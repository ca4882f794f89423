use Rattle.command_answers.proofs.Commands.{checks_well}
use Rattle.command_answers.proofs.laws.checks_well.Goals as goal

pub returns : goal.returns
returns c = checks_well
