use Rattle.command_answers.proofs.Commands.{runs_well}
use Rattle.command_answers.proofs.laws.runs_well.Goals as goal

pub returns : goal.returns
returns c = runs_well
