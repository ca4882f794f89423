use Rattle.command_answers.proofs.Commands.{gens_well}
use Rattle.command_answers.proofs.laws.gens_well.Goals as goal

pub returns : goal.returns
returns c = gens_well
