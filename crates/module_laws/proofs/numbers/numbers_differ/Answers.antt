use Rattle.module_laws.proofs.NumberedPlaces.{numbers_differ}
use Rattle.module_laws.proofs.numbers.numbers_differ.Goals as goal

pub returns : goal.returns
returns c = numbers_differ
