use Rattle.module_laws.proofs.NumberedPlaces.{numbers_are_of_places}
use Rattle.module_laws.proofs.numbers.numbers_are_of_places.Goals as goal

pub returns : goal.returns
returns c = numbers_are_of_places
