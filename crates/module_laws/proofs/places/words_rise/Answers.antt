use Rattle.module_laws.proofs.RisingPlaces.{words_rise}
use Rattle.module_laws.proofs.places.words_rise.Goals as goal

pub returns : goal.returns
returns c = words_rise
