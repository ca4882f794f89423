use Rattle.module_laws.proofs.RisingPlaces.{tokens_rise}
use Rattle.module_laws.proofs.places.tokens_rise.Goals as goal

pub returns : goal.returns
returns c = tokens_rise
