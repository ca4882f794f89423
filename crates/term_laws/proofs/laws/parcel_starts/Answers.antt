use Rattle.term_laws.proofs.Parcels.{parcel_starts}
use Rattle.term_laws.proofs.laws.parcel_starts.Goals as goal

-- src/laws.rt
pub returns : goal.returns
returns c = parcel_starts
