-- The value of a call starts the process that the call starts.
use Rattle.std.proofs.Common.{◌≡◌, ℕ, Bool, true, false, [], refl}
use Rattle.std.specs.Prelude.{nat_eq}
use Rattle.term_value.specs.Value.{Values, count}
use Rattle.term_value.specs.Tree.{Module}
use Rattle.term_value.specs.Local.{Local}
use Rattle.term_value.specs.Machine.{exported_in, call_of}
use Rattle.term_value.specs.Parcel.{handed_over, child_of, ParcelStarts}

starts_by : (b : Bool) (code : Module) (reductions pid function : ℕ) (vs : Values) → child_of code reductions pid (handed_over b function vs)
    ≡ (let l : Local = record { pid = pid; course = call_of (exported_in b code function (count vs)) vs; seen = []; left = reductions } in l)
starts_by true code reductions pid function vs = refl
starts_by false code reductions pid function vs = refl

pub parcel_starts : ParcelStarts
parcel_starts code reductions pid module_name function vs = starts_by (nat_eq module_name code.name) code reductions pid function vs
