-- What the test of a segment's size says (this project's own).
use Rattle.std.specs.Prelude.{◌≡◌, ℕ, ◌<◌, ◌≤◌}
use Rattle.bits_value.specs.declared.TheConstants.{MAX_BITS}
use Rattle.term_value.specs.Extent as e
use Rattle.bits_build.specs.declared.extent.Extent.{Extent}
use Rattle.bits_build.specs.declared.extent.Extent.TheVariants.{Bits, TooLong, InUnits, Spelled, BadSize}

-- a segment has so many bits; past the bound it is no longer told how many
abbrev pub IsExtent : e.Extent → Extent → Type 0
IsExtent extent (Bits n) = (extent ≡ e.Exactly n) × (n ≤ MAX_BITS)
IsExtent extent TooLong = (n : ℕ) × (extent ≡ e.Exactly n) × (MAX_BITS < n)
IsExtent extent (InUnits unit) = extent ≡ e.InUnits unit
IsExtent extent Spelled = extent ≡ e.Spelled
IsExtent extent BadSize = extent ≡ e.BadSize

-- a unit of some bits
abbrev pub HasUnit : Extent → Type 0
HasUnit (InUnits unit) = 0 < unit
HasUnit _ = Unit {0}
