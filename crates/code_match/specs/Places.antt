-- Places behind segments, and how many bits these take (this project's own).
use Rattle.std.specs.Prelude.{◌≡◌, ◌≤◌, Bool, List, length, drop, Option, Some, None}
use Rattle.bits_value.specs.Number.{bounded}
use Rattle.term_value.specs.Value.{Value, VInt}
use Rattle.bits_build.specs.Extents.{IsExtent}
use Rattle.bits_build.specs.declared.extent.Extent.{Extent}
use Rattle.segment_cut.specs.declared.value.CutValue.{CutValue}
use Rattle.segment_cut.specs.declared.value.CutValue.TheVariants.{Number, LongNumber, Part}
use Rattle.term_value.specs.Decode as d
use Rattle.term_value.specs.Extent as e
use Rattle.code_tree.specs.PlainTerms.{IsShort}
use Rattle.code_match.specs.Binds.{bounds}
use Rattle.code_match.specs.declared.segments.Place.{Place}
use Rattle.code_match.specs.declared.segments.Place.TheVariants as p

-- what is taken off the bits, up to a place
abbrev pub place_of : List Bool → Place → d.Taken
place_of bits (p.At b at) = d.Cut (bounds b) (drop at bits)
place_of bits p.Nowhere = d.NoCut
place_of bits p.Limit = d.CutLimit

-- a place in the bits
abbrev pub IsPlace : List Bool → Place → Type 0
IsPlace bits (p.At b at) = at ≤ length bits
IsPlace bits _ = Unit {0}

-- how many bits a segment takes, or that its size is limit
abbrev pub IsReach : Option e.Extent → Option Extent → Type 0
IsReach due None = due ≡ None
IsReach due (Some found) = (extent : e.Extent) × (due ≡ Some extent) × IsExtent extent found

-- a part that is no longer than a bitstring may be
abbrev pub HasShort : CutValue (List Bool) → Type 0
HasShort (Part of) = IsShort of
HasShort (Number n) = Unit {0}
HasShort LongNumber = Unit {0}

-- a value that is no number outside the bound
abbrev pub IsBounded : Value → Type 0
IsBounded (VInt n) = bounded n ≡ Some n
IsBounded _ = Unit {0}
