-- Terms over bitstrings that are their own references (this project's own).
use Rattle.std.specs.Prelude.{ℕ, ◌≤◌, Bool, List, length}
use Rattle.bits_value.specs.declared.TheConstants.{MAX_BITS}
use Rattle.term_value.specs.Value.{Value}
use Rattle.term_value.specs.Seen.{Seen, meaning}
use Rattle.bit_store.specs.Stores.{itself}

-- a bitstring that is no longer than one may be
abbrev pub IsShort : List Bool → Type 0
IsShort bits = length bits ≤ MAX_BITS

abbrev pub AnyAtom : ℕ → Type 0
AnyAtom atom = Unit {0}

-- the value of a term
abbrev pub value : Seen (List Bool) → Value
value s = meaning itself s
