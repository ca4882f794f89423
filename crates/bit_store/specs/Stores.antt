-- What the calls of a store keep, and what they count (this project's own).
use Rattle.std.specs.Prelude.{◌≡◌, ℕ, ◌≤◌, ◌<◌, Bool, List}
use Rattle.bits_value.specs.Ledger.{ticked}
use Rattle.bits_value.specs.declared.TheConstants.{MAX_BITS}
use Rattle.bit_store.specs.declared.store.StoreFault.{StoreFault}
use Rattle.bit_store.specs.declared.store.StoreFault.TheVariants.{TooLong, NoMemory}

-- each reference that it had is there and shows the same bits
abbrev pub Keeps : {S R : Type 0} → (S → R → List Bool) → (S → R → Type 0) → S → S → Type 0
Keeps {S} {R} shown has old new = (of : R) → has old of → (has new of × (shown new of ≡ shown old of))

-- the ledger rose by at most so many bits
abbrev pub RoseBy : ℕ → ℕ → ℕ → Type 0
RoseBy most old new = (more : ℕ) × ((more ≤ most) × (new ≡ ticked old more))

-- why no bitstring of so many bits is made: want of memory is no other cause
abbrev pub Refuses : ℕ → StoreFault → Type 0
Refuses bits TooLong = MAX_BITS < bits
Refuses bits NoMemory = bits ≤ MAX_BITS

-- a bitstring that is its own reference
abbrev pub itself : List Bool → List Bool
itself bits = bits

-- an atom of any number: outside a table an atom's name is empty, so each has one
abbrev pub AnyAtom : ℕ → Type 0
AnyAtom atom = Unit {0}
