-- The ledger of moved bits (this project's own).
use Rattle.std.specs.Prelude.{ℕ, ◌+◌, ◌-◌, ◌^◌, min}

-- a counter that stood at `old`, after so many more bits: it stands still at the end of its type
abbrev pub ticked : ℕ → ℕ → ℕ
ticked old more = min (old + more) (2 ^ 64 - 1)
