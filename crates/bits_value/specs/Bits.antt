-- Bitstrings: a bitstring is a finite list of bits (Erlang reference manual, "Data Types", Bit Strings and Binaries).
-- Bit `i` of a list of bytes is bit `i % 8` of byte `i / 8`, the bit of the greatest weight first.
use Rattle.std.specs.Prelude.{ℕ, ◌-◌, ◌*◌, ◌/◌, ◌%◌, ◌^◌, ◌==◌, Bool, List, length, map, slice_index_or}
use Rattle.std.specs.List.{range_with_len}

-- bit `k` of a number, of weight `2 ^ k`
unfoldable pub bit_of : ℕ → ℕ → Bool
bit_of n k = n / 2 ^ k % 2 == 1

-- bit `i` of the bytes
unfoldable pub bit_in : List ℕ → ℕ → Bool
bit_in bytes i = bit_of (slice_index_or bytes (i / 8) 0) (7 - i % 8)

-- the `len` bits from bit `off` on
unfoldable pub bit_list : List ℕ → ℕ → ℕ → List Bool
bit_list bytes off len = map (bit_in bytes) (range_with_len off len)

-- all bits of the bytes
unfoldable pub all_bits : List ℕ → List Bool
all_bits bytes = bit_list bytes 0 (8 * length bytes)
