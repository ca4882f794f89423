-- Which bytes of a binary a position and a length name (the documentation of the module `erlang`, `binary_part/3`).
use Rattle.std.specs.Prelude.{ℕ, ℤ, pos, negsuc, ◌+◌, ◌-◌, ◌/◌, ◌%◌, ◌&&◌, Bool, List, take, drop, Option, Some, None, cond, nat_eq, nat_le, nat_lt}
use Rattle.term_value.specs.Value.{Value, VInt, VTuple, VBits, none, more}
use Rattle.expr_eval.specs.declared.parts.ByteRange.{ByteRange}

-- so many bytes from a byte on, inside a bitstring of so many bits
abbrev pub range_within : ℕ → ℕ → ℕ → Option ByteRange
range_within bits first count = cond (nat_eq (bits % 8) 0 && nat_le (first + count) (bits / 8)) (Some (record { first = first; count = count })) None

-- a negative length names the bytes before the position
abbrev pub range_of : ℕ → ℤ → ℤ → Option ByteRange
range_of bits (pos start) (pos len) = range_within bits start len
range_of bits (pos start) (negsuc len) = cond (nat_lt len start) (range_within bits (start - (len + 1)) (len + 1)) None
range_of bits (negsuc start) len = None

-- the number of the first bytes, where the binary has so many
abbrev pub front_of : ℕ → Value → Option ℕ
front_of bits (VInt (pos n)) = cond (nat_eq (bits % 8) 0 && nat_le n (bits / 8)) (Some n) None
front_of bits _ = None

abbrev pub pair_of : List Bool → List Bool → Value
pair_of front back = VTuple (more (VBits front) (more (VBits back) none))

-- the first bits and the rest
abbrev pub halves : ℕ → List Bool → Value
halves n bits = pair_of (take n bits) (drop n bits)

abbrev pub wanted : ℕ → Value → Value → Option ByteRange
wanted bits (VInt start) (VInt len) = range_of bits start len
wanted bits _ _ = None
