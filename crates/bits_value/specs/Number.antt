-- The numbers that bits spell (Erlang reference manual, "Bit Syntax Expressions", integer segments).
use Rattle.std.specs.Prelude.{ℕ, ◌+◌, ◌-◌, ◌*◌, ◌/◌, ◌%◌, ◌^◌, ◌<◌, ◌≤◌, Bool, cond, List, [], ◌∷◌, ◌++◌, length, map, take, drop, zero, suc, ℤ, pos, negsuc, ◌-ℤ◌, Option, Some, None, nat_lt}
use Rattle.std.specs.List.{range_with_len}
use Rattle.bits_value.specs.Bits.{bit_of}
use Rattle.bits_value.specs.declared.Sign.{Sign}
use Rattle.bits_value.specs.declared.Sign.TheVariants.{Unsigned, Signed}
use Rattle.bits_value.specs.declared.Endian.{Endian}
use Rattle.bits_value.specs.declared.Endian.TheVariants.{Big, Little}

abbrev pub weight : Bool → ℕ
weight b = cond b 1 0

-- the unsigned big-endian number: the sum of the bits' weights, the first bit having the greatest
abbrev pub natural : List Bool → ℕ
natural [] = 0
natural (b ∷ bs) = weight b * 2 ^ length bs + natural bs

-- the signed big-endian number: the first bit's weight is negative
abbrev pub signed : List Bool → ℤ
signed [] = pos 0
signed (b ∷ bs) = pos (natural bs) -ℤ pos (weight b * 2 ^ length bs)

-- `k` groups of eight bits from the front, and what remains as the last group, in reverse order
abbrev pub reversed_groups : ℕ → List Bool → List Bool
reversed_groups zero bits = bits
reversed_groups (suc k) bits = reversed_groups k (drop 8 bits) ++ take 8 bits

-- the bits of a little-endian number in big-endian order
unfoldable pub reordered : List Bool → List Bool
reordered bits = reversed_groups (length bits / 8) bits

abbrev pub greatest_first : Endian → List Bool → List Bool
greatest_first Big bits = bits
greatest_first Little bits = reordered bits

abbrev pub with_sign : Sign → List Bool → ℤ
with_sign Unsigned bits = pos (natural bits)
with_sign Signed bits = signed bits

-- the number of a segment's bits
abbrev pub number : List Bool → Sign → Endian → ℤ
number bits sign endian = with_sign sign (greatest_first endian bits)

-- an integer modulo `2 ^ n`
abbrev pub residue : ℕ → ℤ → ℕ
residue n (pos v) = v % 2 ^ n
residue n (negsuc v) = 2 ^ n - 1 - v % 2 ^ n

-- the `n` lowest bits of `v`, the bit of the greatest weight first
unfoldable pub big_bits : ℕ → ℕ → List Bool
big_bits n v = map (λ i. bit_of v (n - 1 - i)) (range_with_len 0 n)

-- the `n` lowest bits of `v`: `k` groups of eight bits, the lowest weights first, and what remains
abbrev pub little_groups : ℕ → ℕ → ℕ → List Bool
little_groups zero n v = big_bits n v
little_groups (suc k) n v = big_bits 8 v ++ little_groups k (n - 8) (v / 2 ^ 8)

unfoldable pub little_bits : ℕ → ℕ → List Bool
little_bits n v = little_groups (n / 8) n v

-- the one list of `n` bits whose unsigned number is `v` modulo `2 ^ n`
abbrev pub spell : ℕ → ℤ → Endian → List Bool
spell n v Big = big_bits n (residue n v)
spell n v Little = little_bits n (residue n v)

-- an integer where it is within -2^127 and 2^127 - 1
abbrev pub bounded : ℤ → Option ℤ
bounded (pos v) = cond (nat_lt v (2 ^ 127)) (Some (pos v)) None
bounded (negsuc v) = cond (nat_lt v (2 ^ 127)) (Some (negsuc v)) None

-- whether an integer is within `n` bits: 0 to 2^n - 1, or -2^(n-1) to 2^(n-1) - 1, and only 0 in no bits
abbrev pub InBits : Sign → ℕ → ℤ → Type 0
InBits Unsigned n (pos v) = v < 2 ^ n
InBits Unsigned n (negsuc v) = ⊥
InBits Signed n (pos v) = 2 * v < 2 ^ n
InBits Signed n (negsuc v) = 2 * (v + 1) ≤ 2 ^ n
