-- The character that the first bytes speak of, if they spell one at all.
use Rattle.std.specs.Prelude.{ℕ, ◌+◌, ◌*◌, ◌/◌, ◌%◌, ◌==◌, cond, nat_lt}
use Rattle.bits_value.specs.declared.UtfKind.{UtfKind}
use Rattle.bits_value.specs.declared.UtfKind.TheVariants.{Utf8, Utf16, Utf32}
use Rattle.bits_value.specs.declared.Endian.{Endian}
use Rattle.bits_value.specs.declared.Endian.TheVariants.{Big, Little}

abbrev pub utf8_candidate : ℕ → ℕ → ℕ → ℕ → ℕ
utf8_candidate a b c d = cond (nat_lt a 0x80) a (cond (nat_lt a 0xE0) (a % 0x20 * 0x40 + b % 0x40) (cond (nat_lt a 0xF0) (a % 0x10 * 0x1000 + b % 0x40 * 0x40 + c % 0x40) (a % 8 * 0x4_0000 + b % 0x40 * 0x1000 + c % 0x40 * 0x40 + d % 0x40)))

abbrev pub unit_of : Endian → ℕ → ℕ → ℕ
unit_of Big a b = a * 0x100 + b
unit_of Little a b = b * 0x100 + a

abbrev pub pair_of : ℕ → ℕ → ℕ
pair_of u v = cond (u / 0x400 == 0x36) (0x1_0000 + u % 0x400 * 0x400 + v % 0x400) u

abbrev pub utf32_candidate : Endian → ℕ → ℕ → ℕ → ℕ → ℕ
utf32_candidate Big a b c d = a * 0x100_0000 + b * 0x1_0000 + c * 0x100 + d
utf32_candidate Little a b c d = d * 0x100_0000 + c * 0x1_0000 + b * 0x100 + a

abbrev pub candidate : UtfKind → Endian → ℕ → ℕ → ℕ → ℕ → ℕ
candidate Utf8 e a b c d = utf8_candidate a b c d
candidate Utf16 e a b c d = pair_of (unit_of e a b) (unit_of e c d)
candidate Utf32 e a b c d = utf32_candidate e a b c d
