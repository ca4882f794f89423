-- Characters and their spellings (RFC 3629, section 3; RFC 2781, sections 2.1 and 3).
use Rattle.std.specs.Prelude.{◌≡◌, ℕ, ◌+◌, ◌-◌, ◌/◌, ◌%◌, Bool, cond, ◌&&◌, ◌||◌, IsTrue, List, [], ◌∷◌, ◌++◌, length, take, ℤ, pos, negsuc, nat_lt, nat_le}
use Rattle.bits_value.specs.declared.UtfKind.{UtfKind}
use Rattle.bits_value.specs.declared.UtfKind.TheVariants.{Utf8, Utf16, Utf32}
use Rattle.bits_value.specs.declared.Endian.{Endian}
use Rattle.bits_value.specs.declared.Endian.TheVariants.{Big, Little}

-- 0 to 16#D7FF and 16#E000 to 16#10FFFF: no surrogate
abbrev pub is_character : ℕ → Bool
is_character c = nat_lt c 0xD800 || (nat_le 0xE000 c && nat_lt c 0x11_0000)

abbrev pub IsCharacter : ℤ → Type 0
IsCharacter (pos c) = IsTrue (is_character c)
IsCharacter (negsuc c) = ⊥

-- the byte sequences of UTF-8 by the character's range
abbrev pub utf8_bytes : ℕ → List ℕ
utf8_bytes c = cond (nat_lt c 0x80) (c ∷ []) (cond (nat_lt c 0x800) ((0xC0 + c / 0x40) ∷ (0x80 + c % 0x40) ∷ []) (cond (nat_lt c 0x1_0000) ((0xE0 + c / 0x1000) ∷ (0x80 + c / 0x40 % 0x40) ∷ (0x80 + c % 0x40) ∷ []) ((0xF0 + c / 0x4_0000) ∷ (0x80 + c / 0x1000 % 0x40) ∷ (0x80 + c / 0x40 % 0x40) ∷ (0x80 + c % 0x40) ∷ [])))

-- the two bytes of a unit of 16 bits
abbrev pub unit_bytes : Endian → ℕ → List ℕ
unit_bytes Big u = (u / 0x100) ∷ (u % 0x100) ∷ []
unit_bytes Little u = (u % 0x100) ∷ (u / 0x100) ∷ []

-- one unit, or a surrogate pair
abbrev pub utf16_bytes : Endian → ℕ → List ℕ
utf16_bytes endian c = cond (nat_lt c 0x1_0000) (unit_bytes endian c) (unit_bytes endian (0xD800 + (c - 0x1_0000) / 0x400) ++ unit_bytes endian (0xDC00 + (c - 0x1_0000) % 0x400))

-- a number of four bytes (the Unicode Standard, section 3.9: UTF-32)
abbrev pub utf32_bytes : Endian → ℕ → List ℕ
utf32_bytes Big c = (c / 0x100_0000) ∷ (c / 0x1_0000 % 0x100) ∷ (c / 0x100 % 0x100) ∷ (c % 0x100) ∷ []
utf32_bytes Little c = (c % 0x100) ∷ (c / 0x100 % 0x100) ∷ (c / 0x1_0000 % 0x100) ∷ (c / 0x100_0000) ∷ []

abbrev pub utf_bytes : UtfKind → Endian → ℕ → List ℕ
utf_bytes Utf8 endian c = utf8_bytes c
utf_bytes Utf16 endian c = utf16_bytes endian c
utf_bytes Utf32 endian c = utf32_bytes endian c

-- the bytes spell this integer, which is a character
abbrev pub Utf : UtfKind → Endian → ℤ → List ℕ → Type 0
Utf kind endian (pos c) bytes = IsTrue (is_character c) × (bytes ≡ utf_bytes kind endian c)
Utf kind endian (negsuc c) bytes = ⊥

-- bits that begin with other bits
abbrev pub Begins : List Bool → List Bool → Type 0
Begins front bits = take (length front) bits ≡ front
