-- Characters of a text: what UTF-8 (RFC 3629) makes of its bytes, the digits of a base, and escapes.
use Rattle.std.specs.Prelude.{ℕ, zero, suc, ◌+◌, ◌-◌, ◌*◌, ◌%◌, Bool, ◌&&◌, nat_le, nat_lt, ◌==◌, if◌then◌else◌, List, [], ◌∷◌, take, drop, slice_index, Option, Some, None, encode_utf8_all, length, map}
use Rattle.std.specs.List.{prefix_len}
use Rattle.std.specs.Char.{is_ascii_alphabetic, digit_value}
use Rattle.bits_value.specs.Utf.{is_character}

-- a byte that goes on with a character (RFC 3629, section 3: 10xxxxxx)
abbrev pub is_continuation : ℕ → Bool
is_continuation b = nat_le 128 b && nat_lt b 192

-- how many bytes the character at the front takes
abbrev pub character_len : List ℕ → ℕ
character_len bs = 1 + prefix_len is_continuation (drop 1 bs)

-- the number of the character at the front (RFC 3629, section 3): the low bits of its first byte, and the low six bits of each that goes on
abbrev pub first_number : List ℕ → ℕ
first_number bs = let b = slice_index bs 0 in
    if nat_lt b 128 then b
    else (if nat_lt b 224 then (b - 192) * 64 + slice_index bs 1 % 64
    else (if nat_lt b 240 then ((b - 224) * 64 + slice_index bs 1 % 64) * 64 + slice_index bs 2 % 64
    else (((b - 240) * 64 + slice_index bs 1 % 64) * 64 + slice_index bs 2 % 64) * 64 + slice_index bs 3 % 64))

-- a digit of the base, as `0` to `9` and then the letters of either case
abbrev pub is_digit : ℕ → ℕ → Bool
is_digit base b = nat_lt (digit_value b) base

-- a number with one more digit behind it, where `_` (95) is no digit
abbrev pub with_digit : ℕ → ℕ → ℕ → ℕ
with_digit base n b = if b == 95 then n else n * base + digit_value b

-- a number with more digits behind it
abbrev pub number_after : ℕ → ℕ → List ℕ → ℕ
number_after base n [] = n
number_after base n (b ∷ bs) = number_after base (with_digit base n b) bs

-- the number of digits of a base
abbrev pub number : ℕ → List ℕ → ℕ
number base bs = number_after base 0 bs

-- ---- Escapes: what follows a backslash (Reference Manual, "Data Types", "Escape Sequences")

-- an octal digit, and up to two more
abbrev pub octal_len : List ℕ → ℕ
octal_len bs = if is_digit 8 (slice_index bs 1) then (if is_digit 8 (slice_index bs 2) then 3 else 2) else 1

abbrev pub octal_number : List ℕ → ℕ
octal_number bs = let first = digit_value (slice_index bs 0) in let second = digit_value (slice_index bs 1) in let third = digit_value (slice_index bs 2) in
    if is_digit 8 (slice_index bs 1) then (if is_digit 8 (slice_index bs 2) then (first * 8 + second) * 8 + third else first * 8 + second) else first

-- hexadecimal digits and `}` (125), where they are a character's number
abbrev pub braced_len : List ℕ → Option ℕ
braced_len bs = let n = prefix_len (is_digit 16) bs in
    if nat_lt 0 n && (slice_index bs n == 125 && is_character (number 16 (take n bs))) then Some (n + 3) else None

-- after `x`: two hexadecimal digits, or digits between `{` (123) and `}`
abbrev pub hexadecimal_len : List ℕ → Option ℕ
hexadecimal_len bs = if slice_index bs 0 == 123 then braced_len (drop 1 bs)
    else (if is_digit 16 (slice_index bs 0) && is_digit 16 (slice_index bs 1) then Some 3 else None)

-- after `^`: a letter
abbrev pub control_len : List ℕ → Option ℕ
control_len bs = if is_ascii_alphabetic (slice_index bs 0) then Some 2 else None

-- The bytes of the escape after a backslash, if one stands there: octal digits, `x` (120) and hexadecimal digits, `^` (94) and a letter,
-- or any other character.
abbrev pub escape_len : List ℕ → Option ℕ
escape_len bs = if length bs == 0 then None
    else (if is_digit 8 (slice_index bs 0) then Some (octal_len bs)
    else (if slice_index bs 0 == 120 then hexadecimal_len (drop 1 bs)
    else (if slice_index bs 0 == 94 then control_len (drop 1 bs)
    else Some (character_len bs))))

-- the number of a character that stands for a control character, a space or delete, and of any other its own
abbrev pub named_number : List ℕ → ℕ
named_number bs = let b = slice_index bs 0 in
    if b == 98 then 8
    else (if b == 100 then 127
    else (if b == 101 then 27
    else (if b == 102 then 12
    else (if b == 110 then 10
    else (if b == 114 then 13
    else (if b == 115 then 32
    else (if b == 116 then 9
    else (if b == 118 then 11
    else first_number bs))))))))

-- after `x`: the number of two hexadecimal digits, or of those after `{`
abbrev pub hexadecimal_number : List ℕ → ℕ
hexadecimal_number bs = if slice_index bs 0 == 123 then number 16 (take (prefix_len (is_digit 16) (drop 1 bs)) (drop 1 bs))
    else digit_value (slice_index bs 0) * 16 + digit_value (slice_index bs 1)

-- The number of the character that an escape stands for. After `^` it is the letter's number in the alphabet.
abbrev pub escape_number : List ℕ → ℕ
escape_number bs = if is_digit 8 (slice_index bs 0) then octal_number bs
    else (if slice_index bs 0 == 120 then hexadecimal_number (drop 1 bs)
    else (if slice_index bs 0 == 94 then digit_value (slice_index bs 1) - 9
    else named_number bs))

-- ---- What a token stands for

-- the bytes of a backslash and its escape
abbrev pub escaped_len : Option ℕ → ℕ
escaped_len (Some n) = 1 + n
escaped_len None = 1

-- the number that they stand for; a backslash that begins no escape, as none in a token does, would stand for itself
abbrev pub escaped_number : Option ℕ → List ℕ → ℕ
escaped_number (Some n) bs = escape_number bs
escaped_number None bs = 92

-- how many bytes take the character or, after a backslash (92), the escape at the front
abbrev pub spelled_len : List ℕ → ℕ
spelled_len bs = if slice_index bs 0 == 92 then escaped_len (escape_len (drop 1 bs)) else character_len bs

-- the number of the character that they stand for
abbrev pub spelled_number : List ℕ → ℕ
spelled_number bs = if slice_index bs 0 == 92 then escaped_number (escape_len (drop 1 bs)) (drop 1 bs) else first_number bs

-- the numbers of the characters that the bytes between quotes stand for, where `skip` bytes more belong to the one before
abbrev pub spelled_from : ℕ → List ℕ → List ℕ
spelled_from skip [] = []
spelled_from (suc skip) (b ∷ bs) = spelled_from skip bs
spelled_from zero (b ∷ bs) = spelled_number (b ∷ bs) ∷ spelled_from (spelled_len (b ∷ bs) - 1) bs

abbrev pub spelled : List ℕ → List ℕ
spelled bs = spelled_from 0 bs

-- the bytes between the quotes of a string or a quoted atom
abbrev pub between_quotes : List ℕ → List ℕ
between_quotes bs = take (length bs - 2) (drop 1 bs)

-- the numbers of a string's characters
abbrev pub string_characters : List ℕ → List ℕ
string_characters bs = spelled (between_quotes bs)

-- the number, or that of the replacement character in the place of one that is no character's, as none is that a token spells
abbrev pub as_character : ℕ → ℕ
as_character n = if is_character n then n else 0xFFFD

-- an atom's characters, in UTF-8: a bare atom's are its own bytes
abbrev pub atom_text : List ℕ → List ℕ
atom_text bs = if slice_index bs 0 == 39 then encode_utf8_all (map as_character (spelled (between_quotes bs))) else bs

-- the number of the character that `$` and a character or an escape stand for
abbrev pub character_number : List ℕ → ℕ
character_number bs = spelled_number (drop 1 bs)

-- the base of an integer's digits: the number before `#` (35), or ten
abbrev pub integer_base : List ℕ → ℕ
integer_base bs = let n = 1 + prefix_len (is_digit 10) (drop 1 bs) in if slice_index bs n == 35 then number 10 (take n bs) else 10

-- an integer's digits: those behind `#`, or all
abbrev pub integer_digits : List ℕ → List ℕ
integer_digits bs = let n = 1 + prefix_len (is_digit 10) (drop 1 bs) in if slice_index bs n == 35 then drop (n + 1) bs else bs

-- an integer's value
abbrev pub integer_value : List ℕ → ℕ
integer_value bs = number (integer_base bs) (integer_digits bs)
