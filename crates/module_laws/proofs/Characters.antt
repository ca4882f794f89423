-- The numbers of the characters that bytes of a text spell are small.
use Rattle.std.proofs.Common.{◌≡◌, ℕ, zero, suc, ◌+◌, ◌-◌, ◌*◌, ◌/◌, ◌%◌, ◌<◌, ◌≤◌, Bool, true, false, cond, ◌⊎◌, inl, inr, List, [], ◌∷◌, ◌++◌, length, take, drop, Option, Some, None, refl, subst, arith}
use Rattle.std.specs.Prelude.{nat_lt, nat_le, ◌&&◌, ◌||◌, ◌==◌, slice_index, if◌then◌else◌}
use Rattle.std.specs.Char.{digit_value}
use Rattle.std.specs.List.{prefix_len}
use Rattle.std.specs.Str.{is_utf8, IsUtf8}
use Rattle.std.specs.Str.Lossy.{utf8_valid_len, valid_len_up_to}
use Rattle.std.proofs.lemmas.Bool.Decides.{nat_tests}
use Rattle.std.proofs.lemmas.List.{length-drop, length-take}
use Rattle.std.proofs.Math.Utf8.{scalar, scalars, encode, encodes, scalar_cases}
use Rattle.std.proofs.lemmas.Str.{IsUtf8-from_is_utf8}
use Rattle.bits_value.specs.Utf.{is_character}
use Rattle.erl_syntax.specs.Characters.{is_digit, number, octal_number, first_number, named_number, hexadecimal_number, hexadecimal_len, braced_len, escape_len, escape_number, escaped_number, spelled_len, spelled_number, spelled_from, between_quotes, string_characters, character_number}
use Rattle.erl_syntax.specs.Tokens.{front}

-- each is a byte
abbrev pub AreBytes : List ℕ → Type 0
AreBytes [] = Unit {0}
AreBytes (b ∷ bs) = (b < 256) × AreBytes bs

-- a number that every character's is below
abbrev pub most : ℕ
most = 0x1000_0000

byte_at : (bs : List ℕ) (i : ℕ) → AreBytes bs → slice_index bs i < 256
byte_at [] i h = omega arith
byte_at (b ∷ bs) zero h = h.0
byte_at (b ∷ bs) (suc i) h = byte_at bs i h.1

pub bytes-take : (n : ℕ) (bs : List ℕ) → AreBytes bs → AreBytes (take n bs)
bytes-take zero bs h = tt
bytes-take (suc n) [] h = tt
bytes-take (suc n) (b ∷ bs) h = (h.0, bytes-take n bs h.1)

pub bytes-drop : (n : ℕ) (bs : List ℕ) → AreBytes bs → AreBytes (drop n bs)
bytes-drop zero bs h = h
bytes-drop (suc n) [] h = tt
bytes-drop (suc n) (b ∷ bs) h = bytes-drop n bs h.1

bytes-append : (cs bs : List ℕ) → AreBytes cs → AreBytes bs → AreBytes (cs ++ bs)
bytes-append [] bs h g = g
bytes-append (c ∷ cs) bs h g = (h.0, bytes-append cs bs h.1 g)

-- ---- Numbers of digits and characters

by_test : (b : Bool) (m n limit : ℕ) → (b ≡ true → m ≤ limit) → (b ≡ false → n ≤ limit) → cond b m n ≤ limit
by_test true m n limit h g = h refl
by_test false m n limit h g = g refl

lt_true : (m n : ℕ) → nat_lt m n ≡ true → m < n
lt_true m n e = grind (arith, nat_tests, e)

digit_small : (c : ℕ) → digit_value c ≤ 36
digit_small c =
    by_test (nat_lt c 48) 36 _ 36 (λ _. omega arith) (λ _.
    by_test (nat_lt c 58) (c - 48) _ 36 (λ e. omega (arith, lt_true c 58 e)) (λ _.
    by_test (nat_lt c 65) 36 _ 36 (λ _. omega arith) (λ _.
    by_test (nat_lt c 91) (c - 55) _ 36 (λ e. omega (arith, lt_true c 91 e)) (λ _.
    by_test (nat_lt c 97) 36 _ 36 (λ _. omega arith) (λ _.
    by_test (nat_lt c 123) (c - 87) 36 36 (λ e. omega (arith, lt_true c 123 e)) (λ _. omega arith))))))

first_small : (bs : List ℕ) → AreBytes bs → first_number bs ≤ most
first_small bs h =
    let u : slice_index bs 0 < 256 = byte_at bs 0 h in
    by_test (nat_lt (slice_index bs 0) 128) (slice_index bs 0) _ most (λ _. omega (arith, u)) (λ _.
    by_test (nat_lt (slice_index bs 0) 224) ((slice_index bs 0 - 192) * 64 + slice_index bs 1 % 64) _ most (λ _. omega (arith, u)) (λ _.
    by_test (nat_lt (slice_index bs 0) 240) (((slice_index bs 0 - 224) * 64 + slice_index bs 1 % 64) * 64 + slice_index bs 2 % 64) _ most (λ _. omega (arith, u)) (λ _. omega (arith, u))))

octal_small : (bs : List ℕ) → octal_number bs ≤ most
octal_small bs =
    let a : digit_value (slice_index bs 0) ≤ 36 = digit_small (slice_index bs 0) in
    let b : digit_value (slice_index bs 1) ≤ 36 = digit_small (slice_index bs 1) in
    let c : digit_value (slice_index bs 2) ≤ 36 = digit_small (slice_index bs 2) in
    by_test (is_digit 8 (slice_index bs 1)) _ _ most
    (λ _. by_test (is_digit 8 (slice_index bs 2)) ((digit_value (slice_index bs 0) * 8 + digit_value (slice_index bs 1)) * 8 + digit_value (slice_index bs 2)) (digit_value (slice_index bs 0) * 8 + digit_value (slice_index bs 1)) most (λ _. omega (arith, a, b, c)) (λ _. omega (arith, a, b)))
    (λ _. omega (arith, a))

named_small : (bs : List ℕ) → AreBytes bs → named_number bs ≤ most
named_small bs h =
    by_test (slice_index bs 0 == 98) 8 _ most (λ _. omega arith) (λ _.
    by_test (slice_index bs 0 == 100) 127 _ most (λ _. omega arith) (λ _.
    by_test (slice_index bs 0 == 101) 27 _ most (λ _. omega arith) (λ _.
    by_test (slice_index bs 0 == 102) 12 _ most (λ _. omega arith) (λ _.
    by_test (slice_index bs 0 == 110) 10 _ most (λ _. omega arith) (λ _.
    by_test (slice_index bs 0 == 114) 13 _ most (λ _. omega arith) (λ _.
    by_test (slice_index bs 0 == 115) 32 _ most (λ _. omega arith) (λ _.
    by_test (slice_index bs 0 == 116) 9 _ most (λ _. omega arith) (λ _.
    by_test (slice_index bs 0 == 118) 11 _ most (λ _. omega arith) (λ _. first_small bs h)))))))))

either : (x y : Bool) → (x || y) ≡ true → (x ≡ true) ⊎ (y ≡ true)
either true y e = inl refl
either false y e = inr e

both : (x y : Bool) → (x && y) ≡ true → (x ≡ true) × (y ≡ true)
both true y e = (refl, e)
both false y e = cc e

character_small : (c : ℕ) → is_character c ≡ true → c ≤ most
character_small c e = elim (either (nat_lt c 0xD800) (nat_le 0xE000 c && nat_lt c 0x11_0000) e) [
  | inl h ↦ omega (arith, lt_true c 0xD800 h)
  | inr h ↦ omega (arith, lt_true c 0x11_0000 (both (nat_le 0xE000 c) (nat_lt c 0x11_0000) h).1)
]

chosen : (b : Bool) (m n : ℕ) → (if b then Some m else None) ≡ Some n → b ≡ true
chosen true m n e = refl
chosen false m n e = cc e

braced_small : (bs : List ℕ) (n : ℕ) → braced_len bs ≡ Some n → number 16 (take (prefix_len (is_digit 16) bs) bs) ≤ most
braced_small bs n e =
    let m : ℕ = prefix_len (is_digit 16) bs in
    let c = chosen (nat_lt 0 m && (slice_index bs m == 125 && is_character (number 16 (take m bs)))) (m + 3) n e in
    let d = both (nat_lt 0 m) (slice_index bs m == 125 && is_character (number 16 (take m bs))) c in
    character_small (number 16 (take m bs)) (both (slice_index bs m == 125) (is_character (number 16 (take m bs))) d.1).1

if_true : (b : Bool) (m n o : Option ℕ) → b ≡ true → (if b then m else n) ≡ o → m ≡ o
if_true true m n o h e = e
if_true false m n o h e = cc h

if_false : (b : Bool) (m n o : Option ℕ) → b ≡ false → (if b then m else n) ≡ o → n ≡ o
if_false true m n o h e = cc h
if_false false m n o h e = e

hexadecimal_small : (bs : List ℕ) (n : ℕ) → hexadecimal_len bs ≡ Some n → hexadecimal_number bs ≤ most
hexadecimal_small bs n e =
    by_test (slice_index bs 0 == 123) _ _ most
    (λ h. braced_small (drop 1 bs) n (if_true (slice_index bs 0 == 123) _ _ (Some n) h e))
    (λ _. omega (arith, digit_small (slice_index bs 0), digit_small (slice_index bs 1)))

-- where an escape begins with a byte of a text and is none
escaped_by : (bs : List ℕ) (n : ℕ) → AreBytes bs → escape_len bs ≡ Some n → (length bs == 0) ≡ false → escape_number bs ≤ most
escaped_by bs n h e l =
    let f = if_false (length bs == 0) None _ (Some n) l e in
    by_test (is_digit 8 (slice_index bs 0)) _ _ most (λ _. octal_small bs) (λ a.
    by_test (slice_index bs 0 == 120) _ _ most
    (λ b. hexadecimal_small (drop 1 bs) n (if_true (slice_index bs 0 == 120) _ _ (Some n) b (if_false (is_digit 8 (slice_index bs 0)) _ _ (Some n) a f)))
    (λ _. by_test (slice_index bs 0 == 94) _ _ most (λ _. omega (arith, digit_small (slice_index bs 1))) (λ _. named_small bs h)))

not_none : (b : Bool) (o : Option ℕ) (n : ℕ) → (if b then None else o) ≡ Some n → b ≡ false
not_none true o n e = cc e
not_none false o n e = refl

escaped_small : (o : Option ℕ) (bs : List ℕ) → AreBytes bs → escape_len bs ≡ o → escaped_number o bs ≤ most
escaped_small None bs h e = omega arith
escaped_small (Some n) bs h e = escaped_by bs n h e (not_none (length bs == 0) _ n e)

pub spelled_small : (bs : List ℕ) → AreBytes bs → spelled_number bs ≤ most
spelled_small bs h =
    by_test (slice_index bs 0 == 92) _ _ most
    (λ _. escaped_small (escape_len (drop 1 bs)) (drop 1 bs) (bytes-drop 1 bs h) refl)
    (λ _. first_small bs h)

-- ---- The bytes of a text

by_choice : (b : Bool) (bs : List ℕ) (m n : ℕ) → (b ≡ true → AreBytes (take m bs)) → AreBytes (take n bs) → AreBytes (take (if b then m else n) bs)
by_choice true bs m n h g = h refl
by_choice false bs m n h g = g

bytes_by : (b : Bool) (xs ys : List ℕ) → (b ≡ true → AreBytes xs) → (b ≡ false → AreBytes ys) → AreBytes (cond b xs ys)
bytes_by true xs ys h g = h refl
bytes_by false xs ys h g = g refl

encode_bytes : (c : ℕ) → c < 1114112 → AreBytes (encode c)
unfolding encode
encode_bytes c h =
    bytes_by (nat_lt c 128) (c ∷ []) _ (λ e. (omega (arith, lt_true c 128 e), tt)) (λ _.
    bytes_by (nat_lt c 2048) ((192 + c / 64) ∷ (128 + c % 64) ∷ []) _ (λ e. (omega (arith, lt_true c 2048 e), (omega arith, tt))) (λ _.
    bytes_by (nat_lt c 65536) ((224 + c / 4096) ∷ (128 + c / 64 % 64) ∷ (128 + c % 64) ∷ []) _ (λ e. (omega (arith, lt_true c 65536 e), (omega arith, (omega arith, tt)))) (λ _.
    (omega (arith, h), (omega arith, (omega arith, (omega arith, tt)))))))

scalar_bytes : (c : ℕ) → scalar c ≡ true → AreBytes (encode c)
scalar_bytes c e = encode_bytes c (elim (scalar_cases c e) [ inl h ↦ omega (arith, h) | inr h ↦ h.1 ])

encodes_bytes : (cs : List ℕ) → scalars cs ≡ true → AreBytes (encodes cs)
encodes_bytes [] e = tt
encodes_bytes (c ∷ cs) e = let d = both (scalar c) (scalars cs) e in bytes-append (encode c) (encodes cs) (scalar_bytes c d.0) (encodes_bytes cs d.1)

utf8_bytes : (bs : List ℕ) → IsUtf8 bs → AreBytes bs
utf8_bytes bs u = subst AreBytes u.1.1 (encodes_bytes u.0 u.1.0)

valid_bytes : (bs : List ℕ) (n : ℕ) → AreBytes (take (valid_len_up_to bs n) bs)
valid_bytes bs zero = tt
valid_bytes bs (suc n) = by_choice (is_utf8 (take (suc n) bs)) bs (suc n) (valid_len_up_to bs n) (λ e. utf8_bytes (take (suc n) bs) (IsUtf8-from_is_utf8 (take (suc n) bs) e)) (valid_bytes bs n)

-- what is before the first byte that belongs to no character
pub front_bytes : (text : List ℕ) → AreBytes (front text)
unfolding utf8_valid_len
front_bytes text = valid_bytes text (length text)

-- ---- Strings

abbrev pub AreSmall : List ℕ → Type 0
AreSmall [] = Unit {0}
AreSmall (c ∷ cs) = (c ≤ most) × AreSmall cs

from_small : (skip : ℕ) (bs : List ℕ) → AreBytes bs → AreSmall (spelled_from skip bs)
from_small zero [] h = tt
from_small (suc skip) [] h = tt
from_small (suc skip) (b ∷ bs) h = from_small skip bs h.1
from_small zero (b ∷ bs) h = (spelled_small (b ∷ bs) h, from_small (spelled_len (b ∷ bs) - 1) bs h.1)

from_few : (skip : ℕ) (bs : List ℕ) → length (spelled_from skip bs) ≤ length bs
from_few zero [] = omega arith
from_few (suc skip) [] = omega arith
from_few (suc skip) (b ∷ bs) = omega (arith, from_few skip bs)
from_few zero (b ∷ bs) = omega (arith, from_few (spelled_len (b ∷ bs) - 1) bs)

pub string_small : (bs : List ℕ) → AreBytes bs → AreSmall (string_characters bs)
string_small bs h = from_small 0 (between_quotes bs) (bytes-take (length bs - 2) (drop 1 bs) (bytes-drop 1 bs h))

pub string_few : (bs : List ℕ) → length (string_characters bs) ≤ length bs
string_few bs = omega (arith, from_few 0 (between_quotes bs), length-take (length bs - 2) (drop 1 bs), length-drop 1 bs)

pub character_few : (bs : List ℕ) → AreBytes bs → character_number bs ≤ most
character_few bs h = spelled_small (drop 1 bs) (bytes-drop 1 bs h)
