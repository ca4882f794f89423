-- What the first bytes of a spelling say.
use Rattle.std.proofs.Common.{◌≡◌, ℕ, zero, suc, ◌+◌, ◌-◌, ◌*◌, ◌/◌, ◌%◌, ◌^◌, ◌<◌, ◌≤◌, Bool, cond, IsTrue, List, [], ◌∷◌, ◌++◌, length, take, get_or, refl, ap, sym, ◌∙◌, inl, inr, ◌⊎◌, subst, lit<, lit≤, arith}
use Rattle.std.proofs.lemmas.List.{get_or-take}
use Rattle.std.proofs.lemmas.Bool.{cases_lt, lt-ltb, le-ltb}
use Rattle.std.proofs.lemmas.Bool.Decides.{nat_tests}
use Rattle.bits_value.specs.Utf.{is_character, utf8_bytes, unit_bytes, utf16_bytes, utf_bytes}
use Rattle.bits_value.specs.declared.UtfKind.{UtfKind}
use Rattle.bits_value.specs.declared.UtfKind.TheVariants.{Utf8, Utf16, Utf32}
use Rattle.bits_value.specs.declared.Endian.{Endian}
use Rattle.bits_value.specs.declared.Endian.TheVariants.{Big, Little}
use Rattle.utf_segments.specs.Reading.{candidate, utf8_candidate, unit_of, pair_of}

-- a character's range
pub character-ranges : (c : ℕ) → IsTrue (is_character c) → (c < 0xD800) ⊎ ((0xE000 ≤ c) × (c < 0x11_0000))
character-ranges c h = elim (cases_lt c 0xD800) [
  | inl low ↦ inl low
  | inr high ↦ inr (grind (arith, nat_tests))
]

pub character-lt : (c : ℕ) → IsTrue (is_character c) → c < 0x11_0000
character-lt c h = elim (character-ranges c h) [ inl a ↦ omega arith | inr a ↦ a.1 ]

-- ---- UTF-8
utf8-one : (c : ℕ) → c < 0x80 → utf8_bytes c ≡ c ∷ []
utf8-one c h = grind (arith, nat_tests)

utf8-two : (c : ℕ) → 0x80 ≤ c → c < 0x800 → utf8_bytes c ≡ (0xC0 + c / 0x40) ∷ (0x80 + c % 0x40) ∷ []
utf8-two c g h = grind (arith, nat_tests)

utf8-three : (c : ℕ) → 0x800 ≤ c → c < 0x1_0000 → utf8_bytes c ≡ (0xE0 + c / 0x1000) ∷ (0x80 + c / 0x40 % 0x40) ∷ (0x80 + c % 0x40) ∷ []
utf8-three c g h = grind (arith, nat_tests)

utf8-four : (c : ℕ) → 0x1_0000 ≤ c → utf8_bytes c ≡ (0xF0 + c / 0x4_0000) ∷ (0x80 + c / 0x1000 % 0x40) ∷ (0x80 + c / 0x40 % 0x40) ∷ (0x80 + c % 0x40) ∷ []
utf8-four c g = grind (arith, nat_tests)

cand-one : (x b c d : ℕ) → x < 0x80 → utf8_candidate x b c d ≡ x
cand-one x b c d h = grind (arith, nat_tests)

cand-two : (x c d : ℕ) → 0x80 ≤ x → x < 0x800 → utf8_candidate (0xC0 + x / 0x40) (0x80 + x % 0x40) c d ≡ x
cand-two x c d g h = grind (arith, nat_tests)

cand-three : (x d : ℕ) → 0x800 ≤ x → x < 0x1_0000 → utf8_candidate (0xE0 + x / 0x1000) (0x80 + x / 0x40 % 0x40) (0x80 + x % 0x40) d ≡ x
cand-three x d g h = grind (arith, nat_tests)

cand-four : (x : ℕ) → 0x1_0000 ≤ x → x < 0x11_0000 → utf8_candidate (0xF0 + x / 0x4_0000) (0x80 + x / 0x1000 % 0x40) (0x80 + x / 0x40 % 0x40) (0x80 + x % 0x40) ≡ x
cand-four x g h = grind (arith, nat_tests)

-- ---- what is read where a spelling stands in front
pub at-front : (n : ℕ) (w xs : List ℕ) (i : ℕ) → take n w ≡ xs → i < n → get_or w i 0 ≡ get_or xs i 0
at-front n w xs i e h = sym (get_or-take n w i 0 h) ∙ ap (λ (l : List ℕ). get_or l i 0) e

pub record Spelled (k : UtfKind) (e : Endian) (c : ℕ) : Type 0 where
  pub short : length (utf_bytes k e c) ≤ 4
  pub small : (i : ℕ) → get_or (utf_bytes k e c) i 0 < 2 ^ 8
  pub back : (w : List ℕ) → take (length (utf_bytes k e c)) w ≡ utf_bytes k e c → candidate k e (get_or w 0 0) (get_or w 1 0) (get_or w 2 0) (get_or w 3 0) ≡ c

small-one : (a : ℕ) → a < 2 ^ 8 → (i : ℕ) → get_or (a ∷ []) i 0 < 2 ^ 8
small-one a h zero = h
small-one a h (suc i) = lit< tt

small-two : (a b : ℕ) → a < 2 ^ 8 → b < 2 ^ 8 → (i : ℕ) → get_or (a ∷ b ∷ []) i 0 < 2 ^ 8
small-two a b h g zero = h
small-two a b h g (suc i) = small-one b g i

small-three : (a b c : ℕ) → a < 2 ^ 8 → b < 2 ^ 8 → c < 2 ^ 8 → (i : ℕ) → get_or (a ∷ b ∷ c ∷ []) i 0 < 2 ^ 8
small-three a b c h g f zero = h
small-three a b c h g f (suc i) = small-two b c g f i

small-four : (a b c d : ℕ) → a < 2 ^ 8 → b < 2 ^ 8 → c < 2 ^ 8 → d < 2 ^ 8 → (i : ℕ) → get_or (a ∷ b ∷ c ∷ d ∷ []) i 0 < 2 ^ 8
small-four a b c d h g f e zero = h
small-four a b c d h g f e (suc i) = small-three b c d g f e i

from-one : (k : UtfKind) (e : Endian) (c x : ℕ) → utf_bytes k e c ≡ x ∷ [] → x < 2 ^ 8 → ((b' c' d' : ℕ) → candidate k e x b' c' d' ≡ c) → Spelled k e c
from-one k e c x is h back =
    let P : List ℕ → Type 0 = λ bytes. (length bytes ≤ 4) × ((i : ℕ) → get_or bytes i 0 < 2 ^ 8) × ((w : List ℕ) → take (length bytes) w ≡ bytes → candidate k e (get_or w 0 0) (get_or w 1 0) (get_or w 2 0) (get_or w 3 0) ≡ c) in
    let all : P (utf_bytes k e c) = subst P (sym is) (
      lit≤ tt,
      small-one x h,
      λ w front.
          ap (λ n. candidate k e n (get_or w 1 0) (get_or w 2 0) (get_or w 3 0)) (at-front 1 w (x ∷ []) 0 front (lit< tt)) ∙ back (get_or w 1 0) (get_or w 2 0) (get_or w 3 0),
    ) in
    record { short = all.0; small = all.1; back = all.2 }

from-two : (k : UtfKind) (e : Endian) (c x y : ℕ) → utf_bytes k e c ≡ x ∷ y ∷ [] → x < 2 ^ 8 → y < 2 ^ 8 → ((c' d' : ℕ) → candidate k e x y c' d' ≡ c) → Spelled k e c
from-two k e c x y is h g back =
    let P : List ℕ → Type 0 = λ bytes. (length bytes ≤ 4) × ((i : ℕ) → get_or bytes i 0 < 2 ^ 8) × ((w : List ℕ) → take (length bytes) w ≡ bytes → candidate k e (get_or w 0 0) (get_or w 1 0) (get_or w 2 0) (get_or w 3 0) ≡ c) in
    let all : P (utf_bytes k e c) = subst P (sym is) (
      lit≤ tt,
      small-two x y h g,
      λ w front.
          ap (λ n. candidate k e n (get_or w 1 0) (get_or w 2 0) (get_or w 3 0)) (at-front 2 w (x ∷ y ∷ []) 0 front (lit< tt))
          ∙ ap (λ n. candidate k e x n (get_or w 2 0) (get_or w 3 0)) (at-front 2 w (x ∷ y ∷ []) 1 front (lit< tt)) ∙ back (get_or w 2 0) (get_or w 3 0),
    ) in
    record { short = all.0; small = all.1; back = all.2 }

from-three : (k : UtfKind) (e : Endian) (c x y z : ℕ) → utf_bytes k e c ≡ x ∷ y ∷ z ∷ [] → x < 2 ^ 8 → y < 2 ^ 8 → z < 2 ^ 8 → ((d' : ℕ) → candidate k e x y z d' ≡ c) → Spelled k e c
from-three k e c x y z is h g f back =
    let P : List ℕ → Type 0 = λ bytes. (length bytes ≤ 4) × ((i : ℕ) → get_or bytes i 0 < 2 ^ 8) × ((w : List ℕ) → take (length bytes) w ≡ bytes → candidate k e (get_or w 0 0) (get_or w 1 0) (get_or w 2 0) (get_or w 3 0) ≡ c) in
    let all : P (utf_bytes k e c) = subst P (sym is) (
      lit≤ tt,
      small-three x y z h g f,
      λ w front.
          ap (λ n. candidate k e n (get_or w 1 0) (get_or w 2 0) (get_or w 3 0)) (at-front 3 w (x ∷ y ∷ z ∷ []) 0 front (lit< tt))
          ∙ ap (λ n. candidate k e x n (get_or w 2 0) (get_or w 3 0)) (at-front 3 w (x ∷ y ∷ z ∷ []) 1 front (lit< tt))
          ∙ ap (λ n. candidate k e x y n (get_or w 3 0)) (at-front 3 w (x ∷ y ∷ z ∷ []) 2 front (lit< tt)) ∙ back (get_or w 3 0),
    ) in
    record { short = all.0; small = all.1; back = all.2 }

from-four : (k : UtfKind) (e : Endian) (c x y z v : ℕ) → utf_bytes k e c ≡ x ∷ y ∷ z ∷ v ∷ [] → x < 2 ^ 8 → y < 2 ^ 8 → z < 2 ^ 8 → v < 2 ^ 8 → candidate k e x y z v ≡ c → Spelled k e c
from-four k e c x y z v is h g f i back =
    let P : List ℕ → Type 0 = λ bytes. (length bytes ≤ 4) × ((i : ℕ) → get_or bytes i 0 < 2 ^ 8) × ((w : List ℕ) → take (length bytes) w ≡ bytes → candidate k e (get_or w 0 0) (get_or w 1 0) (get_or w 2 0) (get_or w 3 0) ≡ c) in
    let all : P (utf_bytes k e c) = subst P (sym is) (
      lit≤ tt,
      small-four x y z v h g f i,
      λ w front.
          ap (λ n. candidate k e n (get_or w 1 0) (get_or w 2 0) (get_or w 3 0)) (at-front 4 w (x ∷ y ∷ z ∷ v ∷ []) 0 front (lit< tt))
          ∙ ap (λ n. candidate k e x n (get_or w 2 0) (get_or w 3 0)) (at-front 4 w (x ∷ y ∷ z ∷ v ∷ []) 1 front (lit< tt))
          ∙ ap (λ n. candidate k e x y n (get_or w 3 0)) (at-front 4 w (x ∷ y ∷ z ∷ v ∷ []) 2 front (lit< tt))
          ∙ ap (λ n. candidate k e x y z n) (at-front 4 w (x ∷ y ∷ z ∷ v ∷ []) 3 front (lit< tt)) ∙ back,
    ) in
    record { short = all.0; small = all.1; back = all.2 }

spelled-utf8 : (e : Endian) (c : ℕ) → c < 0x11_0000 → Spelled Utf8 e c
spelled-utf8 e c h = elim (cases_lt c 0x80) [
  | inl a ↦ from-one Utf8 e c c (utf8-one c a) (omega arith) (λ x y z. cand-one c x y z a)
  | inr b ↦ elim (cases_lt c 0x800) [
    | inl a ↦ from-two Utf8 e c (0xC0 + c / 0x40) (0x80 + c % 0x40) (utf8-two c b a) (omega arith) (omega arith) (λ x y. cand-two c x y b a)
    | inr g ↦ elim (cases_lt c 0x1_0000) [
      | inl a ↦ from-three Utf8 e c (0xE0 + c / 0x1000) (0x80 + c / 0x40 % 0x40) (0x80 + c % 0x40) (utf8-three c g a) (omega arith) (omega arith) (omega arith) (λ x. cand-three c x g a)
      | inr f ↦ from-four Utf8 e c (0xF0 + c / 0x4_0000) (0x80 + c / 0x1000 % 0x40) (0x80 + c / 0x40 % 0x40) (0x80 + c % 0x40) (utf8-four c f) (omega arith) (omega arith) (omega arith) (omega arith) (cand-four c f h)
    ]
  ]
]

-- ---- UTF-16
utf16-one : (e : Endian) (c : ℕ) → c < 0x1_0000 → utf16_bytes e c ≡ unit_bytes e c
utf16-one e c h = ap (λ (b : Bool). cond b (unit_bytes e c) (unit_bytes e (0xD800 + (c - 0x1_0000) / 0x400) ++ unit_bytes e (0xDC00 + (c - 0x1_0000) % 0x400))) (lt-ltb c 0x1_0000 h)

utf16-two : (e : Endian) (c : ℕ) → 0x1_0000 ≤ c → utf16_bytes e c ≡ unit_bytes e (0xD800 + (c - 0x1_0000) / 0x400) ++ unit_bytes e (0xDC00 + (c - 0x1_0000) % 0x400)
utf16-two e c h = ap (λ (b : Bool). cond b (unit_bytes e c) (unit_bytes e (0xD800 + (c - 0x1_0000) / 0x400) ++ unit_bytes e (0xDC00 + (c - 0x1_0000) % 0x400))) (le-ltb c 0x1_0000 h)

pair-one : (c v : ℕ) → (c < 0xD800) ⊎ (0xE000 ≤ c) → c < 0x1_0000 → pair_of c v ≡ c
pair-one c v (inl h) g = grind (arith, nat_tests)
pair-one c v (inr h) g = grind (arith, nat_tests)

pair-two : (c : ℕ) → 0x1_0000 ≤ c → c < 0x11_0000 → pair_of (0xD800 + (c - 0x1_0000) / 0x400) (0xDC00 + (c - 0x1_0000) % 0x400) ≡ c
pair-two c g h = grind (arith, nat_tests)

unit-back : (u : ℕ) → u / 0x100 * 0x100 + u % 0x100 ≡ u
unit-back u = omega arith

spelled-unit : (e : Endian) (c : ℕ) → (c < 0xD800) ⊎ (0xE000 ≤ c) → c < 0x1_0000 → Spelled Utf16 e c
spelled-unit Big c r h = from-two Utf16 Big c (c / 0x100) (c % 0x100) (utf16-one Big c h) (omega arith) (omega arith) (λ x y. ap (λ n. pair_of n (unit_of Big x y)) (unit-back c) ∙ pair-one c (unit_of Big x y) r h)
spelled-unit Little c r h = from-two Utf16 Little c (c % 0x100) (c / 0x100) (utf16-one Little c h) (omega arith) (omega arith) (λ x y. ap (λ n. pair_of n (unit_of Little x y)) (unit-back c) ∙ pair-one c (unit_of Little x y) r h)

spelled-pair : (e : Endian) (c : ℕ) → 0x1_0000 ≤ c → c < 0x11_0000 → Spelled Utf16 e c
spelled-pair Big c g h =
    let u = 0xD800 + (c - 0x1_0000) / 0x400 in
    let v = 0xDC00 + (c - 0x1_0000) % 0x400 in
    from-four Utf16 Big c (u / 0x100) (u % 0x100) (v / 0x100) (v % 0x100) (utf16-two Big c g) (omega arith) (omega arith) (omega arith) (omega arith)
    (ap (λ n. pair_of n (unit_of Big (v / 0x100) (v % 0x100))) (unit-back u) ∙ ap (pair_of u) (unit-back v) ∙ pair-two c g h)
spelled-pair Little c g h =
    let u = 0xD800 + (c - 0x1_0000) / 0x400 in
    let v = 0xDC00 + (c - 0x1_0000) % 0x400 in
    from-four Utf16 Little c (u % 0x100) (u / 0x100) (v % 0x100) (v / 0x100) (utf16-two Little c g) (omega arith) (omega arith) (omega arith) (omega arith)
    (ap (λ n. pair_of n (unit_of Little (v % 0x100) (v / 0x100))) (unit-back u) ∙ ap (pair_of u) (unit-back v) ∙ pair-two c g h)

spelled-utf16 : (e : Endian) (c : ℕ) → (c < 0xD800) ⊎ ((0xE000 ≤ c) × (c < 0x11_0000)) → Spelled Utf16 e c
spelled-utf16 e c (inl low) = spelled-unit e c (inl low) (omega arith)
spelled-utf16 e c (inr high) = elim (cases_lt c 0x1_0000) [
  | inl a ↦ spelled-unit e c (inr high.0) a
  | inr b ↦ spelled-pair e c b high.1
]

-- ---- UTF-32
spelled-utf32 : (e : Endian) (c : ℕ) → c < 0x11_0000 → Spelled Utf32 e c
spelled-utf32 Big c h = from-four Utf32 Big c (c / 0x100_0000) (c / 0x1_0000 % 0x100) (c / 0x100 % 0x100) (c % 0x100) refl (omega arith) (omega arith) (omega arith) (omega arith) (omega arith)
spelled-utf32 Little c h = from-four Utf32 Little c (c % 0x100) (c / 0x100 % 0x100) (c / 0x1_0000 % 0x100) (c / 0x100_0000) refl (omega arith) (omega arith) (omega arith) (omega arith) (omega arith)

pub spelled : (k : UtfKind) (e : Endian) (c : ℕ) → IsTrue (is_character c) → Spelled k e c
spelled Utf8 e c h = spelled-utf8 e c (character-lt c h)
spelled Utf16 e c h = spelled-utf16 e c (character-ranges c h)
spelled Utf32 e c h = spelled-utf32 e c (character-lt c h)
