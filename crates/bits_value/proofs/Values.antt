-- Numbers with a sign, by their natural numbers.
use Rattle.std.proofs.Common.{◌≡◌, ℕ, ℤ, pos, negsuc, zero, suc, ◌+◌, ◌-◌, ◌*◌, ◌^◌, ◌<◌, ◌≤◌, Bool, true, false, cond, Option, Some, None, List, [], ◌∷◌, length, refl, ap, sym, ◌∙◌, inl, inr, ◌-ℤ◌, arith}
use Rattle.std.proofs.lemmas.Int.{ints}
use Rattle.std.proofs.lemmas.Bool.{cases_lt, cases_eq, lt-ltb, le-ltb, eq-eqb, ne_eqb}
use Rattle.std.proofs.lemmas.Nat.{pow-add}
use Rattle.std.proofs.Math.Nat.{pow-suc}
use Rattle.bits_value.specs.Number.{natural, signed, with_sign, bounded}
use Rattle.bits_value.specs.Parts.{fill, extended, sign_value, is_negative}
use Rattle.bits_value.specs.declared.Sign.{Sign}
use Rattle.bits_value.specs.declared.Sign.TheVariants.{Unsigned, Signed}
use Rattle.bits_value.proofs.BitLists.{natural-lt}

pub value-low : (k n : ℕ) → 2 * n < 2 ^ k → sign_value Signed k n ≡ pos n
value-low k n h = ap (λ (b : Bool). cond b (pos n) (negsuc (2 ^ k - 1 - n))) (lt-ltb (2 * n) (2 ^ k) h)

pub value-high : (k n : ℕ) → 2 ^ k ≤ 2 * n → sign_value Signed k n ≡ negsuc (2 ^ k - 1 - n)
value-high k n h = ap (λ (b : Bool). cond b (pos n) (negsuc (2 ^ k - 1 - n))) (le-ltb (2 * n) (2 ^ k) h)

pub bounded-pos : (n : ℕ) → n < 2 ^ 127 → bounded (pos n) ≡ Some (pos n)
bounded-pos n h = ap (λ (b : Bool). cond b (Some (pos n)) None) (lt-ltb n (2 ^ 127) h)

pub past-pos : (n : ℕ) → 2 ^ 127 ≤ n → bounded (pos n) ≡ None
past-pos n h = ap (λ (b : Bool). cond b (Some (pos n)) None) (le-ltb n (2 ^ 127) h)

pub bounded-neg : (n : ℕ) → n < 2 ^ 127 → bounded (negsuc n) ≡ Some (negsuc n)
bounded-neg n h = ap (λ (b : Bool). cond b (Some (negsuc n)) None) (lt-ltb n (2 ^ 127) h)

pub past-neg : (n : ℕ) → 2 ^ 127 ≤ n → bounded (negsuc n) ≡ None
past-neg n h = ap (λ (b : Bool). cond b (Some (negsuc n)) None) (le-ltb n (2 ^ 127) h)

-- ---- lists
signed_true : (n t : ℕ) → n < t → pos n -ℤ pos (1 * t) ≡ negsuc (t * 2 - 1 - (1 * t + n))
signed_true n t h = omega (arith, ints)

signed_false : (n t : ℕ) → pos n -ℤ pos (0 * t) ≡ pos (0 * t + n)
signed_false n t = omega (arith, ints)

pub signed-value : (xs : List Bool) → signed xs ≡ sign_value Signed (length xs) (natural xs)
signed-value [] = refl
signed-value (true ∷ xs) =
    let h : natural xs < 2 ^ length xs = natural-lt xs in
    let p : 2 ^ suc (length xs) ≡ 2 ^ length xs * 2 = pow-suc 2 (length xs) in
    signed_true (natural xs) (2 ^ length xs) h ∙ ap (λ t. negsuc (t - 1 - (1 * 2 ^ length xs + natural xs))) (sym p)
    ∙ sym (value-high (suc (length xs)) (1 * 2 ^ length xs + natural xs) (omega arith))
signed-value (false ∷ xs) =
    let h : natural xs < 2 ^ length xs = natural-lt xs in
    let p : 2 ^ suc (length xs) ≡ 2 ^ length xs * 2 = pow-suc 2 (length xs) in
    signed_false (natural xs) (2 ^ length xs) ∙ sym (value-low (suc (length xs)) (0 * 2 ^ length xs + natural xs) (omega arith))

pub with_sign-value : (s : Sign) (xs : List Bool) → with_sign s xs ≡ sign_value s (length xs) (natural xs)
with_sign-value Unsigned xs = refl
with_sign-value Signed xs = signed-value xs

-- ---- the lowest bits and those above them
repeats : (v : ℤ) (h n : ℕ) → n ≡ fill (is_negative v) h → extended (Some v) h n ≡ Some v
repeats v h n e = ap (λ (b : Bool). cond b (Some v) None) (eq-eqb n (fill (is_negative v) h) e)

differs : (v : ℤ) (h n : ℕ) → (n ≡ fill (is_negative v) h → ⊥) → extended (Some v) h n ≡ None
differs v h n ne = ap (λ (b : Bool). cond b (Some v) None) (ne_eqb n (fill (is_negative v) h) ne)

extended-none : (v : Option ℤ) → extended v 0 0 ≡ v
extended-none None = refl
extended-none (Some (pos v)) = refl
extended-none (Some (negsuc v)) = refl

spread : (h x : ℕ) → x < 2 ^ h → 2 ^ (h + 128) ≡ x * 2 ^ 128 + (2 ^ h - 1 - x) * 2 ^ 128 + 2 ^ 128
spread h x l =
    let r = 2 ^ h - 1 - x in
    let e : 2 ^ h ≡ x + r + 1 = omega arith in
    let s : (x + r + 1) * 2 ^ 128 ≡ x * 2 ^ 128 + r * 2 ^ 128 + 2 ^ 128 = omega arith in
    pow-add 2 h 128 ∙ ap (λ n. n * 2 ^ 128) e ∙ s

wide_unsigned : (h x y : ℕ) → y < 2 ^ 128 → bounded (pos (x * 2 ^ 128 + y)) ≡ extended (bounded (pos y)) h x
wide_unsigned h x y g = elim (cases_lt y (2 ^ 127)) [
  | inr out ↦ past-pos (x * 2 ^ 128 + y) (omega arith) ∙ sym (ap (λ (v : Option ℤ). extended v h x) (past-pos y out))
  | inl within ↦ elim (cases_eq x 0) [
    | inl e ↦ let s : x * 2 ^ 128 + y ≡ y = omega arith in ap (λ n. bounded (pos n)) s ∙ bounded-pos y within ∙ sym (ap (λ (v : Option ℤ). extended v h x) (bounded-pos y within) ∙ repeats (pos y) h x e)
    | inr ne ↦ past-pos (x * 2 ^ 128 + y) (omega arith) ∙ sym (ap (λ (v : Option ℤ). extended v h x) (bounded-pos y within) ∙ differs (pos y) h x ne)
  ]
]

wide_low : (h x y : ℕ) → x < 2 ^ h → y < 2 ^ 127 → bounded (sign_value Signed (h + 128) (x * 2 ^ 128 + y)) ≡ extended (Some (pos y)) h x
wide_low h x y l g =
    let p : 2 ^ (h + 128) ≡ x * 2 ^ 128 + (2 ^ h - 1 - x) * 2 ^ 128 + 2 ^ 128 = spread h x l in
    let n = x * 2 ^ 128 + y in
    elim (cases_eq x 0) [
      | inl e ↦
          let s : n ≡ y = omega arith in
          ap bounded (value-low (h + 128) n (omega arith)) ∙ ap (λ m. bounded (pos m)) s ∙ bounded-pos y g ∙ sym (repeats (pos y) h x e)
      | inr ne ↦ elim (cases_lt (2 * n) (2 ^ (h + 128))) [
        | inl low ↦ ap bounded (value-low (h + 128) n low) ∙ past-pos n (omega arith) ∙ sym (differs (pos y) h x ne)
        | inr high ↦ ap bounded (value-high (h + 128) n high) ∙ past-neg (2 ^ (h + 128) - 1 - n) (omega arith) ∙ sym (differs (pos y) h x ne)
      ]
    ]

wide_high : (h x y : ℕ) → x < 2 ^ h → 2 ^ 127 ≤ y → y < 2 ^ 128 → bounded (sign_value Signed (h + 128) (x * 2 ^ 128 + y)) ≡ extended (Some (negsuc (2 ^ 128 - 1 - y))) h x
wide_high h x y l g b =
    let p : 2 ^ (h + 128) ≡ x * 2 ^ 128 + (2 ^ h - 1 - x) * 2 ^ 128 + 2 ^ 128 = spread h x l in
    let n = x * 2 ^ 128 + y in
    elim (cases_eq x (2 ^ h - 1)) [
      | inl e ↦
          let s : 2 ^ (h + 128) - 1 - n ≡ 2 ^ 128 - 1 - y = omega arith in
          ap bounded (value-high (h + 128) n (omega arith)) ∙ ap (λ m. bounded (negsuc m)) s ∙ bounded-neg (2 ^ 128 - 1 - y) (omega arith) ∙ sym (repeats (negsuc (2 ^ 128 - 1 - y)) h x e)
      | inr ne ↦ elim (cases_lt (2 * n) (2 ^ (h + 128))) [
        | inl low ↦ ap bounded (value-low (h + 128) n low) ∙ past-pos n (omega arith) ∙ sym (differs (negsuc (2 ^ 128 - 1 - y)) h x ne)
        | inr high ↦ ap bounded (value-high (h + 128) n high) ∙ past-neg (2 ^ (h + 128) - 1 - n) (omega arith) ∙ sym (differs (negsuc (2 ^ 128 - 1 - y)) h x ne)
      ]
    ]

wide_signed : (h x y : ℕ) → x < 2 ^ h → y < 2 ^ 128 → bounded (sign_value Signed (h + 128) (x * 2 ^ 128 + y)) ≡ extended (bounded (sign_value Signed 128 y)) h x
wide_signed h x y l g = elim (cases_lt y (2 ^ 127)) [
  | inl low ↦ wide_low h x y l low ∙ sym (ap (λ (v : ℤ). extended (bounded v) h x) (value-low 128 y (omega arith)) ∙ ap (λ (v : Option ℤ). extended v h x) (bounded-pos y low))
  | inr high ↦ wide_high h x y l high g ∙ sym (ap (λ (v : ℤ). extended (bounded v) h x) (value-high 128 y (omega arith)) ∙ ap (λ (v : Option ℤ). extended v h x) (bounded-neg (2 ^ 128 - 1 - y) (omega arith)))
]

wide_by : (s : Sign) (h x y : ℕ) → x < 2 ^ h → y < 2 ^ 128 → bounded (sign_value s (h + 128) (x * 2 ^ 128 + y)) ≡ extended (bounded (sign_value s 128 y)) h x
wide_by Unsigned h x y l g = wide_unsigned h x y g
wide_by Signed h x y l g = wide_signed h x y l g

-- a number of `h + k` bits by its `k` lowest, at most 128, and those above them
pub wide : (s : Sign) (h k x y : ℕ) → x < 2 ^ h → y < 2 ^ k → (0 < h → k ≡ 128) → bounded (sign_value s (h + k) (x * 2 ^ k + y)) ≡ extended (bounded (sign_value s k y)) h x
wide s zero k x y l g w =
    let z : x ≡ 0 = omega arith in
    let a : 0 + k ≡ k = omega arith in
    let b : 0 * 2 ^ k + y ≡ y = omega arith in
    rw (z, a, b) (sym (extended-none (bounded (sign_value s k y))))
wide s (suc h) k x y l g w =
    let e : k ≡ 128 = w (omega arith) in
    let g' : y < 2 ^ 128 = rw e at g in
    rw e (wide_by s (suc h) x y l g')
