-- Integers modulo powers of two, and their parts.
use Rattle.std.proofs.Common.{◌≡◌, ℕ, ℤ, pos, negsuc, suc, ◌+◌, ◌-◌, ◌*◌, ◌/◌, ◌%◌, ◌^◌, ◌<◌, ◌≤◌, min, refl, ap, sym, ◌∙◌, inl, inr, arith}
use Rattle.std.proofs.lemmas.Int.{ints}
use Rattle.std.proofs.lemmas.Bool.{cases_lt}
use mir.Val.{SFits, of_z}
use mir.Syntax.{w128}
use Rattle.std.specs.Int.{int_shr}
use Rattle.bits_value.specs.Number.{residue}
use Rattle.std.proofs.lemmas.Nat.{pow-add, mod_low, pow_pos, shr_split, mod_below, shr_below, shr_high, shr_le, mod-pow-add}
use Rattle.std.proofs.Math.Nat.{div-eq_of_lt, pow-le-pow_right}

-- a number whose bits are all turned, within `n + k` of them, without the `k` lowest
flipped_low : (n k v : ℕ) → v < 2 ^ (n + k) → (2 ^ (n + k) - 1 - v) / 2 ^ k ≡ 2 ^ n - 1 - v / 2 ^ k
flipped_low n k v b =
    let q = v / 2 ^ k in
    let r = v % 2 ^ k in
    let p : 2 ^ (n + k) ≡ 2 ^ n * 2 ^ k = pow-add 2 n k in
    let s : q * 2 ^ k + r ≡ v = shr_split v k in
    let rb : r < 2 ^ k = mod_below v (2 ^ k) (pow_pos k) in
    let qb : q < 2 ^ n = shr_below v n k b in
    let hi = 2 ^ n - 1 - q in
    let whole : hi + 1 + q ≡ 2 ^ n = omega arith in
    let spread : (hi + 1 + q) * 2 ^ k ≡ hi * 2 ^ k + 2 ^ k + q * 2 ^ k = grind arith in
    let both : 2 ^ (n + k) ≡ hi * 2 ^ k + 2 ^ k + q * 2 ^ k = p ∙ ap (λ m. m * 2 ^ k) (sym whole) ∙ spread in
    let parts : 2 ^ (n + k) - 1 - v ≡ hi * 2 ^ k + (2 ^ k - 1 - r) = omega arith in
    ap (λ m. m / 2 ^ k) parts ∙ shr_high hi k (2 ^ k - 1 - r) (omega arith)

-- the same, its `k` lowest bits
flipped_high : (n k v : ℕ) → v < 2 ^ (n + k) → (2 ^ (n + k) - 1 - v) % 2 ^ k ≡ 2 ^ k - 1 - v % 2 ^ k
flipped_high n k v b =
    let q = v / 2 ^ k in
    let r = v % 2 ^ k in
    let p : 2 ^ (n + k) ≡ 2 ^ n * 2 ^ k = pow-add 2 n k in
    let s : q * 2 ^ k + r ≡ v = shr_split v k in
    let rb : r < 2 ^ k = mod_below v (2 ^ k) (pow_pos k) in
    let qb : q < 2 ^ n = shr_below v n k b in
    let hi = 2 ^ n - 1 - q in
    let whole : hi + 1 + q ≡ 2 ^ n = omega arith in
    let spread : (hi + 1 + q) * 2 ^ k ≡ hi * 2 ^ k + 2 ^ k + q * 2 ^ k = grind arith in
    let both : 2 ^ (n + k) ≡ hi * 2 ^ k + 2 ^ k + q * 2 ^ k = p ∙ ap (λ m. m * 2 ^ k) (sym whole) ∙ spread in
    let parts : 2 ^ (n + k) - 1 - v ≡ hi * 2 ^ k + (2 ^ k - 1 - r) = omega arith in
    ap (λ m. m % 2 ^ k) parts ∙ mod_low hi k (2 ^ k - 1 - r) (omega arith)

-- a number's lowest bits, without the lowest of them
part-shr : (v m r : ℕ) → v % 2 ^ (m + r) / 2 ^ r ≡ v / 2 ^ r % 2 ^ m
part-shr v m r = ap (λ k. k / 2 ^ r) (mod-pow-add v m r) ∙ shr_high (v / 2 ^ r % 2 ^ m) r (v % 2 ^ r) (mod_below v (2 ^ r) (pow_pos r))

part-mod : (v m r : ℕ) → v % 2 ^ (m + r) % 2 ^ r ≡ v % 2 ^ r
part-mod v m r = ap (λ k. k % 2 ^ r) (mod-pow-add v m r) ∙ mod_low (v / 2 ^ r % 2 ^ m) r (v % 2 ^ r) (mod_below v (2 ^ r) (pow_pos r))

pub residue-shr : (m r : ℕ) (z : ℤ) → residue (m + r) z / 2 ^ r ≡ residue m (int_shr z r)
residue-shr m r (pos v) = part-shr v m r
residue-shr m r (negsuc v) = flipped_low m r (v % 2 ^ (m + r)) (mod_below v (2 ^ (m + r)) (pow_pos (m + r))) ∙ ap (λ k. 2 ^ m - 1 - k) (part-shr v m r)

pub residue-mod : (m r : ℕ) (z : ℤ) → residue (m + r) z % 2 ^ r ≡ residue r z
residue-mod m r (pos v) = part-mod v m r
residue-mod m r (negsuc v) = flipped_high m r (v % 2 ^ (m + r)) (mod_below v (2 ^ (m + r)) (pow_pos (m + r))) ∙ ap (λ k. 2 ^ r - 1 - k) (part-mod v m r)

pub residue-lt : (n : ℕ) (z : ℤ) → residue n z < 2 ^ n
residue-lt n (pos v) = mod_below v (2 ^ n) (pow_pos n)
residue-lt n (negsuc v) = let p = pow_pos n in omega arith

-- a part of a number is that part of all longer spellings
pub residue-part : (n r s : ℕ) (z : ℤ) → r + s ≤ n → residue n z / 2 ^ r % 2 ^ s ≡ residue s (int_shr z r)
residue-part n r s z h =
    let m = n - (r + s) in
    let e : n ≡ m + s + r = omega arith in
    ap (λ k. residue k z / 2 ^ r % 2 ^ s) e ∙ ap (λ k. k % 2 ^ s) (residue-shr (m + s) r z) ∙ residue-mod m s (int_shr z r)

-- two's complement at the width of the code
pub residue-of_z : (n : ℕ) (z : ℤ) → n ≤ 128 → SFits w128 z → of_z w128 z % 2 ^ n ≡ residue n z
residue-of_z n (pos v) h f = refl
residue-of_z n (negsuc v) h f =
    let e : 128 - n + n ≡ 128 = omega arith in
    let b : v < 2 ^ 128 = omega (arith, ints, f) in
    let c : v < 2 ^ (128 - n + n) = rw e b in
    let d : 2 ^ 128 - suc v ≡ 2 ^ 128 - 1 - v = omega arith in
    ap (λ k. k % 2 ^ n) d ∙ ap (λ k. (2 ^ k - 1 - v) % 2 ^ n) (sym e) ∙ flipped_high (128 - n) n v c

pub shr-SFits : (z : ℤ) (k : ℕ) → SFits w128 z → SFits w128 (int_shr z k)
shr-SFits (pos v) k f = let l = shr_le v k in record { sfits = omega (arith, ints, f) }
shr-SFits (negsuc v) k f = let l = shr_le v k in record { sfits = omega (arith, ints, f) }

all_shifted : (v k : ℕ) → v < 2 ^ 127 → v / 2 ^ min k 127 ≡ v / 2 ^ k
all_shifted v k b =
    elim (cases_lt k 127) [
      | inl below ↦ let e : min k 127 ≡ k = omega arith in rw e refl
      | inr above ↦
          let e : min k 127 ≡ 127 = omega arith in
          let p : 2 ^ 127 ≤ 2 ^ k = pow-le-pow_right (omega arith) above in
          let c : v < 2 ^ k = omega arith in
          let x : v / 2 ^ k ≡ 0 = div-eq_of_lt c in
          let y : v / 2 ^ 127 ≡ 0 = div-eq_of_lt b in
          rw (e, x) y
    ]

-- the code's shift, which goes no further than the sign
pub shr-min : (z : ℤ) (k : ℕ) → SFits w128 z → int_shr z (min k 127) ≡ int_shr z k
shr-min (pos v) k f = ap pos (all_shifted v k (omega (arith, ints, f)))
shr-min (negsuc v) k f = ap negsuc (all_shifted v k (omega (arith, ints, f)))
