-- Numbers of bits, gathered from the front.
use Rattle.std.proofs.Common.{◌≡◌, ℕ, ◌+◌, ◌-◌, ◌*◌, ◌/◌, ◌%◌, ◌^◌, ◌<◌, ◌≤◌, List, length, get_or, bit_and, bit_or, ap, sym, ◌∙◌, arith}
use Rattle.std.proofs.lemmas.Nat.{one_shl, and_mask, shl_whole, or_shifted, pow-add, shl_below, shr_below, mod_low}
use Rattle.std.proofs.Math.Nat.{mod-eq_of_lt}
use Rattle.bits_value.specs.Bits.{bit_list}
use Rattle.bits_value.specs.Number.{natural}
use Rattle.bits_value.proofs.BitLists.{length-bit_list, bit_list-append, natural-append, natural-lt, natural-window}

-- the code's mask
pub masked : (v n : ℕ) → n < 32 → bit_and v (1 * 2 ^ n % 2 ^ 32 - 1) ≡ v % 2 ^ n
masked v n h = rw (one_shl n 32 h) (and_mask v n)

pub masked_wide : (v n : ℕ) → n < 128 → bit_and v (1 * 2 ^ n % 2 ^ 128 - 1) ≡ v % 2 ^ n
masked_wide v n h = rw (one_shl n 128 h) (and_mask v n)

pub gather_step : (bytes : List ℕ) (s d k w : ℕ) → d + k ≤ w → bit_or (natural (bit_list bytes s d) * 2 ^ k % 2 ^ w) (natural (bit_list bytes (s + d) k)) ≡ natural (bit_list bytes s (d + k))
gather_step bytes s d k w h =
    let high = bit_list bytes s d in
    let low = bit_list bytes (s + d) k in
    let lh : length high ≡ d = length-bit_list bytes s d in
    let ll : length low ≡ k = length-bit_list bytes (s + d) k in
    let bh : natural high < 2 ^ d = rw lh at (natural-lt high) in
    let bl : natural low < 2 ^ k = rw ll at (natural-lt low) in
    rw (shl_whole (natural high) d k w bh h) (or_shifted (natural high) k (natural low) bl
    ∙ sym (ap natural (bit_list-append bytes s d k) ∙ natural-append high low ∙ ap (λ n. natural high * 2 ^ n + natural low) ll))

-- a number by its first bits and the others
pub natural-split : (bytes : List ℕ) (s d k : ℕ) → natural (bit_list bytes s (d + k)) ≡ natural (bit_list bytes s d) * 2 ^ k + natural (bit_list bytes (s + d) k)
natural-split bytes s d k =
    ap natural (bit_list-append bytes s d k) ∙ natural-append (bit_list bytes s d) (bit_list bytes (s + d) k)
    ∙ ap (λ n. natural (bit_list bytes s d) * 2 ^ n + natural (bit_list bytes (s + d) k)) (length-bit_list bytes (s + d) k)

pub natural-bound : (bytes : List ℕ) (s n : ℕ) → natural (bit_list bytes s n) < 2 ^ n
natural-bound bytes s n = rw (length-bit_list bytes s n) at (natural-lt (bit_list bytes s n))

-- a whole byte
pub natural-byte : (bytes : List ℕ) (first : ℕ) → get_or bytes first 0 < 2 ^ 8 → natural (bit_list bytes (8 * first) 8) ≡ get_or bytes first 0
natural-byte bytes first b =
    let q : 8 * first / 8 ≡ first = omega arith in
    let r : 8 - 8 * first % 8 - 8 ≡ 0 = omega arith in
    let one : get_or bytes first 0 / 2 ^ 0 ≡ get_or bytes first 0 = omega arith in
    natural-window bytes (8 * first) 8 (omega arith) ∙ rw (q, r, one) (mod-eq_of_lt b)

-- the first bits of a byte
pub natural-front : (bytes : List ℕ) (first s : ℕ) → s < 8 → get_or bytes first 0 < 2 ^ 8 → natural (bit_list bytes (8 * first) s) ≡ get_or bytes first 0 / 2 ^ (8 - s)
natural-front bytes first s h b =
    let q : 8 * first / 8 ≡ first = omega arith in
    let r : 8 - 8 * first % 8 - s ≡ 8 - s = omega arith in
    let e : s + (8 - s) ≡ 8 = omega arith in
    let c : get_or bytes first 0 < 2 ^ (s + (8 - s)) = rw e b in
    let d : get_or bytes first 0 / 2 ^ (8 - s) < 2 ^ s = shr_below (get_or bytes first 0) s (8 - s) c in
    natural-window bytes (8 * first) s (omega arith) ∙ rw (q, r) (mod-eq_of_lt d)

-- the first step of a word more
pub word_step : (bytes : List ℕ) (first k : ℕ) → k < 8 → get_or bytes (first + k) 0 < 2 ^ 8 →
    bit_or (natural (bit_list bytes (8 * first) (8 * k)) * 2 ^ 8 % 2 ^ 64) (get_or bytes (first + k) 0) ≡ natural (bit_list bytes (8 * first) (8 * (k + 1)))
word_step bytes first k h b =
    let e : 8 * (first + k) ≡ 8 * first + 8 * k = omega arith in
    let f : 8 * k + 8 ≡ 8 * (k + 1) = omega arith in
    let byte : get_or bytes (first + k) 0 ≡ natural (bit_list bytes (8 * first + 8 * k) 8) = sym (ap (λ i. natural (bit_list bytes i 8)) (sym e) ∙ natural-byte bytes (first + k) b) in
    ap (λ n. bit_or (natural (bit_list bytes (8 * first) (8 * k)) * 2 ^ 8 % 2 ^ 64) n) byte
    ∙ gather_step bytes (8 * first) (8 * k) 8 64 (omega arith) ∙ ap (λ n. natural (bit_list bytes (8 * first) n)) f

-- a word that begins within a byte
pub word_joined : (bytes : List ℕ) (start first s : ℕ) → start ≡ 8 * first + s → 0 < s → s < 8 → get_or bytes (first + 8) 0 < 2 ^ 8 →
    bit_or (natural (bit_list bytes (8 * first) 64) * 2 ^ s % 2 ^ 64) (get_or bytes (first + 8) 0 / 2 ^ (8 - s)) ≡ natural (bit_list bytes start 64)
word_joined bytes start first s e some small b =
    let m = natural (bit_list bytes start (64 - s)) in
    let a = natural (bit_list bytes (8 * first) s) in
    let l = natural (bit_list bytes (8 * (first + 8)) s) in
    let t : s + (64 - s) ≡ 64 = omega arith in
    let u : 64 - s + s ≡ 64 = omega arith in
    let v : start + (64 - s) ≡ 8 * (first + 8) = omega arith in
    let whole : natural (bit_list bytes (8 * first) 64) ≡ a * 2 ^ (64 - s) + m
    = ap (λ n. natural (bit_list bytes (8 * first) n)) (sym t) ∙ natural-split bytes (8 * first) s (64 - s) ∙ ap (λ n. a * 2 ^ (64 - s) + natural (bit_list bytes n (64 - s))) (sym e) in
    let p : 2 ^ (64 - s) * 2 ^ s ≡ 2 ^ 64 = sym (pow-add 2 (64 - s) s) ∙ ap (λ n. 2 ^ n) u in
    let mb : m * 2 ^ s < 2 ^ 64 = let c : m * 2 ^ s < 2 ^ (64 - s + s) = shl_below m (64 - s) s (natural-bound bytes start (64 - s)) in rw u at c in
    let spread : (a * 2 ^ (64 - s) + m) * 2 ^ s ≡ a * (2 ^ (64 - s) * 2 ^ s) + m * 2 ^ s = grind arith in
    let shifted : natural (bit_list bytes (8 * first) 64) * 2 ^ s % 2 ^ 64 ≡ m * 2 ^ s
    = ap (λ n. n * 2 ^ s % 2 ^ 64) whole ∙ ap (λ n. n % 2 ^ 64) (spread ∙ ap (λ n. a * n + m * 2 ^ s) p) ∙ mod_low a 64 (m * 2 ^ s) mb in
    let low : get_or bytes (first + 8) 0 / 2 ^ (8 - s) ≡ l = sym (natural-front bytes (first + 8) s small b) in
    let lb : l < 2 ^ s = natural-bound bytes (8 * (first + 8)) s in
    rw (shifted, low) (or_shifted m s l lb
    ∙ sym (ap (λ n. natural (bit_list bytes start n)) (sym u) ∙ natural-split bytes start (64 - s) s ∙ ap (λ n. m * 2 ^ s + natural (bit_list bytes n s)) v))
