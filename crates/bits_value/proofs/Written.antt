-- Bits written into bytes.
use Rattle.std.proofs.Common.{◌≡◌, ℕ, ◌+◌, ◌-◌, ◌*◌, ◌/◌, ◌%◌, ◌^◌, ◌<◌, ◌≤◌, Bool, List, ◌++◌, length, take, drop, set, get_or, refl, ap, sym, ◌∙◌, inl, inr, zero-add, ◌⊎◌, nat_eq, bit_and, bit_or, arith}
use lib.Seq.{paste}
use Rattle.std.proofs.lemmas.Bool.{cases_lt, cases_eq}
use Rattle.std.proofs.lemmas.List.{same_lists, length-take-le, get_or-take, get_or-drop, get_or_append_left, get_or-append_right, get_or-set_same, get_or-set_other, length-set}
use Rattle.std.proofs.lemmas.List.Edits.{length-paste, paste_all, paste-paste}
use Rattle.std.proofs.lemmas.Nat.Bits.{bit_at_cat_low, bit_at_cat_high}
use Rattle.std.specs.Int.{bit_at}
use Rattle.std.proofs.lemmas.Nat.{shr_below, mul-add-lt, pow-add, shl_whole, or_shifted, mod_below, pow_pos, shr_split, shr-shr}
use Rattle.std.proofs.Math.Nat.{mul_comm}
use Rattle.std.proofs.lemmas.List.FromFn.{get_or-map-range_with_len}
use Rattle.bits_value.proofs.Gathered.{masked}
use Rattle.bits_value.specs.Bits.{bit_of, bit_in, bit_list, all_bits}
use Rattle.bits_value.specs.Number.{big_bits, natural}
use Rattle.bits_value.proofs.BitLists.{length-bit_list, get_or-bit_list, length-big_bits, big_bits-append, big_bits-mod, big_bits-natural, bit_list-append, part-bit_list, front-bit_list}

pub length-all_bits : (bytes : List ℕ) → length (all_bits bytes) ≡ 8 * length bytes
unfolding all_bits
length-all_bits bytes = length-bit_list bytes 0 (8 * length bytes)

pub get_or-all_bits : (bytes : List ℕ) (i : ℕ) (d : Bool) → i < 8 * length bytes → get_or (all_bits bytes) i d ≡ bit_in bytes i
unfolding all_bits
get_or-all_bits bytes i d h = get_or-bit_list bytes 0 (8 * length bytes) i d h ∙ ap (bit_in bytes) (zero-add i)

-- the three parts of a paste
paste_is : {X : Type 0} (xs : List X) (at : ℕ) (s : List X) (n : ℕ) → n ≡ length s → paste xs at s n ≡ take at xs ++ (s ++ drop (at + n) xs)
paste_is xs at s n l = paste_all xs at s n l

pub get_or-paste_in : {X : Type 0} (xs : List X) (at : ℕ) (s : List X) (n i : ℕ) (d : X) → n ≡ length s → at ≤ length xs → at ≤ i → i < at + n → get_or (paste xs at s n) i d ≡ get_or s (i - at) d
get_or-paste_in xs at s n i d l h a b =
    let lt : length (take at xs) ≡ at = length-take-le at xs h in
    rw (paste_is xs at s n l) (get_or-append_right (take at xs) (s ++ drop (at + n) xs) at i d lt a
    ∙ get_or_append_left s (drop (at + n) xs) d (i - at) (omega arith))

pub get_or-paste_out : {X : Type 0} (xs : List X) (at : ℕ) (s : List X) (n i : ℕ) (d : X) → n ≡ length s → at + n ≤ length xs → (i < at) ⊎ (at + n ≤ i) → get_or (paste xs at s n) i d ≡ get_or xs i d
get_or-paste_out xs at s n i d l h (inl a) =
    let lt : length (take at xs) ≡ at = length-take-le at xs (omega arith) in
    rw (paste_is xs at s n l) (get_or_append_left (take at xs) (s ++ drop (at + n) xs) d i (omega arith) ∙ get_or-take at xs i d a)
get_or-paste_out xs at s n i d l h (inr a) =
    let lt : length (take at xs) ≡ at = length-take-le at xs (omega arith) in
    let back : at + n + (i - at - n) ≡ i = omega arith in
    rw (paste_is xs at s n l) (get_or-append_right (take at xs) (s ++ drop (at + n) xs) at i d lt (omega arith)
    ∙ get_or-append_right s (drop (at + n) xs) n (i - at) d (sym l) (omega arith)
    ∙ get_or-drop (at + n) xs (i - at - n) d ∙ ap (λ k. get_or xs k d) back)

-- ---- one byte: `high * 2 ^ count + piece` above `low` kept bits
abbrev pub blended : ℕ → ℕ → ℕ → ℕ → ℕ → ℕ
blended byte skip count piece low = (byte / 2 ^ (8 - skip) * 2 ^ count + piece) * 2 ^ low + byte % 2 ^ low

low_kept : (byte low : ℕ) → byte % 2 ^ low < 2 ^ low
low_kept byte low = mod_below byte (2 ^ low) (pow_pos low)

top-lt : (byte skip count piece : ℕ) → skip + count ≤ 8 → piece < 2 ^ count → byte < 2 ^ 8 → byte / 2 ^ (8 - skip) * 2 ^ count + piece < 2 ^ (skip + count)
top-lt byte skip count piece h f b =
    let e : skip + (8 - skip) ≡ 8 = omega arith in
    let b' : byte < 2 ^ (skip + (8 - skip)) = rw e b in
    let hh : byte / 2 ^ (8 - skip) < 2 ^ skip = shr_below byte skip (8 - skip) b' in
    let m = mul-add-lt (byte / 2 ^ (8 - skip)) (2 ^ count) piece (2 ^ skip) hh f in
    rw (pow-add 2 skip count) (omega (arith, m, mul_comm (2 ^ skip) (2 ^ count)))

pub blended-is : (byte skip count piece low : ℕ) → skip + count + low ≡ 8 → piece < 2 ^ count → byte < 2 ^ 8 →
    bit_or (bit_or (byte / 2 ^ (8 - skip) * 2 ^ count % 2 ^ 32) piece * 2 ^ low % 2 ^ 32) (bit_and byte (1 * 2 ^ low % 2 ^ 32 - 1)) ≡ blended byte skip count piece low
blended-is byte skip count piece low e f b =
    let e8 : skip + (8 - skip) ≡ 8 = omega arith in
    let b' : byte < 2 ^ (skip + (8 - skip)) = rw e8 b in
    let hh : byte / 2 ^ (8 - skip) < 2 ^ skip = shr_below byte skip (8 - skip) b' in
    let t = top-lt byte skip count piece (omega arith) f b in
    rw (
      shl_whole (byte / 2 ^ (8 - skip)) skip count 32 hh (omega arith),
      or_shifted (byte / 2 ^ (8 - skip)) count piece f,
      shl_whole (byte / 2 ^ (8 - skip) * 2 ^ count + piece) (skip + count) low 32 t (omega arith),
      masked byte low (omega arith),
    )
    (or_shifted (byte / 2 ^ (8 - skip) * 2 ^ count + piece) low (byte % 2 ^ low) (low_kept byte low))

pub blended-lt : (byte skip count piece low : ℕ) → skip + count + low ≡ 8 → piece < 2 ^ count → byte < 2 ^ 8 → blended byte skip count piece low < 2 ^ 8
blended-lt byte skip count piece low e f b =
    let t = top-lt byte skip count piece (omega arith) f b in
    let m = mul-add-lt (byte / 2 ^ (8 - skip) * 2 ^ count + piece) (2 ^ low) (byte % 2 ^ low) (2 ^ (skip + count)) t (low_kept byte low) in
    let p : 2 ^ (skip + count + low) ≡ 2 ^ (skip + count) * 2 ^ low = pow-add 2 (skip + count) low in
    let q : 2 ^ (skip + count + low) ≡ 2 ^ 8 = ap (λ n. 2 ^ n) e in
    omega (arith, m, mul_comm (2 ^ low) (2 ^ (skip + count)))

bit-low : (byte skip count piece low k : ℕ) → k < low → bit_at (blended byte skip count piece low) k ≡ bit_at byte k
bit-low byte skip count piece low k h =
    bit_at_cat_low (byte / 2 ^ (8 - skip) * 2 ^ count + piece) low (byte % 2 ^ low) k h
    ∙ sym (ap (λ n. bit_at n k) (sym (shr_split byte low)) ∙ bit_at_cat_low (byte / 2 ^ low) low (byte % 2 ^ low) k h)

bit-mid : (byte skip count piece low k : ℕ) → low ≤ k → k < low + count → bit_at (blended byte skip count piece low) k ≡ bit_at piece (k - low)
bit-mid byte skip count piece low k h g =
    bit_at_cat_high (byte / 2 ^ (8 - skip) * 2 ^ count + piece) low (byte % 2 ^ low) k (low_kept byte low) h
    ∙ bit_at_cat_low (byte / 2 ^ (8 - skip)) count piece (k - low) (omega arith)

bit-high : (byte skip count piece low k : ℕ) → skip + count + low ≡ 8 → piece < 2 ^ count → low + count ≤ k → bit_at (blended byte skip count piece low) k ≡ bit_at byte k
bit-high byte skip count piece low k e f h =
    let back : 8 - skip + (k - low - count) ≡ k = omega arith in
    bit_at_cat_high (byte / 2 ^ (8 - skip) * 2 ^ count + piece) low (byte % 2 ^ low) k (low_kept byte low) (omega arith)
    ∙ bit_at_cat_high (byte / 2 ^ (8 - skip)) count piece (k - low) f (omega arith)
    ∙ ap (λ n. n % 2) (shr-shr byte (8 - skip) (k - low - count)) ∙ ap (λ n. bit_at byte n) back

-- ---- the bytes
bit_of-same : (m n j k : ℕ) → bit_at m j ≡ bit_at n k → bit_of m j ≡ bit_of n k
unfolding bit_of
bit_of-same m n j k e = ap (λ b. nat_eq b 1) e

pub get_or-big_bits : (n v i : ℕ) (d : Bool) → i < n → get_or (big_bits n v) i d ≡ bit_of v (n - 1 - i)
unfolding big_bits
get_or-big_bits n v i d h = get_or-map-range_with_len (λ i. bit_of v (n - 1 - i)) 0 n i i d h (zero-add i)

written_at : (bytes : List ℕ) (at count piece low i : ℕ) (d : Bool) → at % 8 + count + low ≡ 8 → at + count ≤ 8 * length bytes → piece < 2 ^ count → i < 8 * length bytes →
    bit_in (set bytes (at / 8) (blended (get_or bytes (at / 8) 0) (at % 8) count piece low)) i ≡ get_or (paste (all_bits bytes) at (big_bits count piece) count) i d
unfolding bit_in
written_at bytes at count piece low i d e inside f h =
    let byte = get_or bytes (at / 8) 0 in
    let new = blended byte (at % 8) count piece low in
    let la : length (all_bits bytes) ≡ 8 * length bytes = length-all_bits bytes in
    let ls : count ≡ length (big_bits count piece) = sym (length-big_bits count piece) in
    let old : get_or (all_bits bytes) i d ≡ bit_of (get_or bytes (i / 8) 0) (7 - i % 8) = get_or-all_bits bytes i d h in
    let out : (i < at) ⊎ (at + count ≤ i) → get_or (paste (all_bits bytes) at (big_bits count piece) count) i d ≡ bit_of (get_or bytes (i / 8) 0) (7 - i % 8)
    = λ (w : (i < at) ⊎ (at + count ≤ i)). get_or-paste_out (all_bits bytes) at (big_bits count piece) count i d ls (omega arith) w ∙ old in
    elim (cases_eq (i / 8) (at / 8)) [
      | inr other ↦
          let keeps : get_or (set bytes (at / 8) new) (i / 8) 0 ≡ get_or bytes (i / 8) 0 = get_or-set_other bytes (at / 8) (i / 8) new 0 other in
          ap (λ b. bit_of b (7 - i % 8)) keeps
          ∙ sym (elim (cases_lt i at) [ inl below ↦ out (inl below) | inr above ↦ out (inr (omega arith)) ])
      | inl same ↦
          let put' : get_or (set bytes (at / 8) new) (i / 8) 0 ≡ new = ap (λ j. get_or (set bytes (at / 8) new) j 0) same ∙ get_or-set_same bytes (at / 8) new 0 (omega arith) in
          let byte-is : get_or bytes (i / 8) 0 ≡ byte = ap (λ j. get_or bytes j 0) same in
          ap (λ b. bit_of b (7 - i % 8)) put'
          ∙ elim (cases_lt i at) [
            | inl below ↦ bit_of-same new byte (7 - i % 8) (7 - i % 8) (bit-high byte (at % 8) count piece low (7 - i % 8) e f (omega arith))
                ∙ sym (out (inl below) ∙ ap (λ b. bit_of b (7 - i % 8)) byte-is)
            | inr above ↦ elim (cases_lt i (at + count)) [
              | inr past ↦ bit_of-same new byte (7 - i % 8) (7 - i % 8) (bit-low byte (at % 8) count piece low (7 - i % 8) (omega arith))
                  ∙ sym (out (inr past) ∙ ap (λ b. bit_of b (7 - i % 8)) byte-is)
              | inl within ↦
                  let place : 7 - i % 8 - low ≡ count - 1 - (i - at) = omega arith in
                  bit_of-same new piece (7 - i % 8) (7 - i % 8 - low) (bit-mid byte (at % 8) count piece low (7 - i % 8) (omega arith) (omega arith))
                  ∙ ap (bit_of piece) place
                  ∙ sym (get_or-paste_in (all_bits bytes) at (big_bits count piece) count i d ls (omega arith) above within
                  ∙ get_or-big_bits count piece (i - at) d (omega arith))
            ]
          ]
    ]

pub window_written : (bytes : List ℕ) (at count piece low : ℕ) → at % 8 + count + low ≡ 8 → at + count ≤ 8 * length bytes → piece < 2 ^ count →
    all_bits (set bytes (at / 8) (blended (get_or bytes (at / 8) 0) (at % 8) count piece low)) ≡ paste (all_bits bytes) at (big_bits count piece) count
window_written bytes at count piece low e inside f =
    let new = blended (get_or bytes (at / 8) 0) (at % 8) count piece low in
    let la : length (all_bits bytes) ≡ 8 * length bytes = length-all_bits bytes in
    let ls : length (big_bits count piece) ≡ count = length-big_bits count piece in
    let lset : length (set bytes (at / 8) new) ≡ length bytes = length-set bytes (at / 8) new in
    let ln : length (all_bits (set bytes (at / 8) new)) ≡ 8 * length bytes = length-all_bits (set bytes (at / 8) new) ∙ ap (λ n. 8 * n) lset in
    let lp : length (paste (all_bits bytes) at (big_bits count piece) count) ≡ length (all_bits bytes) = length-paste (all_bits bytes) at (big_bits count piece) count (omega arith) (omega arith) in
    same_lists _ _ (ln ∙ sym (lp ∙ la)) (λ i d h.
    get_or-all_bits (set bytes (at / 8) new) i d (omega arith)
    ∙ written_at bytes at count piece low i d e inside f (omega arith))

-- ---- loops
pub put_step : (d : List Bool) (off v r done step : ℕ) → off ≤ length d →
    paste (paste d off (big_bits done (v / 2 ^ (r + step))) done) (off + done) (big_bits step (v / 2 ^ r % 2 ^ step)) step ≡ paste d off (big_bits (done + step) (v / 2 ^ r)) (done + step)
put_step d off v r done step h =
    let s = big_bits done (v / 2 ^ (r + step)) in
    let t = big_bits step (v / 2 ^ r % 2 ^ step) in
    let both : s ++ t ≡ big_bits (done + step) (v / 2 ^ r) = sym (big_bits-append done step (v / 2 ^ r) ∙ rw (shr-shr v r step, ← big_bits-mod step (v / 2 ^ r)) refl) in
    paste-paste d off s t done step (sym (length-big_bits done (v / 2 ^ (r + step)))) (sym (length-big_bits step (v / 2 ^ r % 2 ^ step))) h
    ∙ ap (λ w. paste d off w (done + step)) both

pub copy_step : (d : List Bool) (off : ℕ) (source : List ℕ) (from done step : ℕ) → off ≤ length d →
    paste (paste d off (bit_list source from done) done) (off + done) (big_bits step (natural (bit_list source (from + done) step))) step ≡ paste d off (bit_list source from (done + step)) (done + step)
copy_step d off source from done step h =
    let s = bit_list source from done in
    let t = big_bits step (natural (bit_list source (from + done) step)) in
    let lt : length t ≡ step = length-big_bits step (natural (bit_list source (from + done) step)) in
    let both : s ++ t ≡ bit_list source from (done + step)
    = ap (λ w. s ++ w) (big_bits-natural step (bit_list source (from + done) step) (length-bit_list source (from + done) step)) ∙ sym (bit_list-append source from done step) in
    paste-paste d off s t done step (sym (length-bit_list source from done)) (sym lt) h
    ∙ ap (λ w. paste d off w (done + step)) both

pub shr_nothing : (v : ℕ) → v / 2 ^ 0 ≡ v
shr_nothing v = omega arith

pub bit_list-cut : (bytes : List ℕ) (at n : ℕ) → at + n ≤ 8 * length bytes → bit_list bytes at n ≡ take n (drop at (all_bits bytes))
unfolding all_bits
bit_list-cut bytes at n h = ap (λ k. bit_list bytes k n) (sym (zero-add at)) ∙ part-bit_list bytes 0 (8 * length bytes) at n h

-- bits before the written ones are as they were
pub own_kept : (old new : List ℕ) (off from done at n : ℕ) → at + n ≤ off → off + done ≤ 8 * length old → all_bits new ≡ paste (all_bits old) off (bit_list old from done) done → bit_list new at n ≡ bit_list old at n
own_kept old new off from done at n h inside e =
    let lo : length (all_bits old) ≡ 8 * length old = length-all_bits old in
    let ln : length (all_bits new) ≡ 8 * length new = length-all_bits new in
    let ls : done ≡ length (bit_list old from done) = sym (length-bit_list old from done) in
    let lp : length (paste (all_bits old) off (bit_list old from done) done) ≡ length (all_bits old) = length-paste (all_bits old) off (bit_list old from done) done (omega arith) (omega arith) in
    let le : length (all_bits new) ≡ length (paste (all_bits old) off (bit_list old from done) done) = ap length e in
    let ba : length (bit_list new at n) ≡ n = length-bit_list new at n in
    let bb : length (bit_list old at n) ≡ n = length-bit_list old at n in
    same_lists _ _ (ba ∙ sym bb) (λ i d hi.
    let k : i < n = omega arith in
    let a : get_or (bit_list new at n) i d ≡ bit_in new (at + i) = get_or-bit_list new at n i d k in
    let b : get_or (all_bits new) (at + i) d ≡ bit_in new (at + i) = get_or-all_bits new (at + i) d (omega arith) in
    let c : get_or (all_bits new) (at + i) d ≡ get_or (all_bits old) (at + i) d
    = ap (λ (w : List Bool). get_or w (at + i) d) e ∙ get_or-paste_out (all_bits old) off (bit_list old from done) done (at + i) d ls (omega arith) (inl (omega arith)) in
    a ∙ sym b ∙ c ∙ get_or-all_bits old (at + i) d (omega arith) ∙ sym (get_or-bit_list old at n i d k))

pub bit_list-front : (bytes : List ℕ) (n : ℕ) → n ≤ 8 * length bytes → bit_list bytes 0 n ≡ take n (all_bits bytes)
unfolding all_bits
bit_list-front bytes n h = front-bit_list bytes 0 (8 * length bytes) n h
