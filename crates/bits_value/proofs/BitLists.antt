-- Lengths, places and parts of a list of bits.
use Rattle.std.proofs.Common.{zero, suc, add-one, zero-add, subst, ◌≡◌, ℕ, ◌+◌, ◌-◌, ◌*◌, ◌/◌, ◌%◌, ◌^◌, ◌<◌, ◌≤◌, Bool, List, [], ◌∷◌, ◌++◌, length, map, take, drop, get_or, nat_eq, bit_and, true, false, refl, ap, sym, ◌∙◌, inl, inr, lit<, arith}
use Rattle.std.specs.List.{range_with_len}
use Rattle.std.proofs.lemmas.List.{same_lists, length-take-le, length-drop, get_or-take, get_or-drop, length-append, get_or_append_left, get_or-append_right}
use Rattle.std.proofs.lemmas.List.FromFn.{length-map-range_with_len, get_or-map-range_with_len, map-range_with_len_more, fill_by_all}
use Rattle.std.proofs.lemmas.Nat.Bits.{shr_and_one}
use Rattle.std.proofs.lemmas.Bool.{cases_lt}
use Rattle.std.proofs.lemmas.Bool.Decides.{nat_tests}
use Rattle.std.proofs.lemmas.Nat.{pow-add, pow_pos, shr-shr, mod-pow-add, mod_below}
use Rattle.std.proofs.Math.Nat.{pow-suc, mod-eq_of_lt}
use Rattle.bits_value.specs.Bits.{bit_of, bit_in, bit_list}
use Rattle.bits_value.specs.Number.{big_bits, natural, weight}

pub length-bit_list : (bytes : List ℕ) (off len : ℕ) → length (bit_list bytes off len) ≡ len
unfolding bit_list
length-bit_list bytes off len = length-map-range_with_len (bit_in bytes) off len

pub get_or-bit_list : (bytes : List ℕ) (off len i : ℕ) (d : Bool) → i < len → get_or (bit_list bytes off len) i d ≡ bit_in bytes (off + i)
unfolding bit_list
get_or-bit_list bytes off len i d h = get_or-map-range_with_len (bit_in bytes) off len i (off + i) d h refl

-- the test in the code
pub bit_in-test : (bytes : List ℕ) (i : ℕ) → nat_eq (bit_and (get_or bytes (i / 8) 0 / 2 ^ (7 - i % 8)) 1) 1 ≡ bit_in bytes i
unfolding bit_in bit_of
bit_in-test bytes i = ap (λ n. nat_eq n 1) (shr_and_one (get_or bytes (i / 8) 0) (7 - i % 8))

pub part-bit_list : (bytes : List ℕ) (off len o n : ℕ) → o + n ≤ len → bit_list bytes (off + o) n ≡ take n (drop o (bit_list bytes off len))
part-bit_list bytes off len o n h =
    let whole = bit_list bytes off len in
    let lw : length whole ≡ len = length-bit_list bytes off len in
    let lp : length (bit_list bytes (off + o) n) ≡ n = length-bit_list bytes (off + o) n in
    let lt : length (take n (drop o whole)) ≡ n = length-take-le n (drop o whole) (omega (arith, length-drop o whole)) in
    same_lists _ _ (lp ∙ sym lt) (λ k d hk.
    let hk' : k < n = omega arith in
    let s : off + o + k ≡ off + (o + k) = omega arith in
    get_or-bit_list bytes (off + o) n k d hk' ∙ ap (bit_in bytes) s
    ∙ sym (get_or-take n (drop o whole) k d hk' ∙ get_or-drop o whole k d ∙ get_or-bit_list bytes off len (o + k) d (omega arith)))

pub front-bit_list : (bytes : List ℕ) (off len n : ℕ) → n ≤ len → bit_list bytes off n ≡ take n (bit_list bytes off len)
front-bit_list bytes off len n h = let e : off ≡ off + 0 = omega arith in ap (λ k. bit_list bytes k n) e ∙ part-bit_list bytes off len 0 n (omega arith)

append_place : (bytes : List ℕ) (off m n k : ℕ) (d : Bool) → k < m + n → bit_in bytes (off + k) ≡ get_or (bit_list bytes off m ++ bit_list bytes (off + m) n) k d
append_place bytes off m n k d h =
    let la : length (bit_list bytes off m) ≡ m = length-bit_list bytes off m in
    elim (cases_lt k m) [
      | inl below ↦ sym (get_or_append_left (bit_list bytes off m) (bit_list bytes (off + m) n) d k (omega arith) ∙ get_or-bit_list bytes off m k d below)
      | inr above ↦
          let s : off + k ≡ off + m + (k - m) = omega arith in
          ap (bit_in bytes) s
          ∙ sym (get_or-append_right (bit_list bytes off m) (bit_list bytes (off + m) n) m k d la above ∙ get_or-bit_list bytes (off + m) n (k - m) d (omega arith))
    ]

pub bit_list-append : (bytes : List ℕ) (off m n : ℕ) → bit_list bytes off (m + n) ≡ bit_list bytes off m ++ bit_list bytes (off + m) n
bit_list-append bytes off m n =
    let la : length (bit_list bytes off m) ≡ m = length-bit_list bytes off m in
    let lb : length (bit_list bytes (off + m) n) ≡ n = length-bit_list bytes (off + m) n in
    let lw : length (bit_list bytes off (m + n)) ≡ m + n = length-bit_list bytes off (m + n) in
    same_lists _ _ (lw ∙ sym (length-append (bit_list bytes off m) (bit_list bytes (off + m) n) ∙ rw (la, lb) refl)) (λ k d hk.
    get_or-bit_list bytes off (m + n) k d (omega arith) ∙ append_place bytes off m n k d (omega arith))

-- ---- numbers
pub natural-append : (xs ys : List Bool) → natural (xs ++ ys) ≡ natural xs * 2 ^ length ys + natural ys
natural-append [] ys = omega arith
natural-append (x ∷ xs) ys =
    let e : natural (xs ++ ys) ≡ natural xs * 2 ^ length ys + natural ys = natural-append xs ys in
    let p : 2 ^ length (xs ++ ys) ≡ 2 ^ length xs * 2 ^ length ys = ap (λ n. 2 ^ n) (length-append xs ys) ∙ pow-add 2 (length xs) (length ys) in
    rw (e, p) (grind arith)

pub natural-push : (xs : List Bool) (b : Bool) → natural (xs ++ b ∷ []) ≡ natural xs * 2 + weight b
natural-push xs b = natural-append xs (b ∷ []) ∙ grind arith

pub weight-lt : (b : Bool) → weight b < 2
weight-lt true = lit< tt
weight-lt false = lit< tt

pub natural-lt : (xs : List Bool) → natural xs < 2 ^ length xs
natural-lt [] = lit< tt
natural-lt (true ∷ xs) = let h : natural xs < 2 ^ length xs = natural-lt xs in let e : 2 ^ suc (length xs) ≡ 2 ^ length xs * 2 = pow-suc 2 (length xs) in omega arith
natural-lt (false ∷ xs) = let h : natural xs < 2 ^ length xs = natural-lt xs in let e : 2 ^ suc (length xs) ≡ 2 ^ length xs * 2 = pow-suc 2 (length xs) in omega arith

-- the weight of one bit of a natural
small-weight : (m : ℕ) → m < 2 → weight (nat_eq m 1) ≡ m
small-weight m h = grind (arith, nat_tests)

pub weight-bit_of : (v k : ℕ) → weight (bit_of v k) ≡ v / 2 ^ k % 2
unfolding bit_of
weight-bit_of v k = small-weight (v / 2 ^ k % 2) (omega arith)

mod_same : (a m : ℕ) → a < m → a % m ≡ a
mod_same a m h = mod-eq_of_lt h

mod_twice : (a m : ℕ) → 0 < m → a % m % m ≡ a % m
mod_twice a m h = mod_same (a % m) m (mod_below a m h)

mod_one : (n : ℕ) → n % 1 ≡ 0
mod_one n = omega arith

shr_none : (v : ℕ) → v / 2 ^ 0 ≡ v
shr_none v = omega arith

step_down : (v s n : ℕ) → (v / 2 ^ (s + 1) % 2 ^ n) * 2 + v / 2 ^ s % 2 ≡ v / 2 ^ s % 2 ^ (n + 1)
step_down v s n = rw (← shr-shr v s 1) (sym (mod-pow-add (v / 2 ^ s) n 1))

-- the natural of the bits of `v` from `top` downwards, the lowest of them being bit `s`
pub natural-down : (v top n s : ℕ) → n + s ≡ top + 1 → natural (map (λ i. bit_of v (top - i)) (range_with_len 0 n)) ≡ v / 2 ^ s % 2 ^ n
natural-down v top zero s e = sym (mod_one _)
natural-down v top (suc n) s e =
    let f : ℕ → Bool = λ i. bit_of v (top - i) in
    let ih : natural (map f (range_with_len 0 n)) ≡ v / 2 ^ (s + 1) % 2 ^ n = natural-down v top n (s + 1) (omega arith) in
    let at : top - n ≡ s = omega arith in
    let w : weight (f n) ≡ v / 2 ^ s % 2 = weight-bit_of v (top - n) ∙ ap (λ k. v / 2 ^ k % 2) at in
    let P : ℕ → Type 0 = λ m. natural (map f (range_with_len 0 m)) ≡ v / 2 ^ s % 2 ^ m in
    subst P (add-one n) (
    ap natural (map-range_with_len_more f 0 n n (zero-add n)) ∙ natural-push (map f (range_with_len 0 n)) (f n)
    ∙ rw (ih, w) (step_down v s n))

pub length-big_bits : (n v : ℕ) → length (big_bits n v) ≡ n
unfolding big_bits
length-big_bits n v = length-map-range_with_len (λ i. bit_of v (n - 1 - i)) 0 n

pub natural-big_bits : (n v : ℕ) → natural (big_bits n v) ≡ v % 2 ^ n
unfolding big_bits
natural-big_bits zero v = sym (mod_one _)
natural-big_bits (suc n) v = natural-down v (suc n - 1) (suc n) 0 (omega arith) ∙ rw (shr_none v) refl

-- a natural of bits is spelled by no other bits
pub natural-inj : (xs ys : List Bool) → length xs ≡ length ys → natural xs ≡ natural ys → xs ≡ ys
natural-inj [] [] l e = refl
natural-inj [] (y ∷ ys) l e = cc
natural-inj (x ∷ xs) [] l e = cc
natural-inj (true ∷ xs) (true ∷ ys) l e =
    let ly : length xs ≡ length ys = cc in let p : 2 ^ length xs ≡ 2 ^ length ys = ap (λ n. 2 ^ n) ly in
    ap (λ t. true ∷ t) (natural-inj xs ys ly (omega arith))
natural-inj (true ∷ xs) (false ∷ ys) l e =
    let ly : length xs ≡ length ys = cc in let p : 2 ^ length xs ≡ 2 ^ length ys = ap (λ n. 2 ^ n) ly in
    let h : natural ys < 2 ^ length ys = natural-lt ys in absurd (omega arith)
natural-inj (false ∷ xs) (true ∷ ys) l e =
    let ly : length xs ≡ length ys = cc in let p : 2 ^ length xs ≡ 2 ^ length ys = ap (λ n. 2 ^ n) ly in
    let h : natural xs < 2 ^ length xs = natural-lt xs in absurd (omega arith)
natural-inj (false ∷ xs) (false ∷ ys) l e =
    let ly : length xs ≡ length ys = cc in let p : 2 ^ length xs ≡ 2 ^ length ys = ap (λ n. 2 ^ n) ly in
    ap (λ t. false ∷ t) (natural-inj xs ys ly (omega arith))

-- bits are spelled by their natural
pub big_bits-natural : (n : ℕ) (xs : List Bool) → length xs ≡ n → big_bits n (natural xs) ≡ xs
big_bits-natural n xs l =
    let h : natural xs < 2 ^ n = rw (← l) (natural-lt xs) in
    natural-inj (big_bits n (natural xs)) xs (length-big_bits n (natural xs) ∙ sym l) (natural-big_bits n (natural xs) ∙ mod_same (natural xs) (2 ^ n) h)

pub big_bits-mod : (n v : ℕ) → big_bits n (v % 2 ^ n) ≡ big_bits n v
big_bits-mod n v = natural-inj (big_bits n (v % 2 ^ n)) (big_bits n v) (length-big_bits n (v % 2 ^ n) ∙ sym (length-big_bits n v))
    (natural-big_bits n (v % 2 ^ n) ∙ mod_twice v (2 ^ n) (pow_pos n) ∙ sym (natural-big_bits n v))

pub big_bits-append : (m n v : ℕ) → big_bits (m + n) v ≡ big_bits m (v / 2 ^ n) ++ big_bits n v
big_bits-append m n v =
    let ln : length (big_bits n v) ≡ n = length-big_bits n v in
    let lm : length (big_bits m (v / 2 ^ n)) ≡ m = length-big_bits m (v / 2 ^ n) in
    natural-inj (big_bits (m + n) v) (big_bits m (v / 2 ^ n) ++ big_bits n v)
    (length-big_bits (m + n) v ∙ sym (length-append (big_bits m (v / 2 ^ n)) (big_bits n v) ∙ rw (lm, ln) refl))
    (natural-big_bits (m + n) v ∙ mod-pow-add v m n
    ∙ sym (natural-append (big_bits m (v / 2 ^ n)) (big_bits n v) ∙ rw (ln, natural-big_bits m (v / 2 ^ n), natural-big_bits n v) refl))

-- ---- a part of one byte
one_byte : (bytes : List ℕ) (at k : ℕ) → at % 8 + k < 8 → bit_in bytes (at + k) ≡ bit_of (get_or bytes (at / 8) 0) (7 - at % 8 - k)
unfolding bit_in
one_byte bytes at k h =
    let q : (at + k) / 8 ≡ at / 8 = omega arith in
    let r : 7 - (at + k) % 8 ≡ 7 - at % 8 - k = omega arith in
    rw (q, r) refl

bit_list-shift : (bytes : List ℕ) (off n : ℕ) → bit_list bytes off n ≡ map (λ i. bit_in bytes (off + i)) (range_with_len 0 n)
bit_list-shift bytes off n = fill_by_all (λ i. bit_in bytes (off + i)) (bit_list bytes off n) n false (length-bit_list bytes off n) (λ k h. get_or-bit_list bytes off n k false h)

pub natural-window : (bytes : List ℕ) (at n : ℕ) → at % 8 + n ≤ 8 → natural (bit_list bytes at n) ≡ get_or bytes (at / 8) 0 / 2 ^ (8 - at % 8 - n) % 2 ^ n
natural-window bytes at n h =
    let v = get_or bytes (at / 8) 0 in
    let f : ℕ → Bool = λ i. bit_of v (7 - at % 8 - i) in
    ap natural (fill_by_all f (bit_list bytes at n) n false (length-bit_list bytes at n) (λ k hk. get_or-bit_list bytes at n k false hk ∙ one_byte bytes at k (omega arith)))
    ∙ natural-down v (7 - at % 8) n (8 - at % 8 - n) (omega arith)
