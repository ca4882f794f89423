-- Runs of bits copied from bytes to bytes.
use Rattle.std.proofs.Common.{◌≡◌, ℕ, ◌+◌, ◌-◌, ◌*◌, ◌/◌, ◌%◌, ◌^◌, ◌<◌, ◌≤◌, Bool, List, [], ◌∷◌, ◌++◌, length, take, drop, set, get_or, bit_or, refl, ap, sym, ◌∙◌, inl, inr, ◌⊎◌, zero-add, lit<, lit≤, arith}
use lib.Seq.{paste}
use Rattle.std.proofs.lemmas.Bool.{cases_lt}
use Rattle.std.proofs.lemmas.List.{same_lists, length-take-le, get_or-take, get_or-drop, length-drop, length-append, append_assoc, get_or_append_left, get_or-append_right}
use Rattle.std.proofs.Math.Seq.{take-append_seam, drop-append-add}
use Rattle.std.proofs.lemmas.List.Edits.{length-paste, paste-paste, paste_none, paste_more}
use Rattle.std.proofs.lemmas.Nat.{pow-add, mod_low, or_shifted, shl_below, shr_below, shr_split, mod_below, pow_pos}
use Rattle.bits_value.specs.Bits.{bit_of, bit_in, bit_list, all_bits}
use Rattle.bits_value.specs.Number.{big_bits, natural}
use Rattle.bits_value.proofs.BitLists.{length-bit_list, get_or-bit_list, bit_list-append, natural-window, big_bits-natural}
use Rattle.bits_value.proofs.Gathered.{natural-split, natural-front, natural-byte}
use Rattle.bits_value.proofs.Written.{length-all_bits, get_or-all_bits, get_or-paste_in, get_or-paste_out, copy_step}

pub joined-is : (l r s : ℕ) → 0 < s → s < 8 → r < 2 ^ 8 → bit_or (l * 2 ^ s % 2 ^ 8) (r / 2 ^ (8 - s)) ≡ l % 2 ^ (8 - s) * 2 ^ s + r / 2 ^ (8 - s)
joined-is l r s some h b =
    let q = l / 2 ^ (8 - s) in
    let m = l % 2 ^ (8 - s) in
    let t : s + (8 - s) ≡ 8 = omega arith in
    let u : 8 - s + s ≡ 8 = omega arith in
    let whole : q * 2 ^ (8 - s) + m ≡ l = shr_split l (8 - s) in
    let p : 2 ^ (8 - s) * 2 ^ s ≡ 2 ^ 8 = sym (pow-add 2 (8 - s) s) ∙ ap (λ n. 2 ^ n) u in
    let spread : (q * 2 ^ (8 - s) + m) * 2 ^ s ≡ q * (2 ^ (8 - s) * 2 ^ s) + m * 2 ^ s = grind arith in
    let mb : m * 2 ^ s < 2 ^ 8 = let c : m * 2 ^ s < 2 ^ (8 - s + s) = shl_below m (8 - s) s (mod_below l (2 ^ (8 - s)) (pow_pos (8 - s))) in rw u at c in
    let high : l * 2 ^ s % 2 ^ 8 ≡ m * 2 ^ s = ap (λ n. n % 2 ^ 8) (ap (λ n. n * 2 ^ s) (sym whole) ∙ spread ∙ ap (λ n. q * n + m * 2 ^ s) p) ∙ mod_low q 8 (m * 2 ^ s) mb in
    let rb : r / 2 ^ (8 - s) < 2 ^ s = let c : r < 2 ^ (s + (8 - s)) = rw t b in shr_below r s (8 - s) c in
    rw high (or_shifted m s (r / 2 ^ (8 - s)) rb)

-- the eight bits that begin within a byte
pub natural-joined : (bytes : List ℕ) (at first s : ℕ) → at ≡ 8 * first + s → 0 < s → s < 8 → get_or bytes (first + 1) 0 < 2 ^ 8 →
    natural (bit_list bytes at 8) ≡ get_or bytes first 0 % 2 ^ (8 - s) * 2 ^ s + get_or bytes (first + 1) 0 / 2 ^ (8 - s)
natural-joined bytes at first s e some h b =
    let u : 8 - s + s ≡ 8 = omega arith in
    let m : at % 8 ≡ s = omega arith in
    let q : at / 8 ≡ first = omega arith in
    let none : 8 - s - (8 - s) ≡ 0 = omega arith in
    let one : get_or bytes first 0 / 2 ^ 0 ≡ get_or bytes first 0 = omega arith in
    let next : at + (8 - s) ≡ 8 * (first + 1) = omega arith in
    let front : natural (bit_list bytes at (8 - s)) ≡ get_or bytes first 0 % 2 ^ (8 - s) = natural-window bytes at (8 - s) (omega arith) ∙ rw (m, q, none, one) refl in
    ap (λ n. natural (bit_list bytes at n)) (sym u) ∙ natural-split bytes at (8 - s) s
    ∙ ap (λ n. n * 2 ^ s + natural (bit_list bytes (at + (8 - s)) s)) front
    ∙ ap (λ n. get_or bytes first 0 % 2 ^ (8 - s) * 2 ^ s + natural (bit_list bytes n s)) next
    ∙ ap (λ n. get_or bytes first 0 % 2 ^ (8 - s) * 2 ^ s + n) (natural-front bytes (first + 1) s h b)

-- one more run
pub copied-more : (d : List Bool) (off : ℕ) (source : List ℕ) (from m n : ℕ) → off ≤ length d →
    paste (paste d off (bit_list source from m) m) (off + m) (bit_list source (from + m) n) n ≡ paste d off (bit_list source from (m + n)) (m + n)
copied-more d off source from m n h =
    paste-paste d off (bit_list source from m) (bit_list source (from + m) n) m n (sym (length-bit_list source from m)) (sym (length-bit_list source (from + m) n)) h
    ∙ ap (λ (w : List Bool). paste d off w (m + n)) (sym (bit_list-append source from m n))

-- ---- whole bytes at once
copied_at : (target source : List ℕ) (a b k i : ℕ) (d : Bool) → a + k ≤ length target → b + k ≤ length source → i < 8 * length target →
    bit_in (paste target a (take k (drop b source)) k) i ≡ get_or (paste (all_bits target) (8 * a) (bit_list source (8 * b) (8 * k)) (8 * k)) i d
unfolding bit_in
copied_at target source a b k i d h g inside =
    let part = take k (drop b source) in
    let lp : k ≡ length part = sym (length-take-le k (drop b source) (omega (arith, length-drop b source))) in
    let la : length (all_bits target) ≡ 8 * length target = length-all_bits target in
    let lb : 8 * k ≡ length (bit_list source (8 * b) (8 * k)) = sym (length-bit_list source (8 * b) (8 * k)) in
    let old : get_or (all_bits target) i d ≡ bit_of (get_or target (i / 8) 0) (7 - i % 8) = get_or-all_bits target i d inside in
    let out : (i < 8 * a) ⊎ (8 * a + 8 * k ≤ i) → (i / 8 < a) ⊎ (a + k ≤ i / 8) → bit_of (get_or (paste target a part k) (i / 8) 0) (7 - i % 8) ≡ get_or (paste (all_bits target) (8 * a) (bit_list source (8 * b) (8 * k)) (8 * k)) i d
    = λ (w : (i < 8 * a) ⊎ (8 * a + 8 * k ≤ i)) (v : (i / 8 < a) ⊎ (a + k ≤ i / 8)).
    ap (λ n. bit_of n (7 - i % 8)) (get_or-paste_out target a part k (i / 8) 0 lp h v)
    ∙ sym (get_or-paste_out (all_bits target) (8 * a) (bit_list source (8 * b) (8 * k)) (8 * k) i d lb (omega arith) w ∙ old) in
    elim (cases_lt i (8 * a)) [
      | inl below ↦ out (inl below) (inl (omega arith))
      | inr above ↦ elim (cases_lt i (8 * a + 8 * k)) [
        | inr past ↦ out (inr past) (inr (omega arith))
        | inl within ↦
            let byte : (8 * b + (i - 8 * a)) / 8 ≡ b + (i / 8 - a) = omega arith in
            let place : (8 * b + (i - 8 * a)) % 8 ≡ i % 8 = omega arith in
            ap (λ n. bit_of n (7 - i % 8)) (get_or-paste_in target a part k (i / 8) 0 lp (omega arith) (omega arith) (omega arith)
            ∙ get_or-take k (drop b source) (i / 8 - a) 0 (omega arith) ∙ get_or-drop b source (i / 8 - a) 0)
            ∙ sym (get_or-paste_in (all_bits target) (8 * a) (bit_list source (8 * b) (8 * k)) (8 * k) i d lb (omega arith) above within
            ∙ get_or-bit_list source (8 * b) (8 * k) (i - 8 * a) d (omega arith)
            ∙ ap (λ n. bit_of (get_or source n 0) (7 - (8 * b + (i - 8 * a)) % 8)) byte ∙ ap (λ n. bit_of (get_or source (b + (i / 8 - a)) 0) (7 - n)) place)
      ]
    ]

pub copied_bytes : (target source : List ℕ) (a b k : ℕ) → a + k ≤ length target → b + k ≤ length source →
    all_bits (paste target a (take k (drop b source)) k) ≡ paste (all_bits target) (8 * a) (bit_list source (8 * b) (8 * k)) (8 * k)
copied_bytes target source a b k h g =
    let part = take k (drop b source) in
    let lp : length part ≡ k = length-take-le k (drop b source) (omega (arith, length-drop b source)) in
    let la : length (all_bits target) ≡ 8 * length target = length-all_bits target in
    let lb : length (bit_list source (8 * b) (8 * k)) ≡ 8 * k = length-bit_list source (8 * b) (8 * k) in
    let new = paste target a part k in
    let ln : length new ≡ length target = length-paste target a part k h (omega arith) in
    let ln' : length (all_bits new) ≡ 8 * length target = length-all_bits new ∙ ap (λ n. 8 * n) ln in
    let lr : length (paste (all_bits target) (8 * a) (bit_list source (8 * b) (8 * k)) (8 * k)) ≡ length (all_bits target) = length-paste (all_bits target) (8 * a) (bit_list source (8 * b) (8 * k)) (8 * k) (omega arith) (omega arith) in
    same_lists _ _ (ln' ∙ sym (lr ∙ la)) (λ i d hi.
    get_or-all_bits new i d (omega arith) ∙ copied_at target source a b k i d h g (omega arith))

-- ---- one whole byte
one_byte : (v : ℕ) → v < 2 ^ 8 → bit_list (v ∷ []) 0 8 ≡ big_bits 8 v
one_byte v h =
    let xs = bit_list (v ∷ []) 0 8 in
    sym (big_bits-natural 8 xs (length-bit_list (v ∷ []) 0 8)) ∙ ap (big_bits 8) (natural-byte (v ∷ []) 0 h)

pub whole_byte : (bytes : List ℕ) (at v : ℕ) → at % 8 ≡ 0 → at + 8 ≤ 8 * length bytes → v < 2 ^ 8 → all_bits (set bytes (at / 8) v) ≡ paste (all_bits bytes) at (big_bits 8 v) 8
whole_byte bytes at v e inside b =
    let j = at / 8 in
    let back : 8 * j ≡ at = omega arith in
    let here : j ≡ j + 0 = omega arith in
    let written : set bytes j v ≡ paste bytes j (v ∷ []) 1
    = ap (λ i. set bytes i v) here ∙ ap (λ (d : List ℕ). set d (j + 0) v) (paste_none bytes j (v ∷ [])) ∙ paste_more bytes j (v ∷ []) 0 0 (omega arith) (lit< tt) in
    ap all_bits written ∙ copied_bytes bytes (v ∷ []) j 0 1 (omega arith) (lit≤ tt)
    ∙ ap (λ n. paste (all_bits bytes) n (bit_list (v ∷ []) 0 8) 8) back ∙ ap (λ (w : List Bool). paste (all_bits bytes) at w 8) (one_byte v b)

-- one more whole byte
pub byte-more : (d : List Bool) (bytes : List ℕ) (off : ℕ) (source : List ℕ) (from i v : ℕ) → off % 8 ≡ 0 → off + 8 * i + 8 ≤ 8 * length bytes → length d ≡ 8 * length bytes →
    v < 2 ^ 8 → v ≡ natural (bit_list source (from + 8 * i) 8) → all_bits bytes ≡ paste d off (bit_list source from (8 * i)) (8 * i) →
    all_bits (set bytes (off / 8 + i) v) ≡ paste d off (bit_list source from (8 * (i + 1))) (8 * (i + 1))
byte-more d bytes off source from i v e inside l b n w =
    let at : off / 8 + i ≡ (off + 8 * i) / 8 = omega arith in
    let t : 8 * i + 8 ≡ 8 * (i + 1) = omega arith in
    ap (λ j. all_bits (set bytes j v)) at ∙ whole_byte bytes (off + 8 * i) v (omega arith) inside b
    ∙ ap (λ (x : List Bool). paste x (off + 8 * i) (big_bits 8 v) 8) w
    ∙ ap (λ m. paste (paste d off (bit_list source from (8 * i)) (8 * i)) (off + 8 * i) (big_bits 8 m) 8) n
    ∙ copy_step d off source from (8 * i) 8 (omega arith)
    ∙ ap (λ m. paste d off (bit_list source from m) m) t

-- ---- two runs of bytes
bit_in-left : (xs ys : List ℕ) (i : ℕ) → i < 8 * length xs → bit_in (xs ++ ys) i ≡ bit_in xs i
unfolding bit_in
bit_in-left xs ys i h = ap (λ n. bit_of n (7 - i % 8)) (get_or_append_left xs ys 0 (i / 8) (omega arith))

bit_in-right : (xs ys : List ℕ) (i : ℕ) → bit_in (xs ++ ys) (8 * length xs + i) ≡ bit_in ys i
unfolding bit_in
bit_in-right xs ys i =
    let q : (8 * length xs + i) / 8 - length xs ≡ i / 8 = omega arith in
    let r : (8 * length xs + i) % 8 ≡ i % 8 = omega arith in
    ap (λ n. bit_of n (7 - (8 * length xs + i) % 8)) (get_or-append_right xs ys (length xs) ((8 * length xs + i) / 8) 0 refl (omega arith) ∙ ap (λ j. get_or ys j 0) q)
    ∙ ap (λ n. bit_of (get_or ys (i / 8) 0) (7 - n)) r

pub bit_list-left : (xs ys : List ℕ) (at n : ℕ) → at + n ≤ 8 * length xs → bit_list (xs ++ ys) at n ≡ bit_list xs at n
bit_list-left xs ys at n h =
    let l : length (bit_list (xs ++ ys) at n) ≡ n = length-bit_list (xs ++ ys) at n in
    let m : length (bit_list xs at n) ≡ n = length-bit_list xs at n in
    same_lists _ _ (l ∙ sym m) (λ i d hi.
    let k : i < n = omega arith in
    get_or-bit_list (xs ++ ys) at n i d k ∙ bit_in-left xs ys (at + i) (omega arith) ∙ sym (get_or-bit_list xs at n i d k))

bit_list-right : (xs ys : List ℕ) (n : ℕ) → bit_list (xs ++ ys) (8 * length xs) n ≡ bit_list ys 0 n
bit_list-right xs ys n =
    let l : length (bit_list (xs ++ ys) (8 * length xs) n) ≡ n = length-bit_list (xs ++ ys) (8 * length xs) n in
    let m : length (bit_list ys 0 n) ≡ n = length-bit_list ys 0 n in
    same_lists _ _ (l ∙ sym m) (λ i d hi.
    let k : i < n = omega arith in
    get_or-bit_list (xs ++ ys) (8 * length xs) n i d k ∙ bit_in-right xs ys i ∙ ap (bit_in ys) (sym (zero-add i)) ∙ sym (get_or-bit_list ys 0 n i d k))

pub all_bits-append : (xs ys : List ℕ) → all_bits (xs ++ ys) ≡ all_bits xs ++ all_bits ys
unfolding all_bits
all_bits-append xs ys =
    let e : 8 * length (xs ++ ys) ≡ 8 * length xs + 8 * length ys = omega (arith, length-append xs ys) in
    ap (bit_list (xs ++ ys) 0) e ∙ bit_list-append (xs ++ ys) 0 (8 * length xs) (8 * length ys)
    ∙ ap (λ (w : List Bool). w ++ bit_list (xs ++ ys) (0 + 8 * length xs) (8 * length ys)) (bit_list-left xs ys 0 (8 * length xs) (omega arith))
    ∙ ap (λ i. bit_list xs 0 (8 * length xs) ++ bit_list (xs ++ ys) i (8 * length ys)) (zero-add (8 * length xs))
    ∙ ap (λ (w : List Bool). bit_list xs 0 (8 * length xs) ++ w) (bit_list-right xs ys (8 * length ys))

paste-right : (xs ys s : List Bool) (n : ℕ) → paste (xs ++ ys) (length xs) s n ≡ xs ++ paste ys 0 s n
paste-right xs ys s n =
    let t : take (length xs) (xs ++ ys) ≡ xs = take-append_seam xs ys in
    let d : drop (length xs + n) (xs ++ ys) ≡ drop n ys = drop-append-add xs ys n in
    ap (λ (w : List Bool). w ++ take n s ++ drop (length xs + n) (xs ++ ys)) t ∙ ap (λ (w : List Bool). xs ++ take n s ++ w) d
    ∙ append_assoc xs (take n s) (drop n ys) ∙ ap (λ k. xs ++ (take n s ++ drop k ys)) (sym (zero-add n))

-- bits written into the second of two runs of bytes, from its beginning on
pub paste-second : (xs ys new : List ℕ) (s : List Bool) (n : ℕ) → all_bits new ≡ paste (all_bits ys) 0 s n → all_bits (xs ++ new) ≡ paste (all_bits (xs ++ ys)) (8 * length xs) s n
paste-second xs ys new s n e =
    all_bits-append xs new ∙ ap (λ (w : List Bool). all_bits xs ++ w) e ∙ sym (paste-right (all_bits xs) (all_bits ys) s n)
    ∙ ap (λ (w : List Bool). paste w (length (all_bits xs)) s n) (sym (all_bits-append xs ys)) ∙ ap (λ k. paste (all_bits (xs ++ ys)) k s n) (length-all_bits xs)
