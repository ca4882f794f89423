-- The written bits of a room, in all bits of its bytes.
use Rattle.std.proofs.Common.{◌≡◌, ℕ, ◌+◌, ◌-◌, ◌%◌, ◌*◌, ◌/◌, ◌<◌, ◌≤◌, Bool, List, ◌++◌, length, take, drop, replicate, ap, sym, ◌∙◌, arith, refl}
use Rattle.std.proofs.lemmas.List.{same_lists, length-take-le, get_or-take, get_or_append_left, length-append, take_all, take_at, append_assoc, length-drop, get_or-drop}
use Rattle.bits_value.specs.Bits.{all_bits, bit_in, bit_of, bit_list}
use Rattle.bits_value.proofs.BitLists.{part-bit_list}
use Rattle.bits_value.proofs.Written.{length-all_bits, get_or-all_bits}

pub length-written : (bytes : List ℕ) (used : ℕ) → used ≤ 8 * length bytes → length (take used (all_bits bytes)) ≡ used
length-written bytes used h = let l = length-all_bits bytes in length-take-le used (all_bits bytes) (omega arith)

bit_in-front : (xs ys : List ℕ) (i : ℕ) → i < 8 * length xs → bit_in (xs ++ ys) i ≡ bit_in xs i
unfolding bit_in
bit_in-front xs ys i h = ap (λ b. bit_of b (7 - i % 8)) (get_or_append_left xs ys 0 (i / 8) (omega arith))

front-kept : (xs ys : List ℕ) (used : ℕ) → used ≤ 8 * length xs → take used (all_bits (xs ++ ys)) ≡ take used (all_bits xs)
front-kept xs ys used h =
    let la = length-append xs ys in
    let a : length (take used (all_bits (xs ++ ys))) ≡ used = length-written (xs ++ ys) used (omega arith) in
    let b : length (take used (all_bits xs)) ≡ used = length-written xs used h in
    same_lists _ _ (a ∙ sym b) (λ i d hi.
    let w : i < used = omega arith in
    get_or-take used (all_bits (xs ++ ys)) i d w ∙ get_or-all_bits (xs ++ ys) i d (omega arith) ∙ bit_in-front xs ys i (omega arith)
    ∙ sym (get_or-take used (all_bits xs) i d w ∙ get_or-all_bits xs i d (omega arith)))

-- more bytes at the end
pub resized-kept : (xs : List ℕ) (n m used : ℕ) → length xs ≤ n → used ≤ 8 * length xs → take used (all_bits (take n xs ++ replicate m 0)) ≡ take used (all_bits xs)
resized-kept xs n m used l h = rw (take_all n xs l) (front-kept xs (replicate m 0) used h)

-- more bits written
pub written-front : (all added rest : List Bool) (used more : ℕ) → used ≤ length all → length added ≡ more → take (used + more) (take used all ++ (added ++ rest)) ≡ take used all ++ added
written-front all added rest used more h l =
    let front : length (take used all) ≡ used = length-take-le used all h in
    let both : length (take used all ++ added) ≡ used + more = length-append (take used all) added ∙ rw (front, l) refl in
    ap (take (used + more)) (sym (append_assoc (take used all) added rest)) ∙ take_at (take used all ++ added) rest (used + more) both

pub written-list : (bytes : List ℕ) (used : ℕ) → used ≤ 8 * length bytes → bit_list bytes 0 used ≡ take used (all_bits bytes)
unfolding all_bits
written-list bytes used h = part-bit_list bytes 0 (8 * length bytes) 0 used (omega arith)

-- a cut of the written bits is one of all bits
pub written-cut : (all : List Bool) (used off n : ℕ) → off + n ≤ used → used ≤ length all → take n (drop off (take used all)) ≡ take n (drop off all)
written-cut all used off n h l =
    let lt : length (take used all) ≡ used = length-take-le used all l in
    let x : length (take n (drop off (take used all))) ≡ n = length-take-le n (drop off (take used all)) (omega (arith, length-drop off (take used all))) in
    let y : length (take n (drop off all)) ≡ n = length-take-le n (drop off all) (omega (arith, length-drop off all)) in
    same_lists _ _ (x ∙ sym y) (λ i d hi.
    let k : i < n = omega arith in
    get_or-take n (drop off (take used all)) i d k ∙ get_or-drop off (take used all) i d ∙ get_or-take used all (off + i) d (omega arith)
    ∙ sym (get_or-take n (drop off all) i d k ∙ get_or-drop off all i d))
