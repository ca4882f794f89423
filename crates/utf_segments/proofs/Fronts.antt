-- Spellings at the front of bits.
use Rattle.std.proofs.Common.{◌≡◌, ℕ, ◌*◌, ◌/◌, ◌^◌, ◌<◌, ◌≤◌, Bool, IsTrue, List, ◌++◌, length, take, drop, get_or, min, ap, sym, ◌∙◌, inl, inr, arith}
use Rattle.std.proofs.lemmas.List.{same_lists, length-take-le, take_at, drop_at, length-take, get_or-take, take_all, take-append-le}
use Rattle.std.proofs.lemmas.Bool.{cases_lt}
use Rattle.bits_value.specs.Bits.{all_bits}
use Rattle.bits_value.specs.Utf.{is_character, utf_bytes, Begins}
use Rattle.bits_value.specs.declared.UtfKind.{UtfKind}
use Rattle.bits_value.specs.declared.Endian.{Endian}
use Rattle.bits_value.proofs.Written.{length-all_bits}
use Rattle.bits_value.proofs.AllBits.{all_bits-take, all_bits-inj}
use Rattle.utf_segments.specs.Reading.{candidate}
use Rattle.utf_segments.proofs.Candidates.{spelled}

take-short : {X : Type 0} (n m : ℕ) (xs : List X) → n ≤ m → take n (take m xs) ≡ take n xs
take-short n m xs h =
    let a : length (take n (take m xs)) ≡ min n (length (take m xs)) = length-take n (take m xs) in
    let b : length (take m xs) ≡ min m (length xs) = length-take m xs in
    let c : length (take n xs) ≡ min n (length xs) = length-take n xs in
    same_lists _ _ (omega arith) (λ i d hi.
    let k : i < n = omega arith in
    get_or-take n (take m xs) i d k ∙ get_or-take m xs i d (omega arith) ∙ sym (get_or-take n xs i d k))

-- bytes whose bits stand in front of bits
pub bytes-front : (word xs : List ℕ) → length xs ≤ length word → ((i : ℕ) → get_or word i 0 < 2 ^ 8) → ((i : ℕ) → get_or xs i 0 < 2 ^ 8) → take (8 * length xs) (all_bits word) ≡ all_bits xs → take (length xs) word ≡ xs
bytes-front word xs h sw sx e =
    let n = length xs in
    let l : length (take n word) ≡ n = length-take-le n word h in
    all_bits-inj (take n word) xs (λ i g. let k : i < n = omega arith in rw (get_or-take n word i 0 k) (sw i)) (λ i g. sx i) (all_bits-take word n h ∙ e)

-- the same bits, as far as the read bytes go
same-front : (word : List ℕ) (bits : List Bool) (count n : ℕ) → n ≤ count → take (8 * count) (all_bits word) ≡ take (8 * count) bits → take (8 * n) (all_bits word) ≡ take (8 * n) bits
same-front word bits count n h e =
    let le : 8 * n ≤ 8 * count = omega arith in
    sym (take-short (8 * n) (8 * count) (all_bits word) le) ∙ ap (take (8 * n)) e ∙ take-short (8 * n) (8 * count) bits le

pub begins-bits : (k : UtfKind) (e : Endian) (c : ℕ) (bits : List Bool) → Begins (all_bits (utf_bytes k e c)) bits → take (8 * length (utf_bytes k e c)) bits ≡ all_bits (utf_bytes k e c)
begins-bits k e c bits h = ap (λ n. take n bits) (sym (length-all_bits (utf_bytes k e c))) ∙ h

-- how many bytes are read
begins-short : (k : UtfKind) (e : Endian) (c : ℕ) (bits : List Bool) → Begins (all_bits (utf_bytes k e c)) bits → 8 * length (utf_bytes k e c) ≤ length bits
begins-short k e c bits h =
    let n = length (utf_bytes k e c) in
    let l : length (all_bits (utf_bytes k e c)) ≡ 8 * n = length-all_bits (utf_bytes k e c) in
    let t : length (take (8 * n) bits) ≡ min (8 * n) (length bits) = length-take (8 * n) bits in
    let b : length (take (8 * n) bits) ≡ length (all_bits (utf_bytes k e c)) = ap length (begins-bits k e c bits h) in
    omega arith

-- a character in front is the candidate, and its bytes are those that were read
pub read-is : (k : UtfKind) (e : Endian) (c : ℕ) (word : List ℕ) (count : ℕ) (bits : List Bool) → IsTrue (is_character c) → length word ≡ 4 → ((i : ℕ) → get_or word i 0 < 2 ^ 8) →
    count ≡ min (length bits / 8) 4 → take (8 * count) (all_bits word) ≡ take (8 * count) bits → Begins (all_bits (utf_bytes k e c)) bits →
    (candidate k e (get_or word 0 0) (get_or word 1 0) (get_or word 2 0) (get_or word 3 0) ≡ c) × (length (utf_bytes k e c) ≤ count) × (take (length (utf_bytes k e c)) word ≡ utf_bytes k e c)
read-is k e c word count bits is l small n same h =
    let s = spelled k e c is in
    let xs = utf_bytes k e c in
    let four : length xs ≤ 4 = s.short in
    let inside : 8 * length xs ≤ length bits = begins-short k e c bits h in
    let le : length xs ≤ count = omega arith in
    let front : take (length xs) word ≡ xs = bytes-front word xs (omega arith) small s.small (same-front word bits count (length xs) le same ∙ begins-bits k e c bits h) in
    (s.back word front, le, front)

-- bytes that were read stand in front
pub read-begins : (k : UtfKind) (e : Endian) (c : ℕ) (word : List ℕ) (count : ℕ) (bits : List Bool) → length word ≡ 4 → count ≤ 4 → take (8 * count) (all_bits word) ≡ take (8 * count) bits →
    length (utf_bytes k e c) ≤ count → take (length (utf_bytes k e c)) word ≡ utf_bytes k e c → Begins (all_bits (utf_bytes k e c)) bits
read-begins k e c word count bits l four same le front =
    let xs = utf_bytes k e c in
    let n = length xs in
    ap (λ m. take m bits) (length-all_bits xs) ∙ sym (same-front word bits count n le same) ∙ sym (all_bits-take word n (omega arith)) ∙ ap all_bits front

-- ---- no spelling begins with another one
front-of : (xs ys : List ℕ) (rest : List Bool) → length ys ≤ length xs → ((i : ℕ) → get_or xs i 0 < 2 ^ 8) → ((i : ℕ) → get_or ys i 0 < 2 ^ 8) →
    take (8 * length ys) (all_bits xs ++ rest) ≡ all_bits ys → take (length ys) xs ≡ ys
front-of xs ys rest h sx sy e =
    let l = length-all_bits xs in
    bytes-front xs ys h sx sy (sym (take-append-le (8 * length ys) (all_bits xs) rest (omega arith)) ∙ e)

pub alone : (k : UtfKind) (e : Endian) (c other : ℕ) (rest : List Bool) → IsTrue (is_character c) → IsTrue (is_character other) → Begins (all_bits (utf_bytes k e other)) (all_bits (utf_bytes k e c) ++ rest) → other ≡ c
alone k e c other rest is is' h =
    let s = spelled k e c is in
    let t = spelled k e other is' in
    let xs = utf_bytes k e c in
    let ys = utf_bytes k e other in
    let b : take (8 * length ys) (all_bits xs ++ rest) ≡ all_bits ys = begins-bits k e other (all_bits xs ++ rest) h in
    elim (cases_lt (length xs) (length ys)) [
      | inr more ↦
          let front : take (length ys) xs ≡ ys = front-of xs ys rest more s.small t.small b in
          sym (t.back xs front) ∙ s.back xs (take_all (length xs) xs (omega arith))
      | inl less ↦
          let lx : length (all_bits xs) ≡ 8 * length xs = length-all_bits xs in
          let bits : take (8 * length xs) (all_bits ys) ≡ all_bits xs
          = ap (take (8 * length xs)) (sym b) ∙ take-short (8 * length xs) (8 * length ys) (all_bits xs ++ rest) (omega arith) ∙ take_at (all_bits xs) rest (8 * length xs) lx in
          let front : take (length xs) ys ≡ xs = bytes-front ys xs (omega arith) t.small s.small bits in
          sym (t.back ys (take_all (length ys) ys (omega arith))) ∙ s.back ys front
    ]

pub after : (xs : List ℕ) (rest : List Bool) → drop (8 * length xs) (all_bits xs ++ rest) ≡ rest
after xs rest = drop_at (all_bits xs) rest (8 * length xs) (length-all_bits xs)
