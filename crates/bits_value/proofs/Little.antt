-- Little-endian numbers: groups of eight bits.
use Rattle.std.proofs.Common.{◌≡◌, ℕ, zero, suc, ◌+◌, ◌-◌, ◌*◌, ◌/◌, ◌%◌, ◌^◌, ◌≤◌, Bool, List, [], ◌++◌, length, take, drop, refl, ap, sym, ◌∙◌, zero-add, suc-add, inl, inr, arith}
use Rattle.std.proofs.lemmas.List.{append_assoc, append-nil, take-append-le, drop-append-le, length-drop, length-append, take_all, drop_all, nil_from_length, take-append-drop}
use Rattle.std.proofs.lemmas.Bool.{cases_lt}
use Rattle.std.proofs.lemmas.Nat.{shr-shr}
use lib.Seq.{paste}
use Rattle.std.proofs.lemmas.List.Edits.{paste-paste}
use Rattle.bits_value.specs.Number.{natural, reordered, reversed_groups, big_bits, little_groups, little_bits}
use Rattle.bits_value.proofs.BitLists.{natural-append, length-big_bits, big_bits-mod}

-- whole groups before others
pub reversed_groups-append : (k j : ℕ) (xs ys : List Bool) → length xs ≡ 8 * k → reversed_groups (k + j) (xs ++ ys) ≡ reversed_groups j ys ++ reversed_groups k xs
reversed_groups-append zero j xs ys l =
    let e : xs ≡ [] = nil_from_length xs (omega arith) in
    rw (zero-add j, e) (sym (append-nil (reversed_groups j ys)))
reversed_groups-append (suc k) j xs ys l =
    let d = length-drop 8 xs in
    let inside : 8 ≤ length xs = omega arith in
    let ih : reversed_groups (k + j) (drop 8 xs ++ ys) ≡ reversed_groups j ys ++ reversed_groups k (drop 8 xs) = reversed_groups-append k j (drop 8 xs) ys (omega arith) in
    let s : suc k + j ≡ suc (k + j) = suc-add k j in
    ap (λ (n : ℕ). reversed_groups n (xs ++ ys)) s
    ∙ (ap (λ (w : List Bool). reversed_groups (k + j) w ++ take 8 (xs ++ ys)) (drop-append-le 8 xs ys inside)
    ∙ ap (λ (w : List Bool). reversed_groups (k + j) (drop 8 xs ++ ys) ++ w) (take-append-le 8 xs ys inside)
    ∙ ap (λ (w : List Bool). w ++ take 8 xs) ih
    ∙ append_assoc (reversed_groups j ys) (reversed_groups k (drop 8 xs)) (take 8 xs))

pub length-reversed_groups : (k : ℕ) (xs : List Bool) → length (reversed_groups k xs) ≡ length xs
length-reversed_groups zero xs = refl
length-reversed_groups (suc k) xs =
    let ih : length (reversed_groups k (drop 8 xs)) ≡ length (drop 8 xs) = length-reversed_groups k (drop 8 xs) in
    let a : length (take 8 xs ++ drop 8 xs) ≡ length xs = ap length (take-append-drop 8 xs) in
    let b = length-append (take 8 xs) (drop 8 xs) in
    let c = length-append (reversed_groups k (drop 8 xs)) (take 8 xs) in
    omega arith

pub length-reordered : (xs : List Bool) → length (reordered xs) ≡ length xs
unfolding reordered
length-reordered xs = length-reversed_groups (length xs / 8) xs

one_group : (ys : List Bool) → length ys ≤ 8 → reversed_groups (length ys / 8) ys ≡ ys
one_group ys h = elim (cases_lt (length ys) 8) [
  | inl short ↦ let z : length ys / 8 ≡ 0 = omega arith in rw z refl
  | inr full ↦ let z : length ys / 8 ≡ 1 = omega arith in rw z (rw (drop_all 8 ys h, take_all 8 ys h) refl)
]

-- one group more: the step of a loop from the front
pub little_step : (k : ℕ) (xs ys : List Bool) → length xs ≡ 8 * k → length ys ≤ 8 →
    natural (reordered (xs ++ ys)) ≡ natural ys * 2 ^ (8 * k) + natural (reordered xs)
unfolding reordered
little_step k xs ys l h =
    let a = length-append xs ys in
    let q : length (xs ++ ys) / 8 ≡ k + length ys / 8 = omega arith in
    let p : length xs / 8 ≡ k = omega arith in
    let n : length (reversed_groups k xs) ≡ 8 * k = length-reversed_groups k xs ∙ l in
    ap (λ (j : ℕ). natural (reversed_groups j (xs ++ ys))) q
    ∙ (ap natural (reversed_groups-append k (length ys / 8) xs ys l)
    ∙ (natural-append (reversed_groups (length ys / 8) ys) (reversed_groups k xs)
    ∙ rw (one_group ys h, n, p) refl))

-- whole groups of eight bits, and others after them
pub reordered-append : (k : ℕ) (xs ys : List Bool) → length xs ≡ 8 * k → reordered (xs ++ ys) ≡ reordered ys ++ reordered xs
unfolding reordered
reordered-append k xs ys l =
    let a = length-append xs ys in
    let q : length (xs ++ ys) / 8 ≡ k + length ys / 8 = omega arith in
    let p : length xs / 8 ≡ k = omega arith in
    ap (λ (j : ℕ). reversed_groups j (xs ++ ys)) q ∙ reversed_groups-append k (length ys / 8) xs ys l
    ∙ ap (λ (j : ℕ). reversed_groups (length ys / 8) ys ++ reversed_groups j xs) (sym p)

-- ---- spellings
pub length-little_groups : (k n v : ℕ) → 8 * k ≤ n → length (little_groups k n v) ≡ n
length-little_groups zero n v h = length-big_bits n v
length-little_groups (suc k) n v h =
    let a = length-append (big_bits 8 v) (little_groups k (n - 8) (v / 2 ^ 8)) in
    let b = length-big_bits 8 v in
    let c = length-little_groups k (n - 8) (v / 2 ^ 8) (omega arith) in
    omega arith

pub length-little_bits : (n v : ℕ) → length (little_bits n v) ≡ n
unfolding little_bits
length-little_bits n v = length-little_groups (n / 8) n v (omega arith)

no_bits : (v : ℕ) → little_groups zero 0 v ≡ []
no_bits v = nil_from_length (big_bits 0 v) (length-big_bits 0 v)

-- whole groups before others
little_groups-append : (k j m v : ℕ) → little_groups (k + j) (8 * k + m) v ≡ little_groups k (8 * k) v ++ little_groups j m (v / 2 ^ (8 * k))
little_groups-append zero j m v =
    let a : zero + j ≡ j = zero-add j in
    let b : 8 * 0 + m ≡ m = omega arith in
    let c : v / 2 ^ (8 * 0) ≡ v = omega arith in
    rw (a, b, c, no_bits v) refl
little_groups-append (suc k) j m v =
    let s : suc k + j ≡ suc (k + j) = suc-add k j in
    let a : 8 * suc k + m - 8 ≡ 8 * k + m = omega arith in
    let b : 8 * suc k - 8 ≡ 8 * k = omega arith in
    let t : 8 + 8 * k ≡ 8 * suc k = omega arith in
    let w : v / 2 ^ 8 / 2 ^ (8 * k) ≡ v / 2 ^ (8 * suc k) = shr-shr v 8 (8 * k) ∙ ap (λ i. v / 2 ^ i) t in
    let ih = little_groups-append k j m (v / 2 ^ 8) in
    ap (λ i. little_groups i (8 * suc k + m) v) s
    ∙ ap (λ i. big_bits 8 v ++ little_groups (k + j) i (v / 2 ^ 8)) a
    ∙ ap (λ (l : List Bool). big_bits 8 v ++ l) ih
    ∙ sym (append_assoc (big_bits 8 v) (little_groups k (8 * k) (v / 2 ^ 8)) (little_groups j m (v / 2 ^ 8 / 2 ^ (8 * k))))
    ∙ ap (λ i. (big_bits 8 v ++ little_groups k (8 * k) (v / 2 ^ 8)) ++ little_groups j m i) w
    ∙ ap (λ i. (big_bits 8 v ++ little_groups k i (v / 2 ^ 8)) ++ little_groups j m (v / 2 ^ (8 * suc k))) (sym b)

one_little : (s v : ℕ) → s ≤ 8 → little_groups (s / 8) s v ≡ big_bits s v
one_little s v h = elim (cases_lt s 8) [
  | inl short ↦ let z : s / 8 ≡ 0 = omega arith in rw z refl
  | inr full ↦
      let z : s / 8 ≡ 1 = omega arith in
      let e : s ≡ 8 = omega arith in
      rw (z, e) (ap (λ (l : List Bool). big_bits 8 v ++ l) (no_bits (v / 2 ^ 8)) ∙ append-nil (big_bits 8 v))
]

-- one group more
pub little_bits-push : (done s v : ℕ) → done % 8 ≡ 0 → s ≤ 8 → little_bits (done + s) v ≡ little_bits done v ++ big_bits s (v / 2 ^ done)
unfolding little_bits
little_bits-push done s v e h =
    let k = done / 8 in
    let d : done ≡ 8 * k = omega arith in
    let q : (done + s) / 8 ≡ k + s / 8 = omega arith in
    ap (λ i. little_groups i (done + s) v) q
    ∙ ap (λ i. little_groups (k + s / 8) (i + s) v) d
    ∙ little_groups-append k (s / 8) s v
    ∙ ap (λ (l : List Bool). little_groups k (8 * k) v ++ l) (one_little s (v / 2 ^ (8 * k)) h)
    ∙ ap (λ i. little_groups k i v ++ big_bits s (v / 2 ^ i)) (sym d)

pub little_put_step : (d : List Bool) (off v done s : ℕ) → off ≤ length d → done % 8 ≡ 0 → s ≤ 8 →
    paste (paste d off (little_bits done v) done) (off + done) (big_bits s (v / 2 ^ done % 2 ^ s)) s ≡ paste d off (little_bits (done + s) v) (done + s)
little_put_step d off v done s h e g =
    let x = little_bits done v in
    let y = big_bits s (v / 2 ^ done % 2 ^ s) in
    let both : x ++ y ≡ little_bits (done + s) v = ap (λ (l : List Bool). x ++ l) (big_bits-mod s (v / 2 ^ done)) ∙ sym (little_bits-push done s v e g) in
    paste-paste d off x y done s (sym (length-little_bits done v)) (sym (length-big_bits s (v / 2 ^ done % 2 ^ s))) h
    ∙ ap (λ (l : List Bool). paste d off l (done + s)) both
