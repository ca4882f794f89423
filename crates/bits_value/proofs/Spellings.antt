-- Numbers and their spellings.
use Rattle.std.proofs.Common.{◌≡◌, ℕ, ℤ, pos, negsuc, zero, suc, ◌+◌, ◌-◌, ◌*◌, ◌/◌, ◌%◌, ◌^◌, ◌<◌, ◌≤◌, Bool, List, ◌++◌, length, take, drop, refl, ap, sym, ◌∙◌, arith}
use Rattle.std.proofs.lemmas.List.{take-append-drop, length-drop, take_at, drop_at}
use Rattle.std.proofs.Math.Nat.{mod-eq_of_lt}
use Rattle.bits_value.specs.Number.{natural, with_sign, number, greatest_first, reordered, reversed_groups, big_bits, little_groups, little_bits, residue, spell, InBits}
use Rattle.bits_value.specs.Parts.{sign_value}
use Rattle.bits_value.specs.declared.Sign.{Sign}
use Rattle.bits_value.specs.declared.Sign.TheVariants.{Unsigned, Signed}
use Rattle.bits_value.specs.declared.Endian.{Endian}
use Rattle.bits_value.specs.declared.Endian.TheVariants.{Big, Little}
use Rattle.bits_value.proofs.BitLists.{length-big_bits, natural-big_bits, big_bits-append, natural-inj}
use Rattle.bits_value.proofs.Little.{length-little_bits, length-little_groups, length-reversed_groups, length-reordered}
use Rattle.bits_value.proofs.Residues.{residue-lt}
use Rattle.bits_value.proofs.Values.{with_sign-value, value-low, value-high}

pub length-spell : (n : ℕ) (v : ℤ) (e : Endian) → length (spell n v e) ≡ n
length-spell n v Big = length-big_bits n (residue n v)
length-spell n v Little = length-little_bits n (residue n v)

reversed-little : (k n v : ℕ) → 8 * k ≤ n → reversed_groups k (little_groups k n v) ≡ big_bits n v
reversed-little zero n v h = refl
reversed-little (suc k) n v h =
    let first = big_bits 8 v in
    let rest = little_groups k (n - 8) (v / 2 ^ 8) in
    let l : length first ≡ 8 = length-big_bits 8 v in
    let t : take 8 (first ++ rest) ≡ first = take_at first rest 8 l in
    let d : drop 8 (first ++ rest) ≡ rest = drop_at first rest 8 l in
    let back : n - 8 + 8 ≡ n = omega arith in
    ap (λ (w : List Bool). reversed_groups k w ++ take 8 (first ++ rest)) d ∙ ap (λ (w : List Bool). reversed_groups k rest ++ w) t
    ∙ ap (λ (w : List Bool). w ++ first) (reversed-little k (n - 8) (v / 2 ^ 8) (omega arith))
    ∙ sym (big_bits-append (n - 8) 8 v) ∙ ap (λ m. big_bits m v) back

pub reordered-little_bits : (n v : ℕ) → reordered (little_bits n v) ≡ big_bits n v
unfolding reordered little_bits
reordered-little_bits n v =
    ap (λ m. reversed_groups (m / 8) (little_groups (n / 8) n v)) (length-little_groups (n / 8) n v (omega arith))
    ∙ reversed-little (n / 8) n v (omega arith)

pub greatest_first-spell : (n : ℕ) (v : ℤ) (e : Endian) → greatest_first e (spell n v e) ≡ big_bits n (residue n v)
greatest_first-spell n v Big = refl
greatest_first-spell n v Little = reordered-little_bits n (residue n v)

natural-residue : (n : ℕ) (v : ℤ) → natural (big_bits n (residue n v)) ≡ residue n v
natural-residue n v = natural-big_bits n (residue n v) ∙ mod-eq_of_lt (residue-lt n v)

-- the unsigned number of a spelling
pub natural-spell : (n : ℕ) (v : ℤ) (e : Endian) → natural (greatest_first e (spell n v e)) ≡ residue n v
natural-spell n v e = ap natural (greatest_first-spell n v e) ∙ natural-residue n v

-- ---- no other bits have that number
parts_same : (n : ℕ) (us vs xs ys : List Bool) → length us ≡ n → length vs ≡ n → us ++ xs ≡ vs ++ ys → (us ≡ vs) × (xs ≡ ys)
parts_same n us vs xs ys l m e =
    (sym (take_at us xs n l) ∙ ap (λ (w : List Bool). take n w) e ∙ take_at vs ys n m, sym (drop_at us xs n l) ∙ ap (λ (w : List Bool). drop n w) e ∙ drop_at vs ys n m)

reversed_groups-inj : (k : ℕ) (xs ys : List Bool) → length xs ≡ length ys → reversed_groups k xs ≡ reversed_groups k ys → xs ≡ ys
reversed_groups-inj zero xs ys l e = e
reversed_groups-inj (suc k) xs ys l e =
    let n = length (drop 8 xs) in
    let a : length (reversed_groups k (drop 8 xs)) ≡ n = length-reversed_groups k (drop 8 xs) in
    let c : length (drop 8 ys) ≡ n = omega (arith, length-drop 8 xs, length-drop 8 ys) in
    let b : length (reversed_groups k (drop 8 ys)) ≡ n = length-reversed_groups k (drop 8 ys) ∙ c in
    let both = parts_same n (reversed_groups k (drop 8 xs)) (reversed_groups k (drop 8 ys)) (take 8 xs) (take 8 ys) a b e in
    let back : drop 8 xs ≡ drop 8 ys = reversed_groups-inj k (drop 8 xs) (drop 8 ys) (sym c) both.0 in
    sym (take-append-drop 8 xs) ∙ ap (λ (w : List Bool). w ++ drop 8 xs) both.1 ∙ ap (λ (w : List Bool). take 8 ys ++ w) back ∙ take-append-drop 8 ys

reordered-inj : (xs ys : List Bool) → length xs ≡ length ys → reordered xs ≡ reordered ys → xs ≡ ys
unfolding reordered
reordered-inj xs ys l e = reversed_groups-inj (length xs / 8) xs ys l (e ∙ ap (λ n. reversed_groups (n / 8) ys) (sym l))

pub spell-alone : (n : ℕ) (v : ℤ) (e : Endian) (other : List Bool) → length other ≡ n → natural (greatest_first e other) ≡ residue n v → other ≡ spell n v e
spell-alone n v Big other l m = natural-inj other (big_bits n (residue n v)) (l ∙ sym (length-big_bits n (residue n v))) (m ∙ sym (natural-residue n v))
spell-alone n v Little other l m =
    let r = residue n v in
    let same : reordered other ≡ big_bits n r = natural-inj (reordered other) (big_bits n r) (length-reordered other ∙ l ∙ sym (length-big_bits n r)) (m ∙ sym (natural-residue n v)) in
    reordered-inj other (little_bits n r) (l ∙ sym (length-little_bits n r)) (same ∙ sym (reordered-little_bits n r))

-- ---- a number within the bits of its sign is read back
residue-value : (s : Sign) (n : ℕ) (v : ℤ) → InBits s n v → sign_value s n (residue n v) ≡ v
residue-value Unsigned n (pos v) h = ap pos (mod-eq_of_lt h)
residue-value Unsigned n (negsuc v) h = absurd h
residue-value Signed n (pos v) h =
    let m : v % 2 ^ n ≡ v = mod-eq_of_lt (omega arith) in
    ap (sign_value Signed n) m ∙ value-low n v h
residue-value Signed n (negsuc v) h =
    let b : v < 2 ^ n = omega arith in
    let m : v % 2 ^ n ≡ v = mod-eq_of_lt b in
    let back : 2 ^ n - 1 - (2 ^ n - 1 - v) ≡ v = omega arith in
    ap (λ k. sign_value Signed n (2 ^ n - 1 - k)) m ∙ value-high n (2 ^ n - 1 - v) (omega arith) ∙ ap negsuc back

pub number-spell : (s : Sign) (e : Endian) (n : ℕ) (v : ℤ) → InBits s n v → number (spell n v e) s e ≡ v
number-spell s e n v h =
    let bits = big_bits n (residue n v) in
    ap (with_sign s) (greatest_first-spell n v e) ∙ with_sign-value s bits ∙ ap (λ k. sign_value s k (natural bits)) (length-big_bits n (residue n v))
    ∙ ap (sign_value s n) (natural-residue n v) ∙ residue-value s n v h

pub number-spell-rest : (s : Sign) (e : Endian) (n : ℕ) (v : ℤ) (rest : List Bool) → InBits s n v → number (take n (spell n v e ++ rest)) s e ≡ v
number-spell-rest s e n v rest h = ap (λ (w : List Bool). number w s e) (take_at (spell n v e) rest n (length-spell n v e)) ∙ number-spell s e n v h

pub spell-rest : (e : Endian) (n : ℕ) (v : ℤ) (rest : List Bool) → drop n (spell n v e ++ rest) ≡ rest
spell-rest e n v rest = drop_at (spell n v e) rest n (length-spell n v e)
