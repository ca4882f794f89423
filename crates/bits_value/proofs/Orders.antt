-- The order of lists of bits, by their numbers.
use Rattle.std.proofs.Common.{◌≡◌, ℕ, suc, ◌+◌, ◌-◌, ◌*◌, ◌^◌, ◌<◌, ◌≤◌, Bool, true, false, List, [], ◌∷◌, length, take, min, nat_cmp, refl, ap, sym, ◌∙◌, inl, inr, arith}
use Rattle.std.proofs.lemmas.Bool.{cases_lt, cases_eq}
use Rattle.std.specs.declared.cmp.Ordering.{Ordering}
use Rattle.std.specs.declared.cmp.Ordering.TheVariants.{Less, Equal, Greater}
use Rattle.std.specs.Ordering.{bool_cmp, ordering_then}
use Rattle.std.specs.Cmp.{nat_cmp_is}
use Rattle.std.specs.Cmp.Lexicographic.{slice_cmp}
use Rattle.bits_value.specs.Bits.{bit_list}
use Rattle.bits_value.specs.Number.{natural}
use Rattle.bits_value.proofs.BitLists.{natural-lt, length-bit_list}
use Rattle.bits_value.proofs.Gathered.{natural-split, natural-bound}

cmp-less : (x y : ℕ) → x < y → nat_cmp x y ≡ Less
cmp-less x y h = sym (nat_cmp_is x y Less h)

cmp-greater : (x y : ℕ) → y < x → nat_cmp x y ≡ Greater
cmp-greater x y h = sym (nat_cmp_is x y Greater h)

cmp-equal : (x y : ℕ) → x ≡ y → nat_cmp x y ≡ Equal
cmp-equal x y h = sym (nat_cmp_is x y Equal h)

-- the same order at other numbers
same-cmp : (x y u v : ℕ) → (x < y → u < v) → (x ≡ y → u ≡ v) → (y < x → v < u) → nat_cmp x y ≡ nat_cmp u v
same-cmp x y u v l e g = elim (cases_lt x y) [
  | inl less ↦ cmp-less x y less ∙ sym (cmp-less u v (l less))
  | inr more ↦ elim (cases_eq x y) [
    | inl same ↦ cmp-equal x y same ∙ sym (cmp-equal u v (e same))
    | inr ne ↦ let h : y < x = omega arith in cmp-greater x y h ∙ sym (cmp-greater u v (g h))
  ]
]

-- lists of one length are ordered as their numbers
pub order-natural : (xs ys : List Bool) → length xs ≡ length ys → slice_cmp bool_cmp xs ys ≡ nat_cmp (natural xs) (natural ys)
order-natural [] [] l = sym (cmp-equal 0 0 refl)
order-natural [] (y ∷ ys) l = cc
order-natural (x ∷ xs) [] l = cc
order-natural (false ∷ xs) (false ∷ ys) l =
    let e : length xs ≡ length ys = cc in
    let p : 2 ^ length xs ≡ 2 ^ length ys = ap (λ n. 2 ^ n) e in
    order-natural xs ys e ∙ same-cmp (natural xs) (natural ys) (natural (false ∷ xs)) (natural (false ∷ ys)) (λ h. omega arith) (λ h. omega arith) (λ h. omega arith)
order-natural (true ∷ xs) (true ∷ ys) l =
    let e : length xs ≡ length ys = cc in
    let p : 2 ^ length xs ≡ 2 ^ length ys = ap (λ n. 2 ^ n) e in
    order-natural xs ys e ∙ same-cmp (natural xs) (natural ys) (natural (true ∷ xs)) (natural (true ∷ ys)) (λ h. omega arith) (λ h. omega arith) (λ h. omega arith)
order-natural (false ∷ xs) (true ∷ ys) l =
    let e : length xs ≡ length ys = cc in
    let p : 2 ^ length xs ≡ 2 ^ length ys = ap (λ n. 2 ^ n) e in
    let h = natural-lt xs in
    sym (cmp-less (natural (false ∷ xs)) (natural (true ∷ ys)) (omega arith))
order-natural (true ∷ xs) (false ∷ ys) l =
    let e : length xs ≡ length ys = cc in
    let p : 2 ^ length xs ≡ 2 ^ length ys = ap (λ n. 2 ^ n) e in
    let h = natural-lt ys in
    sym (cmp-greater (natural (true ∷ xs)) (natural (false ∷ ys)) (omega arith))

-- ---- the loop
less_above : (a b t c d : ℕ) → a < b → c < t → a * t + c < b * t + d
less_above a b t c d h g =
    let r = b - (a + 1) in
    let b' : b ≡ a + 1 + r = omega arith in
    let s : (a + 1 + r) * t ≡ a * t + t + r * t = grind arith in
    rw b' (omega arith)

part_cmp : (a b u v k r c d : ℕ) → a ≡ b → (u ≡ v → ⊥) → c < 2 ^ r → d < 2 ^ r → nat_cmp ((a * 2 ^ k + u) * 2 ^ r + c) ((b * 2 ^ k + v) * 2 ^ r + d) ≡ nat_cmp u v
part_cmp a b u v k r c d e ne hc hd =
    let p : a * 2 ^ k ≡ b * 2 ^ k = ap (λ n. n * 2 ^ k) e in
    sym (same-cmp u v ((a * 2 ^ k + u) * 2 ^ r + c) ((b * 2 ^ k + v) * 2 ^ r + d)
    (λ h. less_above (a * 2 ^ k + u) (b * 2 ^ k + v) (2 ^ r) c d (omega arith) hc)
    (λ h. absurd (ne h))
    (λ h. less_above (b * 2 ^ k + v) (a * 2 ^ k + u) (2 ^ r) d c (omega arith) hd))

split_twice : (bytes : List ℕ) (s done k r : ℕ) → natural (bit_list bytes s (done + k + r)) ≡ (natural (bit_list bytes s done) * 2 ^ k + natural (bit_list bytes (s + done) k)) * 2 ^ r + natural (bit_list bytes (s + (done + k)) r)
split_twice bytes s done k r = natural-split bytes s (done + k) r ∙ ap (λ n. n * 2 ^ r + natural (bit_list bytes (s + (done + k)) r)) (natural-split bytes s done k)

-- the first parts are the same, and the next ones are not
pub order-part : (left right : List ℕ) (s t done k n : ℕ) → done + k ≤ n → natural (bit_list left s done) ≡ natural (bit_list right t done) →
    (natural (bit_list left (s + done) k) ≡ natural (bit_list right (t + done) k) → ⊥) →
    nat_cmp (natural (bit_list left (s + done) k)) (natural (bit_list right (t + done) k)) ≡ slice_cmp bool_cmp (bit_list left s n) (bit_list right t n)
order-part left right s t done k n h e ne =
    let r = n - (done + k) in
    let whole : done + k + r ≡ n = omega arith in
    let a = natural (bit_list left s done) in
    let b = natural (bit_list right t done) in
    let u = natural (bit_list left (s + done) k) in
    let v = natural (bit_list right (t + done) k) in
    let c = natural (bit_list left (s + (done + k)) r) in
    let d = natural (bit_list right (t + (done + k)) r) in
    let l : natural (bit_list left s n) ≡ (a * 2 ^ k + u) * 2 ^ r + c = ap (λ m. natural (bit_list left s m)) (sym whole) ∙ split_twice left s done k r in
    let m : natural (bit_list right t n) ≡ (b * 2 ^ k + v) * 2 ^ r + d = ap (λ m. natural (bit_list right t m)) (sym whole) ∙ split_twice right t done k r in
    sym (order-natural (bit_list left s n) (bit_list right t n) (length-bit_list left s n ∙ sym (length-bit_list right t n))
    ∙ ap (λ i. nat_cmp i (natural (bit_list right t n))) l ∙ ap (λ i. nat_cmp ((a * 2 ^ k + u) * 2 ^ r + c) i) m
    ∙ part_cmp a b u v k r c d e ne (natural-bound left (s + (done + k)) r) (natural-bound right (t + (done + k)) r))

pub order-same : (left right : List ℕ) (s t n : ℕ) → natural (bit_list left s n) ≡ natural (bit_list right t n) → Equal ≡ slice_cmp bool_cmp (bit_list left s n) (bit_list right t n)
order-same left right s t n e = sym (order-natural (bit_list left s n) (bit_list right t n) (length-bit_list left s n ∙ sym (length-bit_list right t n)) ∙ cmp-equal (natural (bit_list left s n)) (natural (bit_list right t n)) e)

pub same-more : (left right : List ℕ) (s t done k : ℕ) → natural (bit_list left s done) ≡ natural (bit_list right t done) → natural (bit_list left (s + done) k) ≡ natural (bit_list right (t + done) k) →
    natural (bit_list left s (done + k)) ≡ natural (bit_list right t (done + k))
same-more left right s t done k e f = natural-split left s done k ∙ ap (λ n. n * 2 ^ k + natural (bit_list left (s + done) k)) e ∙ ap (λ n. natural (bit_list right t done) * 2 ^ k + n) f ∙ sym (natural-split right t done k)

-- ---- lists of different lengths
then_assoc : (a b c : Ordering) → ordering_then (ordering_then a b) c ≡ ordering_then a (ordering_then b c)
then_assoc Less b c = refl
then_assoc Equal b c = refl
then_assoc Greater b c = refl

pub order-front : (xs ys : List Bool) (m : ℕ) → m ≡ min (length xs) (length ys) → slice_cmp bool_cmp xs ys ≡ ordering_then (slice_cmp bool_cmp (take m xs) (take m ys)) (nat_cmp (length xs) (length ys))
order-front [] [] m e = let z : m ≡ 0 = omega arith in rw z refl
order-front [] (y ∷ ys) m e =
    let z : m ≡ 0 = omega arith in
    rw z (sym (cmp-less 0 (length (y ∷ ys)) (omega arith)))
order-front (x ∷ xs) [] m e =
    let z : m ≡ 0 = omega arith in
    rw z (sym (cmp-greater (length (x ∷ xs)) 0 (omega arith)))
order-front (x ∷ xs) (y ∷ ys) m e =
    let r = min (length xs) (length ys) in
    let z : m ≡ suc r = omega arith in
    let ih = order-front xs ys r refl in
    let c : nat_cmp (length xs) (length ys) ≡ nat_cmp (length (x ∷ xs)) (length (y ∷ ys)) = same-cmp (length xs) (length ys) (length (x ∷ xs)) (length (y ∷ ys)) (λ h. omega arith) (λ h. omega arith) (λ h. omega arith) in
    rw z (ap (ordering_then (bool_cmp x y)) (ih ∙ ap (ordering_then (slice_cmp bool_cmp (take r xs) (take r ys))) c)
    ∙ sym (then_assoc (bool_cmp x y) (slice_cmp bool_cmp (take r xs) (take r ys)) (nat_cmp (length (x ∷ xs)) (length (y ∷ ys)))))
