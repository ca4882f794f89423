-- Bits that are all alike.
use Rattle.std.proofs.Common.{◌≡◌, ℕ, zero, suc, ◌+◌, ◌-◌, ◌*◌, ◌/◌, ◌^◌, ◌<◌, ◌≤◌, ◌==◌, Bool, true, false, cond, Option, Some, None, ℤ, List, ◌++◌, length, take, drop, refl, ap, sym, ◌∙◌, inl, inr, arith}
use Rattle.std.proofs.lemmas.Nat.{pow-add, pow_pos}
use Rattle.std.proofs.Math.Nat.{le-mul_of_pos_right}
use Rattle.std.proofs.lemmas.List.{length-append, take-append-drop}
use Rattle.std.proofs.lemmas.Bool.{cases_eq, ne_eqb}
use Rattle.bits_value.specs.Bits.{bit_list}
use Rattle.bits_value.specs.Number.{natural, reordered, reversed_groups}
use Rattle.bits_value.specs.Parts.{fill, extended, is_negative}
use Rattle.bits_value.proofs.BitLists.{natural-append, natural-lt}
use Rattle.bits_value.proofs.Gathered.{natural-split, natural-bound}
use Rattle.bits_value.proofs.Little.{length-reversed_groups}

ones_both : (a d t : ℕ) → a ≡ d - 1 → 0 < d → 0 < t → a * t + (t - 1) ≡ d * t - 1
ones_both a d t e h g =
    let d' : d ≡ a + 1 = omega arith in
    let s : (a + 1) * t ≡ a * t + t = grind arith in
    rw d' (omega arith)

pub fill-both : (b : Bool) (x y d k : ℕ) → x ≡ fill b d → y ≡ fill b k → x * 2 ^ k + y ≡ fill b (d + k)
fill-both false x y d k e f = rw (e, f) (omega arith)
fill-both true x y d k e f =
    let p : 2 ^ (d + k) ≡ 2 ^ d * 2 ^ k = pow-add 2 d k in
    rw (f, p) (ones_both x (2 ^ d) (2 ^ k) e (pow_pos d) (pow_pos k))

-- what is left of `d` after `x` and one more has no share
none_left : (x y d t : ℕ) → x < d → y < t → x * t + y ≡ d * t - 1 → (d ≡ x + 1) × (y ≡ t - 1)
none_left x y d t h g e =
    let r = d - (x + 1) in
    let d' : d ≡ x + 1 + r = omega arith in
    let s : (x + 1 + r) * t ≡ x * t + t + r * t = grind arith in
    let w : d * t ≡ x * t + t + r * t = ap (λ n. n * t) d' ∙ s in
    let m : r ≤ r * t = le-mul_of_pos_right r (omega arith) in
    (omega arith, omega arith)

pub fill-high : (b : Bool) (x y d k : ℕ) → x < 2 ^ d → y < 2 ^ k → x * 2 ^ k + y ≡ fill b (d + k) → x ≡ fill b d
fill-high false x y d k h g e = let m : x ≤ x * 2 ^ k = le-mul_of_pos_right x (pow_pos k) in omega arith
fill-high true x y d k h g e =
    let p : 2 ^ (d + k) ≡ 2 ^ d * 2 ^ k = pow-add 2 d k in
    let w = none_left x y (2 ^ d) (2 ^ k) h g (e ∙ ap (λ n. n - 1) p) in
    omega (arith, w.0)

pub fill-low : (b : Bool) (x y d k : ℕ) → x < 2 ^ d → y < 2 ^ k → x * 2 ^ k + y ≡ fill b (d + k) → y ≡ fill b k
fill-low false x y d k h g e = omega arith
fill-low true x y d k h g e =
    let p : 2 ^ (d + k) ≡ 2 ^ d * 2 ^ k = pow-add 2 d k in
    let w = none_left x y (2 ^ d) (2 ^ k) h g (e ∙ ap (λ n. n - 1) p) in
    w.1

-- ---- the loop
pub fill-more : (b : Bool) (bytes : List ℕ) (s d k : ℕ) → natural (bit_list bytes s d) ≡ fill b d → natural (bit_list bytes (s + d) k) ≡ fill b k → natural (bit_list bytes s (d + k)) ≡ fill b (d + k)
fill-more b bytes s d k e f = natural-split bytes s d k ∙ fill-both b (natural (bit_list bytes s d)) (natural (bit_list bytes (s + d) k)) d k e f

pub fill-part : (b : Bool) (bytes : List ℕ) (s n d k : ℕ) → d + k ≤ n → natural (bit_list bytes s n) ≡ fill b n → natural (bit_list bytes (s + d) k) ≡ fill b k
fill-part b bytes s n d k h e =
    let r = n - (d + k) in
    let whole : n ≡ d + k + r = omega arith in
    let e' : natural (bit_list bytes s (d + k + r)) ≡ fill b (d + k + r) = rw whole at e in
    let front : natural (bit_list bytes s (d + k)) ≡ fill b (d + k)
    = fill-high b (natural (bit_list bytes s (d + k))) (natural (bit_list bytes (s + (d + k)) r)) (d + k) r (natural-bound bytes s (d + k)) (natural-bound bytes (s + (d + k)) r) (sym (natural-split bytes s (d + k) r) ∙ e') in
    fill-low b (natural (bit_list bytes s d)) (natural (bit_list bytes (s + d) k)) d k (natural-bound bytes s d) (natural-bound bytes (s + d) k) (sym (natural-split bytes s d k) ∙ front)

-- ---- reordered bits are all alike where the bits are
fill-append : (b : Bool) (xs ys : List Bool) → natural xs ≡ fill b (length xs) → natural ys ≡ fill b (length ys) → natural (xs ++ ys) ≡ fill b (length xs + length ys)
fill-append b xs ys e f = natural-append xs ys ∙ fill-both b (natural xs) (natural ys) (length xs) (length ys) e f

append-front : (b : Bool) (xs ys : List Bool) → natural (xs ++ ys) ≡ fill b (length xs + length ys) → natural xs ≡ fill b (length xs)
append-front b xs ys e = fill-high b (natural xs) (natural ys) (length xs) (length ys) (natural-lt xs) (natural-lt ys) (sym (natural-append xs ys) ∙ e)

append-back : (b : Bool) (xs ys : List Bool) → natural (xs ++ ys) ≡ fill b (length xs + length ys) → natural ys ≡ fill b (length ys)
append-back b xs ys e = fill-low b (natural xs) (natural ys) (length xs) (length ys) (natural-lt xs) (natural-lt ys) (sym (natural-append xs ys) ∙ e)

cut_at : (n : ℕ) (xs : List Bool) → length (take n xs) + length (drop n xs) ≡ length xs
cut_at n xs = sym (length-append (take n xs) (drop n xs)) ∙ ap length (take-append-drop n xs)

pub fill-reversed : (b : Bool) (k : ℕ) (xs : List Bool) → natural xs ≡ fill b (length xs) → natural (reversed_groups k xs) ≡ fill b (length xs)
fill-reversed b zero xs e = e
fill-reversed b (suc k) xs e =
    let front = take 8 xs in
    let back = drop 8 xs in
    let c : length front + length back ≡ length xs = cut_at 8 xs in
    let whole : natural (front ++ back) ≡ fill b (length front + length back) = ap natural (take-append-drop 8 xs) ∙ e ∙ ap (fill b) (sym c) in
    let ih : natural (reversed_groups k back) ≡ fill b (length back) = fill-reversed b k back (append-back b front back whole) in
    let l : length (reversed_groups k back) ≡ length back = length-reversed_groups k back in
    let t : length back + length front ≡ length xs = omega arith in
    fill-append b (reversed_groups k back) front (ih ∙ ap (fill b) (sym l)) (append-front b front back whole)
    ∙ ap (λ n. fill b (n + length front)) l ∙ ap (fill b) t

pub fill-back : (b : Bool) (k : ℕ) (xs : List Bool) → natural (reversed_groups k xs) ≡ fill b (length xs) → natural xs ≡ fill b (length xs)
fill-back b zero xs e = e
fill-back b (suc k) xs e =
    let front = take 8 xs in
    let back = drop 8 xs in
    let c : length front + length back ≡ length xs = cut_at 8 xs in
    let l : length (reversed_groups k back) ≡ length back = length-reversed_groups k back in
    let t : length xs ≡ length (reversed_groups k back) + length front = omega arith in
    let whole : natural (reversed_groups k back ++ front) ≡ fill b (length (reversed_groups k back) + length front) = e ∙ ap (fill b) t in
    let ih : natural back ≡ fill b (length back) = fill-back b k back (append-front b (reversed_groups k back) front whole ∙ ap (fill b) l) in
    let f : natural front ≡ fill b (length front) = append-back b (reversed_groups k back) front whole in
    ap natural (sym (take-append-drop 8 xs)) ∙ fill-append b front back f ih ∙ ap (fill b) c

same_test : (n m f : ℕ) → (n ≡ f → m ≡ f) → (m ≡ f → n ≡ f) → (v : ℤ) → cond (n == f) (Some v) None ≡ cond (m == f) (Some v) None
same_test n m f go back v = elim (cases_eq n f) [
  | inl e ↦ let e' : m ≡ f = go e in rw (e, e') refl
  | inr ne ↦ ap (λ (b : Bool). cond b (Some v) None) (ne_eqb n f ne ∙ sym (ne_eqb m f (λ e. ne (back e))))
]

pub extended-reordered : (v : Option ℤ) (h : ℕ) (xs : List Bool) → length xs ≡ h → extended v h (natural xs) ≡ extended v h (natural (reordered xs))
unfolding reordered
extended-reordered None h xs l = refl
extended-reordered (Some v) h xs l =
    let b = is_negative v in
    let k = length xs / 8 in
    rw (← l) (same_test (natural xs) (natural (reversed_groups k xs)) (fill b (length xs)) (fill-reversed b k xs) (fill-back b k xs) v)
