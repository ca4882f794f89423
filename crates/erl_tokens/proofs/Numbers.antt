-- Numbers of digits: one more digit makes none smaller.
use Rattle.std.proofs.Common.{◌≡◌, ℕ, suc, ◌+◌, ◌*◌, ◌<◌, ◌≤◌, Bool, true, false, ◌==◌, if◌then◌else◌, List, [], ◌∷◌, length, drop, get_or, refl, arith, add-one, ◌∙◌, le_trans}
use Rattle.std.proofs.Math.Nat.{mul-le-mul_left}
use Rattle.std.proofs.Math.Seq.{drop-cons}
use Rattle.std.specs.Char.{digit_value}
use Rattle.std.proofs.lemmas.Grind.{common_steps}
use Rattle.erl_syntax.specs.Tokens.{digits_len, goes_on}
use Rattle.erl_syntax.specs.Characters.{with_digit, number, number_after}

pub at_front : (i : ℕ) (bs : List ℕ) → i < length bs → drop i bs ≡ get_or bs i 0 ∷ drop (i + 1) bs
at_front i bs h = rw (add-one, ← drop-cons bs i 0) refl

digit_by : (base n d : ℕ) (c : Bool) → 0 < base → n ≤ (if c then n else n * base + d)
digit_by base n d true h = omega arith
digit_by base n d false h = omega (arith, mul-le-mul_left n h)

pub digit_grows : (base n b : ℕ) → 0 < base → n ≤ with_digit base n b
digit_grows base n b h = digit_by base n (digit_value b) (b == 95) h

pub grows : (base n : ℕ) (bs : List ℕ) → 0 < base → n ≤ number_after base n bs
grows base n [] h = omega arith
grows base n (b ∷ bs) h = omega (arith, digit_grows base n b h, grows base (with_digit base n b) bs h)

pub number_step : (base n i : ℕ) (bs : List ℕ) → i < length bs →
    number_after base n (drop i bs) ≡ number_after base (with_digit base n (get_or bs i 0)) (drop (i + 1) bs)
number_step base n i bs h = rw (at_front i bs h) refl

pub too_wide : (base n i limit : ℕ) (bs : List ℕ) → i < length bs → 0 < base → number base bs ≡ number_after base n (drop i bs) →
    limit ≤ with_digit base n (get_or bs i 0) → limit ≤ number base bs
too_wide base n i limit bs h p e l =
    let more : ℕ = with_digit base n (get_or bs i 0) in
    let g : more ≤ number_after base more (drop (i + 1) bs) = grows base more (drop (i + 1) bs) p in
    let f : number base bs ≡ number_after base more (drop (i + 1) bs) = e ∙ number_step base n i bs h in
    rw f (le_trans l g)

next_byte : (i : ℕ) (bs : List ℕ) → get_or (drop i bs) 0 0 ≡ get_or bs i 0
next_byte i bs = grind (arith, common_steps)

digits_front : (base i : ℕ) (bs : List ℕ) → i < length bs →
    digits_len base (drop i bs) ≡ (if goes_on base (get_or bs i 0) (get_or bs (i + 1) 0) then suc (digits_len base (drop (i + 1) bs)) else 0)
digits_front base i bs h = rw (at_front i bs h, ← next_byte (i + 1) bs) refl

pub digits_go_on : (base i : ℕ) (bs : List ℕ) → i < length bs → goes_on base (get_or bs i 0) (get_or bs (i + 1) 0) ≡ true →
    digits_len base (drop i bs) ≡ suc (digits_len base (drop (i + 1) bs))
digits_go_on base i bs h e = rw (digits_front base i bs h, e) refl

pub digits_stop : (base i : ℕ) (bs : List ℕ) → i < length bs → goes_on base (get_or bs i 0) (get_or bs (i + 1) 0) ≡ false →
    digits_len base (drop i bs) ≡ 0
digits_stop base i bs h e = rw (digits_front base i bs h, e) refl
