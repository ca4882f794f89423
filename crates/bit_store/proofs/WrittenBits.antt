-- What stands in front after a write.
use Rattle.std.proofs.Common.{◌≡◌, ℕ, ◌+◌, ◌*◌, ◌≤◌, Bool, List, [], ◌∷◌, ◌++◌, length, take, drop, refl, sym, ap, ◌∙◌, arith, append_assoc, zero-add}
use Rattle.std.proofs.lemmas.List.{length-take-le, length-append, take_at}
use Rattle.bits_value.specs.Bits.{all_bits, bit_list}
use Rattle.bits_value.proofs.Written.{bit_list-front}

pub front_written : (new old x : List Bool) (at n : ℕ) → at + n ≤ length old → length x ≡ n → new ≡ take at old ++ (x ++ drop (at + n) old) → take (at + n) new ≡ take at old ++ x
front_written new old x at n h l e =
    let front = take at old ++ x in
    let lf : length front ≡ at + n = length-append (take at old) x ∙ omega (arith, length-take-le at old (omega arith), l) in
    ap (take (at + n)) (e ∙ sym (append_assoc (take at old) x (drop (at + n) old))) ∙ take_at front (drop (at + n) old) (at + n) lf

-- what a copy leaves in front
pub source_written : (new old source : List Bool) (at n : ℕ) → at + n ≤ length old → length source ≡ n → new ≡ take at old ++ (source ++ drop (at + length source) old) → take (at + n) new ≡ take at old ++ source
source_written new old source at n h size e =
    front_written new old source at n h size (e ∙ ap (λ (k : ℕ). take at old ++ (source ++ drop (at + k) old)) size)

pub bytes_written : (new old : List Bool) (bytes : List ℕ) (source : List Bool) (at : ℕ) → at + 8 * length bytes ≤ length old → source ≡ bit_list bytes 0 (8 * length bytes) → length source ≡ 8 * length bytes
    → new ≡ take at old ++ (source ++ drop (at + length source) old) → take (at + 8 * length bytes) new ≡ take at old ++ all_bits bytes
unfolding all_bits
bytes_written new old bytes source at h is size e = source_written new old source at (8 * length bytes) h size e ∙ ap (λ (w : List Bool). take at old ++ w) is

-- the bits of a buffer that was written into from its front
pub frozen_is : (new rest : List ℕ) (n total k : ℕ) (bits frozen : List Bool) → length new ≡ n → total ≤ 8 * length new → total ≡ k
    → frozen ≡ bit_list (take n (new ++ rest)) 0 total → take k (all_bits new) ≡ bits → frozen ≡ bits
frozen_is new rest n total k bits frozen l room size is front =
    is ∙ ap (λ (w : List ℕ). bit_list w 0 total) (take_at new rest n l) ∙ bit_list-front new total room ∙ ap (λ (m : ℕ). take m (all_bits new)) size ∙ front

pub no_bits : (xs : List Bool) → length xs ≡ 0 → xs ≡ []
no_bits [] h = refl
no_bits (x ∷ xs) h = cc

-- bits at the front, and then others
pub after_first : (mid old first : List Bool) (n : ℕ) → n ≤ length old → length first ≡ n → mid ≡ take 0 old ++ (first ++ drop (0 + length first) old) → take n mid ≡ first
after_first mid old first n h size e = ap (λ (k : ℕ). take k mid) (sym (zero-add n)) ∙ source_written mid old first 0 n (omega arith) size e
