-- Bytes by their bits.
use Rattle.std.proofs.Common.{◌≡◌, ℕ, ◌*◌, ◌^◌, ◌<◌, ◌≤◌, Bool, List, length, take, drop, get_or, ap, sym, ◌∙◌, arith}
use Rattle.std.proofs.lemmas.List.{same_lists, length-take-le, take-append-drop, take_at}
use Rattle.std.proofs.lemmas.Grind.{get_or_default_zero}
use Rattle.bits_value.specs.Bits.{all_bits}
use Rattle.bits_value.specs.Number.{natural}
use Rattle.bits_value.proofs.Gathered.{natural-byte}
use Rattle.bits_value.proofs.Written.{length-all_bits, bit_list-cut}
use Rattle.bits_value.proofs.Copied.{all_bits-append}

-- the bits of the first bytes
pub all_bits-take : (bytes : List ℕ) (n : ℕ) → n ≤ length bytes → all_bits (take n bytes) ≡ take (8 * n) (all_bits bytes)
all_bits-take bytes n h =
    let l : length (all_bits (take n bytes)) ≡ 8 * n = length-all_bits (take n bytes) ∙ ap (λ k. 8 * k) (length-take-le n bytes h) in
    sym (ap (λ (w : List ℕ). take (8 * n) (all_bits w)) (sym (take-append-drop n bytes)) ∙ ap (take (8 * n)) (all_bits-append (take n bytes) (drop n bytes))
    ∙ take_at (all_bits (take n bytes)) (all_bits (drop n bytes)) (8 * n) l)

byte-of : (bytes : List ℕ) (i : ℕ) → i < length bytes → get_or bytes i 0 < 2 ^ 8 → get_or bytes i 0 ≡ natural (take 8 (drop (8 * i) (all_bits bytes)))
byte-of bytes i h b = sym (ap natural (sym (bit_list-cut bytes (8 * i) 8 (omega arith))) ∙ natural-byte bytes i b)

-- no two lists of bytes have the same bits
pub all_bits-inj : (xs ys : List ℕ) → ((i : ℕ) → i < length xs → get_or xs i 0 < 2 ^ 8) → ((i : ℕ) → i < length ys → get_or ys i 0 < 2 ^ 8) → all_bits xs ≡ all_bits ys → xs ≡ ys
all_bits-inj xs ys bx by' e =
    let lx = length-all_bits xs in
    let ly = length-all_bits ys in
    let le : length (all_bits xs) ≡ length (all_bits ys) = ap length e in
    let l : length xs ≡ length ys = omega arith in
    same_lists _ _ l (λ i d h.
    let g : i < length ys = omega arith in
    get_or_default_zero xs i d h ∙ byte-of xs i h (bx i h) ∙ ap (λ (w : List Bool). natural (take 8 (drop (8 * i) w))) e
    ∙ sym (get_or_default_zero ys i d g ∙ byte-of ys i g (by' i g)))
