-- Numbers of any length, by their lowest 128 bits and those above them.
use Rattle.std.proofs.Common.{◌≡◌, ℕ, ◌+◌, ◌*◌, ◌^◌, ◌<◌, Bool, List, [], ◌∷◌, ◌++◌, length, refl, ap, sym, ◌∙◌, arith}
use Rattle.std.proofs.lemmas.List.{append-nil}
use Rattle.bits_value.specs.Bits.{bit_list}
use Rattle.bits_value.specs.Number.{natural, with_sign, bounded, reordered}
use Rattle.bits_value.specs.Parts.{extended, sign_value}
use Rattle.bits_value.specs.declared.Sign.{Sign}
use Rattle.bits_value.proofs.BitLists.{length-bit_list, natural-append, natural-lt, bit_list-append}
use Rattle.bits_value.proofs.Gathered.{natural-split, natural-bound}
use Rattle.bits_value.proofs.Little.{reordered-append, length-reordered}
use Rattle.bits_value.proofs.Fills.{extended-reordered}
use Rattle.bits_value.proofs.Values.{with_sign-value, wide}

pub wide-big : (bytes : List ℕ) (s high low : ℕ) (g : Sign) → (0 < high → low ≡ 128) →
    extended (bounded (sign_value g low (natural (bit_list bytes (s + high) low)))) high (natural (bit_list bytes s high)) ≡ bounded (with_sign g (bit_list bytes s (high + low)))
wide-big bytes s high low g w =
    let x = natural (bit_list bytes s high) in
    let y = natural (bit_list bytes (s + high) low) in
    let bits = bit_list bytes s (high + low) in
    sym (ap bounded (with_sign-value g bits) ∙ ap (λ n. bounded (sign_value g n (natural bits))) (length-bit_list bytes s (high + low))
    ∙ ap (λ n. bounded (sign_value g (high + low) n)) (natural-split bytes s high low)
    ∙ wide g high low x y (natural-bound bytes s high) (natural-bound bytes (s + high) low) w)

reordered-nil : (xs : List Bool) → length xs ≡ 0 → natural (reordered xs) ≡ 0
reordered-nil xs l =
    let b : natural (reordered xs) < 2 ^ length (reordered xs) = natural-lt (reordered xs) in
    let e : length (reordered xs) ≡ 0 = length-reordered xs ∙ l in
    let c : natural (reordered xs) < 2 ^ 0 = rw e at b in
    omega arith

natural-reordered : (low : ℕ) (xs ys : List Bool) → length xs ≡ low → (0 < length ys → low ≡ 128) → natural (reordered (xs ++ ys)) ≡ natural (reordered ys) * 2 ^ low + natural (reordered xs)
natural-reordered low xs [] l w =
    let z : natural (reordered []) ≡ 0 = reordered-nil [] refl in
    rw (append-nil xs, z) (omega arith)
natural-reordered low xs (y ∷ ys) l w =
    let e : low ≡ 128 = w (omega arith) in
    let lx : length xs ≡ 8 * 16 = omega arith in
    ap natural (reordered-append 16 xs (y ∷ ys) lx) ∙ natural-append (reordered (y ∷ ys)) (reordered xs)
    ∙ ap (λ n. natural (reordered (y ∷ ys)) * 2 ^ n + natural (reordered xs)) (length-reordered xs ∙ l)

pub wide-little : (bytes : List ℕ) (s high low : ℕ) (g : Sign) → (0 < high → low ≡ 128) →
    extended (bounded (sign_value g low (natural (reordered (bit_list bytes s low))))) high (natural (bit_list bytes (s + low) high)) ≡ bounded (with_sign g (reordered (bit_list bytes s (low + high))))
wide-little bytes s high low g w =
    let xs = bit_list bytes s low in
    let ys = bit_list bytes (s + low) high in
    let lx : length xs ≡ low = length-bit_list bytes s low in
    let ly : length ys ≡ high = length-bit_list bytes (s + low) high in
    let bits = reordered (bit_list bytes s (low + high)) in
    let lb : length bits ≡ high + low = length-reordered (bit_list bytes s (low + high)) ∙ length-bit_list bytes s (low + high) ∙ omega arith in
    let bx : natural (reordered xs) < 2 ^ low = let c : natural (reordered xs) < 2 ^ length (reordered xs) = natural-lt (reordered xs) in rw (length-reordered xs, lx) at c in
    let by' : natural (reordered ys) < 2 ^ high = let c : natural (reordered ys) < 2 ^ length (reordered ys) = natural-lt (reordered ys) in rw (length-reordered ys, ly) at c in
    let n : natural bits ≡ natural (reordered ys) * 2 ^ low + natural (reordered xs)
    = ap (λ (b : List Bool). natural (reordered b)) (bit_list-append bytes s low high) ∙ natural-reordered low xs ys lx (λ h. w (omega arith)) in
    extended-reordered (bounded (sign_value g low (natural (reordered xs)))) high ys ly
    ∙ sym (ap bounded (with_sign-value g bits) ∙ ap (λ k. bounded (sign_value g k (natural bits))) lb
    ∙ ap (λ k. bounded (sign_value g (high + low) k)) n
    ∙ wide g high low (natural (reordered ys)) (natural (reordered xs)) by' bx w)
