-- Places of a text, byte by byte and over several bytes.
use Rattle.std.proofs.Common.{◌≡◌, ℕ, zero, suc, ◌+◌, ◌-◌, ◌<◌, ◌≤◌, List, [], ◌∷◌, length, drop, take, get_or, refl, sym, ap, arith, ◌∙◌, zero-add}
use Rattle.std.proofs.lemmas.List.{length-take-le}
use Rattle.erl_syntax.specs.declared.span.Span.{Span}
use Rattle.erl_syntax.specs.Tokens.{after, place_from, place}
use Rattle.erl_tokens.proofs.Numbers.{at_front}

pub place_step : (at : Span) (i : ℕ) (bs : List ℕ) → i < length bs →
    place_from at (length bs - i) (drop i bs) ≡ place_from (after (get_or bs i 0) at) (length bs - (i + 1)) (drop (i + 1) bs)
place_step at i bs h =
    let e : length bs - i ≡ suc (length bs - (i + 1)) = omega arith in
    rw (e, at_front i bs h) refl

place_nil : (at : Span) (n : ℕ) → place_from at n [] ≡ at
place_nil at zero = refl
place_nil at (suc n) = refl

place_sum : (at : Span) (i n : ℕ) (bs : List ℕ) → place_from at (i + n) bs ≡ place_from (place_from at i bs) n (drop i bs)
place_sum at zero n bs = ap (λ m. place_from at m bs) (zero-add n)
place_sum at (suc i) n [] = place_nil at (suc i + n) ∙ sym (place_nil at n)
place_sum at (suc i) n (b ∷ bs) =
    let e : suc i + n ≡ suc (i + n) = omega arith in
    rw e (place_sum (after b at) i n bs)

place_take : (at : Span) (n : ℕ) (bs : List ℕ) → place_from at n (take n bs) ≡ place_from at n bs
place_take at zero bs = refl
place_take at (suc n) [] = refl
place_take at (suc n) (b ∷ bs) = place_take (after b at) n bs

pub place_next : (i n : ℕ) (at next : Span) (text tail : List ℕ) → tail ≡ drop i text → at ≡ place text i → n ≤ length tail →
    next ≡ place_from at (length (take n tail)) (take n tail) → next ≡ place text (i + n)
place_next i n at next text tail t p h e =
    let l : length (take n tail) ≡ n = length-take-le n tail h in
    let s : Span = record { line = 1; column = 1 } in
    e ∙ ap (λ m. place_from at m (take n tail)) l ∙ place_take at n tail ∙ ap (λ u. place_from at n u) t ∙ ap (λ u. place_from u n (drop i text)) p ∙ sym (place_sum s i n text)
