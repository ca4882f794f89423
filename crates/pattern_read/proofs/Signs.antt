-- The value of an integer with a sign before it.
use Rattle.std.proofs.Common.{◌≡◌, ℕ, zero, suc, ℤ, ◌<◌, ◌^◌, ◌⊎◌, inl, inr, ap, ◌∙◌, ◌-ℤ◌, pos, to_z, of_z, arith}
use Rattle.std.proofs.Math.Facts.{to_z-of_z}
use Rattle.std.proofs.Math.IntN.{negsuc, +ℤ_idl}
use mir.Syntax.{w128}
use lib.Signed.{mag}
use Rattle.erl_syntax.specs.declared.token.TokenKind.{TokenKind}
use Rattle.erl_syntax.specs.declared.token.TokenKind.TheVariants as k
use Rattle.erl_syntax.specs.Names.{Signed, plus, minus}

-- a number below 2^127 and what it is below zero keep their value in 128 bits
wide : (n : ℕ) → n < 2 ^ 127 → to_z w128 (of_z w128 (pos n)) ≡ pos n
wide n h = to_z-of_z {w = w128} {z = pos n} (record { sfits = h })

below : (n : ℕ) → n < 2 ^ 127 → mag (pos 0 -ℤ pos n) < 2 ^ 127
below zero h = omega arith
below (suc n) h = let e : pos 0 -ℤ pos (suc n) ≡ negsuc n = +ℤ_idl (negsuc n) in let m : mag (pos 0 -ℤ pos (suc n)) ≡ n = ap mag e in omega arith

wide_below : (n : ℕ) → n < 2 ^ 127 → to_z w128 (of_z w128 (pos 0 -ℤ pos n)) ≡ pos 0 -ℤ pos n
wide_below n h = to_z-of_z {w = w128} {z = pos 0 -ℤ pos n} (record { sfits = below n h })

pub sign_plus : (sign : TokenKind) (n : ℕ) (z : ℤ) → sign ≡ k.Plus → n < 2 ^ 127 → z ≡ pos n → Signed sign n (to_z w128 (of_z w128 z))
sign_plus sign n z e h f = plus sign n _ e (ap (λ v. to_z w128 (of_z w128 v)) f ∙ wide n h)

pub sign_minus : (sign : TokenKind) (n : ℕ) (z : ℤ) → sign ≡ k.Minus → n < 2 ^ 127 → z ≡ pos n → Signed sign n (to_z w128 (of_z w128 (pos 0 -ℤ to_z w128 (of_z w128 z))))
sign_minus sign n z e h f = minus sign n _ e (ap (λ v. to_z w128 (of_z w128 (pos 0 -ℤ to_z w128 (of_z w128 v)))) f ∙ ap (λ v. to_z w128 (of_z w128 (pos 0 -ℤ v))) (wide n h) ∙ wide_below n h)

pub not_minus : {sign : TokenKind} → (sign ≡ k.Plus ⊎ sign ≡ k.Minus) → (sign ≡ k.Minus → ⊥) → sign ≡ k.Plus
not_minus (inl e) f = e
not_minus (inr e) f = absurd (f e)
