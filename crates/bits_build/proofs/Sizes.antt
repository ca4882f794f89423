-- A size in units, past the bound.
use Rattle.std.proofs.Common.{◌≡◌, ℕ, ◌*◌, ◌<◌, ℤ, pos, negsuc, ◌≤ℤ◌, Some, refl, subst, arith}
use Rattle.std.proofs.lemmas.Int.{ints}
use Rattle.std.specs.Prelude.{unsigned_abs}
use Rattle.bits_value.specs.declared.TheConstants.{MAX_BITS}
use Rattle.term_value.specs.Extent.{Exactly, written}
use Rattle.term_value.specs.Value.{VInt}

pub past_bound : (unit n : ℕ) (z : ℤ) → pos 0 ≤ℤ z → n ≡ unsigned_abs z → MAX_BITS < n * unit
    → (x : ℕ) × (written unit (Some (VInt z)) ≡ Exactly x) × (MAX_BITS < x)
past_bound unit n (pos k) h e p = (k * unit, refl, subst (λ m. MAX_BITS < m * unit) e p)
past_bound unit n (negsuc k) h e p = absurd (omega (arith, ints))
