-- Numbers by their lowest bits and those above them, as the code reads them (this project's own).
use Rattle.std.specs.Prelude.{ℕ, ◌-◌, ◌*◌, ◌^◌, ◌==◌, Bool, true, false, cond, ℤ, pos, negsuc, Option, Some, None, nat_lt}
use Rattle.bits_value.specs.declared.Sign.{Sign}
use Rattle.bits_value.specs.declared.Sign.TheVariants.{Unsigned, Signed}

-- the natural number of `n` bits that are all alike
abbrev pub fill : Bool → ℕ → ℕ
fill false n = 0
fill true n = 2 ^ n - 1

-- the number of `k` bits whose natural number is `n`
abbrev pub sign_value : Sign → ℕ → ℕ → ℤ
sign_value Unsigned k n = pos n
sign_value Signed k n = cond (nat_lt (2 * n) (2 ^ k)) (pos n) (negsuc (2 ^ k - 1 - n))

abbrev pub is_negative : ℤ → Bool
is_negative (pos n) = false
is_negative (negsuc n) = true

-- the value of the lowest bits, where `h` bits above them, with the natural number `n`, repeat its sign
abbrev pub extended : Option ℤ → ℕ → ℕ → Option ℤ
extended None h n = None
extended (Some v) h n = cond (n == fill (is_negative v) h) (Some v) None
