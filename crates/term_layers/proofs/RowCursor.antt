-- The rows of what is left: a step of a cursor gives the first row and what is left behind it.
use Rattle.std.proofs.Common.{◌≡◌, ℕ, zero, suc, ◌<◌, ◌≤◌, List, ◌∷◌, refl, ap, sym, ◌∙◌, Bool, true, false, length, arith}
use Rattle.std.specs.Prelude.{nat_lt}
use Rattle.term_value.specs.Setting.{Setting}
use Rattle.term_value.specs.Tree.{Bound, Row, Found, Skipped, Segments}
use Rattle.term_value.specs.Decode.{Taken, Cut, NoCut, CutLimit}
use Rattle.term_value.specs.Match.{all_taken}
use Rattle.term_value.specs.Rows.{Front, Takes, Ends, AtLimit, takes_where, skips, first_or_skips, front, row_then, bit_rows}

below : (m n : ℕ) → nat_lt m n ≡ true → m < n
below m n h = grind (arith, h)

-- what a row takes leaves fewer bits
abbrev IsShorter : List Bool → Front → Type 0
IsShorter bits (Takes row rest) = length rest < length bits
IsShorter bits Ends = Unit {0}
IsShorter bits AtLimit = Unit {0}

where_shorter : (bits : List Bool) (row : Row) (rest : List Bool) (b : Bool) → b ≡ nat_lt (length rest) (length bits) → IsShorter bits (takes_where b row rest)
where_shorter bits row rest true e = below _ _ (sym e)
where_shorter bits row rest false e = tt

skips_shorter : (bits : List Bool) (t : Taken) → IsShorter bits (skips bits t)
skips_shorter bits (Cut bs rest) = where_shorter bits Skipped rest (nat_lt (length rest) (length bits)) refl
skips_shorter bits NoCut = tt
skips_shorter bits CutLimit = tt

first_shorter : (bits : List Bool) (u t : Taken) → IsShorter bits (first_or_skips bits u t)
first_shorter bits u (Cut bs rest) = where_shorter bits (Found bs) rest (nat_lt (length rest) (length bits)) refl
first_shorter bits u NoCut = skips_shorter bits u
first_shorter bits u CutLimit = tt

then_same : (f g : List Bool → List Row) (bits : List Bool) (r : Front) → IsShorter bits r → ((rest : List Bool) → length rest < length bits → f rest ≡ g rest) → row_then f r ≡ row_then g r
then_same f g bits (Takes row rest) l h = ap (λ rows. row ∷ rows) (h rest l)
then_same f g bits Ends l h = refl
then_same f g bits AtLimit l h = refl

module _ (s : Setting) (ss sh : Segments) (bs : List Bound) where
  front_same : (f g : List Bool → List Row) (bits : List Bool) → ((rest : List Bool) → length rest < length bits → f rest ≡ g rest) → row_then f (front s ss sh bs bits) ≡ row_then g (front s ss sh bs bits)
  front_same f g bits h = then_same f g bits (front s ss sh bs bits) (first_shorter bits (all_taken s sh bs bits) (all_taken s ss bs bits)) h

  pub any_fuel : (n m : ℕ) (bits : List Bool) → length bits ≤ n → length bits ≤ m → bit_rows s ss sh bs n bits ≡ bit_rows s ss sh bs m bits
  any_fuel zero zero bits h g = refl
  any_fuel zero (suc m) bits h g = front_same _ _ bits (λ rest lt. absurd (omega (arith, lt, h)))
  any_fuel (suc n) zero bits h g = front_same _ _ bits (λ rest lt. absurd (omega (arith, lt, g)))
  any_fuel (suc n) (suc m) bits h g = front_same _ _ bits (λ rest lt. any_fuel n m rest (omega (arith, lt, h)) (omega (arith, lt, g)))

  pub cursor : (bits : List Bool) → bit_rows s ss sh bs (length bits) bits ≡ row_then (λ rest. bit_rows s ss sh bs (length rest) rest) (front s ss sh bs bits)
  cursor bits =
      any_fuel (length bits) (suc (length bits)) bits (omega arith) (omega arith)
      ∙ front_same _ _ bits (λ rest lt. any_fuel (length bits) (length rest) rest (omega (arith, lt)) (omega arith))
