-- Rows of items: how many there are, items put in front one by one, and what is known where everything is.
use Rattle.std.proofs.Common.{◌≡◌, ◌++◌, List, [], ◌∷◌, ℕ, length, ap, refl, arith}
use Rattle.term_value.specs.Seen.{Seen, SInt, SAtom, SPid, STuple, SList, SBits, Row, end, then, count_of, IsKnown, AreKnown}
use Rattle.term_value.specs.Terms.{seen, row}
use Rattle.term_value.specs.declared.term.Term.{Term}

pub row_length : {R : Type 0} (ts : List (Term R)) → count_of (row ts) ≡ length ts
row_length [] = refl
row_length (t ∷ ts) = omega (arith, row_length ts)

-- a row with these items in front
abbrev pub onto : {R : Type 0} → List (Term R) → Row R → Row R
onto [] r = r
onto (t ∷ ts) r = then (seen t) (onto ts r)

pub onto_end : {R : Type 0} (ts : List (Term R)) → onto ts end ≡ row ts
onto_end [] = refl
onto_end (t ∷ ts) = ap (then (seen t)) (onto_end ts)

pub onto_last : {R : Type 0} (ts : List (Term R)) (t : Term R) (r : Row R) → onto (ts ++ t ∷ []) r ≡ onto ts (then (seen t) r)
onto_last [] t r = refl
onto_last (u ∷ ts) t r = ap (then (seen u)) (onto_last ts t r)

-- where any reference and any atom is known
mutual
  pub any_known : {R : Type 0} (s : Seen R) → IsKnown (λ b. Unit {0}) (λ a. Unit {0}) s
  any_known (SInt n) = tt
  any_known (SAtom a) = tt
  any_known (SPid p) = tt
  any_known (STuple r) = any_row_known r
  any_known (SList r) = any_row_known r
  any_known (SBits b) = tt

  any_row_known : {R : Type 0} (r : Row R) → AreKnown (λ b. Unit {0}) (λ a. Unit {0}) r
  any_row_known end = tt
  any_row_known (then s r) = (any_known s, any_row_known r)
