-- The test of the bounds, by the numbers that are kept.
use Rattle.std.proofs.Common.{◌≡◌, ◌+◌, ◌-◌, ◌^◌, ◌<◌, ◌&&◌, ◌∙◌, ℕ, Bool, true, false, List, min, nat_le, ap, sym, refl, arith}
use Rattle.std.proofs.lemmas.Bool.{leb-true, leb-false, le-leb, lt-leb}
use Rattle.term_value.specs.Value.{VTuple, VList, count, weight, depth}
use Rattle.term_value.specs.Seen.{Row, count_of, weights_of, depths_of, meanings}
use Rattle.term_value.specs.Bounds.{is_within}
use Rattle.term_value.proofs.Measures.{counts, weigh_same, deeps_same}

-- a bound below the cap is passed where the capped number passes it
capped : (n w b : ℕ) → w ≡ min n (2 ^ 32 - 1) → b < 2 ^ 32 - 1 → nat_le w b ≡ nat_le n b
capped n w b e h = by_case (nat_le n b) refl where
  by_case : (test : Bool) → nat_le n b ≡ test → nat_le w b ≡ nat_le n b
  by_case true p = let q = leb-true n b p in le-leb w b (omega arith) ∙ sym p
  by_case false p = let q = leb-false n b p in lt-leb w b (omega arith) ∙ sym p

module _ {R : Type 0} (bits : R → List Bool) (r : Row R) (l w w' d d' : ℕ) (test : Bool) (hl : l ≡ min (count_of r) (2 ^ 32 - 1)) (hw : w ≡ min (weights_of r) (2 ^ 32 - 1)) (hw' : w' ≡ min (w + 1) (2 ^ 32 - 1))
    (hd : d ≡ min (depths_of r) (2 ^ 32 - 1)) (hd' : d' ≡ min (d + 1) (2 ^ 32 - 1)) (is : test ≡ (nat_le l (2 ^ 20) && (nat_le w' (2 ^ 22) && nat_le d' 256))) where
  abbrev numbers : Bool
  numbers = nat_le (count (meanings bits r)) (2 ^ 20) && (nat_le (weight (VList (meanings bits r))) (2 ^ 22) && nat_le (depth (VList (meanings bits r))) 256)

  in_numbers : test ≡ numbers
  in_numbers =
      let a = capped (count (meanings bits r)) l (2 ^ 20) (omega (arith, hl, counts bits r)) (omega arith) in
      let b = capped (weight (VList (meanings bits r))) w' (2 ^ 22) (omega (arith, hw, hw', weigh_same bits r)) (omega arith) in
      let c = capped (depth (VList (meanings bits r))) d' 256 (omega (arith, hd, hd', deeps_same bits r)) (omega arith) in
      is ∙ ap (λ x. x && (nat_le w' (2 ^ 22) && nat_le d' 256)) a ∙ ap (λ x. nat_le (count (meanings bits r)) (2 ^ 20) && (x && nat_le d' 256)) b
      ∙ ap (λ x. nat_le (count (meanings bits r)) (2 ^ 20) && (nat_le (weight (VList (meanings bits r))) (2 ^ 22) && x)) c

  pub list_within : test ≡ is_within (VList (meanings bits r))
  list_within = in_numbers

  pub tuple_within : test ≡ is_within (VTuple (meanings bits r))
  tuple_within = in_numbers
