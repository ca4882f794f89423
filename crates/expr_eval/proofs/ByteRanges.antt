-- The bytes that are named lie inside; a tuple that is no pair names none.
use Rattle.std.proofs.Common.{◌≡◌, ℕ, pos, negsuc, ◌+◌, ◌-◌, ◌*◌, ◌/◌, ◌%◌, ◌<◌, ◌≤◌, ◌⊎◌, Bool, true, false, cond, ◌&&◌, nat_eq, nat_le, nat_lt, List, [], ◌∷◌, length, Some, None, refl, ap, inl, inr, arith}
use Rattle.std.proofs.lemmas.Bool.Decides.{nat_tests}
use Rattle.term_value.specs.BuiltIns.{badarg, binary_part_of}
use Rattle.term_value.specs.Value.{Value, VInt, VTuple}
use Rattle.term_value.specs.Seen.{meanings}
use Rattle.term_value.specs.Terms.{row}
use Rattle.term_value.specs.declared.term.Term.{Term}
use Rattle.expr_eval.specs.Ranges.{range_within, wanted, front_of}
use Rattle.expr_eval.specs.declared.parts.ByteRange.{ByteRange}

cond_some : (b : Bool) (r q : ByteRange) → Some r ≡ cond b (Some q) None → (b ≡ true) × (r ≡ q)
cond_some true r q e = (refl, cc)
cond_some false r q e = (cc, cc)

in_bytes : (bits first count : ℕ) → (nat_eq (bits % 8) 0 && nat_le (first + count) (bits / 8)) ≡ true → 8 * first + 8 * count ≤ bits
in_bytes bits first count h = grind (arith, nat_tests)

within_inside : (bits first count : ℕ) (r : ByteRange) → Some r ≡ range_within bits first count → 8 * r.first + 8 * r.count ≤ bits
within_inside bits first count r e =
    let w = cond_some (nat_eq (bits % 8) 0 && nat_le (first + count) (bits / 8)) r (record { first = first; count = count }) e in
    let f : r.first ≡ first = ap (λ (q : ByteRange). q.first) w.1 in
    let n : r.count ≡ count = ap (λ (q : ByteRange). q.count) w.1 in
    omega (arith, in_bytes bits first count w.0)

before_inside : (b : Bool) (bits first count : ℕ) (r : ByteRange) → Some r ≡ cond b (range_within bits first count) None → 8 * r.first + 8 * r.count ≤ bits
before_inside true bits first count r e = within_inside bits first count r e
before_inside false bits first count r e = absurd (cc)

pub wanted_inside : (bits : ℕ) (v w : Value) (r : ByteRange) → Some r ≡ wanted bits v w → 8 * r.first + 8 * r.count ≤ bits
wanted_inside bits (VInt (pos s)) (VInt (pos n)) r e = within_inside bits s n r e
wanted_inside bits (VInt (pos s)) (VInt (negsuc n)) r e = before_inside (nat_lt n s) bits (s - (n + 1)) (n + 1) r e
wanted_inside bits (VInt (negsuc s)) (VInt n) r e = absurd (cc)
wanted_inside bits v w r e = absurd (cc)

cond_count : (b : Bool) (n m : ℕ) → Some n ≡ cond b (Some m) None → (b ≡ true) × (n ≡ m)
cond_count true n m e = (refl, cc)
cond_count false n m e = (cc, cc)

in_front : (bits count : ℕ) → (nat_eq (bits % 8) 0 && nat_le count (bits / 8)) ≡ true → 8 * count ≤ bits
in_front bits count h = grind (arith, nat_tests)

pub front_inside : (bits : ℕ) (v : Value) (n : ℕ) → Some n ≡ front_of bits v → 8 * n ≤ bits
front_inside bits (VInt (pos m)) n e =
    let w = cond_count (nat_eq (bits % 8) 0 && nat_le m (bits / 8)) n m e in
    omega (arith, w.1, in_front bits m w.0)
front_inside bits (VInt (negsuc m)) n e = absurd (cc)
front_inside bits v n e = absurd (cc)

pub no_pair : {R : Type 0} (shown : R → List Bool) (v : Value) (ts : List (Term R)) → (length ts < 2) ⊎ (3 ≤ length ts) → badarg ≡ binary_part_of v (VTuple (meanings shown (row ts)))
no_pair shown v [] h = refl
no_pair shown v (a ∷ []) h = refl
no_pair shown v (a ∷ b ∷ []) (inl h) = absurd (omega arith)
no_pair shown v (a ∷ b ∷ []) (inr h) = absurd (omega arith)
no_pair shown v (a ∷ b ∷ c ∷ ts) h = refl
