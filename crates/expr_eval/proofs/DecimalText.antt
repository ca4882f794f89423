-- Decimal text, digit by digit.
use Rattle.std.proofs.Common.{◌≡◌, ◌≢◌, ℕ, pos, neg_ℤ, ◌+◌, ◌*◌, ◌/◌, ◌%◌, ◌<◌, Bool, true, false, cond, ◌&&◌, nat_eq, List, [], ◌∷◌, ◌++◌, length, get_or, take, min, Option, Some, None, refl, ap, sym, ◌∙◌, arith}
use Rattle.std.specs.Char.{digit_value}
use Rattle.std.specs.List.{list_all}
use Rattle.std.proofs.lemmas.Bool.Decides.{nat_tests}
use Rattle.std.proofs.lemmas.List.{take_more}
use Rattle.std.proofs.lemmas.List.Folds.{list_all_more}
use Rattle.bits_value.specs.Number.{bounded}
use Rattle.erl_syntax.specs.Characters.{is_digit, number, number_after, with_digit}
use Rattle.term_value.specs.Arithmetic.{value_or_limit}
use Rattle.term_value.specs.BuiltIns.{badarg, binary_to_integer, bytes_of, is_whole, digits_number, positive, negative, integer_of}
use Rattle.term_value.specs.Operators.{arithmetic_result}
use Rattle.term_value.specs.Primitives.{bounded_result}
use Rattle.term_value.specs.Result.{Result}
use Rattle.term_value.specs.Value.{VBits}
use Rattle.expr_eval.specs.Digits.{at_most}
use Rattle.expr_eval.proofs.Operations.{number_within}

both : (a b : Bool) → a ≡ true → b ≡ true → (a && b) ≡ true
both true b ae be = be
both false b ae be = cc

pub is_some_digit : (b : Bool) (v d : ℕ) → Some d ≡ cond b (Some v) None → (b ≡ true) × (d ≡ v)
is_some_digit true v d e = (refl, cc)
is_some_digit false v d e = (cc, cc)

is_no_digit : (b : Bool) (v : ℕ) → None ≡ cond b (Some v) None → b ≡ false
is_no_digit true v e = cc
is_no_digit false v e = refl

with_digit_is : (n b : ℕ) → is_digit 10 b ≡ true → with_digit 10 n b ≡ n * 10 + digit_value b
with_digit_is n b h = grind (arith, nat_tests)

after_last : (n b : ℕ) (ds : List ℕ) → number_after 10 n (ds ++ b ∷ []) ≡ with_digit 10 (number_after 10 n ds) b
after_last n b [] = refl
after_last n b (d ∷ ds) = after_last (with_digit 10 n d) b ds

module _ (ds : List ℕ) (i : ℕ) (h : i < length ds) where
  pub digits_next : list_all (is_digit 10) (take i ds) ≡ true → is_digit 10 (get_or ds i 0) ≡ true → list_all (is_digit 10) (take (i + 1) ds) ≡ true
  digits_next a b = list_all_more (is_digit 10) ds i 0 h ∙ both (list_all (is_digit 10) (take i ds)) (is_digit 10 (get_or ds i 0)) a b

  pub number_next : is_digit 10 (get_or ds i 0) ≡ true → number 10 (take (i + 1) ds) ≡ number 10 (take i ds) * 10 + digit_value (get_or ds i 0)
  number_next b = ap (number_after 10 0) (take_more ds i 0 h) ∙ after_last 0 (get_or ds i 0) (take i ds) ∙ with_digit_is (number 10 (take i ds)) (get_or ds i 0) b

pub saturates : (most x d n m k : ℕ) → n ≡ min x most → m ≡ min (n * 10) most → k ≡ min (m + d) most → k ≡ min (x * 10 + d) most
saturates most x d n m k ne me ke = omega arith

-- ---- signs
pub at_most_some : (most : ℕ) (o : Option ℕ) (n : ℕ) → Some n ≡ at_most most o → (exact : ℕ) × ((o ≡ Some exact) × (n ≡ min exact most))
at_most_some most (Some x) n e = (x, (refl, cc))
at_most_some most None n e = absurd (cc)

pub positive_is : (o : Option ℕ) (exact : ℕ) → o ≡ Some exact → arithmetic_result (value_or_limit (bounded (pos exact))) ≡ bounded_result (positive o)
positive_is o exact e = sym (number_within (pos exact)) ∙ ap (λ (p : Option ℕ). bounded_result (positive p)) (sym e)

pub negative_is : (o : Option ℕ) (exact : ℕ) → o ≡ Some exact → arithmetic_result (value_or_limit (bounded (neg_ℤ (pos exact)))) ≡ bounded_result (negative o)
negative_is o exact e = sym (number_within (neg_ℤ (pos exact))) ∙ ap (λ (p : Option ℕ). bounded_result (negative p)) (sym e)

past_test : (b : Bool) (r s : Result) → b ≡ false → cond b r s ≡ s
past_test true r s e = cc
past_test false r s e = refl

no_sign : (c s : ℕ) → c ≢ s → nat_eq c s ≡ false
no_sign c s h = grind (arith, nat_tests)

pub unsigned_is : (text rest : List ℕ) (c : ℕ) → text ≡ c ∷ rest → c ≢ 43 → c ≢ 45 → integer_of text ≡ positive (digits_number text)
unsigned_is text rest c e plus minus =
    ap integer_of e
    ∙ past_test (nat_eq c 43) (positive (digits_number rest)) (cond (nat_eq c 45) (negative (digits_number rest)) (positive (digits_number (c ∷ rest)))) (no_sign c 43 plus)
    ∙ past_test (nat_eq c 45) (negative (digits_number rest)) (positive (digits_number (c ∷ rest))) (no_sign c 45 minus)
    ∙ ap (λ (t : List ℕ). positive (digits_number t)) (sym e)

whole_text : (bits : List Bool) (b : Bool) → b ≡ true → bounded_result (integer_of (bytes_of (length bits / 8) bits)) ≡ bounded_result (cond b (integer_of (bytes_of (length bits / 8) bits)) badarg)
whole_text bits true e = refl
whole_text bits false e = cc

whole : (bits : List Bool) → length bits % 8 ≡ 0 → is_whole bits ≡ true
whole bits h = grind (arith, nat_tests)

pub integer_is : (bits : List Bool) → length bits % 8 ≡ 0 → bounded_result (integer_of (bytes_of (length bits / 8) bits)) ≡ bounded_result (binary_to_integer (VBits bits))
integer_is bits h = whole_text bits (is_whole bits) (whole bits h)
