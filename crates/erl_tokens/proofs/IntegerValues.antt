-- The bytes of an integer token are an integer.
use Rattle.std.proofs.Common.{◌≡◌, ℕ, zero, suc, ◌+◌, ◌<◌, ◌≤◌, ◌^◌, Bool, true, false, ◌&&◌, nat_lt, ◌==◌, if◌then◌else◌, List, [], ◌∷◌, length, drop, take, get_or, refl, sym, ap, subst, arith, ◌∙◌}
use Rattle.std.specs.List.{prefix_len}
use Rattle.std.proofs.lemmas.Grind.{common_steps}
use Rattle.std.proofs.lemmas.List.{drop-take, get_or-take, length-take}
use Rattle.erl_syntax.specs.declared.token.TokenKind.TheVariants as k
use Rattle.erl_syntax.specs.declared.token.LexCause.TheVariants as why
use Rattle.erl_syntax.specs.declared.token.Piece.{Piece}
use Rattle.erl_syntax.specs.declared.token.Piece.TheVariants as p
use Rattle.erl_syntax.specs.Characters.{is_digit, number, integer_base, integer_digits, integer_value}
use Rattle.erl_syntax.specs.Tokens.{piece, integer, based, is_based, decimal, digits_len}
use Rattle.erl_tokens.specs.Values.{is_base, IsInteger}
use Rattle.erl_tokens.proofs.Spelled.{is_same, is_other}
use Rattle.erl_tokens.proofs.IntegerTokens.{is_integer_at}

prefix_by : (q : ℕ → Bool) (x : ℕ) (xs : List ℕ) (j : ℕ) (c : Bool) → q x ≡ c → prefix_len q (x ∷ xs) ≤ suc j → (prefix_len q xs ≤ j → prefix_len q (take j xs) ≡ prefix_len q xs) →
    prefix_len q (x ∷ take j xs) ≡ prefix_len q (x ∷ xs)
prefix_by q x xs j true e h r =
    let i : 1 + prefix_len q xs ≤ suc j = rw e at h in
    let g : prefix_len q (take j xs) ≡ prefix_len q xs = r (omega arith) in
    rw (e, g) refl
prefix_by q x xs j false e h r = rw e refl

pub prefix_take : (q : ℕ → Bool) (xs : List ℕ) (j : ℕ) → prefix_len q xs ≤ j → prefix_len q (take j xs) ≡ prefix_len q xs
prefix_take q [] zero h = refl
prefix_take q [] (suc j) h = refl
prefix_take q (x ∷ xs) zero h = omega arith
prefix_take q (x ∷ xs) (suc j) h = prefix_by q x xs j (q x) refl h (prefix_take q xs j)

digits_by : (base x : ℕ) (xs : List ℕ) (c : Bool) → is_digit base x ≡ c → prefix_len (is_digit base) xs ≤ digits_len base xs →
    prefix_len (is_digit base) (x ∷ xs) ≤ digits_len base (x ∷ xs)
digits_by base x xs true e h = rw e (omega arith)
digits_by base x xs false e h = rw e (omega arith)

pub digits_more : (base : ℕ) (xs : List ℕ) → prefix_len (is_digit base) xs ≤ digits_len base xs
digits_more base [] = omega arith
digits_more base (x ∷ xs) = digits_by base x xs (is_digit base x) refl (digits_more base xs)

pub take_take : (m n : ℕ) (xs : List ℕ) → m ≤ n → take m (take n xs) ≡ take m xs
take_take zero n xs h = refl
take_take (suc m) zero xs h = elim h [ ]
take_take (suc m) (suc n) [] h = refl
take_take (suc m) (suc n) (x ∷ xs) h = ap (λ u. x ∷ u) (take_take m n xs (omega arith))

integer_by : (v len n : ℕ) (c : Bool) → nat_lt v (2 ^ 127) ≡ c → (if c then p.Token k.Integer len else p.Fault why.IntegerTooWide 0) ≡ p.Token k.Integer n → (v < 2 ^ 127) × (len ≡ n)
integer_by v len n true e f = (grind (arith, common_steps), cc)
integer_by v len n false e f = absurd (cc)

is_integer : (v len n : ℕ) → integer v len ≡ p.Token k.Integer n → (v < 2 ^ 127) × (len ≡ n)
is_integer v len n e = integer_by v len n (nat_lt v (2 ^ 127)) refl e

chosen : (c : Bool) (x : Piece) (cause : why.the_data) (n : ℕ) → (if c then x else p.Fault cause 0) ≡ p.Token k.Integer n → (c ≡ true) × (x ≡ p.Token k.Integer n)
chosen true x cause n e = (refl, e)
chosen false x cause n e = absurd (cc)

not_chosen : (c : Bool) (x : Piece) (cause : why.the_data) (n : ℕ) → (if c then p.Fault cause 0 else x) ≡ p.Token k.Integer n → x ≡ p.Token k.Integer n
not_chosen true x cause n e = absurd (cc)
not_chosen false x cause n e = e

and_left : (a b : Bool) → (a && b) ≡ true → a ≡ true
and_left true b e = refl
and_left false b e = e

base_if : (t : List ℕ) (m : ℕ) → ℕ
base_if t m = if get_or t m 0 == 35 then number 10 (take m t) else 10

digits_if : (t : List ℕ) (m : ℕ) → List ℕ
digits_if t m = if get_or t m 0 == 35 then drop (m + 1) t else t

base_is : (t : List ℕ) (m : ℕ) → 1 + prefix_len (is_digit 10) (drop 1 t) ≡ m → integer_base t ≡ base_if t m
unfolding base_if
base_is t m e = ap (base_if t) e

digits_is : (t : List ℕ) (m : ℕ) → 1 + prefix_len (is_digit 10) (drop 1 t) ≡ m → integer_digits t ≡ digits_if t m
unfolding digits_if
digits_is t m e = ap (digits_if t) e

marked_base : (t : List ℕ) (m : ℕ) → get_or t m 0 ≡ 35 → base_if t m ≡ number 10 (take m t)
unfolding base_if
marked_base t m e = let u : (get_or t m 0 == 35) ≡ true = is_same _ _ e in rw u refl

marked_digits : (t : List ℕ) (m : ℕ) → get_or t m 0 ≡ 35 → digits_if t m ≡ drop (m + 1) t
unfolding digits_if
marked_digits t m e = let u : (get_or t m 0 == 35) ≡ true = is_same _ _ e in rw u refl

plain_base : (t : List ℕ) (m : ℕ) → (get_or t m 0 ≡ 35 → ⊥) → base_if t m ≡ 10
unfolding base_if
plain_base t m e = let u : (get_or t m 0 == 35) ≡ false = is_other _ _ e in rw u refl

plain_digits : (t : List ℕ) (m : ℕ) → (get_or t m 0 ≡ 35 → ⊥) → digits_if t m ≡ t
unfolding digits_if
plain_digits t m e = let u : (get_or t m 0 == 35) ≡ false = is_other _ _ e in rw u refl

first_digits : (x n : ℕ) (xs : List ℕ) → 1 + prefix_len (is_digit 10) xs ≤ n → 1 + prefix_len (is_digit 10) (drop 1 (take n (x ∷ xs))) ≡ 1 + prefix_len (is_digit 10) xs
first_digits x zero xs h = absurd (omega arith)
first_digits x (suc n) xs h = ap (λ u. 1 + u) (prefix_take (is_digit 10) xs n (omega arith))

with_base : (x n len : ℕ) (xs : List ℕ) (m : ℕ) → m ≡ 1 + prefix_len (is_digit 10) xs → get_or (x ∷ xs) m 0 ≡ 35 → n ≡ m + 1 + len →
    is_base (number 10 (take m (x ∷ xs))) ≡ true → number (number 10 (take m (x ∷ xs))) (take len (drop (m + 1) (x ∷ xs))) < 2 ^ 127 → IsInteger (take n (x ∷ xs))
with_base x n len xs m e f g b v =
    let bs : List ℕ = x ∷ xs in
    let t : List ℕ = take n bs in
    let s : 1 + prefix_len (is_digit 10) (drop 1 t) ≡ m = first_digits x n xs (omega arith) ∙ sym e in
    let y : get_or t m 0 ≡ 35 = get_or-take n bs m 0 (omega arith) ∙ f in
    let base : integer_base t ≡ number 10 (take m bs) = base_is t m s ∙ marked_base t m y ∙ ap (number 10) (take_take m n bs (omega arith)) in
    let digits : integer_digits t ≡ take len (drop (m + 1) bs) =
    digits_is t m s ∙ marked_digits t m y ∙ ap (λ u. drop (m + 1) (take u bs)) g ∙ drop-take (m + 1) len bs in
    let value : integer_value t ≡ number (number 10 (take m bs)) (take len (drop (m + 1) bs)) =
    ap (λ u. number u (integer_digits t)) base ∙ ap (number (number 10 (take m bs))) digits in
    (ap is_base base ∙ b, rw value v)

past_end : (t : List ℕ) (m : ℕ) → length t ≤ m → get_or t m 0 ≡ 0
past_end t m h = grind (arith, common_steps)

no_mark_by : (x n : ℕ) (xs : List ℕ) (m : ℕ) (c : Bool) → nat_lt m n ≡ c → (get_or (x ∷ xs) m 0 ≡ 35 → ⊥) → get_or (take n (x ∷ xs)) m 0 ≡ 35 → ⊥
no_mark_by x n xs m true l f e =
    let i : m < n = grind (arith, common_steps) in
    f (sym (get_or-take n (x ∷ xs) m 0 i) ∙ e)
no_mark_by x n xs m false l f e =
    let i : n ≤ m = grind (arith, common_steps) in
    let j : length (take n (x ∷ xs)) ≤ m = omega (arith, length-take n (x ∷ xs), i) in
    omega (arith, past_end (take n (x ∷ xs)) m j, e)

no_mark : (x n : ℕ) (xs : List ℕ) (m : ℕ) → (get_or (x ∷ xs) m 0 ≡ 35 → ⊥) → m ≤ n → get_or (take n (x ∷ xs)) m 0 ≡ 35 → ⊥
no_mark x n xs m f h e = no_mark_by x n xs m (nat_lt m n) refl f e

without_base : (x n : ℕ) (xs : List ℕ) (m : ℕ) → m ≡ 1 + prefix_len (is_digit 10) xs → (get_or (x ∷ xs) m 0 ≡ 35 → ⊥) → m ≤ n →
    number 10 (take n (x ∷ xs)) < 2 ^ 127 → IsInteger (take n (x ∷ xs))
without_base x n xs m e f h v =
    let t : List ℕ = take n (x ∷ xs) in
    let s : 1 + prefix_len (is_digit 10) (drop 1 t) ≡ m = first_digits x n xs (omega arith) ∙ sym e in
    let y : get_or t m 0 ≡ 35 → ⊥ = no_mark x n xs m f h in
    let base : integer_base t ≡ 10 = base_is t m s ∙ plain_base t m y in
    let digits : integer_digits t ≡ t = digits_is t m s ∙ plain_digits t m y in
    let value : integer_value t ≡ number 10 t = ap (λ u. number u (integer_digits t)) base ∙ ap (number 10) digits in
    (ap is_base base, rw value v)

at_mark : (x n : ℕ) (xs : List ℕ) (c : Bool) → (get_or (x ∷ xs) (1 + prefix_len (is_digit 10) xs) 0 == 35) ≡ c →
    (if c then based (number 10 (take (1 + prefix_len (is_digit 10) xs) (x ∷ xs))) (1 + prefix_len (is_digit 10) xs + 1) (drop (1 + prefix_len (is_digit 10) xs + 1) (x ∷ xs)) else decimal (x ∷ xs)) ≡ p.Token k.Integer n →
    IsInteger (take n (x ∷ xs))
at_mark x n xs true e f =
    let m : ℕ = 1 + prefix_len (is_digit 10) xs in
    let base : ℕ = number 10 (take m (x ∷ xs)) in
    let tail : List ℕ = drop (m + 1) (x ∷ xs) in
    let len : ℕ = 1 + digits_len base (drop 1 tail) in
    let c = chosen (is_based base tail) (integer (number base (take len tail)) (m + 1 + len)) why.BadNumber n f in
    let i = is_integer (number base (take len tail)) (m + 1 + len) n c.1 in
    let y : get_or (x ∷ xs) m 0 ≡ 35 = grind (arith, common_steps) in
    with_base x n len xs m refl y (sym i.1) (and_left (is_base base) (is_digit base (get_or tail 0 0)) c.0) i.0
at_mark x n xs false e f =
    let m : ℕ = 1 + prefix_len (is_digit 10) xs in
    let len : ℕ = 1 + digits_len 10 xs in
    let c = not_chosen (get_or (x ∷ xs) len 0 == 46 && is_digit 10 (get_or (x ∷ xs) (len + 1) 0)) (integer (number 10 (take len (x ∷ xs))) len) why.Float n f in
    let i = is_integer (number 10 (take len (x ∷ xs))) len n c in
    let y : get_or (x ∷ xs) m 0 ≡ 35 → ⊥ = λ g. (let u : (get_or (x ∷ xs) m 0 == 35) ≡ true = is_same _ _ g in let w : true ≡ false = sym u ∙ e in cc) in
    let l : m ≤ n = omega (arith, digits_more 10 xs, i.1) in
    let P : ℕ → Type 0 = λ u. number 10 (take u (x ∷ xs)) < 2 ^ 127 in
    without_base x n xs m refl y l (subst P i.1 i.0)

pub integer_token : (cut : Bool) (bs : List ℕ) (n : ℕ) → 0 < length bs → piece cut bs ≡ p.Token k.Integer n → IsInteger (take n bs)
integer_token cut [] n h e = elim h [ ]
integer_token cut (x ∷ xs) n h e =
    at_mark x n xs (get_or (x ∷ xs) (1 + prefix_len (is_digit 10) xs) 0 == 35) refl (is_integer_at cut (x ∷ xs) n e)
