-- The token that stands at the front of a text is a token by itself.
use Rattle.std.proofs.Common.{◌≡◌, ℕ, zero, suc, ◌+◌, ◌<◌, ◌≤◌, Bool, true, false, ◌&&◌, nat_lt, nat_le, ◌==◌, if◌then◌else◌, List, [], ◌∷◌, length, drop, take, get_or, Option, Some, None, refl, sym, ap, subst, arith, ◌∙◌}
use Rattle.std.specs.List.{prefix_len, find}
use Rattle.std.specs.Cmp.Lexicographic.{pointwise}
use Rattle.std.proofs.lemmas.Grind.{common_steps}
use Rattle.std.proofs.lemmas.List.{drop-take, get_or-take, length-take, length-take-le}
use Rattle.std.proofs.lemmas.List.Sums.{prefix_len-le-length}
use Rattle.erl_syntax.specs.declared.token.TheConstants.{MARKS, RESERVED}
use Rattle.erl_syntax.specs.declared.token.TokenKind.{TokenKind}
use Rattle.erl_syntax.specs.declared.token.TokenKind.TheVariants as k
use Rattle.erl_syntax.specs.declared.token.LexCause.TheVariants as why
use Rattle.erl_syntax.specs.declared.token.Piece.{Piece}
use Rattle.erl_syntax.specs.declared.token.Piece.TheVariants as p
use Rattle.erl_syntax.specs.Characters.{character_len, is_digit, number, escape_len}
use Rattle.erl_syntax.specs.Spellings.{spelling, begins_with, is_spelled}
use Rattle.erl_syntax.specs.Tokens.{piece, white_len, comment, begins_name, name, named, is_name, integer_at, integer, decimal, based, is_based, digits_len, goes_on, character, escaped_character, string, quoted_atom, quoted, limited, mark, marked, full_stop, ends_form}
use Rattle.erl_tokens.specs.Longest.{IsToken}
use Rattle.erl_tokens.proofs.Spelled.{is_other}
use Rattle.erl_tokens.proofs.FoundMark.{and_left, and_right}
use Rattle.erl_tokens.proofs.LongestToken.{kind_same, begins_too, just_name, just_decimal, just_based, least_by, integer_is, integer_by, by_first, chosen, first_is, passes, full_stop_is, no_comment}
use Rattle.erl_tokens.proofs.TokenWithin.{within}
use Rattle.erl_tokens.proofs.LongestQuote.{quoted_take, limited_token, escape_take, escape_some, character_take, behind_dollar, dollar_is, escaped_is, least_dollar, token_same, same_both, past_end}
use Rattle.erl_tokens.proofs.IntegerValues.{prefix_take, take_take}

-- ---- Names

name_by : List ℕ → Piece
name_by word = named (find (is_spelled word) RESERVED) word

pub own_name : (x n : ℕ) (xs : List ℕ) (kind : TokenKind) → name (x ∷ xs) ≡ p.Token kind n → name (take n (x ∷ xs)) ≡ p.Token kind n
unfolding name_by
own_name x zero xs kind e =
    absurd (omega (arith, just_name (x ∷ xs) kind zero e, length-take (1 + prefix_len is_name xs) (x ∷ xs)))
own_name x (suc j) xs kind e =
    let d : ℕ = prefix_len is_name xs in
    let c : prefix_len is_name xs ≤ length xs = prefix_len-le-length is_name xs in
    let b : suc j ≡ 1 + d = omega (arith, just_name (x ∷ xs) kind (suc j) e, length-take (1 + d) (x ∷ xs), c) in
    let s : prefix_len is_name (take j xs) ≡ d = prefix_take is_name xs j (omega arith) in
    let t : take (1 + d) (take (suc j) (x ∷ xs)) ≡ take (1 + d) (x ∷ xs) = take_take (1 + d) (suc j) (x ∷ xs) (omega arith) in
    ap (λ i. name_by (take (1 + i) (take (suc j) (x ∷ xs)))) s ∙ ap name_by t ∙ e

-- ---- Integers

exact_by : (base x : ℕ) (xs : List ℕ) (c : Bool) → is_digit base x ≡ c → goes_on base x (get_or xs 0 0) ≡ true → goes_on base x (get_or (take (digits_len base xs) xs) 0 0) ≡ true
exact_by base x xs true e h = rw e refl
exact_by base x [] false e h = h
exact_by base x (y ∷ ys) false e h =
    let g : (x == 95 && is_digit base y) ≡ true = rw e at h in
    let d : is_digit base y ≡ true = and_right (x == 95) (is_digit base y) g in
    rw (d, e) g

exact_case : (base x : ℕ) (xs : List ℕ) (c : Bool) → goes_on base x (get_or xs 0 0) ≡ c → digits_len base (take (digits_len base xs) xs) ≡ digits_len base xs →
    digits_len base (take (digits_len base (x ∷ xs)) (x ∷ xs)) ≡ digits_len base (x ∷ xs)
exact_case base x xs true e h =
    let g : goes_on base x (get_or (take (digits_len base xs) xs) 0 0) ≡ true = exact_by base x xs (is_digit base x) refl e in
    rw (e, g, h) refl
exact_case base x xs false e h = rw e refl

digits_exact : (base : ℕ) (xs : List ℕ) → digits_len base (take (digits_len base xs) xs) ≡ digits_len base xs
digits_exact base [] = refl
digits_exact base (x ∷ xs) = exact_case base x xs (goes_on base x (get_or xs 0 0)) refl (digits_exact base xs)

behind_exact : (base : ℕ) (xs : List ℕ) → digits_len base (drop 1 (take (1 + digits_len base (drop 1 xs)) xs)) ≡ digits_len base (drop 1 xs)
behind_exact base [] = refl
behind_exact base (x ∷ xs) =
    let e : 1 + digits_len base xs ≡ suc (digits_len base xs) = omega arith in
    rw e (digits_exact base xs)

own_based : (base len n : ℕ) (bs : List ℕ) (kind : TokenKind) → based base len bs ≡ p.Token kind n → based base len (take (1 + digits_len base (drop 1 bs)) bs) ≡ p.Token kind n
own_based base len n bs kind e =
    let l : ℕ = 1 + digits_len base (drop 1 bs) in
    let us : List ℕ = take l bs in
    let c : is_based base bs ≡ true = chosen (is_based base bs) _ why.BadNumber kind n e in
    let f : get_or us 0 0 ≡ get_or bs 0 0 = get_or-take l bs 0 0 (omega arith) in
    let d : is_based base us ≡ true = ap (λ y. (nat_le 2 base && nat_le base 36) && is_digit base y) f ∙ c in
    let s : digits_len base (drop 1 us) ≡ digits_len base (drop 1 bs) = behind_exact base bs in
    let t : take l us ≡ us = take_take l l bs (omega arith) in
    let a : integer (number base us) (len + l) ≡ p.Token kind n = rw c at e in
    rw (d, s, t) a

own_with_base : (d n : ℕ) (bs : List ℕ) (kind : TokenKind) → integer_by true d bs ≡ p.Token kind n → integer_by true d (take n bs) ≡ p.Token kind n
unfolding integer_by
own_with_base d n bs kind e =
    let base : ℕ = number 10 (take d bs) in
    let tail : List ℕ = drop (d + 1) bs in
    let l : ℕ = 1 + digits_len base (drop 1 tail) in
    let i : n ≡ d + 1 + l = just_based base (d + 1) tail kind n e in
    let s : number 10 (take d (take n bs)) ≡ base = ap (number 10) (take_take d n bs (omega (arith, i))) in
    let t : drop (d + 1) (take n bs) ≡ take l tail = ap (λ u. drop (d + 1) (take u bs)) i ∙ drop-take (d + 1) l bs in
    ap (λ u. based u (d + 1) (drop (d + 1) (take n bs))) s ∙ ap (λ u. based base (d + 1) u) t ∙ own_based base (d + 1) n tail kind e

not_float : (c : Bool) (x : Piece) (kind : TokenKind) (n : ℕ) → (if c then p.Fault why.Float 0 else x) ≡ p.Token kind n → x ≡ p.Token kind n
not_float true x kind n e = absurd (cc)
not_float false x kind n e = e

own_decimal : (n : ℕ) (bs : List ℕ) (kind : TokenKind) → decimal bs ≡ p.Token kind n → decimal (take n bs) ≡ p.Token kind n
own_decimal n bs kind e =
    let l : ℕ = 1 + digits_len 10 (drop 1 bs) in
    let i : n ≡ l = just_decimal bs kind n e in
    let P : ℕ → Type 0 = λ m. decimal (take m bs) ≡ p.Token kind n in
    let us : List ℕ = take l bs in
    let s : digits_len 10 (drop 1 us) ≡ digits_len 10 (drop 1 bs) = behind_exact 10 bs in
    let z : get_or us l 0 ≡ 0 = past_end us l (omega (arith, length-take l bs)) in
    let y : (get_or us l 0 == 46) ≡ false = is_other (get_or us l 0) 46 (λ g. omega (arith, g, z)) in
    let t : take l us ≡ us = take_take l l bs (omega arith) in
    let a : integer (number 10 us) l ≡ p.Token kind n = not_float (get_or bs l 0 == 46 && is_digit 10 (get_or bs (l + 1) 0)) (integer (number 10 us) l) kind n e in
    subst P (sym i) (rw (s, y, t) a)

own_by : (c : Bool) (d n : ℕ) (bs : List ℕ) (kind : TokenKind) → integer_by c d bs ≡ p.Token kind n → integer_by c d (take n bs) ≡ p.Token kind n
unfolding integer_by
own_by true d n bs kind e = own_with_base d n bs kind e
own_by false d n bs kind e = own_decimal n bs kind e

hash_other : (c : Bool) (d n : ℕ) (bs : List ℕ) → nat_lt d n ≡ c → (get_or bs d 0 == 35) ≡ false → (get_or (take n bs) d 0 == 35) ≡ false
hash_other true d n bs l e = let i : d < n = grind (arith, common_steps) in ap (λ y. y == 35) (get_or-take n bs d 0 i) ∙ e
hash_other false d n bs l e =
    let i : n ≤ d = grind (arith, common_steps) in
    let z : get_or (take n bs) d 0 ≡ 0 = past_end (take n bs) d (omega (arith, length-take n bs)) in
    is_other (get_or (take n bs) d 0) 35 (λ g. omega (arith, g, z))

hash_same : (c : Bool) (d n : ℕ) (bs : List ℕ) → (get_or bs d 0 == 35) ≡ c → d ≤ n → (c ≡ true → d + 1 ≤ n) → (get_or (take n bs) d 0 == 35) ≡ c
hash_same true d n bs e l r = ap (λ y. y == 35) (get_or-take n bs d 0 (omega (arith, r refl))) ∙ e
hash_same false d n bs e l r = hash_other (nat_lt d n) d n bs refl e

own_integer_by : (x n : ℕ) (xs : List ℕ) (kind : TokenKind) → integer_at (x ∷ xs) ≡ p.Token kind n →
    (1 + prefix_len (is_digit 10) xs ≤ n) × ((get_or (x ∷ xs) (1 + prefix_len (is_digit 10) xs) 0 == 35) ≡ true → 1 + prefix_len (is_digit 10) xs + 1 ≤ n) →
    integer_at (take n (x ∷ xs)) ≡ p.Token kind n
own_integer_by x zero xs kind e least = absurd (omega (arith, least.0))
own_integer_by x (suc j) xs kind e least =
    let bs : List ℕ = x ∷ xs in
    let u : List ℕ = x ∷ take j xs in
    let d : ℕ = 1 + prefix_len (is_digit 10) xs in
    let c : Bool = get_or bs d 0 == 35 in
    let s : prefix_len (is_digit 10) (take j xs) ≡ prefix_len (is_digit 10) xs = prefix_take (is_digit 10) xs j (omega (arith, least.0)) in
    let b : (get_or u d 0 == 35) ≡ c = hash_same c d (suc j) bs refl least.0 least.1 in
    integer_is u ∙ ap (λ i. integer_by (get_or u (1 + i) 0 == 35) (1 + i) u) s ∙ ap (λ y. integer_by y d u) b ∙ own_by c d (suc j) bs kind (sym (integer_is bs) ∙ e)

own_integer : (x n : ℕ) (xs : List ℕ) (kind : TokenKind) → integer_at (x ∷ xs) ≡ p.Token kind n → integer_at (take n (x ∷ xs)) ≡ p.Token kind n
own_integer x n xs kind e = own_integer_by x n xs kind e (least_by (get_or (x ∷ xs) (1 + prefix_len (is_digit 10) xs) 0 == 35) n (x ∷ xs) kind (sym (integer_is (x ∷ xs)) ∙ e))

-- ---- Characters, strings and quoted atoms

own_dollar : (c : Bool) (b n : ℕ) (bs : List ℕ) (cut : Bool) (kind : TokenKind) → (b == 92) ≡ c → behind_dollar cut b bs ≡ p.Token kind n → behind_dollar false b (take n bs) ≡ p.Token kind n
unfolding behind_dollar
own_dollar true b n bs cut kind c e =
    let a : escaped_character cut (escape_len (drop 2 bs)) (drop 2 bs) ≡ p.Token kind n = rw c at e in
    let x = escaped_is cut (escape_len (drop 2 bs)) (drop 2 bs) kind n a in
    let i : 2 + x.0 ≡ n = omega (arith, x.2) in
    let t : drop 2 (take n bs) ≡ take x.0 (drop 2 bs) = ap (λ u. drop 2 (take u bs)) (sym i) ∙ drop-take 2 x.0 bs in
    let z : escape_len (drop 2 (take n bs)) ≡ Some x.0 = ap escape_len t ∙ escape_take x.0 x.0 (drop 2 bs) x.1 (escape_some x.0 (drop 2 bs) x.1) (omega arith) in
    let y : escaped_character false (Some x.0) (drop 2 (take n bs)) ≡ p.Token kind n = ap (λ o. escaped_character cut o (drop 2 bs)) (sym x.1) ∙ a in
    rw (c, z) y
own_dollar false b n bs cut kind c e =
    let a : p.Token k.Character (1 + character_len (drop 1 bs)) ≡ p.Token kind n = rw c at e in
    let x : 1 + character_len (drop 1 bs) ≡ n = token_same k.Character kind (1 + character_len (drop 1 bs)) n a in
    let t : drop 1 (take n bs) ≡ take (character_len (drop 1 bs)) (drop 1 bs) = ap (λ u. drop 1 (take u bs)) (sym x) ∙ drop-take 1 (character_len (drop 1 bs)) bs in
    let z : character_len (drop 1 (take n bs)) ≡ character_len (drop 1 bs) = ap character_len t ∙ character_take (character_len (drop 1 bs)) (drop 1 bs) (omega arith) in
    rw (c, z) a

own_character : (n : ℕ) (bs : List ℕ) (cut : Bool) (kind : TokenKind) → n ≤ length bs → character cut bs ≡ p.Token kind n → character false (take n bs) ≡ p.Token kind n
unfolding behind_dollar
own_character n bs cut kind w e =
    let a = dollar_is cut bs kind n e in
    let l = least_dollar (get_or bs 1 0 == 92) (get_or bs 1 0) n bs cut kind refl a in
    let s : get_or (take n bs) 1 0 ≡ get_or bs 1 0 = get_or-take n bs 1 0 (omega (arith, l)) in
    let d : behind_dollar false (get_or (take n bs) 1 0) (take n bs) ≡ p.Token kind n = ap (λ y. behind_dollar false y (take n bs)) s ∙ own_dollar (get_or bs 1 0 == 92) (get_or bs 1 0) n bs cut kind refl a in
    let m : length (take n bs) ≡ n = length-take-le n bs w in
    let y : (length (take n bs) == 1) ≡ false = is_other (length (take n bs)) 1 (λ g. omega (arith, g, m, l)) in
    rw y d

own_string : (x n : ℕ) (xs : List ℕ) (cut : Bool) (kind : TokenKind) → 0 < n → string cut (x ∷ xs) ≡ p.Token kind n → string false (take n (x ∷ xs)) ≡ p.Token kind n
own_string x zero xs cut kind z e = elim z [ ]
own_string x (suc j) xs cut kind z e = quoted_take 34 k.Str kind cut 1 0 (suc j) j xs (omega arith) e

own_limited : (n : ℕ) (bs : List ℕ) (kind : TokenKind) → limited bs (p.Token kind n) ≡ p.Token kind n → limited (take n bs) (p.Token kind n) ≡ p.Token kind n
own_limited n bs kind e = let t : take n (take n bs) ≡ take n bs = take_take n n bs (omega arith) in rw t e

own_quoted_atom : (x n : ℕ) (xs : List ℕ) (cut : Bool) (kind : TokenKind) → 0 < n → quoted_atom cut (x ∷ xs) ≡ p.Token kind n → quoted_atom false (take n (x ∷ xs)) ≡ p.Token kind n
own_quoted_atom x zero xs cut kind z e = elim z [ ]
own_quoted_atom x (suc j) xs cut kind z e =
    let a = limited_token (x ∷ xs) (quoted 39 k.Atom cut 1 0 xs) kind (suc j) e in
    let g = quoted_take 39 k.Atom kind cut 1 0 (suc j) j xs (omega arith) a in
    let h : limited (x ∷ xs) (p.Token kind (suc j)) ≡ p.Token kind (suc j) = ap (limited (x ∷ xs)) (sym a) ∙ e in
    ap (limited (x ∷ take j xs)) g ∙ own_limited (suc j) (x ∷ xs) kind h

-- ---- Marks

begins_own : (n : ℕ) (bs : List ℕ) (kind : TokenKind) → length (spelling kind) ≡ n → begins_with bs kind ≡ true → begins_with (take n bs) kind ≡ true
begins_own n bs kind l e =
    let s : take (length (spelling kind)) (take n bs) ≡ take (length (spelling kind)) bs = take_take (length (spelling kind)) n bs (omega (arith, l)) in
    ap (pointwise (λ a b. a == b) (spelling kind)) s ∙ e

-- a test that passes no more kinds, and the found one, finds the same
found_by : (q r : TokenKind → Bool) (kind found : TokenKind) (kinds : List TokenKind) (c d : Bool) → q kind ≡ c → r kind ≡ d → (r kind ≡ true → q kind ≡ true) → r found ≡ true →
    (find q kinds ≡ Some found → find r kinds ≡ Some found) → find q (kind ∷ kinds) ≡ Some found → find r (kind ∷ kinds) ≡ Some found
found_by q r kind found kinds true true x y h t i e = let a : Some kind ≡ Some found = rw x at e in rw y a
found_by q r kind found kinds true false x y h t i e =
    let a : Some kind ≡ Some found = rw x at e in
    let b : r kind ≡ r found = ap r (kind_same kind found a) in
    absurd (let z : false ≡ true = sym y ∙ b ∙ t in cc)
found_by q r kind found kinds false true x y h t i e = absurd (let z : false ≡ true = sym x ∙ h y in cc)
found_by q r kind found kinds false false x y h t i e = let a : find q kinds ≡ Some found = rw x at e in rw y (i a)

found_same : (q r : TokenKind → Bool) (found : TokenKind) (kinds : List TokenKind) → ((kind : TokenKind) → r kind ≡ true → q kind ≡ true) → r found ≡ true → find q kinds ≡ Some found → find r kinds ≡ Some found
found_same q r found [] h t e = absurd (cc)
found_same q r found (kind ∷ kinds) h t e = found_by q r kind found kinds (q kind) (r kind) refl refl (h kind) t (found_same q r found kinds h t) e

none_by : (q r : TokenKind → Bool) (kind : TokenKind) (kinds : List TokenKind) (c d : Bool) → q kind ≡ c → r kind ≡ d → (r kind ≡ true → q kind ≡ true) →
    (find q kinds ≡ None → find r kinds ≡ None) → find q (kind ∷ kinds) ≡ None → find r (kind ∷ kinds) ≡ None
none_by q r kind kinds true d x y h i e = absurd (let a : Some kind ≡ None = rw x at e in cc)
none_by q r kind kinds false true x y h i e = absurd (let z : false ≡ true = sym x ∙ h y in cc)
none_by q r kind kinds false false x y h i e = let a : find q kinds ≡ None = rw x at e in rw y (i a)

none_same : (q r : TokenKind → Bool) (kinds : List TokenKind) → ((kind : TokenKind) → r kind ≡ true → q kind ≡ true) → find q kinds ≡ None → find r kinds ≡ None
none_same q r [] h e = e
none_same q r (kind ∷ kinds) h e = none_by q r kind kinds (q kind) (r kind) refl refl (h kind) (none_same q r kinds h) e

stop_if : (c : Bool) (kind : TokenKind) (n : ℕ) → (if c then p.Token k.FullStop 1 else p.Fault why.UnexpectedCharacter 0) ≡ p.Token kind n → c ≡ true
stop_if true kind n e = refl
stop_if false kind n e = absurd (cc)

own_full_stop : (x : ℕ) (xs : List ℕ) (cut : Bool) (kind : TokenKind) (n : ℕ) → full_stop cut (x ∷ xs) ≡ p.Token kind n → full_stop false (x ∷ []) ≡ p.Token kind n
own_full_stop x xs cut kind n e =
    let c : (x == 46 && ends_form cut xs) ≡ true = stop_if (x == 46 && ends_form cut xs) kind n e in
    let d : (x == 46) ≡ true = and_left (x == 46) (ends_form cut xs) c in
    let f : p.Token k.FullStop 1 ≡ p.Token kind n = rw c at e in
    rw d f

own_marked : (x n : ℕ) (xs : List ℕ) (cut : Bool) (kind : TokenKind) (o : Option TokenKind) → find (begins_with (x ∷ xs)) MARKS ≡ o → marked o cut (x ∷ xs) ≡ p.Token kind n → mark false (take n (x ∷ xs)) ≡ p.Token kind n
own_marked x n xs cut kind (Some mine) f e =
    let i : length (spelling mine) ≡ n = token_same mine kind (length (spelling mine)) n e in
    let b : begins_with (take n (x ∷ xs)) mine ≡ true = begins_own n (x ∷ xs) mine i (passes (begins_with (x ∷ xs)) mine MARKS f) in
    let g : find (begins_with (take n (x ∷ xs))) MARKS ≡ Some mine = found_same (begins_with (x ∷ xs)) (begins_with (take n (x ∷ xs))) mine MARKS (begins_too n (x ∷ xs)) b f in
    ap (λ o. marked o false (take n (x ∷ xs))) g ∙ e
own_marked x n xs cut kind None f e =
    let i : n ≡ 1 = full_stop_is cut (x ∷ xs) kind n e in
    let P : ℕ → Type 0 = λ m. mark false (take m (x ∷ xs)) ≡ p.Token kind n in
    let g : find (begins_with (x ∷ [])) MARKS ≡ None = none_same (begins_with (x ∷ xs)) (begins_with (x ∷ [])) MARKS (begins_too 1 (x ∷ xs)) f in
    subst P (sym i) (ap (λ o. marked o false (x ∷ [])) g ∙ own_full_stop x xs cut kind n e)

-- ---- All tokens

white_zero : (a c rest : Bool) (e f : ℕ) → e ≡ (if a then 1 else (if c && rest then 2 else 0)) → e ≡ 0 → f ≡ (if a then 1 else (if c && false then 2 else 0)) → f ≡ 0
white_zero true c rest e f g h i = absurd (omega (arith, g, h))
white_zero false true rest e f g h i = i
white_zero false false rest e f g h i = i

white_is : (x : ℕ) (r : List ℕ) → white_len (x ∷ r) ≡ (if nat_le x 32 then 1 else (if x == 194 && (nat_le 128 (get_or r 0 0) && nat_le (get_or r 0 0) 160) then 2 else 0))
white_is x r = let e : (length (x ∷ r) == 0) ≡ false = is_other (length (x ∷ r)) 0 (λ h. omega (arith, h)) in rw e refl

own_white : (x j : ℕ) (xs : List ℕ) → white_len (x ∷ xs) ≡ 0 → white_len (x ∷ take j xs) ≡ 0
own_white x zero xs h =
    white_zero (nat_le x 32) (x == 194) (nat_le 128 (get_or xs 0 0) && nat_le (get_or xs 0 0) 160) (white_len (x ∷ xs)) (white_len (x ∷ [])) (white_is x xs) h (white_is x [])
own_white x (suc j) [] h = h
own_white x (suc j) (y ∷ ys) h = white_is x (y ∷ take j ys) ∙ sym (white_is x (y ∷ ys)) ∙ h

not_blank : (c : Bool) (at : ℕ) (y : Piece) (kind : TokenKind) (n : ℕ) → (if c then p.Blank at else y) ≡ p.Token kind n → c ≡ false
not_blank true at y kind n e = absurd (cc)
not_blank false at y kind n e = refl

none_less : (w : ℕ) → nat_lt 0 w ≡ false → w ≡ 0
none_less w e = let l : w ≤ 0 = grind (arith, common_steps) in omega arith

no_white : (cut : Bool) (bs : List ℕ) (kind : TokenKind) (n : ℕ) → piece cut bs ≡ p.Token kind n → white_len bs ≡ 0
unfolding piece by_first
no_white cut bs kind n e = none_less (white_len bs) (not_blank (nat_lt 0 (white_len bs)) (white_len bs) (by_first (get_or bs 0 0) cut bs) kind n e)

blank_if : (c : Bool) (at : ℕ) (y : Piece) → c ≡ false → (if c then p.Blank at else y) ≡ y
blank_if true at y e = absurd (cc)
blank_if false at y e = refl

no_less : (w : ℕ) → w ≡ 0 → nat_lt 0 w ≡ false
no_less w e = ap (nat_lt 0) e

piece_first : (cut : Bool) (bs : List ℕ) → white_len bs ≡ 0 → piece cut bs ≡ by_first (get_or bs 0 0) cut bs
unfolding piece by_first
piece_first cut bs e = blank_if (nat_lt 0 (white_len bs)) (white_len bs) (by_first (get_or bs 0 0) cut bs) (no_less (white_len bs) e)

own_first : (x n : ℕ) (xs : List ℕ) (cut : Bool) (kind : TokenKind) → 0 < n → n ≤ length (x ∷ xs) → by_first x cut (x ∷ xs) ≡ p.Token kind n → by_first x false (take n (x ∷ xs)) ≡ p.Token kind n
unfolding by_first
own_first x n xs cut kind z l =
    let bs : List ℕ = x ∷ xs in
    let us : List ℕ = take n bs in
    let t : Piece = p.Token kind n in
    same_both (x == 37) (comment cut bs) (comment false us) _ _ t (λ a. absurd (no_comment cut bs kind n a))
    (same_both (begins_name x) (name bs) (name us) _ _ t (own_name x n xs kind)
    (same_both (is_digit 10 x) (integer_at bs) (integer_at us) _ _ t (own_integer x n xs kind)
    (same_both (x == 36) (character cut bs) (character false us) _ _ t (own_character n bs cut kind l)
    (same_both (x == 34) (string cut bs) (string false us) _ _ t (own_string x n xs cut kind z)
    (same_both (x == 39) (quoted_atom cut bs) (quoted_atom false us) (mark cut bs) (mark false us) t (own_quoted_atom x n xs cut kind z)
    (own_marked x n xs cut kind (find (begins_with bs) MARKS) refl))))))

alone : (cut : Bool) (bs : List ℕ) (kind : TokenKind) (n : ℕ) → piece cut bs ≡ p.Token kind n → 0 < n → n ≤ length bs → IsToken kind (take n bs)
alone cut [] kind n e z l = absurd (omega arith)
alone cut (x ∷ xs) kind zero e z l = elim z [ ]
alone cut (x ∷ xs) kind (suc j) e z l =
    let w : white_len (x ∷ xs) ≡ 0 = no_white cut (x ∷ xs) kind (suc j) e in
    let f : piece false (x ∷ take j xs) ≡ by_first x false (x ∷ take j xs) = piece_first false (x ∷ take j xs) (own_white x j xs w) in
    let i : length (take (suc j) (x ∷ xs)) ≡ suc j = length-take-le (suc j) (x ∷ xs) l in
    f ∙ own_first x (suc j) xs cut kind z l (first_is cut (x ∷ xs) kind (suc j) e) ∙ ap (λ m. p.Token kind m) (sym i)

pub itself : (cut : Bool) (bs : List ℕ) (kind : TokenKind) (n : ℕ) → piece cut bs ≡ p.Token kind n → (0 < n) × (n ≤ length bs) × IsToken kind (take n bs)
itself cut bs kind n e = let w = within cut bs kind n e in (w.0, w.1, alone cut bs kind n e w.0 w.1)
