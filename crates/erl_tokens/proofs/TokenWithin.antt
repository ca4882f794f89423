-- The token that stands at the front of a text has at least one byte, and ends within the text.
use Rattle.std.proofs.Common.{◌≡◌, ℕ, ◌+◌, ◌<◌, ◌≤◌, Bool, true, false, ◌&&◌, nat_le, ◌==◌, if◌then◌else◌, List, [], ◌∷◌, length, drop, take, get_or, Option, Some, None, IfSome, refl, sym, arith, ◌∙◌}
use Rattle.std.specs.List.{prefix_len, find}
use Rattle.std.proofs.lemmas.List.{length-take, length-drop}
use Rattle.erl_syntax.specs.declared.token.TheConstants.{MARKS}
use Rattle.erl_syntax.specs.declared.token.TokenKind.{TokenKind}
use Rattle.erl_syntax.specs.declared.token.TokenKind.TheVariants as k
use Rattle.erl_syntax.specs.declared.token.LexCause.TheVariants as why
use Rattle.erl_syntax.specs.declared.token.Piece.{Piece}
use Rattle.erl_syntax.specs.declared.token.Piece.TheVariants as p
use Rattle.erl_syntax.specs.Characters.{is_digit, number}
use Rattle.erl_syntax.specs.Spellings.{spelling, begins_with}
use Rattle.erl_syntax.specs.Tokens.{piece, comment, begins_name, name, is_name, integer_at, based, is_based, digits_len, goes_on, character, string, quoted_atom, quoted, mark, marked}
use Rattle.erl_tokens.proofs.FoundMark.{mark_within, and_right}
use Rattle.erl_tokens.proofs.LongestToken.{just_name, just_decimal, just_based, small_base, chosen, no_digit, least_by, integer_is, integer_by, by_first, first_is, full_stop_is, no_comment}
use Rattle.erl_tokens.proofs.LongestQuote.{quoted_more, quoted_fits, limited_token, character_fits, token_same}

-- the piece takes at least one byte and at most so many, if it is a token
abbrev pub Fits : ℕ → Piece → Type 0
Fits len q = (kind : TokenKind) (n : ℕ) → q ≡ p.Token kind n → (0 < n) × (n ≤ len)

fits_if : (len : ℕ) (c : Bool) (x y : Piece) → Fits len x → Fits len y → Fits len (if c then x else y)
fits_if len true x y a b = a
fits_if len false x y a b = b

-- ---- Names

fits_name : (x : ℕ) (xs : List ℕ) → Fits (length (x ∷ xs)) (name (x ∷ xs))
fits_name x xs kind n e =
    let d : ℕ = prefix_len is_name xs in
    let a : n ≡ length (take (1 + d) (x ∷ xs)) = just_name (x ∷ xs) kind n e in
    (omega (arith, a, length-take (1 + d) (x ∷ xs)), omega (arith, a, length-take (1 + d) (x ∷ xs)))

-- ---- Integers

digits_by : (base x : ℕ) (xs : List ℕ) (c : Bool) → goes_on base x (get_or xs 0 0) ≡ c → digits_len base xs ≤ length xs → digits_len base (x ∷ xs) ≤ length (x ∷ xs)
digits_by base x xs true e h = rw e (omega arith)
digits_by base x xs false e h = rw e (omega arith)

digits_within : (base : ℕ) (xs : List ℕ) → digits_len base xs ≤ length xs
digits_within base [] = omega arith
digits_within base (x ∷ xs) = digits_by base x xs (goes_on base x (get_or xs 0 0)) refl (digits_within base xs)

-- digits of a base stand behind its `#`
fits_based : (base len n : ℕ) (bs : List ℕ) (kind : TokenKind) → based base len bs ≡ p.Token kind n → (0 < length bs) × (n ≤ len + length bs)
fits_based base len n [] kind e =
    let c : is_based base [] ≡ true = chosen (is_based base []) _ why.BadNumber kind n e in
    absurd (no_digit base (small_base base len n [] kind e) (and_right (nat_le 2 base && nat_le base 36) (is_digit base 0) c))
fits_based base len n (x ∷ xs) kind e = (omega arith, omega (arith, just_based base len (x ∷ xs) kind n e, digits_within base xs))

fits_by : (c : Bool) (d x n : ℕ) (xs : List ℕ) (kind : TokenKind) → integer_by c d (x ∷ xs) ≡ p.Token kind n → n ≤ length (x ∷ xs)
unfolding integer_by
fits_by true d x n xs kind e =
    let a = fits_based (number 10 (take d (x ∷ xs))) (d + 1) n (drop (d + 1) (x ∷ xs)) kind e in
    omega (arith, a.0, a.1, length-drop (d + 1) (x ∷ xs))
fits_by false d x n xs kind e = omega (arith, just_decimal (x ∷ xs) kind n e, digits_within 10 xs)

fits_integer : (x : ℕ) (xs : List ℕ) → Fits (length (x ∷ xs)) (integer_at (x ∷ xs))
fits_integer x xs kind n e =
    let d : ℕ = 1 + prefix_len (is_digit 10) xs in
    let c : Bool = get_or (x ∷ xs) d 0 == 35 in
    let f = sym (integer_is (x ∷ xs)) ∙ e in
    (omega (arith, (least_by c n (x ∷ xs) kind f).0), fits_by c d x n xs kind f)

-- ---- Strings, quoted atoms and marks

fits_string : (x : ℕ) (xs : List ℕ) (cut : Bool) → Fits (length (x ∷ xs)) (string cut (x ∷ xs))
fits_string x xs cut kind n e = (omega (arith, quoted_more 34 k.Str kind cut 1 0 n xs e), omega (arith, quoted_fits 34 k.Str kind cut 1 0 n xs e))

fits_quoted_atom : (x : ℕ) (xs : List ℕ) (cut : Bool) → Fits (length (x ∷ xs)) (quoted_atom cut (x ∷ xs))
fits_quoted_atom x xs cut kind n e =
    let a = limited_token (x ∷ xs) (quoted 39 k.Atom cut 1 0 xs) kind n e in
    (omega (arith, quoted_more 39 k.Atom kind cut 1 0 n xs a), omega (arith, quoted_fits 39 k.Atom kind cut 1 0 n xs a))

fits_marked : (x : ℕ) (xs : List ℕ) (cut : Bool) (o : Option TokenKind) → IfSome o (λ mine. (0 < length (spelling mine)) × (length (spelling mine) ≤ length (x ∷ xs))) → Fits (length (x ∷ xs)) (marked o cut (x ∷ xs))
fits_marked x xs cut (Some mine) h kind n e =
    let i : length (spelling mine) ≡ n = token_same mine kind (length (spelling mine)) n e in
    (omega (arith, h.0, i), omega (arith, h.1, i))
fits_marked x xs cut None h kind n e =
    let i : n ≡ 1 = full_stop_is cut (x ∷ xs) kind n e in
    (omega (arith, i), omega (arith, i))

fits_mark : (x : ℕ) (xs : List ℕ) (cut : Bool) → Fits (length (x ∷ xs)) (mark cut (x ∷ xs))
fits_mark x xs cut = fits_marked x xs cut (find (begins_with (x ∷ xs)) MARKS) (mark_within (x ∷ xs) (find (begins_with (x ∷ xs)) MARKS) refl)

-- ---- All tokens

fits_first : (x : ℕ) (xs : List ℕ) (cut : Bool) → Fits (length (x ∷ xs)) (by_first x cut (x ∷ xs))
unfolding by_first
fits_first x xs cut =
    let bs : List ℕ = x ∷ xs in
    let l : ℕ = length bs in
    fits_if l (x == 37) (comment cut bs) _ (λ kind n e. absurd (no_comment cut bs kind n e))
    (fits_if l (begins_name x) (name bs) _ (fits_name x xs)
    (fits_if l (is_digit 10 x) (integer_at bs) _ (fits_integer x xs)
    (fits_if l (x == 36) (character cut bs) _ (λ kind n e. character_fits x n xs cut kind e)
    (fits_if l (x == 34) (string cut bs) _ (fits_string x xs cut)
    (fits_if l (x == 39) (quoted_atom cut bs) (mark cut bs) (fits_quoted_atom x xs cut) (fits_mark x xs cut))))))

-- no token stands at the front of no text
nothing : (cut : Bool) → piece cut [] ≡ p.Fault why.UnexpectedCharacter 0
unfolding piece
nothing cut = refl

pub within : (cut : Bool) (bs : List ℕ) (kind : TokenKind) (n : ℕ) → piece cut bs ≡ p.Token kind n → (0 < n) × (n ≤ length bs)
within cut [] kind n e = absurd (let a : p.Fault why.UnexpectedCharacter 0 ≡ p.Token kind n = sym (nothing cut) ∙ e in cc)
within cut (x ∷ xs) kind n e = fits_first x xs cut kind n (first_is cut (x ∷ xs) kind n e)
