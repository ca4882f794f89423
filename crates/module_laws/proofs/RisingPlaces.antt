-- The tokens of a text stand at places that rise.
use Rattle.std.proofs.Common.{◌≡◌, ℕ, zero, suc, ◌+◌, ◌<◌, ◌≤◌, Bool, true, false, ◌⊎◌, inl, inr, List, [], ◌∷◌, ◌++◌, length, take, drop, map, Option, Some, None, IfSome, refl, sym, ap, subst, arith, ◌∙◌, zero-add}
use Rattle.std.specs.Prelude.{nat_lt, nat_le, ◌&&◌, ◌||◌, ◌==◌, slice_index, if◌then◌else◌}
use Rattle.std.specs.Char.{is_ascii_alphabetic, digit_value}
use Rattle.std.specs.Int.{is_in_range}
use Rattle.std.specs.List.{find, list_all, AllByRecursion}
use Rattle.std.proofs.lemmas.Bool.Decides.{nat_tests}
use Rattle.std.proofs.lemmas.List.{length-drop}
use Rattle.std.proofs.lemmas.List.Elements.{All-from_recursion, All-map, All-tail, recursion_from_All}
use Rattle.std.proofs.lemmas.Str.Parse.{digit_from_value}
use Rattle.erl_syntax.specs.Characters.{is_continuation, is_digit}
use Rattle.erl_syntax.specs.Checking.{IsBefore, RisingBy}
use Rattle.erl_syntax.specs.Reading.{word_of, are_strings, before, strings_joined}
use Rattle.erl_syntax.specs.Spellings.{spelling, begins_with}
use Rattle.erl_syntax.specs.Tokens.{white_len, comment, begins_name, name, integer_at, character, string, quoted_atom, ends_form, full_stop, marked, mark, piece, after, place_from, place, front, is_cut, LexesFrom, ends, stops, skips, finds, refuses}
use Rattle.erl_syntax.specs.Word.{Word}
use Rattle.erl_syntax.specs.declared.span.Span.{Span}
use Rattle.erl_syntax.specs.declared.token.LexFault.{LexFault}
use Rattle.erl_syntax.specs.declared.token.Piece.{Piece}
use Rattle.erl_syntax.specs.declared.token.Piece.TheVariants as p
use Rattle.erl_syntax.specs.declared.token.TheConstants.{MARKS}
use Rattle.erl_syntax.specs.declared.token.Token.{Token}
use Rattle.erl_syntax.specs.declared.token.TokenKind.{TokenKind}
use Rattle.erl_tokens.proofs.FoundMark.{found, mark_stands, and_left, and_right}
use Rattle.erl_tokens.proofs.TokenWithin.{within}
use Rattle.module_laws.specs.Places.{TokensRise, WordsRise}

-- ---- The first byte of a token

-- a token's first byte is ASCII
abbrev IsPlain : ℕ → Piece → Type 0
IsPlain b q = (kind : TokenKind) (n : ℕ) → q ≡ p.Token kind n → b < 128

plain_if : (b : ℕ) (c : Bool) (x y : Piece) → (c ≡ true → IsPlain b x) → IsPlain b y → IsPlain b (if c then x else y)
plain_if b true x y h g = h refl
plain_if b false x y h g = g

is_byte : (b c : ℕ) → (b == c) ≡ true → b ≡ c
is_byte b c e = grind (arith, nat_tests, e)

in_range : (b low high : ℕ) → (nat_le low b && nat_le b high) ≡ true → b ≤ high
in_range b low high e = let f : nat_le b high ≡ true = and_right (nat_le low b) (nat_le b high) e in grind (arith, nat_tests, f)

either : (x y : Bool) → (x || y) ≡ true → (x ≡ true) ⊎ (y ≡ true)
either true y e = inl refl
either false y e = inr e

letter_plain : (b : ℕ) → is_ascii_alphabetic b ≡ true → b < 128
letter_plain b e = elim (either (is_in_range 65 90 b) (is_in_range 97 122 b) e) [ inl h ↦ omega (arith, in_range b 65 90 h) | inr h ↦ omega (arith, in_range b 97 122 h) ]

name_plain : (b : ℕ) → begins_name b ≡ true → b < 128
name_plain b e = elim (either (is_ascii_alphabetic b) (b == 95) e) [ inl h ↦ letter_plain b h | inr h ↦ omega (arith, is_byte b 95 h) ]

digit_plain : (b : ℕ) → is_digit 10 b ≡ true → b < 128
digit_plain b e =
    let h : digit_value b < 10 = grind (arith, nat_tests, e) in
    let r = digit_from_value b h in omega (arith, r.1)

starts_plain : TokenKind → Bool
starts_plain kind = nat_lt 0 (length (spelling kind)) && nat_lt (slice_index (spelling kind) 0) 128

all_plain : list_all starts_plain MARKS ≡ true
unfolding starts_plain
all_plain = refl

front_of : (n : ℕ) (bs : List ℕ) → 0 < n → slice_index (take n bs) 0 ≡ slice_index bs 0
front_of zero bs h = absurd (omega arith)
front_of (suc n) [] h = refl
front_of (suc n) (b ∷ bs) h = refl

mark_plain : (bs : List ℕ) (kind : TokenKind) → begins_with bs kind ≡ true → starts_plain kind ≡ true → slice_index bs 0 < 128
unfolding starts_plain
mark_plain bs kind e f =
    let some = and_left (nat_lt 0 (length (spelling kind))) (nat_lt (slice_index (spelling kind) 0) 128) f in
    let low = and_right (nat_lt 0 (length (spelling kind))) (nat_lt (slice_index (spelling kind) 0) 128) f in
    let l : 0 < length (spelling kind) = grind (arith, nat_tests, some) in
    let h : slice_index (spelling kind) 0 < 128 = grind (arith, nat_tests, low) in
    omega (arith, h, ap (λ xs. slice_index xs 0) (mark_stands bs kind e), front_of (length (spelling kind)) bs l)

full_stop_plain : (cut : Bool) (bs : List ℕ) → IsPlain (slice_index bs 0) (full_stop cut bs)
full_stop_plain cut bs =
    plain_if (slice_index bs 0) (slice_index bs 0 == 46 && ends_form cut (drop 1 bs)) _ _
    (λ e kind n _. omega (arith, is_byte (slice_index bs 0) 46 (and_left (slice_index bs 0 == 46) (ends_form cut (drop 1 bs)) e)))
    (λ kind n e. absurd (cc))

marked_plain : (o : Option TokenKind) (cut : Bool) (bs : List ℕ) → IfSome o (λ kind. (begins_with bs kind ≡ true) × (starts_plain kind ≡ true)) → IsPlain (slice_index bs 0) (marked o cut bs)
marked_plain None cut bs h = full_stop_plain cut bs
marked_plain (Some kind) cut bs h = λ other n e. mark_plain bs kind h.0 h.1

piece_plain : (cut : Bool) (bs : List ℕ) → IsPlain (slice_index bs 0) (piece cut bs)
unfolding piece
piece_plain cut bs =
    let b : ℕ = slice_index bs 0 in
    plain_if (slice_index bs 0) (nat_lt 0 (white_len bs)) (p.Blank (white_len bs)) _ (λ _ kind n e. absurd (cc))
    (plain_if (slice_index bs 0) (slice_index bs 0 == 37) (comment cut bs) _ (λ e kind n _. omega (arith, is_byte (slice_index bs 0) 37 e))
    (plain_if (slice_index bs 0) (begins_name (slice_index bs 0)) (name bs) _ (λ e kind n _. name_plain (slice_index bs 0) e)
    (plain_if (slice_index bs 0) (is_digit 10 (slice_index bs 0)) (integer_at bs) _ (λ e kind n _. digit_plain (slice_index bs 0) e)
    (plain_if (slice_index bs 0) (slice_index bs 0 == 36) (character cut bs) _ (λ e kind n _. omega (arith, is_byte (slice_index bs 0) 36 e))
    (plain_if (slice_index bs 0) (slice_index bs 0 == 34) (string cut bs) _ (λ e kind n _. omega (arith, is_byte (slice_index bs 0) 34 e))
    (plain_if (slice_index bs 0) (slice_index bs 0 == 39) (quoted_atom cut bs) (mark cut bs) (λ e kind n _. omega (arith, is_byte (slice_index bs 0) 39 e))
    (marked_plain (find (begins_with bs) MARKS) cut bs (found (begins_with bs) starts_plain MARKS all_plain))))))))

-- ---- Places

abbrev IsAtMost : Span → Span → Type 0
IsAtMost a b = IsBefore a b ⊎ (a ≡ b)

before_before : (a b c : Span) → IsBefore a b → IsBefore b c → IsBefore a c
before_before a b c (inl h) (inl g) = inl (omega arith)
before_before a b c (inl h) (inr g) = inl (omega (arith, h, g.0))
before_before a b c (inr h) (inl g) = inl (omega (arith, h.0, g))
before_before a b c (inr h) (inr g) = inr (omega (arith, h.0, g.0), omega (arith, h.1, g.1))

before_most : (a b c : Span) → IsBefore a b → IsAtMost b c → IsBefore a c
before_most a b c h (inl g) = before_before a b c h g
before_most a b c h (inr e) = subst (IsBefore a) e h

most_most : (a b c : Span) → IsAtMost a b → IsAtMost b c → IsAtMost a c
most_most a b c (inl h) g = inl (before_most a b c h g)
most_most a b c (inr e) g = subst (λ (u : Span). IsAtMost u c) (sym e) g

after_by : (line other : Bool) (at : Span) → IsAtMost at (if line then record { line = at.line + 1; column = 1 } else (if other then at else record { line = at.line; column = at.column + 1 }))
after_by true other at = inl (inl (omega arith))
after_by false true at = inr refl
after_by false false at = inl (inr (refl, omega arith))

past_by : (line other : Bool) (at : Span) → other ≡ false → IsBefore at (if line then record { line = at.line + 1; column = 1 } else (if other then at else record { line = at.line; column = at.column + 1 }))
past_by true other at e = inl (omega arith)
past_by false true at e = cc e
past_by false false at e = inr (refl, omega arith)

no_continuation : (b : ℕ) → b < 128 → is_continuation b ≡ false
no_continuation b h = let t : nat_le 128 b ≡ false = grind (arith, nat_tests) in rw t refl

place_goes : (n : ℕ) (bs : List ℕ) (at : Span) → IsAtMost at (place_from at n bs)
place_goes zero bs at = inr refl
place_goes (suc n) [] at = inr refl
place_goes (suc n) (b ∷ bs) at = most_most at (after b at) (place_from (after b at) n bs) (after_by (b == 10) (is_continuation b) at) (place_goes n bs (after b at))

place_nil : (at : Span) (n : ℕ) → place_from at n [] ≡ at
place_nil at zero = refl
place_nil at (suc n) = refl

place_sum : (at : Span) (i n : ℕ) (bs : List ℕ) → place_from at (i + n) bs ≡ place_from (place_from at i bs) n (drop i bs)
place_sum at zero n bs = ap (λ m. place_from at m bs) (zero-add n)
place_sum at (suc i) n [] = place_nil at (suc i + n) ∙ sym (place_nil at n)
place_sum at (suc i) n (b ∷ bs) =
    let e : suc i + n ≡ suc (i + n) = omega arith in
    rw e (place_sum (after b at) i n bs)

-- what begins with an ASCII byte ends at a later place
place_past : (n : ℕ) (bs : List ℕ) (at : Span) → 0 < n → 0 < length bs → slice_index bs 0 < 128 → IsBefore at (place_from at n bs)
place_past zero bs at h l g = absurd (omega arith)
place_past (suc n) [] at h l g = absurd (omega arith)
place_past (suc n) (b ∷ bs) at h l g = before_most at (after b at) (place_from (after b at) n bs) (past_by (b == 10) (is_continuation b) at (no_continuation b g)) (place_goes n bs (after b at))

module _ (text : List ℕ) (cut : Bool) where
  onward : (i n : ℕ) → IsAtMost (place text i) (place text (i + n))
  onward i n = subst (IsAtMost (place text i)) (sym (place_sum (record { line = 1; column = 1 }) i n text)) (place_goes n (drop i text) (place text i))

  past : (i n : ℕ) (kind : TokenKind) → i < length text → piece cut (drop i text) ≡ p.Token kind n → IsBefore (place text i) (place text (i + n))
  past i n kind h e =
      let m = within cut (drop i text) kind n e in
      subst (IsBefore (place text i)) (sym (place_sum (record { line = 1; column = 1 }) i n text)) (place_past n (drop i text) (place text i) m.0 (omega (arith, length-drop i text)) (piece_plain cut (drop i text) kind n e))

  abbrev From : ℕ → List Token → Type 0
  From i tokens = AllByRecursion (λ (t : Token). IsAtMost (place text i) t.span) tokens

  weaker : (i j : ℕ) (tokens : List Token) → IsAtMost (place text i) (place text j) → From j tokens → From i tokens
  weaker i j [] h g = tt
  weaker i j (t ∷ ts) h g = (most_most (place text i) (place text j) t.span h g.0, weaker i j ts h g.1)

  from : (i : ℕ) (tokens : List Token) (fault : Option LexFault) → LexesFrom text cut i tokens fault → From i tokens
  from _ _ _ (ends i e c) = tt
  from _ _ _ (stops i e c) = tt
  from _ _ _ (skips i n tokens fault h e z) = weaker i (i + n) tokens (onward i n) (from (i + n) tokens fault z)
  from _ _ _ (finds i n kind tokens fault h e z) = (inr refl, weaker i (i + n) tokens (onward i n) (from (i + n) tokens fault z))
  from _ _ _ (refuses i n cause h e) = tt

  later : (at : Span) (j : ℕ) (tokens : List Token) → IsBefore at (place text j) → From j tokens → AllByRecursion (λ (t : Token). IsBefore at t.span) tokens
  later at j [] h g = tt
  later at j (t ∷ ts) h g = (before_most at (place text j) t.span h g.0, later at j ts h g.1)

  rising : (i : ℕ) (tokens : List Token) (fault : Option LexFault) → LexesFrom text cut i tokens fault → RisingBy (λ (t : Token). t.span) tokens
  rising _ _ _ (ends i e c) = tt
  rising _ _ _ (stops i e c) = tt
  rising _ _ _ (skips i n tokens fault h e z) = rising (i + n) tokens fault z
  rising _ _ _ (finds i n kind tokens fault h e z) = (
    All-from_recursion (λ (t : Token). IsBefore (place text i) t.span) tokens (later (place text i) (i + n) tokens (past i n kind h e) (from (i + n) tokens fault z)),
    rising (i + n) tokens fault z,
  )
  rising _ _ _ (refuses i n cause h e) = tt

pub tokens_rise : TokensRise
tokens_rise text tokens fault z = rising (front text) (is_cut text) 0 tokens fault z

-- ---- Words

abbrev Behind : Span → List Word → Type 0
Behind at ws = AllByRecursion (λ (w : Word). IsBefore at w.at) ws

merged_behind : (b : Bool) (at : Span) (w v : Word) (ws : List Word) → IsBefore at w.at → Behind at (v ∷ ws) →
    Behind at (if b then record { kind = w.kind; at = w.at; number = w.number; chars = w.chars ++ v.chars } ∷ ws else w ∷ v ∷ ws)
merged_behind true at w v ws h g = (h, g.1)
merged_behind false at w v ws h g = (h, g)

before_behind : (at : Span) (w : Word) (ws : List Word) → IsBefore at w.at → Behind at ws → Behind at (before w ws)
before_behind at w [] h g = (h, tt)
before_behind at w (v ∷ ws) h g = merged_behind (are_strings w.kind v.kind) at w v ws h g

joined_behind : (at : Span) (ws : List Word) → Behind at ws → Behind at (strings_joined ws)
joined_behind at [] h = tt
joined_behind at (w ∷ ws) h = before_behind at w (strings_joined ws) h.0 (joined_behind at ws h.1)

abbrev Rise : List Word → Type 0
Rise ws = RisingBy (λ (w : Word). w.at) ws

merged_rises : (b : Bool) (w v : Word) (ws : List Word) → Rise (w ∷ v ∷ ws) →
    Rise (if b then record { kind = w.kind; at = w.at; number = w.number; chars = w.chars ++ v.chars } ∷ ws else w ∷ v ∷ ws)
merged_rises true w v ws h = (All-tail (λ (u : Word). IsBefore w.at u.at) v ws h.0, h.1.1)
merged_rises false w v ws h = h

before_rises : (w : Word) (ws : List Word) → Rise (w ∷ ws) → Rise (before w ws)
before_rises w [] h = h
before_rises w (v ∷ ws) h = merged_rises (are_strings w.kind v.kind) w v ws h

joined_rises : (ws : List Word) → Rise ws → Rise (strings_joined ws)
joined_rises [] h = tt
joined_rises (w ∷ ws) h =
    let l = recursion_from_All (λ (u : Word). IsBefore w.at u.at) ws h.0 in
    before_rises w (strings_joined ws) (All-from_recursion (λ (u : Word). IsBefore w.at u.at) (strings_joined ws) (joined_behind w.at ws l), joined_rises ws h.1)

mapped_rises : (text : List ℕ) (table : List (List ℕ)) (tokens : List Token) → RisingBy (λ (t : Token). t.span) tokens → Rise (map (word_of text table) tokens)
mapped_rises text table [] h = tt
mapped_rises text table (t ∷ ts) h = (All-map (λ (w : Word). IsBefore t.span w.at) (word_of text table) ts h.0, mapped_rises text table ts h.1)

pub words_rise : WordsRise
words_rise text tokens fault table z = joined_rises (map (word_of text table) tokens) (mapped_rises text table tokens (tokens_rise text tokens fault z))
