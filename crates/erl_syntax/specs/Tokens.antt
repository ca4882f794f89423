-- The tokens of a text (Reference Manual, "Character Set and Source File Encoding", "Expressions" and "Data Types").
--
-- This profile has no floats, integers below 2^127, atoms of at most 255 characters, and no sigils and triple-quoted strings.
-- A piece is what stands at the front of a text: white space or a comment, the longest token, or a fault.
-- A text is read up to its first byte that belongs to no character: `cut` says that there is one.
use Rattle.std.specs.Prelude.{ℕ, zero, suc, ◌+◌, ◌-◌, ◌^◌, ◌≡◌, ◌<◌, ◌≤◌, Bool, true, false, ◌&&◌, ◌||◌, not, nat_le, nat_lt, ◌==◌, if◌then◌else◌, List, [], ◌∷◌, length, take, drop, slice_index, Option, Some, None}
use Rattle.std.specs.List.{prefix_len, find}
use Rattle.std.specs.Char.{is_ascii_alphabetic, is_ascii_alphanumeric, is_ascii_lowercase}
use Rattle.std.specs.Str.Lossy.{utf8_valid_len}
use Rattle.erl_syntax.specs.declared.token.TheConstants.{RESERVED, MARKS}
use Rattle.erl_syntax.specs.declared.span.Span.{Span}
use Rattle.erl_syntax.specs.declared.token.Token.{Token}
use Rattle.erl_syntax.specs.declared.token.TokenKind.{TokenKind}
use Rattle.erl_syntax.specs.declared.token.TokenKind.TheVariants as k
use Rattle.erl_syntax.specs.declared.token.LexFault.{LexFault}
use Rattle.erl_syntax.specs.declared.token.LexCause.{LexCause}
use Rattle.erl_syntax.specs.declared.token.LexCause.TheVariants as why
use Rattle.erl_syntax.specs.declared.token.Piece.{Piece}
use Rattle.erl_syntax.specs.declared.token.Piece.TheVariants as p
use Rattle.erl_syntax.specs.Characters.{is_continuation, character_len, is_digit, number, escape_len, between_quotes, spelled}
use Rattle.erl_syntax.specs.Spellings.{spelling, begins_with, is_spelled}

-- ---- White space and comments

-- The bytes of the white space at the front: one of the characters 0 to 32, or of 128 to 160, which UTF-8 writes as 194 and a byte of that number.
abbrev pub white_len : List ℕ → ℕ
white_len bs = if length bs == 0 then 0
    else (if nat_le (slice_index bs 0) 32 then 1
    else (if slice_index bs 0 == 194 && (nat_le 128 (slice_index bs 1) && nat_le (slice_index bs 1) 160) then 2 else 0))

-- a comment goes from `%` to before the line feed (10)
abbrev pub comment_len : List ℕ → ℕ
comment_len bs = 1 + prefix_len (λ b. not (b == 10)) (drop 1 bs)

abbrev pub comment : Bool → List ℕ → Piece
comment cut bs = if cut && comment_len bs == length bs then p.Fault why.NotUtf8 (comment_len bs) else p.Blank (comment_len bs)

-- ---- Names: atoms, variables and reserved words

-- a letter, a digit, `_` (95) or `@` (64)
abbrev pub is_name : ℕ → Bool
is_name b = is_ascii_alphanumeric b || (b == 95 || b == 64)

-- a letter or `_`
abbrev pub begins_name : ℕ → Bool
begins_name b = is_ascii_alphabetic b || b == 95

-- a name that is no reserved word
abbrev pub name_kind : List ℕ → TokenKind
name_kind name = if is_ascii_lowercase (slice_index name 0) then k.Atom
    else (if slice_index name 0 == 95 && length name == 1 then k.Underscore else k.Variable)

-- a reserved word, an atom of at most 255 characters or a variable
abbrev pub named : Option TokenKind → List ℕ → Piece
named (Some word) name = p.Token word (length name)
named None name = if is_ascii_lowercase (slice_index name 0) && nat_lt 255 (length name) then p.Fault why.AtomTooLong 0
    else p.Token (name_kind name) (length name)

-- a name's first character, and then as many of a name as stand there
abbrev pub name : List ℕ → Piece
name bs = let word = take (1 + prefix_len is_name (drop 1 bs)) bs in named (find (is_spelled word) RESERVED) word

-- ---- Integers

-- digits of a base go on with the byte before the next one: a digit, or `_` (95) before a digit
abbrev pub goes_on : ℕ → ℕ → ℕ → Bool
goes_on base b next = is_digit base b || (b == 95 && is_digit base next)

-- the bytes behind a digit that go on with digits of a base, with single `_` between two of them
abbrev pub digits_len : ℕ → List ℕ → ℕ
digits_len base [] = 0
digits_len base (b ∷ bs) = if goes_on base b (slice_index bs 0) then suc (digits_len base bs) else 0

-- an integer of this value, in so many bytes
abbrev pub integer : ℕ → ℕ → Piece
integer value len = if nat_lt value (2 ^ 127) then p.Token k.Integer len else p.Fault why.IntegerTooWide 0

-- a base from 2 to 36 and, right after `#`, a digit of that base
abbrev pub is_based : ℕ → List ℕ → Bool
is_based base bs = (nat_le 2 base && nat_le base 36) && is_digit base (slice_index bs 0)

-- the `len` bytes of a base with their `#`, and then digits of that base
abbrev pub based : ℕ → ℕ → List ℕ → Piece
based base len bs = let n = 1 + digits_len base (drop 1 bs) in
    if is_based base bs then integer (number base (take n bs)) (len + n) else p.Fault why.BadNumber 0

-- decimal digits, and no full stop (46) and digit behind them
abbrev pub decimal : List ℕ → Piece
decimal bs = let n = 1 + digits_len 10 (drop 1 bs) in
    if slice_index bs n == 46 && is_digit 10 (slice_index bs (n + 1)) then p.Fault why.Float 0
    else integer (number 10 (take n bs)) n

-- decimal digits without `_` right before `#` (35) are a base
abbrev pub integer_at : List ℕ → Piece
integer_at bs = let n = 1 + prefix_len (is_digit 10) (drop 1 bs) in
    if slice_index bs n == 35 then based (number 10 (take n bs)) (n + 1) (drop (n + 1) bs) else decimal bs

-- ---- Characters, strings and quoted atoms

-- what a backslash makes of the text, that stands `at` bytes after the front and begins no escape with the bytes behind it
abbrev pub no_escape : Bool → ℕ → List ℕ → Piece
no_escape cut at bs = if cut && length bs == 0 then p.Fault why.NotUtf8 (at + 1) else p.Fault why.BadEscape at

-- `$` and a backslash
abbrev pub escaped_character : Bool → Option ℕ → List ℕ → Piece
escaped_character cut (Some n) bs = p.Token k.Character (n + 2)
escaped_character cut None bs = no_escape cut 1 bs

-- `$` (36) and a character or an escape
abbrev pub character : Bool → List ℕ → Piece
character cut bs = if length bs == 1 then (if cut then p.Fault why.NotUtf8 1 else p.Fault why.UnexpectedCharacter 0)
    else (if slice_index bs 1 == 92 then escaped_character cut (escape_len (drop 2 bs)) (drop 2 bs)
    else p.Token k.Character (1 + character_len (drop 1 bs)))

-- From `at` bytes after the opening quote `mark` on, where `skip` bytes more belong to the character or escape before: the token of this kind,
-- which the next `mark` closes that stands in no escape, or its first fault.
abbrev pub quoted : ℕ → TokenKind → Bool → ℕ → ℕ → List ℕ → Piece
quoted mark kind cut at skip [] = if cut then p.Fault why.NotUtf8 at else p.Fault why.UnclosedQuote 0
quoted mark kind cut at (suc skip) (b ∷ bs) = quoted mark kind cut (at + 1) skip bs
quoted mark kind cut at zero (b ∷ bs) = if b == mark then p.Token kind (at + 1)
    else (if b == 92 then elim (escape_len bs) as (λ _. Piece) [ Some n ↦ quoted mark kind cut (at + 1) n bs | None ↦ no_escape cut at bs ]
    else quoted mark kind cut (at + 1) 0 bs)

-- a quoted atom of more than 255 characters is a fault
abbrev pub limited : List ℕ → Piece → Piece
limited bs (p.Token kind n) = if nat_lt 255 (length (spelled (between_quotes (take n bs)))) then p.Fault why.AtomTooLong 0 else p.Token kind n
limited bs (p.Blank n) = p.Blank n
limited bs (p.Fault cause n) = p.Fault cause n

-- a string or a quoted atom
abbrev pub string : Bool → List ℕ → Piece
string cut bs = quoted 34 k.Str cut 1 0 (drop 1 bs)

abbrev pub quoted_atom : Bool → List ℕ → Piece
quoted_atom cut bs = limited bs (quoted 39 k.Atom cut 1 0 (drop 1 bs))

-- ---- Marks

-- white space, a comment (37) or the end of the text
abbrev pub ends_form : Bool → List ℕ → Bool
ends_form cut bs = if length bs == 0 then not cut else (slice_index bs 0 == 37 || nat_lt 0 (white_len bs))

-- a full stop that ends a form
abbrev pub full_stop : Bool → List ℕ → Piece
full_stop cut bs = if slice_index bs 0 == 46 && ends_form cut (drop 1 bs) then p.Token k.FullStop 1 else p.Fault why.UnexpectedCharacter 0

-- a mark, or else a full stop
abbrev pub marked : Option TokenKind → Bool → List ℕ → Piece
marked (Some kind) cut bs = p.Token kind (length (spelling kind))
marked None cut bs = full_stop cut bs

-- the longest mark that stands there: `MARKS` has each mark before those that it begins with
abbrev pub mark : Bool → List ℕ → Piece
mark cut bs = marked (find (begins_with bs) MARKS) cut bs

-- ---- The text

-- What stands at the front of a text that isn't at its end, by its first character: white space, a comment (`%`, 37), a name, an integer,
-- `$` (36) and a character, a string (34), a quoted atom (39) or a mark.
unfoldable pub piece : Bool → List ℕ → Piece
piece cut bs = let b = slice_index bs 0 in
    if nat_lt 0 (white_len bs) then p.Blank (white_len bs)
    else (if b == 37 then comment cut bs
    else (if begins_name b then name bs
    else (if is_digit 10 b then integer_at bs
    else (if b == 36 then character cut bs
    else (if b == 34 then string cut bs
    else (if b == 39 then quoted_atom cut bs
    else mark cut bs))))))

-- the place after a byte: a line feed (10) ends a line, and a byte that goes on with a character has none of its own
abbrev pub after : ℕ → Span → Span
after b at = if b == 10 then record { line = at.line + 1; column = 1 }
    else (if is_continuation b then at else record { line = at.line; column = at.column + 1 })

-- the place after n bytes of a text
abbrev pub place_from : Span → ℕ → List ℕ → Span
place_from at zero bs = at
place_from at (suc n) [] = at
place_from at (suc n) (b ∷ bs) = place_from (after b at) n bs

-- the place of a byte of the text
abbrev pub place : List ℕ → ℕ → Span
place text i = place_from (record { line = 1; column = 1 }) i text

-- From the byte `i` on, the text has these tokens, up to its end or to its first fault.
pub data LexesFrom (text : List ℕ) (cut : Bool) : ℕ → List Token → Option LexFault → Type 0 where
  ends : (i : ℕ) → length text ≡ i → cut ≡ false → LexesFrom text cut i [] None
  stops : (i : ℕ) → length text ≡ i → cut ≡ true → LexesFrom text cut i [] (Some (record { at = place text i; why = why.NotUtf8 }))
  skips : (i n : ℕ) (tokens : List Token) (fault : Option LexFault) → i < length text → piece cut (drop i text) ≡ p.Blank n →
      LexesFrom text cut (i + n) tokens fault → LexesFrom text cut i tokens fault
  finds : (i n : ℕ) (kind : TokenKind) (tokens : List Token) (fault : Option LexFault) → i < length text → piece cut (drop i text) ≡ p.Token kind n →
      LexesFrom text cut (i + n) tokens fault →
      LexesFrom text cut i ((record { kind = kind; span = place text i; from = i; to = i + n }) ∷ tokens) fault
  refuses : (i n : ℕ) (cause : LexCause) → i < length text → piece cut (drop i text) ≡ p.Fault cause n →
      LexesFrom text cut i [] (Some (record { at = place text (i + n); why = cause }))

-- the bytes before the first that belongs to no character of UTF-8
abbrev pub front : List ℕ → List ℕ
front text = take (utf8_valid_len text) text

-- there is a byte that belongs to no character
abbrev pub is_cut : List ℕ → Bool
is_cut text = nat_lt (utf8_valid_len text) (length text)

-- the text has these tokens, up to its end or to its first fault
abbrev pub Lexes : List ℕ → List Token → Option LexFault → Type 0
Lexes text tokens fault = LexesFrom (front text) (is_cut text) 0 tokens fault

-- the token's bytes stand in the text, and there is at least one
abbrev pub IsWithin : List ℕ → Token → Type 0
IsWithin text token = (token.from < token.to) × (token.to ≤ length text)

-- the bytes of a token
abbrev pub token_text : List ℕ → Token → List ℕ
token_text text token = take (token.to - token.from) (drop token.from text)
