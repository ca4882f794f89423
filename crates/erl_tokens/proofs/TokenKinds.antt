-- Which kinds the tokens of each piece have.
use Rattle.std.proofs.Common.{◌≡◌, ℕ, zero, suc, ◌+◌, Bool, true, false, ◌&&◌, nat_lt, ◌==◌, ◌^◌, if◌then◌else◌, List, [], ◌∷◌, length, drop, take, get_or, Option, Some, None, IfSome, sym, ap, ◌∙◌}
use Rattle.std.specs.List.{find, list_all, prefix_len}
use Rattle.std.specs.Char.{is_ascii_lowercase}
use Rattle.erl_syntax.specs.declared.token.TheConstants.{MARKS, RESERVED}
use Rattle.erl_syntax.specs.declared.token.TokenKind.{TokenKind}
use Rattle.erl_syntax.specs.declared.token.TokenKind.TheVariants as k
use Rattle.erl_syntax.specs.declared.token.LexCause.TheVariants as why
use Rattle.erl_syntax.specs.declared.token.Piece.{Piece}
use Rattle.erl_syntax.specs.declared.token.Piece.TheVariants as p
use Rattle.erl_syntax.specs.Characters.{is_digit, escape_len, spelled, between_quotes, number}
use Rattle.erl_syntax.specs.Spellings.{begins_with, is_spelled}
use Rattle.erl_syntax.specs.Tokens.{comment, comment_len, name, named, name_kind, is_name, integer_at, integer, decimal, based, is_based, digits_len, character, escaped_character, no_escape, string, quoted_atom, quoted, limited, mark, marked, ends_form}
use Rattle.erl_tokens.proofs.FoundMark.{found}

-- a piece that is a token has a kind of these
abbrev pub Has : (TokenKind → Bool) → Piece → Type 0
Has q (p.Blank n) = Unit {0}
Has q (p.Token kind n) = q kind ≡ true
Has q (p.Fault cause n) = Unit {0}

-- a token of a kind that is none of them is no such piece
pub other_token : (q : TokenKind → Bool) (piece : Piece) (kind : TokenKind) (n : ℕ) → q kind ≡ false → Has q piece → piece ≡ p.Token kind n → ⊥
other_token q (p.Blank m) kind n e h t = cc
other_token q (p.Token other m) kind n e h t =
    let same : other ≡ kind = cc in
    let both : true ≡ false = sym h ∙ ap q same ∙ e in
    cc
other_token q (p.Fault cause m) kind n e h t = cc

pub has_if : (q : TokenKind → Bool) (c : Bool) (x y : Piece) → Has q x → Has q y → Has q (if c then x else y)
has_if q true x y a b = a
has_if q false x y a b = b

of_kinds : (q : TokenKind → Bool) (c : Bool) (x y : TokenKind) → q x ≡ true → q y ≡ true → q (if c then x else y) ≡ true
of_kinds q true x y a b = a
of_kinds q false x y a b = b

pub comments : (q : TokenKind → Bool) (cut : Bool) (bs : List ℕ) → Has q (comment cut bs)
comments q cut bs = has_if q (cut && comment_len bs == length bs) (p.Fault why.NotUtf8 (comment_len bs)) (p.Blank (comment_len bs)) tt tt

-- ---- Names

-- each kind of a name is one of them
pub record AreNames (q : TokenKind → Bool) : Type 0 where
  pub reserved : list_all q RESERVED ≡ true
  pub atom : q k.Atom ≡ true
  pub underscore : q k.Underscore ≡ true
  pub variable : q k.Variable ≡ true

second : (q r : TokenKind → Bool) (o : Option TokenKind) → IfSome o (λ kind. (q kind ≡ true) × (r kind ≡ true)) → IfSome o (λ kind. r kind ≡ true)
second q r (Some kind) h = h.1
second q r None h = tt

names_named : (q : TokenKind → Bool) → AreNames q → (o : Option TokenKind) (word : List ℕ) → IfSome o (λ kind. q kind ≡ true) → Has q (named o word)
names_named q a (Some kind) word h = h
names_named q a None word h =
    let underscore : Bool = get_or word 0 0 == 95 && length word == 1 in
    has_if q (is_ascii_lowercase (get_or word 0 0) && nat_lt 255 (length word)) (p.Fault why.AtomTooLong 0) (p.Token (name_kind word) (length word)) tt
    (of_kinds q (is_ascii_lowercase (get_or word 0 0)) k.Atom (if underscore then k.Underscore else k.Variable) a.atom (of_kinds q underscore k.Underscore k.Variable a.underscore a.variable))

pub names : (q : TokenKind → Bool) → AreNames q → (bs : List ℕ) → Has q (name bs)
names q a bs =
    let word : List ℕ = take (1 + prefix_len is_name (drop 1 bs)) bs in
    names_named q a (find (is_spelled word) RESERVED) word (second (is_spelled word) q (find (is_spelled word) RESERVED) (found (is_spelled word) q RESERVED a.reserved))

-- ---- Integers and characters

integers_of : (q : TokenKind → Bool) → q k.Integer ≡ true → (value len : ℕ) → Has q (integer value len)
integers_of q a value len = has_if q (nat_lt value (2 ^ 127)) (p.Token k.Integer len) (p.Fault why.IntegerTooWide 0) a tt

integers_based : (q : TokenKind → Bool) → q k.Integer ≡ true → (base len : ℕ) (bs : List ℕ) → Has q (based base len bs)
integers_based q a base len bs = has_if q (is_based base bs) _ _ (integers_of q a _ _) tt

integers_decimal : (q : TokenKind → Bool) → q k.Integer ≡ true → (bs : List ℕ) → Has q (decimal bs)
integers_decimal q a bs =
    let n : ℕ = 1 + digits_len 10 (drop 1 bs) in
    has_if q (get_or bs n 0 == 46 && is_digit 10 (get_or bs (n + 1) 0)) (p.Fault why.Float 0) _ tt (integers_of q a (number 10 (take n bs)) n)

pub integers : (q : TokenKind → Bool) → q k.Integer ≡ true → (bs : List ℕ) → Has q (integer_at bs)
integers q a bs =
    let n : ℕ = 1 + prefix_len (is_digit 10) (drop 1 bs) in
    has_if q (get_or bs n 0 == 35) _ _ (integers_based q a (number 10 (take n bs)) (n + 1) (drop (n + 1) bs)) (integers_decimal q a bs)

no_escapes : (q : TokenKind → Bool) (cut : Bool) (at : ℕ) (bs : List ℕ) → Has q (no_escape cut at bs)
no_escapes q cut at bs = has_if q (cut && length bs == 0) (p.Fault why.NotUtf8 (at + 1)) (p.Fault why.BadEscape at) tt tt

characters_escaped : (q : TokenKind → Bool) → q k.Character ≡ true → (cut : Bool) (o : Option ℕ) (bs : List ℕ) → Has q (escaped_character cut o bs)
characters_escaped q a cut (Some n) bs = a
characters_escaped q a cut None bs = no_escapes q cut 1 bs

pub characters : (q : TokenKind → Bool) → q k.Character ≡ true → (cut : Bool) (bs : List ℕ) → Has q (character cut bs)
characters q a cut bs =
    has_if q (length bs == 1) _ _ (has_if q cut (p.Fault why.NotUtf8 1) (p.Fault why.UnexpectedCharacter 0) tt tt)
    (has_if q (get_or bs 1 0 == 92) _ (p.Token k.Character _) (characters_escaped q a cut (escape_len (drop 2 bs)) (drop 2 bs)) a)

-- ---- Strings, quoted atoms and marks

quoted_escaped : (q : TokenKind → Bool) (m : ℕ) (kind : TokenKind) (cut : Bool) (at : ℕ) (o : Option ℕ) (bs : List ℕ) → ((n : ℕ) → Has q (quoted m kind cut (at + 1) n bs)) →
    Has q (elim o as (λ _. Piece) [ Some n ↦ quoted m kind cut (at + 1) n bs | None ↦ no_escape cut at bs ])
quoted_escaped q m kind cut at (Some n) bs h = h n
quoted_escaped q m kind cut at None bs h = no_escapes q cut at bs

quotes : (q : TokenKind → Bool) (m : ℕ) (kind : TokenKind) (cut : Bool) → q kind ≡ true → (at skip : ℕ) (bs : List ℕ) → Has q (quoted m kind cut at skip bs)
quotes q m kind cut a at skip [] = has_if q cut (p.Fault why.NotUtf8 at) (p.Fault why.UnclosedQuote 0) tt tt
quotes q m kind cut a at (suc skip) (b ∷ bs) = quotes q m kind cut a (at + 1) skip bs
quotes q m kind cut a at zero (b ∷ bs) =
    has_if q (b == m) (p.Token kind (at + 1)) _ a
    (has_if q (b == 92) _ _ (quoted_escaped q m kind cut at (escape_len bs) bs (λ n. quotes q m kind cut a (at + 1) n bs)) (quotes q m kind cut a (at + 1) 0 bs))

pub strings : (q : TokenKind → Bool) → q k.Str ≡ true → (cut : Bool) (bs : List ℕ) → Has q (string cut bs)
strings q a cut bs = quotes q 34 k.Str cut a 1 0 (drop 1 bs)

limits : (q : TokenKind → Bool) (bs : List ℕ) (piece : Piece) → Has q piece → Has q (limited bs piece)
limits q bs (p.Token kind n) h = has_if q (nat_lt 255 (length (spelled (between_quotes (take n bs))))) (p.Fault why.AtomTooLong 0) (p.Token kind n) tt h
limits q bs (p.Blank n) h = h
limits q bs (p.Fault cause n) h = h

pub quoted_atoms : (q : TokenKind → Bool) → q k.Atom ≡ true → (cut : Bool) (bs : List ℕ) → Has q (quoted_atom cut bs)
quoted_atoms q a cut bs = limits q bs (quoted 39 k.Atom cut 1 0 (drop 1 bs)) (quotes q 39 k.Atom cut a 1 0 (drop 1 bs))

marks_marked : (q : TokenKind → Bool) → q k.FullStop ≡ true → (cut : Bool) (o : Option TokenKind) (bs : List ℕ) → IfSome o (λ kind. q kind ≡ true) → Has q (marked o cut bs)
marks_marked q a cut (Some kind) bs h = h
marks_marked q a cut None bs h = has_if q (get_or bs 0 0 == 46 && ends_form cut (drop 1 bs)) (p.Token k.FullStop 1) (p.Fault why.UnexpectedCharacter 0) a tt

pub marks : (q : TokenKind → Bool) → list_all q MARKS ≡ true → q k.FullStop ≡ true → (cut : Bool) (bs : List ℕ) → Has q (mark cut bs)
marks q all a cut bs = marks_marked q a cut (find (begins_with bs) MARKS) bs (second (begins_with bs) q (find (begins_with bs) MARKS) (found (begins_with bs) q MARKS all))
