-- Only what stands at a digit is an integer.
use Rattle.std.proofs.Common.{◌≡◌, ℕ, Bool, true, false, nat_lt, ◌==◌, if◌then◌else◌, List, get_or, refl}
use Rattle.erl_syntax.specs.declared.token.TokenKind.{TokenKind}
use Rattle.erl_syntax.specs.declared.token.TokenKind.TheVariants as k
use Rattle.erl_syntax.specs.declared.token.Piece.{Piece}
use Rattle.erl_syntax.specs.declared.token.Piece.TheVariants as p
use Rattle.erl_syntax.specs.Characters.{is_digit}
use Rattle.erl_syntax.specs.Tokens.{piece, white_len, comment, begins_name, name, integer_at, character, string, quoted_atom, mark}
use Rattle.erl_tokens.proofs.TokenKinds.{Has, AreNames, other_token, has_if, comments, names, characters, strings, quoted_atoms, marks}

abbrev no_integer : TokenKind → Bool
no_integer k.Integer = false
no_integer _ = true

skip_then : (c : Bool) (x y : Piece) (n : ℕ) → Has no_integer x → (if c then x else y) ≡ p.Token k.Integer n → y ≡ p.Token k.Integer n
skip_then true x y n h e = absurd (other_token no_integer x k.Integer n refl h e)
skip_then false x y n h e = e

skip_else : (c : Bool) (x y : Piece) (n : ℕ) → Has no_integer y → (if c then x else y) ≡ p.Token k.Integer n → x ≡ p.Token k.Integer n
skip_else true x y n h e = e
skip_else false x y n h e = absurd (other_token no_integer y k.Integer n refl h e)

are_names : AreNames no_integer
are_names = record { reserved = refl; atom = refl; underscore = refl; variable = refl }

pub is_integer_at : (cut : Bool) (bs : List ℕ) (n : ℕ) → piece cut bs ≡ p.Token k.Integer n → integer_at bs ≡ p.Token k.Integer n
unfolding piece
is_integer_at cut bs n e =
    let b : ℕ = get_or bs 0 0 in
    let at_quote : Piece = if b == 39 then quoted_atom cut bs else mark cut bs in
    let at_string : Piece = if b == 34 then string cut bs else at_quote in
    let at_character : Piece = if b == 36 then character cut bs else at_string in
    let at_digit : Piece = if is_digit 10 b then integer_at bs else at_character in
    let at_name : Piece = if begins_name b then name bs else at_digit in
    let quote : Has no_integer at_quote = has_if no_integer (b == 39) (quoted_atom cut bs) (mark cut bs) (quoted_atoms no_integer refl cut bs) (marks no_integer refl refl cut bs) in
    let text : Has no_integer at_string = has_if no_integer (b == 34) (string cut bs) at_quote (strings no_integer refl cut bs) quote in
    let char : Has no_integer at_character = has_if no_integer (b == 36) (character cut bs) at_string (characters no_integer refl cut bs) text in
    skip_else (is_digit 10 b) (integer_at bs) at_character n char
    (skip_then (begins_name b) (name bs) at_digit n (names no_integer are_names bs)
    (skip_then (b == 37) (comment cut bs) at_name n (comments no_integer cut bs)
    (skip_then (nat_lt 0 (white_len bs)) (p.Blank (white_len bs)) (if b == 37 then comment cut bs else at_name) n tt e)))
