-- Each integer token of a text is an integer.
use Rattle.std.proofs.Common.{◌≡◌, ℕ, zero, suc, ◌+◌, ◌-◌, ◌<◌, ◌≤◌, Bool, false, List, [], ◌∷◌, length, drop, take, Option, None, refl, sym, ap, subst, arith, ◌∙◌}
use Rattle.std.proofs.lemmas.Grind.{common_steps}
use Rattle.std.proofs.lemmas.List.{length-drop}
use Rattle.std.proofs.lemmas.Str.{utf8_valid_len_le}
use Rattle.std.proofs.Math.Seq.{take-length}
use Rattle.std.specs.Str.Lossy.{utf8_valid_len}
use Rattle.erl_syntax.specs.declared.token.Token.{Token}
use Rattle.erl_syntax.specs.declared.token.TokenKind.{TokenKind}
use Rattle.erl_syntax.specs.declared.token.TokenKind.TheVariants as k
use Rattle.erl_syntax.specs.declared.token.LexFault.{LexFault}
use Rattle.erl_syntax.specs.declared.token.Piece.TheVariants as p
use Rattle.erl_syntax.specs.Tokens.{piece, place, front, is_cut, token_text, Lexes, LexesFrom, ends, stops, skips, finds, refuses}
use Rattle.erl_tokens.specs.Values.{IsInteger, AllIntegers}
use Rattle.erl_tokens.proofs.IntegerValues.{integer_token}

added : (i n : ℕ) → i + n - i ≡ n
added i n = omega arith

this : (text : List ℕ) (cut : Bool) (i n : ℕ) (kind : TokenKind) → i < length text → piece cut (drop i text) ≡ p.Token kind n → kind ≡ k.Integer →
    IsInteger (take (i + n - i) (drop i text))
this text cut i n kind h e g =
    let l : 0 < length (drop i text) = omega (arith, length-drop i text) in
    let f : piece cut (drop i text) ≡ p.Token k.Integer n = e ∙ ap (λ x. p.Token x n) g in
    let P : ℕ → Type 0 = λ m. IsInteger (take m (drop i text)) in
    subst P (sym (added i n)) (integer_token cut (drop i text) n l f)

no_tokens : (text : List ℕ) → AllIntegers text []
no_tokens text j d l g = absurd (omega arith)

one_more : (text : List ℕ) (token : Token) (tokens : List Token) → (token.kind ≡ k.Integer → IsInteger (token_text text token)) → AllIntegers text tokens → AllIntegers text (token ∷ tokens)
one_more text token tokens h r zero d l = h
one_more text token tokens h r (suc j) d l = r j d (omega arith)

all_integers : (text : List ℕ) (cut : Bool) (i : ℕ) (tokens : List Token) (fault : Option LexFault) → LexesFrom text cut i tokens fault → AllIntegers text tokens
all_integers text cut i tokens fault (ends j e c) = no_tokens text
all_integers text cut i tokens fault (stops j e c) = no_tokens text
all_integers text cut i tokens fault (skips j n ts f h e d) = all_integers text cut (j + n) ts f d
all_integers text cut i tokens fault (finds j n kind ts f h e d) =
    one_more text (record { kind = kind; span = place text j; from = j; to = j + n }) ts (this text cut j n kind h e) (all_integers text cut (j + n) ts f d)
all_integers text cut i tokens fault (refuses j n cause h e) = no_tokens text

-- a text whose tokens go up to its end is not cut
whole : (text : List ℕ) (cut : Bool) (i : ℕ) (tokens : List Token) (fault : Option LexFault) → LexesFrom text cut i tokens fault → fault ≡ None → cut ≡ false
whole text cut i tokens fault (ends j e c) g = c
whole text cut i tokens fault (stops j e c) g = absurd (cc)
whole text cut i tokens fault (skips j n ts f h e d) g = whole text cut (j + n) ts f d g
whole text cut i tokens fault (finds j n kind ts f h e d) g = whole text cut (j + n) ts f d g
whole text cut i tokens fault (refuses j n cause h e) g = absurd (cc)

front_whole : (text : List ℕ) → is_cut text ≡ false → front text ≡ text
front_whole text e =
    let l : length text ≤ utf8_valid_len text = grind (arith, common_steps) in
    let n : utf8_valid_len text ≡ length text = omega (arith, l, utf8_valid_len_le text) in
    ap (λ m. take m text) n ∙ take-length text

pub text_integers : (text : List ℕ) (tokens : List Token) → Lexes text tokens None → AllIntegers text tokens
text_integers text tokens d =
    let w : front text ≡ text = front_whole text (whole (front text) (is_cut text) 0 tokens None d refl) in
    let P : List ℕ → Type 0 = λ u. AllIntegers u tokens in
    subst P w (all_integers (front text) (is_cut text) 0 tokens None d)
