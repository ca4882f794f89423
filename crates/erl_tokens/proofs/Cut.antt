-- Cutting a text into tokens, a piece at a time.
use Rattle.std.proofs.Common.{◌≡◌, ℕ, ◌+◌, ◌<◌, ◌≤◌, Bool, true, false, nat_lt, List, [], ◌∷◌, ◌++◌, length, drop, take, Option, Some, None, sym, ap, subst, arith, ◌∙◌, append_assoc, append-nil}
use Rattle.std.proofs.lemmas.List.{length-take, length-take-le}
use Rattle.std.proofs.lemmas.Str.{utf8_valid_len_le}
use Rattle.std.specs.Str.Lossy.{utf8_valid_len}
use Rattle.erl_syntax.specs.declared.span.Span.{Span}
use Rattle.erl_syntax.specs.declared.token.Token.{Token}
use Rattle.erl_syntax.specs.declared.token.TokenKind.{TokenKind}
use Rattle.erl_syntax.specs.declared.token.LexFault.{LexFault}
use Rattle.erl_syntax.specs.declared.token.LexCause.{LexCause}
use Rattle.erl_syntax.specs.declared.token.LexCause.TheVariants.{NotUtf8}
use Rattle.erl_syntax.specs.declared.token.Piece.{Piece}
use Rattle.erl_syntax.specs.declared.token.Piece.TheVariants as p
use Rattle.erl_syntax.specs.Tokens.{piece, place, front, Lexes, LexesFrom, ends, stops, skips, finds, refuses}
use Rattle.erl_tokens.specs.Cutting.{Continues}

piece_at : (cut : Bool) (i : ℕ) (text tail : List ℕ) (found : Piece) → tail ≡ drop i text → found ≡ piece cut tail → piece cut (drop i text) ≡ found
piece_at cut i text tail found t e = sym (e ∙ ap (piece cut) t)

pub begins : (text : List ℕ) (cut : Bool) → Continues text cut 0 []
begins text cut = record { goes_on = λ tokens fault d. d }

pub skip_step : (text tail : List ℕ) (cut : Bool) (i n : ℕ) (found : List Token) → tail ≡ drop i text → i < length text → p.Blank n ≡ piece cut tail →
    Continues text cut i found → Continues text cut (i + n) found
skip_step text tail cut i n found t h e c = record {
  goes_on = λ tokens fault d. c.goes_on tokens fault (skips i n tokens fault h (piece_at cut i text tail (p.Blank n) t e) d);
}

pub find_step : (text tail : List ℕ) (cut : Bool) (i n : ℕ) (kind : TokenKind) (at : Span) (found more : List Token) → tail ≡ drop i text → i < length text →
    p.Token kind n ≡ piece cut tail → at ≡ place text i → more ≡ found ++ ((record { kind = kind; span = at; from = i; to = i + n }) ∷ []) →
    Continues text cut i found → Continues text cut (i + n) more
find_step text tail cut i n kind at found more t h e a m c =
    let token : Span → Token = λ s. record { kind = kind; span = s; from = i; to = i + n } in
    let P : Span → Type 0 = λ s. (tokens : List Token) (fault : Option LexFault) → LexesFrom text cut (i + n) tokens fault → LexesFrom text cut i (token s ∷ tokens) fault in
    let step : P at = subst P (sym a) (λ tokens fault d. finds i n kind tokens fault h (piece_at cut i text tail (p.Token kind n) t e) d) in
    record {
      goes_on = λ tokens fault d.
          let Q : List Token → Type 0 = λ u. LexesFrom text cut 0 u fault in
          subst Q (sym (ap (λ u. u ++ tokens) m ∙ append_assoc found (token at ∷ []) tokens)) (c.goes_on (token at ∷ tokens) fault (step tokens fault d));
    }

pub fault_step : (text tail : List ℕ) (cut : Bool) (i n : ℕ) (cause : LexCause) (at : Span) (found : List Token) → tail ≡ drop i text → i < length text →
    p.Fault cause n ≡ piece cut tail → at ≡ place text (i + n) → Continues text cut i found →
    LexesFrom text cut 0 (found ++ []) (Some (record { at = at; why = cause }))
fault_step text tail cut i n cause at found t h e a c =
    let P : Span → Type 0 = λ s. LexesFrom text cut 0 (found ++ []) (Some (record { at = s; why = cause })) in
    subst P (sym a) (c.goes_on [] (Some (record { at = place text (i + n); why = cause })) (refuses i n cause h (piece_at cut i text tail (p.Fault cause n) t e)))

pub cut_step : (text : List ℕ) (cut : Bool) (i : ℕ) (at : Span) (found : List Token) → i ≤ length text → length text ≤ i → cut ≡ true → at ≡ place text i → Continues text cut i found →
    LexesFrom text cut 0 (found ++ []) (Some (record { at = at; why = NotUtf8 }))
cut_step text cut i at found h g e a c =
    let P : Span → Type 0 = λ s. LexesFrom text cut 0 (found ++ []) (Some (record { at = s; why = NotUtf8 })) in
    subst P (sym a) (c.goes_on [] (Some (record { at = place text i; why = NotUtf8 })) (stops i (omega arith) e))

pub end_step : (text : List ℕ) (cut : Bool) (i : ℕ) (found : List Token) → i ≤ length text → length text ≤ i → cut ≡ false → Continues text cut i found →
    LexesFrom text cut 0 found None
end_step text cut i found h g e c =
    let P : List Token → Type 0 = λ u. LexesFrom text cut 0 u None in
    subst P (append-nil found) (c.goes_on [] None (ends i (omega arith) e))

front_len : (text : List ℕ) → length (front text) ≡ utf8_valid_len text
front_len text = length-take-le (utf8_valid_len text) text (utf8_valid_len_le text)

pub lexes_text : (text before : List ℕ) (tokens : List Token) (fault : Option LexFault) → before ≡ front text →
    LexesFrom before (nat_lt (length before) (length text)) 0 tokens fault → Lexes text tokens fault
lexes_text text before tokens fault e d =
    let l : length before ≡ utf8_valid_len text = ap length e ∙ front_len text in
    let P : List ℕ → Type 0 = λ u. LexesFrom u (nat_lt (length before) (length text)) 0 tokens fault in
    let Q : ℕ → Type 0 = λ n. LexesFrom (front text) (nat_lt n (length text)) 0 tokens fault in
    subst Q l (subst P e d)

pub moved : (text : List ℕ) (cut : Bool) (i m n : ℕ) (found more : List Token) → m ≡ n → more ≡ found → Continues text cut (i + n) found → Continues text cut (i + m) more
moved text cut i m n found more e f c =
    let P : ℕ → Type 0 = λ j. Continues text cut (i + j) more in
    let Q : List Token → Type 0 = λ u. Continues text cut (i + n) u in
    subst P (sym e) (subst Q (sym f) c)

pub take_within : (n : ℕ) (bs : List ℕ) → length (take n bs) ≤ n
take_within n bs = omega (arith, length-take n bs)
