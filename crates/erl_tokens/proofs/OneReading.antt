-- A text has one list of tokens, and one first fault or none.
use Rattle.std.proofs.Common.{◌≡◌, ℕ, ◌+◌, ◌<◌, Bool, true, false, List, [], ◌∷◌, length, drop, Option, Some, None, refl, sym, ap, subst, arith, ◌∙◌}
use Rattle.erl_syntax.specs.declared.token.Token.{Token}
use Rattle.erl_syntax.specs.declared.token.TokenKind.{TokenKind}
use Rattle.erl_syntax.specs.declared.token.LexFault.{LexFault}
use Rattle.erl_syntax.specs.declared.token.LexCause.{LexCause}
use Rattle.erl_syntax.specs.declared.token.LexCause.TheVariants as why
use Rattle.erl_syntax.specs.declared.token.Piece.{Piece}
use Rattle.erl_syntax.specs.declared.token.Piece.TheVariants as p
use Rattle.erl_syntax.specs.Tokens.{piece, place, LexesFrom, ends, stops, skips, finds, refuses}

true_is_false : (b : Bool) → b ≡ true → b ≡ false → ⊥
true_is_false b e f = cc

blank_is_token : (q : Piece) (m n : ℕ) (kind : TokenKind) → q ≡ p.Blank m → q ≡ p.Token kind n → ⊥
blank_is_token q m n kind e f = cc

blank_is_fault : (q : Piece) (m n : ℕ) (cause : LexCause) → q ≡ p.Blank m → q ≡ p.Fault cause n → ⊥
blank_is_fault q m n cause e f = cc

token_is_fault : (q : Piece) (m n : ℕ) (kind : TokenKind) (cause : LexCause) → q ≡ p.Token kind m → q ≡ p.Fault cause n → ⊥
token_is_fault q m n kind cause e f = cc

same_blank : (q : Piece) (m n : ℕ) → q ≡ p.Blank m → q ≡ p.Blank n → n ≡ m
same_blank q m n e f = cc

same_token : (q : Piece) (m n : ℕ) (j k : TokenKind) → q ≡ p.Token j m → q ≡ p.Token k n → (n ≡ m) × (k ≡ j)
same_token q m n j k e f = (cc, cc)

same_fault : (q : Piece) (m n : ℕ) (a b : LexCause) → q ≡ p.Fault a m → q ≡ p.Fault b n → (n ≡ m) × (b ≡ a)
same_fault q m n a b e f = (cc, cc)

ended : (text : List ℕ) (cut : Bool) (j : ℕ) (t : List Token) (g : Option LexFault) → LexesFrom text cut j t g → length text ≡ j → cut ≡ false → (t ≡ []) × (g ≡ None)
ended text cut j t g (ends i e c) l b = (refl, refl)
ended text cut j t g (stops i e c) l b = absurd (true_is_false cut c b)
ended text cut j t g (skips i n ts f h e d) l b = absurd (omega arith)
ended text cut j t g (finds i n kind ts f h e d) l b = absurd (omega arith)
ended text cut j t g (refuses i n cause h e) l b = absurd (omega arith)

stopped : (text : List ℕ) (cut : Bool) (j : ℕ) (t : List Token) (g : Option LexFault) → LexesFrom text cut j t g → length text ≡ j → cut ≡ true → (t ≡ []) × (g ≡ Some (record { at = place text j; why = why.NotUtf8 }))
stopped text cut j t g (ends i e c) l b = absurd (true_is_false cut b c)
stopped text cut j t g (stops i e c) l b = (refl, refl)
stopped text cut j t g (skips i n ts f h e d) l b = absurd (omega arith)
stopped text cut j t g (finds i n kind ts f h e d) l b = absurd (omega arith)
stopped text cut j t g (refuses i n cause h e) l b = absurd (omega arith)

at_len : (text : List ℕ) (cut : Bool) (i m n : ℕ) (t : List Token) (g : Option LexFault) → n ≡ m → LexesFrom text cut (i + n) t g → LexesFrom text cut (i + m) t g
at_len text cut i m n t g e d = let P : ℕ → Type 0 = λ k. LexesFrom text cut (i + k) t g in subst P e d

skipped : (m : ℕ) → (text : List ℕ) (cut : Bool) (j : ℕ) (t : List Token) (g : Option LexFault) → LexesFrom text cut j t g → j < length text → piece cut (drop j text) ≡ p.Blank m → LexesFrom text cut (j + m) t g
skipped m text cut j t g (ends i e c) l b = absurd (omega arith)
skipped m text cut j t g (stops i e c) l b = absurd (omega arith)
skipped m text cut j t g (skips i n ts f h e d) l b = at_len text cut i m n t g (same_blank (piece cut (drop i text)) m n b e) d
skipped m text cut j t g (finds i n kind ts f h e d) l b = absurd (blank_is_token (piece cut (drop i text)) m n kind b e)
skipped m text cut j t g (refuses i n cause h e) l b = absurd (blank_is_fault (piece cut (drop i text)) m n cause b e)

abbrev token_at : (text : List ℕ) (i n : ℕ) (kind : TokenKind) → Token
token_at text i n kind = record { kind = kind; span = place text i; from = i; to = i + n }

found : (m : ℕ) (kk : TokenKind) → (text : List ℕ) (cut : Bool) (j : ℕ) (t : List Token) (g : Option LexFault) → LexesFrom text cut j t g → j < length text → piece cut (drop j text) ≡ p.Token kk m → (rest : List Token) × (t ≡ token_at text j m kk ∷ rest) × LexesFrom text cut (j + m) rest g
found m kk text cut j t g (ends i e c) l b = absurd (omega arith)
found m kk text cut j t g (stops i e c) l b = absurd (omega arith)
found m kk text cut j t g (skips i n ts f h e d) l b = absurd (blank_is_token (piece cut (drop i text)) n m kk e b)
found m kk text cut j t g (finds i n kind ts f h e d) l b = let s = same_token (piece cut (drop i text)) m n kk kind b e in (ts, ap (λ x. token_at text i x kind ∷ ts) s.0 ∙ ap (λ x. token_at text i m x ∷ ts) s.1, at_len text cut i m n ts f s.0 d)
found m kk text cut j t g (refuses i n cause h e) l b = absurd (token_is_fault (piece cut (drop i text)) m n kk cause b e)

refused : (m : ℕ) (why : LexCause) → (text : List ℕ) (cut : Bool) (j : ℕ) (t : List Token) (g : Option LexFault) → LexesFrom text cut j t g → j < length text → piece cut (drop j text) ≡ p.Fault why m → (t ≡ []) × (g ≡ Some (record { at = place text (j + m); why = why }))
refused m why text cut j t g (ends i e c) l b = absurd (omega arith)
refused m why text cut j t g (stops i e c) l b = absurd (omega arith)
refused m why text cut j t g (skips i n ts f h e d) l b = absurd (blank_is_fault (piece cut (drop i text)) n m why e b)
refused m why text cut j t g (finds i n kind ts f h e d) l b = absurd (token_is_fault (piece cut (drop i text)) n m kind why e b)
refused m why text cut j t g (refuses i n cause h e) l b = let s = same_fault (piece cut (drop i text)) m n why cause b e in let F : ℕ → LexCause → Option LexFault = λ x y. Some (record { at = place text (i + x); why = y }) in (refl, ap (λ x. F x cause) s.0 ∙ ap (λ y. F m y) s.1)

pub one_reading_from : (text : List ℕ) (cut : Bool) (i : ℕ) (s t : List Token) (f g : Option LexFault) → LexesFrom text cut i s f → LexesFrom text cut i t g → (s ≡ t) × (f ≡ g)
one_reading_from text cut i s t f g (ends j e c) d = let r = ended text cut j t g d e c in (sym r.0, sym r.1)
one_reading_from text cut i s t f g (stops j e c) d = let r = stopped text cut j t g d e c in (sym r.0, sym r.1)
one_reading_from text cut i s t f g (skips j n ts k h e a) d = one_reading_from text cut (j + n) ts t k g a (skipped n text cut j t g d h e)
one_reading_from text cut i s t f g (finds j n kind ts k h e a) d =
    let r = found n kind text cut j t g d h e in
    let o = one_reading_from text cut (j + n) ts r.0 k g a r.2 in
    (ap (λ x. token_at text j n kind ∷ x) o.0 ∙ sym r.1, o.1)
one_reading_from text cut i s t f g (refuses j n cause h e) d = let r = refused n cause text cut j t g d h e in (sym r.0, sym r.1)
