-- Quotes, one character or escape at a time.
use Rattle.std.proofs.Common.{◌≡◌, ℕ, zero, suc, ◌+◌, ◌-◌, ◌<◌, ◌≤◌, Bool, true, false, ◌==◌, List, [], ◌∷◌, length, drop, get_or, Some, None, refl, arith, ap, sym, ◌∙◌, add-zero, ◌++◌, map, append_assoc, encode_utf8_all}
use Rattle.std.specs.Char.{encode_utf8}
use Rattle.std.proofs.lemmas.Grind.{common_steps}
use Rattle.std.proofs.lemmas.List.{drop-drop, length-drop}
use Rattle.erl_syntax.specs.declared.token.TokenKind.{TokenKind}
use Rattle.erl_syntax.specs.declared.token.TokenKind.TheVariants as k
use Rattle.erl_syntax.specs.declared.token.Piece.TheVariants as p
use Rattle.erl_syntax.specs.Characters.{escape_len, character_len, spelled, spelled_from, spelled_len, spelled_number, as_character}
use Rattle.erl_syntax.specs.Tokens.{quoted, no_escape, character}
use Rattle.erl_tokens.proofs.Numbers.{at_front}

pub is_same : (a b : ℕ) → a ≡ b → (a == b) ≡ true
is_same a b e = grind (arith, common_steps)

pub is_other : (a b : ℕ) → (a ≡ b → ⊥) → (a == b) ≡ false
is_other a b e = grind (arith, common_steps)

pub quoted_skip : (mark : ℕ) (kind : TokenKind) (cut : Bool) (at n : ℕ) (bs : List ℕ) → n ≤ length bs →
    quoted mark kind cut at n bs ≡ quoted mark kind cut (at + n) 0 (drop n bs)
quoted_skip mark kind cut at zero bs h = rw add-zero refl
quoted_skip mark kind cut at (suc n) [] h = elim h [ ]
quoted_skip mark kind cut at (suc n) (b ∷ bs) h =
    let e : at + 1 + n ≡ at + suc n = omega arith in
    rw (quoted_skip mark kind cut (at + 1) n bs (omega arith), e) refl

pub quoted_closed : (mark : ℕ) (kind : TokenKind) (cut : Bool) (at : ℕ) (bs : List ℕ) → at < length bs → get_or bs at 0 ≡ mark →
    quoted mark kind cut at 0 (drop at bs) ≡ p.Token kind (at + 1)
quoted_closed mark kind cut at bs h e =
    let f : (get_or bs at 0 == mark) ≡ true = grind (arith, common_steps) in
    rw (at_front at bs h, f) refl

quoted_plain : (mark : ℕ) (kind : TokenKind) (cut : Bool) (at : ℕ) (bs : List ℕ) → at < length bs → (get_or bs at 0 ≡ mark → ⊥) → (get_or bs at 0 ≡ 92 → ⊥) →
    quoted mark kind cut at 0 (drop at bs) ≡ quoted mark kind cut (at + 1) 0 (drop (at + 1) bs)
quoted_plain mark kind cut at bs h e f =
    let u : (get_or bs at 0 == mark) ≡ false = is_other _ _ e in
    let v : (get_or bs at 0 == 92) ≡ false = is_other _ _ f in
    rw (at_front at bs h, u, v) refl

pub quoted_no_escape : (mark : ℕ) (kind : TokenKind) (cut : Bool) (at : ℕ) (bs tail : List ℕ) → tail ≡ drop (at + 1) bs → at < length bs → (get_or bs at 0 ≡ mark → ⊥) → get_or bs at 0 ≡ 92 →
    escape_len tail ≡ None → quoted mark kind cut at 0 (drop at bs) ≡ no_escape cut at tail
quoted_no_escape mark kind cut at bs tail t h e f n =
    let u : (get_or bs at 0 == mark) ≡ false = is_other _ _ e in
    let v : (get_or bs at 0 == 92) ≡ true = is_same _ _ f in
    let m : escape_len (drop (at + 1) bs) ≡ None = ap escape_len (sym t) ∙ n in
    rw (at_front at bs h, u, v, m, t) refl

quoted_escape : (mark : ℕ) (kind : TokenKind) (cut : Bool) (at len : ℕ) (bs tail : List ℕ) → tail ≡ drop (at + 1) bs → at < length bs → (get_or bs at 0 ≡ mark → ⊥) → get_or bs at 0 ≡ 92 →
    escape_len tail ≡ Some len → len ≤ length tail → quoted mark kind cut at 0 (drop at bs) ≡ quoted mark kind cut (at + len + 1) 0 (drop (at + len + 1) bs)
quoted_escape mark kind cut at len bs tail t h e f n l =
    let u : (get_or bs at 0 == mark) ≡ false = is_other _ _ e in
    let v : (get_or bs at 0 == 92) ≡ true = is_same _ _ f in
    let m : escape_len (drop (at + 1) bs) ≡ Some len = ap escape_len (sym t) ∙ n in
    let k : len ≤ length (drop (at + 1) bs) = omega (arith, l, ap length t) in
    let s : quoted mark kind cut at 0 (drop at bs) ≡ quoted mark kind cut (at + 1) len (drop (at + 1) bs) = rw (at_front at bs h, u, v, m) refl in
    let d : drop len (drop (at + 1) bs) ≡ drop (at + len + 1) bs = drop-drop len (at + 1) bs ∙ ap (λ i. drop i bs) (omega arith) in
    let g : at + 1 + len ≡ at + len + 1 = omega arith in
    rw (s, quoted_skip mark kind cut (at + 1) len (drop (at + 1) bs) k, d, g) refl

pub spelled_skip : (n : ℕ) (bs : List ℕ) → spelled_from n bs ≡ spelled_from 0 (drop n bs)
spelled_skip zero bs = refl
spelled_skip (suc n) [] = refl
spelled_skip (suc n) (b ∷ bs) = spelled_skip n bs

spelled_front : (len : ℕ) (xs : List ℕ) → 0 < length xs → 0 < len → len ≡ spelled_len xs → spelled xs ≡ spelled_number xs ∷ spelled (drop len xs)
spelled_front len [] h p e = elim h [ ]
spelled_front zero (b ∷ xs) h p e = elim p [ ]
spelled_front (suc m) (b ∷ xs) h p e =
    let f : spelled_len (b ∷ xs) - 1 ≡ m = omega (arith, e) in
    ap (λ rest. spelled_number (b ∷ xs) ∷ rest) (ap (λ n. spelled_from n xs) f ∙ spelled_skip m xs)

pub spelled_step : (i len : ℕ) (bs tail : List ℕ) → tail ≡ drop i bs → i < length bs → 0 < len → len ≡ spelled_len tail →
    spelled (drop i bs) ≡ spelled_number tail ∷ spelled (drop (i + len) bs)
spelled_step i len bs tail t h p e =
    let l : 0 < length tail = omega (arith, ap length t, length-drop i bs) in
    let d : drop len tail ≡ drop (i + len) bs = ap (drop len) t ∙ drop-drop len i bs in
    ap spelled (sym t) ∙ spelled_front len tail l p e ∙ ap (λ rest. spelled_number tail ∷ spelled rest) d

pub plain_character : (cut : Bool) (len : ℕ) (bs tail : List ℕ) → tail ≡ drop 1 bs → (length bs ≡ 1 → ⊥) → (get_or bs 1 0 ≡ 92 → ⊥) → len ≡ character_len tail →
    p.Token k.Character (1 + len) ≡ character cut bs
plain_character cut len bs tail t h e f =
    let u : (length bs == 1) ≡ false = is_other _ _ h in
    let v : (get_or bs 1 0 == 92) ≡ false = is_other _ _ e in
    let l : len ≡ character_len (drop 1 bs) = f ∙ ap character_len t in
    rw (u, v, l) refl

pub escaped_dollar : (cut : Bool) (len : ℕ) (bs tail : List ℕ) → tail ≡ drop 2 bs → (length bs ≡ 1 → ⊥) → get_or bs 1 0 ≡ 92 → escape_len tail ≡ Some len →
    p.Token k.Character (len + 2) ≡ character cut bs
escaped_dollar cut len bs tail t h e f =
    let u : (length bs == 1) ≡ false = is_other _ _ h in
    let v : (get_or bs 1 0 == 92) ≡ true = is_same _ _ e in
    let l : escape_len (drop 2 bs) ≡ Some len = ap escape_len (sym t) ∙ f in
    rw (u, v, l) refl

pub unescaped_dollar : (cut : Bool) (bs tail : List ℕ) → tail ≡ drop 2 bs → (length bs ≡ 1 → ⊥) → get_or bs 1 0 ≡ 92 → escape_len tail ≡ None →
    no_escape cut 1 tail ≡ character cut bs
unescaped_dollar cut bs tail t h e f =
    let u : (length bs == 1) ≡ false = is_other _ _ h in
    let v : (get_or bs 1 0 == 92) ≡ true = is_same _ _ e in
    let l : escape_len (drop 2 bs) ≡ None = ap escape_len (sym t) ∙ f in
    rw (u, v, l, t) refl

moved : (mark : ℕ) (kind : TokenKind) (cut : Bool) (at next : ℕ) (bs : List ℕ) → next ≡ at →
    quoted mark kind cut (at + 1) 0 (drop (at + 1) bs) ≡ quoted mark kind cut (next + 1) 0 (drop (next + 1) bs)
moved mark kind cut at next bs e = ap (λ n. quoted mark kind cut (n + 1) 0 (drop (n + 1) bs)) (sym e)

pub after_plain : (mark : ℕ) (kind : TokenKind) (cut : Bool) (at next : ℕ) (bs : List ℕ) → next ≡ at → at < length bs → (get_or bs at 0 ≡ mark → ⊥) → (get_or bs at 0 ≡ 92 → ⊥) →
    quoted mark kind cut at 0 (drop at bs) ≡ quoted mark kind cut (next + 1) 0 (drop (next + 1) bs)
after_plain mark kind cut at next bs n h e f = quoted_plain mark kind cut at bs h e f ∙ moved mark kind cut at next bs n

pub after_escape : (mark : ℕ) (kind : TokenKind) (cut : Bool) (at next len : ℕ) (bs tail : List ℕ) → next ≡ at + len → tail ≡ drop (at + 1) bs → at < length bs →
    (get_or bs at 0 ≡ mark → ⊥) → get_or bs at 0 ≡ 92 → escape_len tail ≡ Some len → len ≤ length tail →
    quoted mark kind cut at 0 (drop at bs) ≡ quoted mark kind cut (next + 1) 0 (drop (next + 1) bs)
after_escape mark kind cut at next len bs tail m t h e f n l = quoted_escape mark kind cut at len bs tail t h e f n l ∙ moved mark kind cut (at + len) next bs m

pub spelled_push : (i len number : ℕ) (bs tail done more : List ℕ) → tail ≡ drop i bs → i < length bs → 0 < len → len ≡ spelled_len tail → number ≡ spelled_number tail →
    more ≡ done ++ (number ∷ []) → spelled bs ≡ done ++ spelled (drop i bs) → spelled bs ≡ more ++ spelled (drop (i + len) bs)
spelled_push i len number bs tail done more t h p l n m e =
    let rest : List ℕ = spelled (drop (i + len) bs) in
    let s : spelled (drop i bs) ≡ number ∷ rest = spelled_step i len bs tail t h p l ∙ ap (λ x. x ∷ rest) (sym n) in
    e ∙ ap (λ u. done ++ u) s ∙ sym (append_assoc done (number ∷ []) rest) ∙ ap (λ u. u ++ rest) (sym m)

pub text_push : (i len number : ℕ) (bs tail done more : List ℕ) → tail ≡ drop i bs → i < length bs → 0 < len → len ≡ spelled_len tail → number ≡ spelled_number tail →
    more ≡ done ++ encode_utf8 (as_character number) → encode_utf8_all (map as_character (spelled bs)) ≡ done ++ encode_utf8_all (map as_character (spelled (drop i bs))) →
    encode_utf8_all (map as_character (spelled bs)) ≡ more ++ encode_utf8_all (map as_character (spelled (drop (i + len) bs)))
text_push i len number bs tail done more t h p l n m e =
    let rest : List ℕ = spelled (drop (i + len) bs) in
    let s : spelled (drop i bs) ≡ number ∷ rest = spelled_step i len bs tail t h p l ∙ ap (λ x. x ∷ rest) (sym n) in
    e ∙ ap (λ u. done ++ encode_utf8_all (map as_character u)) s ∙ sym (append_assoc done (encode_utf8 (as_character number)) (encode_utf8_all (map as_character rest))) ∙
    ap (λ u. u ++ encode_utf8_all (map as_character rest)) (sym m)
