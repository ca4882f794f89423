-- An escape, a `$` character and a quote end within the text, and where they end in any longer front of it.
use Rattle.std.proofs.Common.{◌≡◌, ℕ, zero, suc, ◌+◌, ◌-◌, ◌<◌, ◌≤◌, Bool, true, false, ◌&&◌, nat_lt, ◌==◌, if◌then◌else◌, List, [], ◌∷◌, length, drop, take, get_or, Option, Some, None, refl, sym, ap, arith, ◌∙◌}
use Rattle.std.specs.List.{prefix_len}
use Rattle.std.specs.Char.{is_ascii_alphabetic}
use Rattle.std.proofs.lemmas.Grind.{common_steps}
use Rattle.std.proofs.lemmas.List.{drop-take, get_or-take, length-take}
use Rattle.std.proofs.lemmas.List.Sums.{prefix_len-le-length}
use Rattle.bits_value.specs.Utf.{is_character}
use Rattle.erl_syntax.specs.declared.token.TokenKind.{TokenKind}
use Rattle.erl_syntax.specs.declared.token.TokenKind.TheVariants as k
use Rattle.erl_syntax.specs.declared.token.LexCause.{LexCause}
use Rattle.erl_syntax.specs.declared.token.LexCause.TheVariants as why
use Rattle.erl_syntax.specs.declared.token.Piece.{Piece}
use Rattle.erl_syntax.specs.declared.token.Piece.TheVariants as p
use Rattle.erl_syntax.specs.Characters.{is_continuation, character_len, is_digit, number, escape_len, octal_len, hexadecimal_len, braced_len, control_len, spelled, between_quotes}
use Rattle.erl_syntax.specs.Tokens.{character, escaped_character, no_escape, string, quoted_atom, quoted, limited}
use Rattle.erl_tokens.proofs.IntegerValues.{prefix_take, take_take}
use Rattle.erl_tokens.proofs.FoundMark.{and_left, and_right}
use Rattle.erl_tokens.proofs.Spelled.{is_other}

some_same : (a b : ℕ) → Some a ≡ Some b → a ≡ b
some_same a b e = cc

-- ---- Escapes

pub past_end : (t : List ℕ) (m : ℕ) → length t ≤ m → get_or t m 0 ≡ 0
past_end t m h = grind (arith, common_steps)

past_take : (j i : ℕ) (r : List ℕ) → j ≤ i → get_or (take j r) i 0 ≡ 0
past_take j i r h = past_end (take j r) i (omega (arith, length-take j r))

no_octal : is_digit 8 0 ≡ false
no_octal = refl

octal_false : (j i : ℕ) (r : List ℕ) (c : Bool) → nat_lt i j ≡ c → is_digit 8 (get_or r i 0) ≡ false → is_digit 8 (get_or (take j r) i 0) ≡ false
octal_false j i r true c f = let l : i < j = grind (arith, common_steps) in ap (is_digit 8) (get_or-take j r i 0 l) ∙ f
octal_false j i r false c f = let l : j ≤ i = grind (arith, common_steps) in ap (is_digit 8) (past_take j i r l) ∙ no_octal

octal_by : (e j : ℕ) (r : List ℕ) (c d : Bool) → is_digit 8 (get_or r 1 0) ≡ c → is_digit 8 (get_or r 2 0) ≡ d → octal_len r ≡ e → e ≤ j → octal_len (take j r) ≡ e
octal_by e j r true true f g h l =
    let a : 3 ≡ e = rw (f, g) at h in
    let x : is_digit 8 (get_or (take j r) 1 0) ≡ true = ap (is_digit 8) (get_or-take j r 1 0 (omega arith)) ∙ f in
    let y : is_digit 8 (get_or (take j r) 2 0) ≡ true = ap (is_digit 8) (get_or-take j r 2 0 (omega arith)) ∙ g in
    rw (x, y) a
octal_by e j r true false f g h l =
    let a : 2 ≡ e = rw (f, g) at h in
    let x : is_digit 8 (get_or (take j r) 1 0) ≡ true = ap (is_digit 8) (get_or-take j r 1 0 (omega arith)) ∙ f in
    let y : is_digit 8 (get_or (take j r) 2 0) ≡ false = octal_false j 2 r (nat_lt 2 j) refl g in
    rw (x, y) a
octal_by e j r false d f g h l =
    let a : 1 ≡ e = rw f at h in
    let x : is_digit 8 (get_or (take j r) 1 0) ≡ false = octal_false j 1 r (nat_lt 1 j) refl f in
    rw x a

octal_take : (e j : ℕ) (r : List ℕ) → octal_len r ≡ e → e ≤ j → octal_len (take j r) ≡ e
octal_take e j r h l = octal_by e j r (is_digit 8 (get_or r 1 0)) (is_digit 8 (get_or r 2 0)) refl refl h l

-- the braced escape of n digits, the byte behind them and the digits
braced_by : ℕ → ℕ → List ℕ → Option ℕ
braced_by n b digits = if nat_lt 0 n && (b == 125 && is_character (number 16 digits)) then Some (n + 3) else None

braced_if : (c : Bool) (n e : ℕ) → (if c then Some (n + 3) else None) ≡ Some e → n + 3 ≡ e
braced_if true n e h = some_same (n + 3) e h
braced_if false n e h = absurd (cc)

braced_take : (e j : ℕ) (zs : List ℕ) → braced_len zs ≡ Some e → e ≤ j + 2 → braced_len (take j zs) ≡ Some e
unfolding braced_by
braced_take e j zs h l =
    let n : ℕ = prefix_len (is_digit 16) zs in
    let a : n + 3 ≡ e = braced_if (nat_lt 0 n && (get_or zs n 0 == 125 && is_character (number 16 (take n zs)))) n e h in
    let s : prefix_len (is_digit 16) (take j zs) ≡ n = prefix_take (is_digit 16) zs j (omega arith) in
    let F : ℕ → Option ℕ = λ i. braced_by i (get_or (take j zs) i 0) (take i (take j zs)) in
    ap F s ∙ ap (λ b. braced_by n b (take n (take j zs))) (get_or-take j zs n 0 (omega arith)) ∙ ap (λ u. braced_by n (get_or zs n 0) u) (take_take n j zs (omega arith)) ∙ h

-- behind `x`, by the first two bytes and the bytes behind the first
hexadecimal_by : ℕ → ℕ → Option ℕ → Option ℕ
hexadecimal_by a b braced = if a == 123 then braced else (if is_digit 16 a && is_digit 16 b then Some 3 else None)

pair_if : (c : Bool) (e : ℕ) → (if c then Some 3 else None) ≡ Some e → 3 ≡ e
pair_if true e h = some_same 3 e h
pair_if false e h = absurd (cc)

hexadecimal_case : (c : Bool) (e i y : ℕ) (ys : List ℕ) → (y == 123) ≡ c → hexadecimal_len (y ∷ ys) ≡ Some e → e ≤ i + 2 → hexadecimal_len (y ∷ take i ys) ≡ Some e
hexadecimal_case true e i y ys c h l =
    let a : braced_len ys ≡ Some e = rw c at h in
    rw c (braced_take e i ys a (omega arith))
hexadecimal_case false e i y ys c h l =
    let a : (if is_digit 16 y && is_digit 16 (get_or ys 0 0) then Some 3 else None) ≡ Some e = rw c at h in
    let b : 3 ≡ e = pair_if (is_digit 16 y && is_digit 16 (get_or ys 0 0)) e a in
    let g : get_or (take i ys) 0 0 ≡ get_or ys 0 0 = get_or-take i ys 0 0 (omega arith) in
    rw (c, g) a

nothing_hexadecimal : (e : ℕ) → hexadecimal_len [] ≡ Some e → ⊥
nothing_hexadecimal e h = cc

hexadecimal_take : (e j : ℕ) (ys : List ℕ) → hexadecimal_len ys ≡ Some e → 0 < j → e ≤ j + 1 → hexadecimal_len (take j ys) ≡ Some e
hexadecimal_take e j [] h z l = absurd (nothing_hexadecimal e h)
hexadecimal_take e zero (y ∷ ys) h z l = elim z [ ]
hexadecimal_take e (suc i) (y ∷ ys) h z l = hexadecimal_case (y == 123) e i y ys refl h (omega arith)

two_if : (c : Bool) (e : ℕ) → (if c then Some 2 else None) ≡ Some e → 2 ≡ e
two_if true e h = some_same 2 e h
two_if false e h = absurd (cc)

hexadecimal_least : (c : Bool) (e : ℕ) (ys : List ℕ) → (get_or ys 0 0 == 123) ≡ c → hexadecimal_len ys ≡ Some e → 3 ≤ e
hexadecimal_least true e ys c h =
    let a : braced_len (drop 1 ys) ≡ Some e = rw c at h in
    let n : ℕ = prefix_len (is_digit 16) (drop 1 ys) in
    omega (arith, braced_if (nat_lt 0 n && (get_or (drop 1 ys) n 0 == 125 && is_character (number 16 (take n (drop 1 ys))))) n e a)
hexadecimal_least false e ys c h =
    let a : (if is_digit 16 (get_or ys 0 0) && is_digit 16 (get_or ys 1 0) then Some 3 else None) ≡ Some e = rw c at h in
    omega (arith, pair_if (is_digit 16 (get_or ys 0 0) && is_digit 16 (get_or ys 1 0)) e a)

control_take : (e j : ℕ) (ys : List ℕ) → control_len ys ≡ Some e → 0 < j → control_len (take j ys) ≡ Some e
control_take e j ys h z = let g : get_or (take j ys) 0 0 ≡ get_or ys 0 0 = get_or-take j ys 0 0 z in rw g h

pub character_take : (j : ℕ) (zs : List ℕ) → character_len zs ≤ j → character_len (take j zs) ≡ character_len zs
character_take zero zs h = absurd (omega arith)
character_take (suc j) [] h = refl
character_take (suc j) (z ∷ zs) h = ap (λ n. 1 + n) (prefix_take is_continuation zs j (omega arith))

-- an escape by its first byte
escape_by : ℕ → List ℕ → Option ℕ
escape_by b r = if is_digit 8 b then Some (octal_len r) else (if b == 120 then hexadecimal_len (drop 1 r) else (if b == 94 then control_len (drop 1 r) else Some (character_len r)))

escape_is : (b : ℕ) (r : List ℕ) → escape_len (b ∷ r) ≡ escape_by b (b ∷ r)
unfolding escape_by
escape_is b r = let e : (length (b ∷ r) == 0) ≡ false = is_other (length (b ∷ r)) 0 (λ h. omega (arith, h)) in rw e refl

escape_case : (c d f : Bool) (e i b : ℕ) (r : List ℕ) → is_digit 8 b ≡ c → (b == 120) ≡ d → (b == 94) ≡ f → escape_by b (b ∷ r) ≡ Some e → e ≤ suc i → escape_by b (b ∷ take i r) ≡ Some e
unfolding escape_by
escape_case true d f e i b r x y z h l =
    let a : octal_len (b ∷ r) ≡ e = some_same (octal_len (b ∷ r)) e (rw x at h) in
    rw x (ap (λ n. Some n) (octal_take e (suc i) (b ∷ r) a l))
escape_case false true f e i b r x y z h l =
    let a : hexadecimal_len r ≡ Some e = rw (x, y) at h in
    let g : 3 ≤ e = hexadecimal_least (get_or r 0 0 == 123) e r refl a in
    rw (x, y) (hexadecimal_take e i r a (omega arith) (omega arith))
escape_case false false true e i b r x y z h l =
    let a : control_len r ≡ Some e = rw (x, y, z) at h in
    let g : 2 ≡ e = two_if (is_ascii_alphabetic (get_or r 0 0)) e a in
    rw (x, y, z) (control_take e i r a (omega arith))
escape_case false false false e i b r x y z h l =
    let a : character_len (b ∷ r) ≡ e = some_same (character_len (b ∷ r)) e (rw (x, y, z) at h) in
    rw (x, y, z) (ap (λ n. Some n) (character_take (suc i) (b ∷ r) (omega (arith, a)) ∙ a))

escape_none : (e : ℕ) → escape_len [] ≡ Some e → ⊥
escape_none e h = cc

pub escape_take : (e j : ℕ) (r : List ℕ) → escape_len r ≡ Some e → 0 < j → e ≤ j → escape_len (take j r) ≡ Some e
escape_take e j [] h z l = absurd (escape_none e h)
escape_take e zero (b ∷ r) h z l = elim z [ ]
escape_take e (suc i) (b ∷ r) h z l =
    escape_is b (take i r) ∙ escape_case (is_digit 8 b) (b == 120) (b == 94) e i b r refl refl refl (sym (escape_is b r) ∙ h) l

octal_some : (c d : Bool) (e : ℕ) → (if c then (if d then 3 else 2) else 1) ≡ e → 0 < e
octal_some true true e h = omega (arith, h)
octal_some true false e h = omega (arith, h)
octal_some false d e h = omega (arith, h)

some_by : (b e : ℕ) (r : List ℕ) (c d f : Bool) → is_digit 8 b ≡ c → (b == 120) ≡ d → (b == 94) ≡ f → escape_by b (b ∷ r) ≡ Some e → 0 < e
unfolding escape_by
some_by b e r true d f x y z h = octal_some (is_digit 8 (get_or (b ∷ r) 1 0)) (is_digit 8 (get_or (b ∷ r) 2 0)) e (some_same (octal_len (b ∷ r)) e (rw x at h))
some_by b e r false true f x y z h =
    let a : hexadecimal_len r ≡ Some e = rw (x, y) at h in
    omega (arith, hexadecimal_least (get_or r 0 0 == 123) e r refl a)
some_by b e r false false true x y z h =
    let a : control_len r ≡ Some e = rw (x, y, z) at h in
    omega (arith, two_if (is_ascii_alphabetic (get_or r 0 0)) e a)
some_by b e r false false false x y z h = omega (arith, some_same (character_len (b ∷ r)) e (rw (x, y, z) at h))

pub escape_some : (e : ℕ) (r : List ℕ) → escape_len r ≡ Some e → 0 < e
escape_some e [] h = absurd (escape_none e h)
escape_some e (b ∷ r) h = some_by b e r (is_digit 8 b) (b == 120) (b == 94) refl refl refl (sym (escape_is b r) ∙ h)

-- ---- An escape ends within the text

standing_by : (c : Bool) (q : ℕ → Bool) (i : ℕ) (r : List ℕ) → nat_lt i (length r) ≡ c → q 0 ≡ false → q (get_or r i 0) ≡ true → i < length r
standing_by true q i r l f t = grind (arith, common_steps)
standing_by false q i r l f t =
    let m : length r ≤ i = grind (arith, common_steps) in
    let z : q (get_or r i 0) ≡ q 0 = ap q (past_end r i m) in
    absurd (let y : true ≡ false = sym t ∙ z ∙ f in cc)

-- a byte that passes a test, which no byte past the end does, stands in the text
pub standing : (q : ℕ → Bool) (i : ℕ) (r : List ℕ) → q 0 ≡ false → q (get_or r i 0) ≡ true → i < length r
standing q i r f t = standing_by (nat_lt i (length r)) q i r refl f t

some_if : (c : Bool) (n e : ℕ) → (if c then Some n else None) ≡ Some e → c ≡ true
some_if true n e h = refl
some_if false n e h = absurd (cc)

octal_fits : (c d : Bool) (e : ℕ) (r : List ℕ) → is_digit 8 (get_or r 1 0) ≡ c → is_digit 8 (get_or r 2 0) ≡ d → 0 < length r → octal_len r ≡ e → e ≤ length r
octal_fits true true e r x y z h = let a : 3 ≡ e = rw (x, y) at h in omega (arith, a, standing (is_digit 8) 2 r no_octal y)
octal_fits true false e r x y z h = let a : 2 ≡ e = rw (x, y) at h in omega (arith, a, standing (is_digit 8) 1 r no_octal x)
octal_fits false d e r x y z h = let a : 1 ≡ e = rw x at h in omega (arith, a, z)

braced_fits : (e : ℕ) (zs : List ℕ) → braced_len zs ≡ Some e → e ≤ length zs + 2
braced_fits e zs h =
    let n : ℕ = prefix_len (is_digit 16) zs in
    let rest : Bool = is_character (number 16 (take n zs)) in
    let c : (nat_lt 0 n && (get_or zs n 0 == 125 && rest)) ≡ true = some_if (nat_lt 0 n && (get_or zs n 0 == 125 && rest)) (n + 3) e h in
    let d : (get_or zs n 0 == 125) ≡ true = and_left (get_or zs n 0 == 125) rest (and_right (nat_lt 0 n) (get_or zs n 0 == 125 && rest) c) in
    omega (arith, braced_if (nat_lt 0 n && (get_or zs n 0 == 125 && rest)) n e h, standing (λ b. b == 125) n zs refl d)

hexadecimal_by_first : (c : Bool) (e y : ℕ) (ys : List ℕ) → (y == 123) ≡ c → hexadecimal_len (y ∷ ys) ≡ Some e → e ≤ length (y ∷ ys) + 1
hexadecimal_by_first true e y ys c h =
    let a : braced_len ys ≡ Some e = rw c at h in
    omega (arith, braced_fits e ys a)
hexadecimal_by_first false e y ys c h =
    let two : Bool = is_digit 16 y && is_digit 16 (get_or ys 0 0) in
    let a : (if two then Some 3 else None) ≡ Some e = rw c at h in
    let d : is_digit 16 (get_or ys 0 0) ≡ true = and_right (is_digit 16 y) (is_digit 16 (get_or ys 0 0)) (some_if two 3 e a) in
    omega (arith, pair_if two e a, standing (is_digit 16) 0 ys refl d)

hexadecimal_fits : (e : ℕ) (ys : List ℕ) → hexadecimal_len ys ≡ Some e → e ≤ length ys + 1
hexadecimal_fits e [] h = absurd (nothing_hexadecimal e h)
hexadecimal_fits e (y ∷ ys) h = hexadecimal_by_first (y == 123) e y ys refl h

control_fits : (e : ℕ) (ys : List ℕ) → control_len ys ≡ Some e → e ≤ length ys + 1
control_fits e ys h =
    let c : is_ascii_alphabetic (get_or ys 0 0) ≡ true = some_if (is_ascii_alphabetic (get_or ys 0 0)) 2 e h in
    omega (arith, two_if (is_ascii_alphabetic (get_or ys 0 0)) e h, standing is_ascii_alphabetic 0 ys refl c)

fits_by : (c d f : Bool) (e b : ℕ) (r : List ℕ) → is_digit 8 b ≡ c → (b == 120) ≡ d → (b == 94) ≡ f → escape_by b (b ∷ r) ≡ Some e → e ≤ length (b ∷ r)
unfolding escape_by
fits_by true d f e b r x y z h =
    octal_fits (is_digit 8 (get_or (b ∷ r) 1 0)) (is_digit 8 (get_or (b ∷ r) 2 0)) e (b ∷ r) refl refl (omega arith) (some_same (octal_len (b ∷ r)) e (rw x at h))
fits_by false true f e b r x y z h =
    let a : hexadecimal_len r ≡ Some e = rw (x, y) at h in
    omega (arith, hexadecimal_fits e r a)
fits_by false false true e b r x y z h =
    let a : control_len r ≡ Some e = rw (x, y, z) at h in
    omega (arith, control_fits e r a)
fits_by false false false e b r x y z h =
    omega (arith, some_same (character_len (b ∷ r)) e (rw (x, y, z) at h), prefix_len-le-length is_continuation r)

escape_fits : (e : ℕ) (r : List ℕ) → escape_len r ≡ Some e → e ≤ length r
escape_fits e [] h = absurd (escape_none e h)
escape_fits e (b ∷ r) h = fits_by (is_digit 8 b) (b == 120) (b == 94) e b r refl refl refl (sym (escape_is b r) ∙ h)

-- ---- Quotes

pub token_same : (kind other : TokenKind) (m n : ℕ) → p.Token kind m ≡ p.Token other n → m ≡ n
token_same kind other m n e = cc

fault_token : (c : Bool) (a b : LexCause) (i j n : ℕ) (kind : TokenKind) → (if c then p.Fault a i else p.Fault b j) ≡ p.Token kind n → ⊥
fault_token true a b i j n kind e = cc
fault_token false a b i j n kind e = cc

after_option : (mark : ℕ) (kind : TokenKind) (cut : Bool) (at : ℕ) (o : Option ℕ) (bs : List ℕ) → Piece
after_option mark kind cut at (Some n) bs = quoted mark kind cut (at + 1) n bs
after_option mark kind cut at None bs = no_escape cut at bs

elim_is : (mark : ℕ) (kind : TokenKind) (cut : Bool) (at : ℕ) (o : Option ℕ) (bs : List ℕ) →
    elim o as (λ _. Piece) [ Some n ↦ quoted mark kind cut (at + 1) n bs | None ↦ no_escape cut at bs ] ≡ after_option mark kind cut at o bs
unfolding after_option
elim_is mark kind cut at (Some n) bs = refl
elim_is mark kind cut at None bs = refl

inner : (mark : ℕ) (kind : TokenKind) (cut : Bool) (at b : ℕ) (bs : List ℕ) → Piece
inner mark kind cut at b bs = if b == 92 then after_option mark kind cut at (escape_len bs) bs else quoted mark kind cut (at + 1) 0 bs

quoted_is : (mark : ℕ) (kind : TokenKind) (cut : Bool) (at b : ℕ) (bs : List ℕ) →
    quoted mark kind cut at 0 (b ∷ bs) ≡ (if b == mark then p.Token kind (at + 1) else inner mark kind cut at b bs)
unfolding inner
quoted_is mark kind cut at b bs = ap (λ q. if b == mark then p.Token kind (at + 1) else (if b == 92 then q else quoted mark kind cut (at + 1) 0 bs)) (elim_is mark kind cut at (escape_len bs) bs)

more_if : (c : Bool) (x y : Piece) (kind : TokenKind) (i n : ℕ) → (x ≡ p.Token kind n → i < n) → (y ≡ p.Token kind n → i < n) → (if c then x else y) ≡ p.Token kind n → i < n
more_if true x y kind i n a b e = a e
more_if false x y kind i n a b e = b e

more_option : (mark : ℕ) (kind other : TokenKind) (cut : Bool) (at n : ℕ) (o : Option ℕ) (bs : List ℕ) → ((e : ℕ) → quoted mark kind cut (at + 1) e bs ≡ p.Token other n → at + 1 + e < n) →
    after_option mark kind cut at o bs ≡ p.Token other n → at < n
unfolding after_option
more_option mark kind other cut at n (Some e) bs r h = omega (arith, r e h)
more_option mark kind other cut at n None bs r h = absurd (fault_token (cut && length bs == 0) why.NotUtf8 why.BadEscape (at + 1) at n other h)

pub quoted_more : (mark : ℕ) (kind other : TokenKind) (cut : Bool) (at skip n : ℕ) (bs : List ℕ) → quoted mark kind cut at skip bs ≡ p.Token other n → at + skip < n
unfolding inner
quoted_more mark kind other cut at skip n [] h = absurd (fault_token cut why.NotUtf8 why.UnclosedQuote at 0 n other h)
quoted_more mark kind other cut at (suc skip) n (b ∷ bs) h = omega (arith, quoted_more mark kind other cut (at + 1) skip n bs h)
quoted_more mark kind other cut at zero n (b ∷ bs) h =
    let s : at < n = more_if (b == mark) (p.Token kind (at + 1)) (inner mark kind cut at b bs) other at n (λ e. omega (arith, token_same kind other (at + 1) n e))
    (more_if (b == 92) (after_option mark kind cut at (escape_len bs) bs) (quoted mark kind cut (at + 1) 0 bs) other at n
    (more_option mark kind other cut at n (escape_len bs) bs (λ e. quoted_more mark kind other cut (at + 1) e n bs))
    (λ e. omega (arith, quoted_more mark kind other cut (at + 1) 0 n bs e)))
    (sym (quoted_is mark kind cut at b bs) ∙ h) in
    omega arith

fits_if : (c : Bool) (x y : Piece) (kind : TokenKind) (l n : ℕ) → (x ≡ p.Token kind n → n ≤ l) → (y ≡ p.Token kind n → n ≤ l) → (if c then x else y) ≡ p.Token kind n → n ≤ l
fits_if true x y kind l n a b e = a e
fits_if false x y kind l n a b e = b e

fits_option : (mark : ℕ) (kind other : TokenKind) (cut : Bool) (at l n : ℕ) (o : Option ℕ) (bs : List ℕ) → ((e : ℕ) → quoted mark kind cut (at + 1) e bs ≡ p.Token other n → n ≤ l) →
    after_option mark kind cut at o bs ≡ p.Token other n → n ≤ l
unfolding after_option
fits_option mark kind other cut at l n (Some e) bs r h = r e h
fits_option mark kind other cut at l n None bs r h = absurd (fault_token (cut && length bs == 0) why.NotUtf8 why.BadEscape (at + 1) at n other h)

-- a quote ends within the text, and behind the bytes that were passed
pub quoted_fits : (mark : ℕ) (kind other : TokenKind) (cut : Bool) (at skip n : ℕ) (bs : List ℕ) → quoted mark kind cut at skip bs ≡ p.Token other n → n ≤ at + length bs
unfolding inner
quoted_fits mark kind other cut at skip n [] h = absurd (fault_token cut why.NotUtf8 why.UnclosedQuote at 0 n other h)
quoted_fits mark kind other cut at (suc skip) n (b ∷ bs) h = omega (arith, quoted_fits mark kind other cut (at + 1) skip n bs h)
quoted_fits mark kind other cut at zero n (b ∷ bs) h =
    let l : ℕ = at + 1 + length bs in
    let s : n ≤ l = fits_if (b == mark) (p.Token kind (at + 1)) (inner mark kind cut at b bs) other l n (λ e. omega (arith, token_same kind other (at + 1) n e))
    (fits_if (b == 92) (after_option mark kind cut at (escape_len bs) bs) (quoted mark kind cut (at + 1) 0 bs) other l n
    (fits_option mark kind other cut at l n (escape_len bs) bs (λ e. quoted_fits mark kind other cut (at + 1) e n bs))
    (quoted_fits mark kind other cut (at + 1) 0 n bs))
    (sym (quoted_is mark kind cut at b bs) ∙ h) in
    omega arith

same_if : (c : Bool) (x y z : Piece) (t : Piece) → (y ≡ t → z ≡ t) → (if c then x else y) ≡ t → (if c then x else z) ≡ t
same_if true x y z t f e = e
same_if false x y z t f e = f e

pub same_both : (c : Bool) (w x y z : Piece) (t : Piece) → (w ≡ t → x ≡ t) → (y ≡ t → z ≡ t) → (if c then w else y) ≡ t → (if c then x else z) ≡ t
same_both true w x y z t f g e = f e
same_both false w x y z t f g e = g e

option_take : (mark : ℕ) (kind other : TokenKind) (cut : Bool) (at n i : ℕ) (o : Option ℕ) (bs : List ℕ) → escape_len bs ≡ o → n ≤ at + suc i →
    ((e : ℕ) → quoted mark kind cut (at + 1) e bs ≡ p.Token other n → quoted mark kind false (at + 1) e (take i bs) ≡ p.Token other n) →
    after_option mark kind cut at o bs ≡ p.Token other n → after_option mark kind false at (escape_len (take i bs)) (take i bs) ≡ p.Token other n
unfolding after_option
option_take mark kind other cut at n i (Some e) bs x l r h =
    let g : at + 1 + e < n = quoted_more mark kind other cut (at + 1) e n bs h in
    let s : escape_len (take i bs) ≡ Some e = escape_take e i bs x (omega arith) (omega arith) in
    rw s (r e h)
option_take mark kind other cut at n i None bs x l r h = absurd (fault_token (cut && length bs == 0) why.NotUtf8 why.BadEscape (at + 1) at n other h)

pub quoted_take : (mark : ℕ) (kind other : TokenKind) (cut : Bool) (at skip n j : ℕ) (bs : List ℕ) → n ≤ at + j → quoted mark kind cut at skip bs ≡ p.Token other n →
    quoted mark kind false at skip (take j bs) ≡ p.Token other n
unfolding inner
quoted_take mark kind other cut at skip n j [] l h = absurd (fault_token cut why.NotUtf8 why.UnclosedQuote at 0 n other h)
quoted_take mark kind other cut at skip n zero (b ∷ bs) l h = absurd (omega (arith, quoted_more mark kind other cut at skip n (b ∷ bs) h))
quoted_take mark kind other cut at (suc skip) n (suc i) (b ∷ bs) l h = quoted_take mark kind other cut (at + 1) skip n i bs (omega arith) h
quoted_take mark kind other cut at zero n (suc i) (b ∷ bs) l h =
    quoted_is mark kind false at b (take i bs) ∙
    same_if (b == mark) (p.Token kind (at + 1)) (inner mark kind cut at b bs) (inner mark kind false at b (take i bs)) (p.Token other n)
    (same_both (b == 92) (after_option mark kind cut at (escape_len bs) bs) (after_option mark kind false at (escape_len (take i bs)) (take i bs)) (quoted mark kind cut (at + 1) 0 bs) (quoted mark kind false (at + 1) 0 (take i bs)) (p.Token other n)
    (option_take mark kind other cut at n i (escape_len bs) bs refl l (λ e. quoted_take mark kind other cut (at + 1) e n i bs (omega arith)))
    (quoted_take mark kind other cut (at + 1) 0 n i bs (omega arith)))
    (sym (quoted_is mark kind cut at b bs) ∙ h)

pub longest_string : (x n m : ℕ) (xs : List ℕ) (cut : Bool) (kind other : TokenKind) → n < m → string cut (x ∷ xs) ≡ p.Token kind n → string false (take m (x ∷ xs)) ≡ p.Token other m → ⊥
longest_string x n zero xs cut kind other h e f = omega arith
longest_string x n (suc j) xs cut kind other h e f =
    let g = quoted_take 34 k.Str kind cut 1 0 n j xs (omega arith) e in
    omega (arith, token_same kind other n (suc j) (sym g ∙ f))

limited_if : (c : Bool) (other : TokenKind) (m : ℕ) (kind : TokenKind) (n : ℕ) → (if c then p.Fault why.AtomTooLong 0 else p.Token other m) ≡ p.Token kind n → p.Token other m ≡ p.Token kind n
limited_if true other m kind n e = absurd (cc)
limited_if false other m kind n e = e

pub limited_token : (bs : List ℕ) (q : Piece) (kind : TokenKind) (n : ℕ) → limited bs q ≡ p.Token kind n → q ≡ p.Token kind n
limited_token bs (p.Token other m) kind n e = limited_if (nat_lt 255 (length (spelled (between_quotes (take m bs))))) other m kind n e
limited_token bs (p.Blank m) kind n e = e
limited_token bs (p.Fault cause m) kind n e = e

pub longest_quoted_atom : (x n m : ℕ) (xs : List ℕ) (cut : Bool) (kind other : TokenKind) → n < m → quoted_atom cut (x ∷ xs) ≡ p.Token kind n → quoted_atom false (take m (x ∷ xs)) ≡ p.Token other m → ⊥
longest_quoted_atom x n zero xs cut kind other h e f = omega arith
longest_quoted_atom x n (suc j) xs cut kind other h e f =
    let a = limited_token (x ∷ xs) (quoted 39 k.Atom cut 1 0 xs) kind n e in
    let b = limited_token (x ∷ take j xs) (quoted 39 k.Atom false 1 0 (take j xs)) other (suc j) f in
    let g = quoted_take 39 k.Atom kind cut 1 0 n j xs (omega arith) a in
    omega (arith, token_same kind other n (suc j) (sym g ∙ b))

-- ---- Characters

-- a `$` character of more than one byte, by its second byte
unfoldable pub behind_dollar : Bool → ℕ → List ℕ → Piece
behind_dollar cut b bs = if b == 92 then escaped_character cut (escape_len (drop 2 bs)) (drop 2 bs) else p.Token k.Character (1 + character_len (drop 1 bs))

past_dollar : (c cut : Bool) (y : Piece) (kind : TokenKind) (n : ℕ) → (if c then (if cut then p.Fault why.NotUtf8 1 else p.Fault why.UnexpectedCharacter 0) else y) ≡ p.Token kind n → y ≡ p.Token kind n
past_dollar true cut y kind n e = absurd (fault_token cut why.NotUtf8 why.UnexpectedCharacter 1 0 n kind e)
past_dollar false cut y kind n e = e

pub dollar_is : (cut : Bool) (bs : List ℕ) (kind : TokenKind) (n : ℕ) → character cut bs ≡ p.Token kind n → behind_dollar cut (get_or bs 1 0) bs ≡ p.Token kind n
unfolding behind_dollar
dollar_is cut bs kind n e = past_dollar (length bs == 1) cut (behind_dollar cut (get_or bs 1 0) bs) kind n e

pub escaped_is : (cut : Bool) (o : Option ℕ) (bs : List ℕ) (kind : TokenKind) (n : ℕ) → escaped_character cut o bs ≡ p.Token kind n → (e : ℕ) × (o ≡ Some e) × (e + 2 ≡ n)
escaped_is cut (Some e) bs kind n h = (e, refl, token_same k.Character kind (e + 2) n h)
escaped_is cut None bs kind n h = absurd (fault_token (cut && length bs == 0) why.NotUtf8 why.BadEscape 2 1 n kind h)

longest_dollar : (c : Bool) (b n m : ℕ) (bs : List ℕ) (cut : Bool) (kind other : TokenKind) → (b == 92) ≡ c → n < m → behind_dollar cut b bs ≡ p.Token kind n → behind_dollar false b (take m bs) ≡ p.Token other m → ⊥
unfolding behind_dollar
longest_dollar true b n m bs cut kind other c h e f =
    let x = escaped_is cut (escape_len (drop 2 bs)) (drop 2 bs) kind n (rw c at e) in
    let y = escaped_is false (escape_len (drop 2 (take m bs))) (drop 2 (take m bs)) other m (rw c at f) in
    let j : ℕ = m - 2 in
    let i : 2 + j ≡ m = omega (arith, x.2) in
    let t : drop 2 (take m bs) ≡ take j (drop 2 bs) = ap (λ u. drop 2 (take u bs)) (sym i) ∙ drop-take 2 j bs in
    let z : escape_len (take j (drop 2 bs)) ≡ Some x.0 = escape_take x.0 j (drop 2 bs) x.1 (omega (arith, x.2)) (omega (arith, x.2)) in
    let w : x.0 ≡ y.0 = some_same x.0 y.0 (sym z ∙ ap escape_len (sym t) ∙ y.1) in
    omega (arith, x.2, y.2, w)
longest_dollar false b n m bs cut kind other c h e f =
    let x : 1 + character_len (drop 1 bs) ≡ n = token_same k.Character kind (1 + character_len (drop 1 bs)) n (rw c at e) in
    let y : 1 + character_len (drop 1 (take m bs)) ≡ m = token_same k.Character other (1 + character_len (drop 1 (take m bs))) m (rw c at f) in
    let j : ℕ = m - 1 in
    let i : 1 + j ≡ m = omega arith in
    let t : drop 1 (take m bs) ≡ take j (drop 1 bs) = ap (λ u. drop 1 (take u bs)) (sym i) ∙ drop-take 1 j bs in
    let z : character_len (take j (drop 1 bs)) ≡ character_len (drop 1 bs) = character_take j (drop 1 bs) (omega (arith, x)) in
    let w : character_len (drop 1 (take m bs)) ≡ character_len (drop 1 bs) = ap character_len t ∙ z in
    omega (arith, x, y, w)

pub least_dollar : (c : Bool) (b n : ℕ) (bs : List ℕ) (cut : Bool) (kind : TokenKind) → (b == 92) ≡ c → behind_dollar cut b bs ≡ p.Token kind n → 2 ≤ n
unfolding behind_dollar
least_dollar true b n bs cut kind c e =
    let x = escaped_is cut (escape_len (drop 2 bs)) (drop 2 bs) kind n (rw c at e) in
    omega (arith, x.2)
least_dollar false b n bs cut kind c e = omega (arith, token_same k.Character kind (1 + character_len (drop 1 bs)) n (rw c at e))

pub longest_character : (n m : ℕ) (bs : List ℕ) (cut : Bool) (kind other : TokenKind) → n < m → character cut bs ≡ p.Token kind n → character false (take m bs) ≡ p.Token other m → ⊥
longest_character n m bs cut kind other h e f =
    let a = dollar_is cut bs kind n e in
    let b = dollar_is false (take m bs) other m f in
    let l = least_dollar (get_or bs 1 0 == 92) (get_or bs 1 0) n bs cut kind refl a in
    let s : get_or (take m bs) 1 0 ≡ get_or bs 1 0 = get_or-take m bs 1 0 (omega (arith, l)) in
    longest_dollar (get_or bs 1 0 == 92) (get_or bs 1 0) n m bs cut kind other refl h a (ap (λ y. behind_dollar false y (take m bs)) (sym s) ∙ b)

dollar_fits : (c : Bool) (x y n : ℕ) (ys : List ℕ) (cut : Bool) (kind : TokenKind) → (y == 92) ≡ c → behind_dollar cut y (x ∷ y ∷ ys) ≡ p.Token kind n → n ≤ length (x ∷ y ∷ ys)
unfolding behind_dollar
dollar_fits true x y n ys cut kind c e =
    let a : escaped_character cut (escape_len ys) ys ≡ p.Token kind n = rw c at e in
    let z = escaped_is cut (escape_len ys) ys kind n a in
    omega (arith, z.2, escape_fits z.0 ys z.1)
dollar_fits false x y n ys cut kind c e =
    let a : p.Token k.Character (1 + character_len (y ∷ ys)) ≡ p.Token kind n = rw c at e in
    omega (arith, token_same k.Character kind (1 + character_len (y ∷ ys)) n a, prefix_len-le-length is_continuation ys)

-- a `$` character ends within the text
pub character_fits : (x n : ℕ) (xs : List ℕ) (cut : Bool) (kind : TokenKind) → character cut (x ∷ xs) ≡ p.Token kind n → (0 < n) × (n ≤ length (x ∷ xs))
character_fits x n [] cut kind e = absurd (fault_token cut why.NotUtf8 why.UnexpectedCharacter 1 0 n kind e)
character_fits x n (y ∷ ys) cut kind e =
    let a = dollar_is cut (x ∷ y ∷ ys) kind n e in
    (omega (arith, least_dollar (y == 92) y n (x ∷ y ∷ ys) cut kind refl a), dollar_fits (y == 92) x y n ys cut kind refl a)
